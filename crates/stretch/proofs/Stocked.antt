-- Where a queue from make has its take window below its put window, some sub has a row in the put window (Filled), or a put is under way: the
-- put that moved the put window, until one lands or answers full. A take window that moves then finds an item: in the put window, if it moves
-- there; else each sub in the width of the window that it moves to has filled it, and no row of it is taken.
use mathlib.Core.Path.{◌≡◌, refl, ap, ◌∙◌}
use mathlib.Core.Logic.{◌≢◌, ◌⊎◌, inl, inr}
use Prim.Native.Nat.{ℕ, suc, ◌+◌, ◌≤◌, ◌<◌}
use native.Mathlib.Nat.{le_refl}
use native.Mathlib.Decide.{ℕ_discrete}
use native.Mathlib.Omega.{arith}
use Rattle.rules.specs.Sequential.{Contents}
use Rattle.rules.specs.Run.{Call}
use Rattle.stretch.proofs.Types.{Settings, Size, Side, Idle}
use Rattle.rules.proofs.order.Law.{Next}
use Rattle.rules.proofs.machine.Machine.{Frame, State, mark_of, phase_in, with_size}
use Rattle.rules.proofs.machine.Calls.{begun}
use Rattle.rules.proofs.queue.Inv.{Inv}
use Rattle.rules.proofs.progress.QueueLeft.{Behind, NextReady, Stock}
use Rattle.rules.proofs.progress.QueueResult.{put_in, Moved, still, up, on, Filled, Ended, filled, taken}
use Rattle.stretch.proofs.Acts.{Acts, put_begun_other, put_idle}

-- ---- a step that is not final is a put's, or what was filled still is; and where the take window is below the put window, it was before
pub record Keeps (s t : State) : Type 0 where
  pub below : Behind t → Behind s
  pub filled : Filled s → Filled t

pub put_or_keeps : (g : Settings) (s t : State) (i : ℕ) → Moved g s i t → (put_in g s i ≡ 1) ⊎ Keeps s t
put_or_keeps g s t i (still x e) = inr (rw e (record { below = λ l. l; filled = λ y. y }))
put_or_keeps g s t i (up raised x e one not_low now_low) = inl one
put_or_keeps g s t i (on raised x e below not_low now_low) = inr (rw e (record { below = λ l. below; filled = λ y. y }))

module _ (g : Settings) where
  -- ---- a put is under way
  pub record PutOpen (s : State) : Type 0 where
    pub who : ℕ
    pub among : who < g.workers
    pub putting : put_in g s who ≡ 1

  pub put_open_begins : (s : State) (i : ℕ) (side : Side) (v : ℕ) → phase_in g s i ≡ Idle → PutOpen s → PutOpen (begun g s i side v)
  put_open_begins s i side v e x = elim (ℕ_discrete x.who i) [
    | yes y ↦ absurd (let one : put_in g s i ≡ 1 = rw y at x.putting in omega (arith, put_idle g s i e))
    | no n ↦ record { who = x.who; among = x.among; putting = put_begun_other g s i side v x.who n ∙ x.putting }
  ]

  pub put_open_goes : (s t : State) → ((j : ℕ) → put_in g t j ≡ put_in g s j) → PutOpen s → PutOpen t
  put_open_goes s t same x = record { who = x.who; among = x.among; putting = same x.who ∙ x.putting }

  -- ---- stocked
  abbrev pub Stocked : State → Type 0
  Stocked s = Behind s → Filled s ⊎ PutOpen s

  module _ (s : State) (stocked : Stocked s) where
    stocked_begins : (i : ℕ) (side : Side) (v : ℕ) → phase_in g s i ≡ Idle → Stocked (begun g s i side v)
    stocked_begins i side v e l = by (stocked l)
      where
        by : Filled s ⊎ PutOpen s → Filled s ⊎ PutOpen (begun g s i side v)
        by (inl x) = inl x
        by (inr x) = inr (put_open_begins s i side v e x)

    stocked_sizes : (size : Size) → Stocked (with_size s size)
    stocked_sizes size l = by (stocked l)
      where
        by : Filled s ⊎ PutOpen s → Filled s ⊎ PutOpen (with_size s size)
        by (inl x) = inl x
        by (inr x) = inr (put_open_goes s (with_size s size) (λ j. refl) x)

    module _ (t : State) (i : ℕ) where
      stocked_goes : i < g.workers → ((j : ℕ) → put_in g t j ≡ put_in g s j) → Moved g s i t → Stocked t
      stocked_goes li same m = by (put_or_keeps g s t i m)
        where
          kept : Keeps s t → Filled s ⊎ PutOpen s → Filled t ⊎ PutOpen t
          kept k (inl x) = inl (k.filled x)
          kept k (inr x) = inr (put_open_goes s t same x)

          by : (put_in g s i ≡ 1) ⊎ Keeps s t → Stocked t
          by (inl one) l = inr (record { who = i; among = li; putting = same i ∙ one })
          by (inr k) l = kept k (stocked (k.below l))

      stocked_ends : ((j : ℕ) → j ≢ i → put_in g t j ≡ put_in g s j) → Ended g s i t → Stocked t
      stocked_ends same (filled x) l = inl x
      stocked_ends same (taken none frame first) l = by (stocked (rw frame at l))
        where
          by : Filled s ⊎ PutOpen s → Filled t ⊎ PutOpen t
          by (inl x) = inl (x.0, rw frame x.1, rw (frame, first) x.2)
          by (inr x) =
              let other : x.who ≢ i = λ e. let one : put_in g s i ≡ 1 = rw e at x.putting in omega arith in
              inr (record { who = x.who; among = x.among; putting = same x.who other ∙ x.putting })

    pub stocked_next : {c : Call} {o : Next State} → Acts g s c o → Stocked o.state
    stocked_next (Acts.same e) = rw e stocked
    stocked_next (Acts.begins i side v l e z u) = rw u (stocked_begins i side v e)
    stocked_next (Acts.sizes size z u) = rw u (stocked_sizes size)
    stocked_next {o = o} (Acts.goes i l m same) = stocked_goes o.state i l same m
    stocked_next {o = o} (Acts.answers i w l f e same m) = stocked_ends o.state i same m

  -- ---- a take window that moves finds an item
  module _ (s : State) (q : Contents) (inv : Inv g s q) where
    abbrev f : Frame
    f = s.frame

    abbrev Finds : Type 0
    Finds = Stock (f.wide (suc f.head)) s.first s.second

    at_put_window : suc f.head ≡ f.tail → Filled s → Finds
    at_put_window e x =
        let wide : f.wide (suc f.head) ≡ f.wide f.tail = ap f.wide e in
        let bottom : mark_of f ≡ f.base f.tail = ap f.base e in
        (x.0, omega (arith, x.1), omega (arith, x.2, inv.pool.subs.taken_le x.0))

    below_put_window : suc f.head < f.tail → Finds
    below_put_window l =
        let w = inv.pool.windows in
        let b = inv.pool.subs in
        let wide1 : 1 ≤ f.wide (suc f.head) = w.wide1 (suc f.head) (omega arith) in
        let up : mark_of f < f.base (suc (suc f.head)) = w.rise (suc f.head) (suc (suc f.head)) (omega arith) (omega arith) in
        (0, wide1, omega (arith, b.taken_le 0, b.filled (suc f.head) 0 l wide1))

    pub ready_filled : Filled s → NextReady g (g.width + 1) s
    ready_filled x behind = inr (le_refl _, elim (ℕ_discrete (suc f.head) f.tail) [ yes e ↦ at_put_window e x | no n ↦ below_put_window (omega arith) ])
