-- What an answer is held to, read off the words just before a call, is what the machine tells with it.
use mathlib.Core.Path.{◌≡◌, refl, sym, ap, ◌∙◌}
use mathlib.Core.Bool.{Bool, true, false}
use mathlib.Core.List.{List}
use Prim.Native.Nat.{ℕ, zero, suc, ◌+◌, ◌-◌, ◌*◌, ◌≤◌, ◌<◌}
use native.Mathlib.Decide.{dec_lt}
use native.Mathlib.Omega.{arith}
use lib.Dec.{leb, eqb}
use borrow.Author.Tests.{le-leb}
use Rattle.laws.specs.Choice.{cond, cases, both}
use Rattle.rules.specs.Limits.{step_limit, windowed, size_fit}
use Rattle.rules.specs.Layout.{settings_of, worker_at}
use Rattle.rules.specs.Windows.{has_windows, live_of, nth_size}
use Rattle.rules.specs.Worker.{slot_at, idle_phase}
use Rattle.rules.specs.Measures.{no_measures, measured, seen_size, places_after, places_of, measures_of}
use Rattle.rules.specs.Step.{rule_of}
use Rattle.rules.specs.Run.{Call, begin_put, begin_take, step, set_size, measures_at}
use Rattle.rules.proofs.Types.{Settings, Size, Side, Putting, Taking, Slot, Effect, Outcome, Answered}
use Rattle.rules.specs.declared.Outcome.TheVariants.{Refused as Stays, Moving, Lost, Shifted, Raised, Dropped, Landed, Removed, Empty, Full}
use Rattle.rules.proofs.counts.Sums.{sum_n}
use Rattle.rules.proofs.order.Law.{Next}
use Rattle.rules.proofs.machine.Machine.{State, next, size_at, places_at, places_from, places_in, view_in, apply_in, apply_in_by, step_in, begin_in, set_size_in, next_in}
use Rattle.rules.proofs.machine.Turns.{LiveFits}
use Rattle.rules.proofs.words.Says.{Says}
use Rattle.std.specs.Prelude.{Err}
use Rattle.rules.specs.declared.Refusal.TheVariants.{NoSuchWorker}

module _ (g : Settings) (s : State) where
  -- a step tells what its answer is held to
  abbrev Told : ℕ → Next State → Type 0
  Told i o = o.measures ≡ measured (seen_size g (s.slot i)) (places_in g s) o.answer

  apply_told : (i : ℕ) (e : Effect) (o : Outcome) → Told i (apply_in_by g s i e o)
  unfolding apply_in_by
  apply_told i e (Stays n) = refl
  apply_told i e Moving = refl
  apply_told i e Lost = refl
  apply_told i e Shifted = refl
  apply_told i e Raised = refl
  apply_told i e Dropped = refl
  apply_told i e (Landed value row stamp) = refl
  apply_told i e (Removed row) = refl
  apply_told i e Empty = refl
  apply_told i e Full = refl

  step_told : (i : ℕ) → Told i (step_in g s i)
  unfolding step_in apply_in
  step_told i =
      cases (Told i) (leb g.workers i) _ _ (λ a. refl)
      (λ a. cases (Told i) (eqb (s.slot i).number idle_phase) _ _ (λ b. refl)
      (λ b. cases (Told i) (leb step_limit s.steps) _ _ (λ c. refl) (λ c. apply_told i (rule_of g (view_in g s i)) (rule_of g (view_in g s i)).outcome)))

  -- a begin tells nothing
  begin_told : (i : ℕ) (side : Side) (v : ℕ) → (begin_in g s i side v).measures ≡ no_measures
  unfolding begin_in
  begin_told i side v =
      cases None (leb g.workers i) _ _ (λ a. refl)
      (λ a. cases None (eqb (s.slot i).number idle_phase) _ _ (λ b. cases None (leb step_limit s.steps) _ _ (λ c. refl) (λ c. refl)) (λ b. refl))
    where
      None : Next State → Type 0
      None o = o.measures ≡ no_measures

  -- a size call tells nothing
  size_told : (size : Size) → (set_size_in g s size).measures ≡ no_measures
  unfolding set_size_in
  size_told size = cases None (windowed g) _ _ (λ a. cases None (both (eqb g.kind 0) (size_fit g size)) _ _ (λ b. refl) (λ b. refl)) (λ a. refl)
    where
      None : Next State → Type 0
      None o = o.measures ≡ no_measures

  -- a step of no worker of the pool's is refused
  step_none : (i : ℕ) → g.workers ≤ i → step_in g s i ≡ next (Err NoSuchWorker) s
  unfolding step_in cond
  step_none i l = rw (le-leb g.workers i l) refl

  -- ---- and the words say the same
  module _ (ws : List ℕ) (says : Says g ws s) (live : has_windows g ≡ true → LiveFits g s) where
    -- the places after the take window, pair by pair
    places_windows : has_windows g ≡ true → (n : ℕ) → s.frame.head + n ≤ s.frame.tail → places_after ws g n ≡ places_from s.frame (suc s.frame.head) n
    unfolding places_after places_from sum_n
    places_windows has zero l = refl
    places_windows has (suc n) l =
        let z : s.frame.head + suc n ≡ suc s.frame.head + n = omega arith in
        let size : nth_size ws g (suc n) ≡ size_at s.frame (suc s.frame.head + n) = (says.windows has).size (suc n) l ∙ ap (size_at s.frame) z in
        rw (places_windows has n (omega arith)) (ap (λ (x : Size). sum_n (λ m. places_at s.frame (suc s.frame.head + m)) n + x.width * x.depth) size)

    pub places_said : places_of ws g ≡ places_in g s
    unfolding places_of places_in cond
    places_said = go (has_windows g) refl
      where
        go : (b : Bool) → has_windows g ≡ b → places_of ws g ≡ places_in g s
        go true e =
            let few : live_of ws g - 1 ≡ s.frame.tail - s.frame.head = omega (arith, (says.windows e).live, (live e).order) in
            rw (e, few) (places_windows e (s.frame.tail - s.frame.head) (omega (arith, (live e).order)))
        go false e = rw (e, says.top, says.mark) refl

    measures_said : (i : ℕ) → i < g.workers → (a : Answered) → measures_of ws (settings_of ws) (worker_at (settings_of ws) i) a ≡ measured (seen_size g (s.slot i)) (places_in g s) a
    unfolding measures_of
    measures_said i l a =
        ap (λ (h : Settings). measured (seen_size h (slot_at h ws (worker_at h i))) (places_of ws h) a) says.settings
        ∙ ap (λ (n : ℕ). measured (seen_size g (slot_at g ws (worker_at g i))) n a) places_said
        ∙ ap (λ (x : Slot). measured (seen_size g x) (places_in g s) a) (says.slot i l)

    step_same : (i : ℕ) → Dec (i < g.workers) → measures_of ws (settings_of ws) (worker_at (settings_of ws) i) (step_in g s i).answer ≡ (step_in g s i).measures
    unfolding measures_of
    step_same i (yes l) = measures_said i l (step_in g s i).answer ∙ sym (step_told i)
    step_same i (no n) = rw (step_none i (omega arith)) refl

    pub measures_same : (c : Call) → measures_at ws c (next_in g s c).answer ≡ (next_in g s c).measures
    unfolding measures_at next_in
    measures_same (begin_put i v) = sym (begin_told i Putting v)
    measures_same (begin_take i) = sym (begin_told i Taking 0)
    measures_same (step i) = step_same i (dec_lt i g.workers)
    measures_same (set_size width depth) = sym (size_told (record { width = width; depth = depth }))
