-- How the run begins. The mover fills all subs up to the window, d; the shifter passes over them and waits; the mover goes on from
-- sub 0 and empties every sub but the last. Now the window can rise while all other subs are bare: the mover takes an item of the last
-- sub, so that it stands there, the window rises to d + s, and the mover fills the last sub up to it. Its top item is x. Then the other
-- subs are filled, all with newer items.
use mathlib.Core.Path.{◌≡◌, refl, sym, ap, ◌∙◌, subst}
use mathlib.Core.Logic.{◌⊎◌, inl, inr}
use mathlib.Core.Bool.{true}
use Prim.Native.Nat.{ℕ, suc, ◌+◌, ◌-◌, ◌*◌, ◌≤◌, ◌<◌}
use native.Mathlib.Nat.{le_refl, eq-or-lt_of_le}
use native.Mathlib.Omega.{arith}
use Rattle.rules.specs.Limits.{settings_fit, Bounds}
use Rattle.rules.specs.Effects.{next_of}
use Rattle.reached.proofs.Types.{Settings, Putting, Taking, Window}
use Rattle.rules.proofs.Fitness.{settings_bounds}
use Rattle.rules.proofs.machine.Machine.{State, sub_in, made_in}
use Rattle.rules.proofs.stack.Inv.{Missed}
use Rattle.reached.proofs.Run.{new, Got, got_made}
use Rattle.reached.proofs.Steps.{Walked, begin}
use Rattle.reached.proofs.Walks.{there, before, next_up, next_around}
use Rattle.reached.proofs.Commits.{Brought, BroughtOne}
use Rattle.reached.proofs.Sweeps.{operations, in_steps, sweep}
use Rattle.reached.proofs.Rise.{Raised, raise}
use Rattle.reached.proofs.Scene.{shifter, mover, Looks, Waits, ComesTo, still_looks, still_waits, number_kept, index_kept, Scene, scene_later, Low, Full, Ready, ready, pass}

module _ (g : Settings) (limits : settings_fit g ≡ true) (kind : g.kind ≡ 1) (last : ℕ) (last-is : suc last ≡ g.width) (two : 2 ≤ g.workers)
    (another : 1 ≤ last) where
  bounds : Bounds g
  bounds = settings_bounds g limits

  -- ---- a new stack, and the shifter's put begun
  started : (a : Walked g limits kind 0 (made_in g) shifter (sub_in (made_in g) shifter) (Window Putting))
      → Low g limits kind last last-is two g.depth 1 0 a.to
  started a =
      let alone : a.to.slot mover ≡ (made_in g).slot mover = a.off mover (λ z. omega arith) in
      record {
        got = a.got;
        top_is = a.top ∙ (new g).top;
        low = λ m l. omega (arith, ap (λ (f : ℕ → ℕ). f m) a.first, (new g).bare m, bounds.depth1);
        at_le = another;
        rests = number_kept alone ∙ (new g).rests mover;
        index_is = index_kept alone ∙ (new g).index_is mover (omega arith);
        looks = record { phase = a.phase; index_is = a.index_is ∙ (new g).index_is shifter (omega arith) };
        few = omega (arith, a.steps, (new g).steps);
      }

  -- every sub is full up to d, the mover is at sub 0, and the shifter waits
  first_full : (t : State) × (at : ℕ) × (at ≡ 0) × Ready g limits kind last last-is two g.depth at 81937 t
  first_full =
      let a = begin g limits kind (made_in g) (got_made g limits kind) shifter (omega arith) (omega (arith, (new g).steps)) Putting ((new g).rests shifter) in
      let r = ready g limits kind last last-is two (started a) (omega arith) in
      (r.0, r.1, r.2 refl, r.3)

  -- ---- the last sub holds c items, and every other is bare
  pub record Only (Mover : State → Type 0) (Does : Settings → State → Type 0) (top c n : ℕ) (s : State) : Type 0 where
    pub got : Got g limits kind s
    pub top_is : s.top ≡ top
    pub held : s.first last ≡ c
    pub bare : (j : ℕ) → j < last → s.first j ≡ 0
    pub mover_is : Mover s
    pub does : Does g s
    pub few : s.steps ≤ n

  -- the mover rests there
  abbrev pub AtLast : State → Type 0
  AtLast s = ((s.slot mover).number ≡ 0) × (sub_in s mover ≡ last)

  emptied : {s : State} → Ready g limits kind last last-is two g.depth 0 81937 s
      → (b : Brought g limits kind (5120 * suc (last - 1)) s mover 0 (last - 1) 0 (last - 1))
      → Only (ComesTo g last) Waits g.depth g.depth 163857 b.to
  emptied {s} o b =
      let next : next_of g.width (sub_in b.to mover) ≡ last = ap (next_of g.width) b.index_is ∙ next_up g (last - 1) (omega arith) ∙ omega arith in
      let missed : Missed g Taking b.to.top (b.to.first (sub_in b.to mover)) =
      rw (b.index_is, b.held (last - 1) (omega arith) (le_refl _), b.top, o.top_is) (omega arith) in
      record {
        got = b.later.got;
        top_is = b.top ∙ o.top_is;
        held = b.held_off last (inr (omega arith)) ∙ o.full last (le_refl _);
        bare = λ j l. b.held j (omega arith) (omega arith);
        mover_is = before b.rests next (omega arith) missed;
        does = still_waits (b.off shifter (λ z. omega arith)) b.mark o.does;
        few = omega (arith, b.later.steps, o.few, bounds.width16);
      }

  empties : {s : State} → Ready g limits kind last last-is two g.depth 0 81937 s → (t : State) × Only (ComesTo g last) Waits g.depth g.depth 163857 t
  empties {s} o =
      let b =
      sweep g limits kind Taking mover 0 two (last - 1) 0 (last - 1) s (omega arith) (omega arith) o.got (omega (arith, o.few, bounds.width16))
      (there o.rests o.index_is) (omega (arith, o.top_is)) (λ m x y. omega (arith, o.full m (omega arith), bounds.depth1)) in
      (b.to, emptied o b)

  pub first_bare : (t : State) × Only (ComesTo g last) Waits g.depth g.depth 163857 t
  first_bare =
      let f = first_full in
      empties (subst (λ (at : ℕ). Ready g limits kind last last-is two g.depth at 81937 f.0) f.2 f.3)

  -- ---- the mover at the last sub
  worked : {Mover : State → Type 0} {top c c' n m : ℕ} {Does : Settings → State → Type 0} {s : State} → Only Mover Does top c n s
      → ((t : State) → t.slot shifter ≡ s.slot shifter → t.mark ≡ s.mark → Does g s → Does g t)
      → (b : BroughtOne g limits kind m s mover last c') → Only AtLast Does top c' (n + m) b.to
  worked o still b =
      record {
        got = b.later.got;
        top_is = b.top ∙ o.top_is;
        held = b.held last (le_refl _) (le_refl _);
        bare = λ j l. b.held_off j (inl l) ∙ o.bare j l;
        mover_is = (b.rests, b.index_is);
        does = still b.to (b.off shifter (λ z. omega arith)) b.mark o.does;
        few = omega (arith, b.later.steps, o.few);
      }

  -- it takes one item of it
  takes_one : {s : State} → Only (ComesTo g last) Waits g.depth g.depth 163857 s → (t : State) × Only AtLast Waits g.depth (g.depth - 1) 163862 t
  takes_one {s} o =
      let b =
      operations g limits kind Taking mover last (g.depth - 1) two 0 s o.got (omega (arith, o.few)) o.mover_is (omega (arith, o.held, bounds.depth1))
      (omega (arith, o.top_is, bounds.depth1)) in
      (b.to, worked o (λ t e m h. still_waits e m h) b)

  -- the window rises
  abbrev row : ℕ
  row = g.depth + g.shift

  up : {s : State} → Only AtLast Waits g.depth (g.depth - 1) 163862 s → (a : Raised g limits kind s shifter) → Only AtLast Looks row (g.depth - 1) 163863 a.to
  up {s} o a =
      let alone : a.to.slot mover ≡ s.slot mover = a.off mover (λ z. omega arith) in
      record {
        got = a.later.got;
        top_is = omega (arith, a.top, o.top_is);
        held = rw a.first o.held;
        bare = λ j l. rw a.first (o.bare j l);
        mover_is = (number_kept alone ∙ o.mover_is.0, index_kept alone ∙ o.mover_is.1);
        does = record { phase = a.phase; index_is = a.index_is ∙ o.does.index_is };
        few = omega (arith, a.later.steps, o.few);
      }

  goes_up : {s : State} → Only AtLast Waits g.depth (g.depth - 1) 163862 s → (t : State) × Only AtLast Looks row (g.depth - 1) 163863 t
  goes_up {s} o =
      let a =
      raise g limits kind s o.got shifter (omega arith) (omega (arith, o.few)) 0 o.does.sum o.does.phase
      (omega (arith, o.top_is, bounds.shift_depth, bounds.rows2)) in
      (a.to, up o a)

  -- and it fills the last sub up to it
  puts_x : {s : State} → Only AtLast Looks row (g.depth - 1) 163863 s → (t : State) × Only AtLast Looks row row 164188 t
  puts_x {s} o =
      let b : BroughtOne g limits kind 325 s mover last row =
      in_steps g limits kind (omega (arith, bounds.shift_depth, bounds.depth64))
      (operations g limits kind Putting mover last row two g.shift s o.got (omega (arith, o.few, bounds.shift_depth, bounds.depth64))
      (there o.mover_is.0 o.mover_is.1) (omega (arith, o.held, bounds.depth1)) (omega (arith, o.top_is))) in
      (b.to, worked o (λ t e m h. still_looks e h) b)

  -- ---- the last sub's top item is older than all of the others, as there are none
  pub scene_of : {Mover : State → Type 0} {top c n : ℕ} {Does : Settings → State → Type 0} {s : State} → Only Mover Does top c n s → 1 ≤ c
      → Scene g limits kind last last-is two (s.item last c).stamp c s
  scene_of {c = c} o some =
      record {
        x_old = o.got.live.inv.pool.stamps.low last c (omega arith) some (omega (arith, o.held));
        x_held = omega (arith, o.held);
        x_is = refl;
        newer = λ j r l u v. absurd (omega (arith, o.bare j l));
      }

  -- ---- the other subs are filled
  filled : {s : State} → Only AtLast Looks row row 164188 s → (b : Brought g limits kind (5120 * suc (last - 1)) s mover 0 (last - 1) row (last - 1))
      → Full g limits kind last last-is two Looks row (last - 1) 246108 b.to
  filled {s} o b =
      record {
        got = b.later.got;
        top_is = b.top ∙ o.top_is;
        full = λ m l. full m l (eq-or-lt_of_le l);
        at_le = omega arith;
        rests = b.rests;
        index_is = b.index_is;
        does = still_looks (b.off shifter (λ z. omega arith)) o.does;
        few = omega (arith, b.later.steps, o.few, bounds.width16);
      }
    where
      full : (m : ℕ) → m ≤ last → (m ≡ last) ⊎ (m < last) → b.to.first m ≡ row
      full m l (inl e) = rw e (b.held_off last (inr (omega arith)) ∙ o.held)
      full m l (inr u) = b.held m (omega arith) (omega arith)

  abbrev pub Opened : Type 0
  Opened = (x : ℕ) × (t : State) × (at : ℕ) × Ready g limits kind last last-is two row at 246125 t × Scene g limits kind last last-is two x row t

  opens : (s : State) → Only AtLast Looks row row 164188 s → Opened
  opens s o =
      let next : next_of g.width (sub_in s mover) ≡ 0 = ap (next_of g.width) o.mover_is.1 ∙ next_around g last last-is in
      let full : Missed g Putting s.top (s.first (sub_in s mover)) = rw o.mover_is.1 (omega (arith, o.held, o.top_is)) in
      let b =
      sweep g limits kind Putting mover row two (last - 1) 0 (last - 1) s (omega arith) (omega arith) o.got (omega (arith, o.few, bounds.width16))
      (before o.mover_is.0 next (omega arith) full) (sym o.top_is) (λ m u v. omega (arith, o.bare m (omega arith), bounds.depth1)) in
      let p = pass g limits kind last last-is two (filled o b) (omega arith) in
      let scene = scene_of o (omega (arith, bounds.depth1)) in (
        (s.item last row).stamp,
        p.0,
        last - 1,
        p.1,
        p.2 (s.item last row).stamp row (scene_later g limits kind last last-is two b.later (omega (arith, b.held_off last (inr (omega arith)), o.held)) scene),
      )

  pub opened : Opened
  opened =
      let a = takes_one first_bare.1 in
      let b = goes_up a.1 in
      let c = puts_x b.1 in
      opens c.0 c.1
