-- The size of a take's window is the pool's, or one that was set. A queue's windows get their sizes when they are added, and keep them; the next one has
-- the pool's size until a size call gives it another. So a test that all these sizes pass is passed by the next size and by every live window's, and a take
-- is held to the size of the take window.
use mathlib.Core.Path.{◌≡◌, refl, sym, ap, ◌∙◌, subst}
use mathlib.Core.Logic.{inl, inr}
use mathlib.Core.Bool.{Bool, true, false}
use mathlib.Core.List.{List}
use Prim.Native.Nat.{ℕ, zero, suc, ◌+◌, ◌-◌, ◌*◌, ◌≤◌}
use native.Mathlib.Decide.{ℕ_discrete}
use native.Mathlib.Omega.{arith}
use lib.Dec.{eqb}
use Rattle.laws.specs.Choice.{cond, cases, both}
use Rattle.laws.specs.Wrap.{add32}
use Rattle.rules.specs.Answers.{number_of}
use Rattle.rules.specs.Limits.{settings_fit, windowed, size_fit}
use Rattle.rules.specs.Windows.{has_windows, size_of}
use Rattle.rules.specs.Measures.{seen_size}
use Rattle.rules.specs.Sequential.{Contents, no_items}
use Rattle.rules.specs.Step.{rule_of}
use Rattle.rules.specs.Run.{Call, begin_put, begin_take, step, set_size, Event}
use Rattle.rules.specs.Consequences.{KnownSizes, SizesKnown, OfEveryRun}
use Rattle.sizes.proofs.Types.{Settings, Size, Sizes, Side, Putting, Taking, Effect, Outcome}
use Rattle.rules.specs.declared.Outcome.TheVariants.{Refused, Moving, Lost, Shifted, Raised, Dropped, Landed, Removed, Empty, Full}
use Rattle.rules.specs.declared.Answer.TheVariants.{Moving as Moves}
use Rattle.rules.proofs.Fitness.{settings_bounds}
use Rattle.rules.proofs.Numbered.{number_high}
use Rattle.rules.proofs.counts.Sums.{upd_same, upd_other}
use Rattle.rules.proofs.counts.Wraps.{add32_is}
use Rattle.rules.proofs.order.Law.{Next}
use Rattle.rules.proofs.machine.Machine.{State, next, top_of, size_at, sizes_at, sizes_in, view_in, apply_in, apply_in_by, step_in, begin_in, set_size_in, next_in, made_in, raised_of}
use Rattle.rules.proofs.machine.Calls.{Called, refuses, does, Steps, Begins, begun, step_called, begin_called}
use Rattle.rules.proofs.machine.Turns.{Framed, ItemIn, Counts, Kind}
use Rattle.rules.proofs.machine.Does.{SharedAfter, Counted, Rises, Sized, sized_in, rule_in, counted_in}
use Rattle.rules.proofs.machine.Slots.{has_windows_law, has_queue}
use Rattle.rules.proofs.queue.Inv.{Inv}
use Rattle.rules.proofs.Transfer.{Whole, made_whole, made_related}
use Rattle.rules.proofs.BothKinds.{kind_of, inv_of}
use Rattle.rules.proofs.Course.{At, settings_at, kind_at, HoldsAt, next_at, moved_at, made_at, Course, none as no_more, calls, moves, after_call, calls_course}
use Rattle.rules.proofs.words.Made.{accepted}
use Rattle.std.specs.Prelude.{Ok}

-- a new window has the next size
pub raised_size : (s : State) (top : ℕ) → top ≡ top_of s.frame + s.next.depth → size_at (raised_of s.frame s.next.width top) (suc s.frame.tail) ≡ s.next
raised_size s top e =
    let wide = upd_same s.frame.wide (suc s.frame.tail) s.next.width in
    let high = upd_same s.frame.base (suc (suc s.frame.tail)) top in
    let low = upd_other s.frame.base (suc (suc s.frame.tail)) top (suc s.frame.tail) (λ u. omega arith) in
    let deep : (raised_of s.frame s.next.width top).base (suc (suc s.frame.tail)) - (raised_of s.frame s.next.width top).base (suc s.frame.tail) ≡ s.next.depth = omega (arith, high, low) in
    λ u. record { width = wide u; depth = deep u }

-- and raises the top by its depth
module _ (g : Settings) (s : State) (i : ℕ) (counts : has_windows g ≡ true → Framed g s) (has : has_windows g ≡ true) where
  sizes_are : sizes_in g s ≡ sizes_at s
  unfolding sizes_in cond
  sizes_are = rw has refl

  pub raised_top : (e : Effect) → Rises g (view_in g s i) e → e.top ≡ top_of s.frame + s.next.depth
  raised_top e h =
      let w = counts has in
      let next : (sizes_in g s).next.depth ≡ s.next.depth = ap (λ (z : Sizes). z.next.depth) sizes_are in
      h.top ∙ ap (add32 s.top) next ∙ add32_is s.top s.next.depth (omega (arith, w.top_few, w.fits.next.depth64)) ∙ ap (λ (x : ℕ). x + s.next.depth) w.fits.top

module _ (g : Settings) (p : Size → Bool) where
  -- the next size and those of the live windows pass the test
  pub record Known (s : State) : Type 0 where
    pub next : p s.next ≡ true
    pub live : (n : ℕ) → n ≤ s.frame.tail → p (size_at s.frame n) ≡ true

  raised : (s : State) (top : ℕ) → top ≡ top_of s.frame + s.next.depth → Known s
      → (n : ℕ) → n ≤ suc s.frame.tail → p (size_at (raised_of s.frame s.next.width top) n) ≡ true
  raised s top e h n l = by (ℕ_discrete n (suc s.frame.tail))
    where
      by : Dec (n ≡ suc s.frame.tail) → p (size_at (raised_of s.frame s.next.width top) n) ≡ true
      by (yes y) = rw y (ap p (raised_size s top e) ∙ h.next)
      by (no m) =
          let wide = upd_other s.frame.wide (suc s.frame.tail) s.next.width n m in
          let high = upd_other s.frame.base (suc (suc s.frame.tail)) top (suc n) (λ u. m (omega arith)) in
          let low = upd_other s.frame.base (suc (suc s.frame.tail)) top n (λ u. omega arith) in
          rw (wide, high, low) (h.live n (omega arith))

  module _ (s : State) (i : ℕ) (counts : has_windows g ≡ true → Framed g s) (has : has_windows g ≡ true) where
    known_by : (e : Effect) (o : Outcome) → SharedAfter g (view_in g s i) (ItemIn g s i) e o → Known s → Known (apply_in_by g s i e o).state
    unfolding apply_in_by
    known_by e (Refused n) shared h = h
    known_by e Moving shared h = record { next = h.next; live = h.live }
    known_by e Lost shared h = record { next = h.next; live = h.live }
    known_by e Shifted shared h = record { next = h.next; live = h.live }
    known_by e Raised shared h = record { next = h.next; live = raised s e.top (raised_top g s i counts has e shared) h }
    known_by e Dropped shared h = record { next = h.next; live = h.live }
    known_by e (Landed value row stamp) shared h = record { next = h.next; live = h.live }
    known_by e (Removed row) shared h = record { next = h.next; live = h.live }
    known_by e Empty shared h = record { next = h.next; live = h.live }
    known_by e Full shared h = record { next = h.next; live = h.live }

    -- a take is held to the take window's size
    taken_by : (e : Effect) (o : Outcome) → SharedAfter g (view_in g s i) (ItemIn g s i) e o → Counted g (view_in g s i) (ItemIn g s i) → Known s
        → number_of (apply_in_by g s i e o).answer ≡ 2 → p (apply_in_by g s i e o).measures.size ≡ true
    unfolding apply_in_by
    taken_by e (Refused n) shared c h two = absurd (omega (arith, number_high n))
    taken_by e Moving shared c h two = absurd (omega arith)
    taken_by e Lost shared c h two = absurd (omega arith)
    taken_by e Shifted shared c h two = absurd (omega arith)
    taken_by e Raised shared c h two = absurd (omega arith)
    taken_by e Dropped shared c h two = absurd (omega arith)
    taken_by e (Landed value row stamp) shared c h two = absurd (omega arith)
    taken_by e (Removed row) shared c h two = ap p ((shared c).there has).1 ∙ h.live s.frame.head (counts has).fits.order
    taken_by e Empty shared c h two = absurd (omega arith)
    taken_by e Full shared c h two = absurd (omega arith)

-- where windows have no sizes of their own, to the pool's
own_by : (g : Settings) (s : State) (i : ℕ) → has_windows g ≡ false → (e : Effect) (o : Outcome) → SharedAfter g (view_in g s i) (ItemIn g s i) e o
    → number_of (apply_in_by g s i e o).answer ≡ 2 → (apply_in_by g s i e o).measures.size ≡ size_of g
unfolding apply_in_by seen_size cond
own_by g s i none e (Refused n) shared two = absurd (omega (arith, number_high n))
own_by g s i none e Moving shared two = absurd (omega arith)
own_by g s i none e Lost shared two = absurd (omega arith)
own_by g s i none e Shifted shared two = absurd (omega arith)
own_by g s i none e Raised shared two = absurd (omega arith)
own_by g s i none e Dropped shared two = absurd (omega arith)
own_by g s i none e (Landed value row stamp) shared two = absurd (omega arith)
own_by g s i none e (Removed row) shared two = rw none refl
own_by g s i none e Empty shared two = absurd (omega arith)
own_by g s i none e Full shared two = absurd (omega arith)

-- ---- a call
module _ (g : Settings) (limits : settings_fit g ≡ true) (k : Kind g) (p : Size → Bool) (s : State) (q : Contents) (w : Whole g limits k s q) where
  counts : Counts g s
  counts = k.counts s q w.inv

  sized : Sized g (sizes_in g s)
  sized = sized_in g s (λ has. (counts.windows has).fits)

  shared : (i : ℕ) → SharedAfter g (view_in g s i) (ItemIn g s i) (rule_of g (view_in g s i)) (rule_of g (view_in g s i)).outcome
  shared i = (rule_in g (settings_bounds g limits) s w.common sized i).shared

  module _ (has : has_windows g ≡ true) where
    known_step : (i : ℕ) → Known g p s → Known g p (step_in g s i).state
    unfolding apply_in
    known_step i h = by (step_called g s i)
      where
        by : Called s (Steps g s i) (apply_in g s i (rule_of g (view_in g s i))) (step_in g s i) → Known g p (step_in g s i).state
        by (refuses n l unable e) = rw e h
        by (does able e) = rw e (known_by g p s i counts.windows has (rule_of g (view_in g s i)) (rule_of g (view_in g s i)).outcome (shared i) h)

    known_begin : (i : ℕ) (side : Side) (v : ℕ) → Known g p s → Known g p (begin_in g s i side v).state
    known_begin i side v h = by (begin_called g s i side v)
      where
        by : {o : Next State} → Called s (Begins g s i) (next (Ok Moves) (begun g s i side v)) o → Known g p o.state
        by (refuses n l unable e) = rw e h
        by (does able e) = rw e (record { next = h.next; live = h.live })

    known_size : (size : Size) → (number_of (set_size_in g s size).answer ≡ 0 → p size ≡ true) → Known g p s → Known g p (set_size_in g s size).state
    unfolding set_size_in
    known_size size =
        cases Of (windowed g) _ _
        (λ a. cases Of (both (eqb g.kind 0) (size_fit g size)) _ _ (λ b passes h. record { next = passes refl; live = h.live }) (λ b passes h. h))
        (λ a passes h. h)
      where
        Of : Next State → Type 0
        Of o = (number_of o.answer ≡ 0 → p size ≡ true) → Known g p s → Known g p o.state

    -- a size call that was not refused passes the test
    abbrev Passes : Call → Type 0
    Passes c = (width depth : ℕ) → c ≡ set_size width depth → number_of (next_in g s c).answer ≡ 0 → p (record { width = width; depth = depth }) ≡ true

    known_next : (c : Call) → Passes c → Known g p s → Known g p (next_in g s c).state
    unfolding next_in
    known_next (begin_put i v) passes h = known_begin i Putting v h
    known_next (begin_take i) passes h = known_begin i Taking 0 h
    known_next (step i) passes h = known_step i h
    known_next (set_size width depth) passes h = known_size (record { width = width; depth = depth }) (passes width depth refl) h

  -- by the rule of a step that answers 2
  taken_rule : (has_windows g ≡ true → Known g p s) → p (size_of g) ≡ true → (i : ℕ) → number_of (apply_in g s i (rule_of g (view_in g s i))).answer ≡ 2
      → p (apply_in g s i (rule_of g (view_in g s i))).measures.size ≡ true
  unfolding apply_in
  taken_rule h own i two = go (has_windows g) refl
    where
      e : Effect
      e = rule_of g (view_in g s i)

      go : (b : Bool) → has_windows g ≡ b → p (apply_in_by g s i e e.outcome).measures.size ≡ true
      go true has = taken_by g p s i counts.windows has e e.outcome (shared i) (counted_in g (settings_bounds g limits) s w.common sized counts i) (h has) two
      go false none = ap p (own_by g s i none e e.outcome (shared i) two) ∙ own

  taken_step : (has_windows g ≡ true → Known g p s) → p (size_of g) ≡ true → (i : ℕ) → number_of (step_in g s i).answer ≡ 2 → p (step_in g s i).measures.size ≡ true
  taken_step h own i two = by (step_called g s i)
    where
      by : Called s (Steps g s i) (apply_in g s i (rule_of g (view_in g s i))) (step_in g s i) → p (step_in g s i).measures.size ≡ true
      by (refuses n l unable e) = let z = ap (λ (o : Next State). number_of o.answer) e in absurd (omega arith)
      by (does able e) = rw e (taken_rule h own i (sym (ap (λ (o : Next State). number_of o.answer) e) ∙ two))

-- ---- along a course
-- where windows have no sizes of their own, all have the pool's
known_old : (g : Settings) (p : Size → Bool) → p (size_of g) ≡ true → (s : State) (q : Contents) → g.kind ≡ 0 → windowed g ≡ false → Inv g s q → Known g p s
known_old g p own s q kind old inv =
    let plain = inv.pool.plain (inv.pool.old old).not_set in
    record {
      next = let wide = plain.next_wide in let deep = plain.next_deep in let same : s.next ≡ size_of g = λ u. record { width = wide u; depth = deep u } in ap p same ∙ own;
      live = λ n l.
          let wide = plain.wide_is n l in
          let deep : s.frame.base (suc n) - s.frame.base n ≡ g.depth = omega (arith, plain.base_is (suc n) (omega arith), plain.base_is n (omega arith)) in
          let same : size_at s.frame n ≡ size_of g = λ u. record { width = wide u; depth = deep u } in
          ap p same ∙ own;
    }

-- a new pool's windows have the pool's size
known_made : (g : Settings) (p : Size → Bool) → p (size_of g) ≡ true → Known g p (made_in g)
unfolding made_in
known_made g p h =
    record { next = h; live = λ n l. let z : n ≡ 0 = omega arith in let d : suc 0 * g.depth - 0 * g.depth ≡ g.depth = omega arith in rw (z, d) h }

module _ (g : Settings) (p : Size → Bool) (own : p (size_of g) ≡ true) where
  -- of a queue, in whichever edition
  abbrev KnownAt : At g → Type 0
  KnownAt x = g.kind ≡ 0 → Known (settings_at g x) p x.state

  known_called : (x : At g) (q : Contents) → HoldsAt g x q → KnownAt x → (c : Call)
      → ((width depth : ℕ) → c ≡ set_size width depth → number_of (next_in (settings_at g x) x.state c).answer ≡ 0 → p (record { width = width; depth = depth }) ≡ true)
      → KnownAt (next_at g x c).state
  known_called x q h known c passes kind = go (windowed (settings_at g x)) refl
    where
      go : (b : Bool) → windowed (settings_at g x) ≡ b → Known (settings_at g x) p (next_at g x c).state.state
      go true e = known_next (settings_at g x) x.limits (kind_at g x) p x.state q h (has_windows_law (settings_at g x) e kind) c passes (known kind)
      go false e =
          let o = after_call g x q h c in
          known_old (settings_at g x) p own (next_at g x c).state.state o.list kind e (inv_of (settings_at g x) x.limits kind (next_at g x c).state.state o.list o.whole.inv)

  known_course : (x : At g) (q : Contents) → HoldsAt g x q → KnownAt x → {es : List Event} → Course g x es → KnownSizes p es
  unfolding next_in
  known_course x q h known no_more set i f e two = absurd (omega arith)
  known_course x q h known (calls c u r) set i zero e two =
      let called : c ≡ step i = sym (ap (λ (z : Event). z.call) u) ∙ e in
      let two' : number_of (next_in (settings_at g x) x.state c).answer ≡ 2 = sym (ap (λ (z : Event). number_of z.answer) u) ∙ two in
      ap (λ (z : Event). p z.measures.size) u
      ∙ subst (λ (d : Call). number_of (next_in (settings_at g x) x.state d).answer ≡ 2 → p (next_in (settings_at g x) x.state d).measures.size ≡ true) (sym called)
      (taken_step (settings_at g x) x.limits (kind_at g x) p x.state q h (λ has. known (has_queue (settings_at g x) has)) own i) two'
  known_course x q h known (calls c u r) set i (suc f) e two =
      let o = after_call g x q h c in
      known_course (next_at g x c).state o.list o.whole
      (known_called x q h known c (λ width depth v z. set 0 width depth (ap (λ (y : Event). y.call) u ∙ v) (ap (λ (y : Event). number_of y.answer) u ∙ z))) r
      (λ f. set (suc f)) i f e two
  known_course x q h known (moves b fits m r) set i f e two =
      known_course (moved_at g x b fits) q (m.whole q h) (λ kind. let y = known kind in record { next = y.next; live = y.live }) r set i f e two

  pub course_known : (limits : settings_fit g ≡ true) {es : List Event} → Course g (made_at g limits) es → KnownSizes p es
  course_known limits course = known_course (made_at g limits) no_items (made_whole g limits (kind_of g limits)) (λ kind. known_made g p own) course

pub sizes_known : OfEveryRun SizesKnown
sizes_known ws g cs made p own =
    let a = accepted ws g made in
    course_known g p own a.limits (calls_course g (made_at g a.limits) (made_related g a.limits (kind_of g a.limits) ws a) cs)
