-- From a kind's law of a worker that steps alone (Law) to every course: after a begin the measure goes down with each of its steps and stays
-- over all other calls, and over moves, so its operation ends within one step more than the begin leaves it.
use mathlib.Core.Path.{◌≡◌, refl, sym, ap, ◌∙◌, subst}
use mathlib.Core.Logic.{◌≢◌}
use mathlib.Core.Bool.{true}
use mathlib.Core.List.{List, [], ◌∷◌}
use Prim.Native.Nat.{ℕ, zero, suc, ◌+◌, ◌-◌, ◌≤◌, ◌<◌}
use native.Mathlib.Decide.{ℕ_discrete, dec_le}
use native.Mathlib.Omega.{arith}
use Rattle.laws.specs.Choice.{cases}
use Rattle.rules.specs.Answers.{number_of, refusal_number}
use Rattle.rules.specs.Limits.{settings_fit, step_limit, windowed}
use Rattle.rules.specs.Make.{in_edition}
use Rattle.rules.specs.Worker.{fresh, phase_of}
use Rattle.rules.specs.Sequential.{Contents}
use Rattle.rules.specs.Run.{Call, begin_put, begin_take, step, set_size, Event, Final}
use Rattle.solo.specs.Solo.{Solo}
use Rattle.solo.proofs.Types.{Settings, Size, Side, Putting, Taking, Phase, Window, Slot}
use Rattle.rules.specs.declared.Answer.TheVariants.{Moving}
use Rattle.rules.proofs.counts.Sums.{upd_other}
use Rattle.rules.proofs.order.Law.{Next}
use Rattle.rules.proofs.machine.Machine.{State, next, sub_in, phase_in, next_in, begin_in, set_size_in}
use Rattle.rules.proofs.machine.Phases.{idle_phase}
use Rattle.rules.proofs.machine.Calls.{Called, refuses, does, able_does, Begins, step_called, begun, begin_called}
use Rattle.rules.proofs.machine.Turns.{Common, Kind, refused_same}
use Rattle.rules.proofs.Transfer.{onward}
use Rattle.rules.proofs.Course.{At, settings_at, kind_at, next_at, HoldsAt, moved_at, Carried, Course, none, calls, moves}
use Rattle.rules.proofs.progress.Steps.{at_begun, Result, finishes, goes}
use Rattle.solo.proofs.Law.{SoloLaw}
use Rattle.solo.proofs.Moved.{begun_of, solo_of, left_moved}
use Rattle.std.specs.Prelude.{Ok}
use Rattle.rules.proofs.Numbered.{number_high}

-- worker i's operation is open, and makes at most n of its steps before the final one, as far as the events go
pub data Ending (i : ℕ) : ℕ → List Event → Type 0 where
  no_more : {n : ℕ} → Ending i n []
  between : {n : ℕ} {e : Event} {es : List Event} → e.call ≢ step i → Ending i n es → Ending i n (e ∷ es)
  moving : {n : ℕ} {e : Event} {es : List Event} → e.call ≡ step i → number_of e.answer ≡ 0 → Ending i n es → Ending i (suc n) (e ∷ es)
  final : {n : ℕ} {e : Event} {es : List Event} → e.call ≡ step i → Final e.answer → Ending i n (e ∷ es)

module _ (g : Settings) (k : Kind g) {most : Side → ℕ} (law : SoloLaw g k most) where
  abbrev pub LeftIn : State → ℕ → ℕ → Type 0
  LeftIn s n i = law.Left s n (sub_in s i) (phase_in g s i)

  -- ---- one call while worker i's operation is open
  pub data After (s : State) (i n : ℕ) (c : Call) (o : Next State) : Type 0 where
    passes : c ≢ step i → o.state.steps ≡ s.steps → LeftIn o.state n i → After s i n c o
    walks : c ≡ step i → number_of o.answer ≡ 0 → o.state.steps ≡ suc s.steps → 1 ≤ n → LeftIn o.state (n - 1) i → After s i n c o
    ends : c ≡ step i → Final o.answer → After s i n c o

  module _ (s : State) (q : Contents) (common : Common g s) (inv : k.Inv s q) (i n : ℕ) (left : LeftIn s n i) where
    busy : (s.slot i).number ≢ 0
    busy e = law.busy s n (sub_in s i) (subst (law.Left s n (sub_in s i)) (idle_phase g (s.slot i) e) left)

    unchanged : (c : Call) (o : Next State) → c ≢ step i → o.state ≡ s → After s i n c o
    unchanged c o u e = passes u (ap (λ (t : State). t.steps) e) (subst (λ (t : State). LeftIn t n i) (sym e) left)

    -- its own step
    own : i < g.workers → s.steps < step_limit → After s i n (step i) (next_in g s (step i))
    unfolding next_in
    own l time =
        rw (able_does (record { worker = l; busy = busy; time = time }) (step_called g s i)) (by (law.steps s q common inv i n left))
      where
        by : {o : Next State} → Result g law.Left s i n o → After s i n (step i) o
        by (finishes f) = ends refl f
        by (goes x) = walks refl x.answer x.steps x.some x.left

    -- a begin of another worker, or a refused one
    begins : (c : Call) (j : ℕ) (side : Side) (v : ℕ) (o : Next State) → c ≢ step i → Called s (Begins g s j) (next (Ok Moving) (begun g s j side v)) o → After s i n c o
    begins c j side v o u (refuses m l unable e) = unchanged c o u (ap (λ (x : Next State). x.state) e)
    begins c j side v o u (does able e) =
        let other : i ≢ j = λ z. busy (rw z able.idle) in
        let x : Slot = fresh g v (sub_in s j) (Window side) in
        let same : (begun g s j side v).slot i ≡ s.slot i = upd_other s.slot j x i other in
        rw e (passes u refl
        (subst (λ (y : Slot). law.Left (begun g s j side v) n y.index (phase_of g y)) (sym same) (law.apart s j x n (sub_in s i) (phase_in g s i) left)))

    -- a size call
    sizes : (c : Call) (size : Size) → c ≢ step i → After s i n c (set_size_in g s size)
    unfolding set_size_in
    sizes c size u =
        cases Of (windowed g) _ _
        (λ a. cases Of _ _ _ (λ e. passes u refl (law.resized s size n (sub_in s i) (phase_in g s i) left)) (λ e. unchanged c _ u refl))
        (λ a. unchanged c _ u refl)
      where
        Of : Next State → Type 0
        Of o = After s i n c o

    after_call : i < g.workers → s.steps < step_limit → (c : Call)
        → ((j : ℕ) → c ≡ step j → number_of (next_in g s c).answer ≤ 4 → j ≡ i) → After s i n c (next_in g s c)
    unfolding next_in
    after_call l time (begin_put j v) solo = begins (begin_put j v) j Putting v _ (λ e. let z : ◌≡◌ {A = ℕ} 0 1 = cc in omega arith) (begin_called g s j Putting v)
    after_call l time (begin_take j) solo = begins (begin_take j) j Taking 0 _ (λ e. let z : ◌≡◌ {A = ℕ} 0 1 = cc in omega arith) (begin_called g s j Taking 0)
    after_call l time (set_size width depth) solo =
        sizes (set_size width depth) (record { width = width; depth = depth }) (λ e. let z : ◌≡◌ {A = ℕ} 0 1 = cc in omega arith)
    after_call l time (step j) solo = elim (ℕ_discrete j i) [
      | yes e ↦ rw e (own l time)
      | no ne ↦ elim (dec_le (number_of (next_in g s (step j)).answer) 4) [
        | yes m ↦ absurd (ne (solo j refl m))
        | no m ↦ unchanged (step j) _ (λ e. ne cc) (refused_same g k s q common inv (step j) (omega arith))
      ]
    ]

  -- ---- from a begin on
  pub begun_left : (s : State) (q : Contents) → k.Inv s q → (i : ℕ) (side : Side) (v : ℕ) → LeftIn (begun g s i side v) (most side) i
  begun_left s q inv i side v =
      at_begun g law.Left s i (most side) side v
      (law.apart s i (fresh g v (sub_in s i) (Window side)) (most side) (sub_in s i) (Window side) (law.begins s q inv (sub_in s i) side))

  -- one event more, from how the rest goes on
  pub one_more : (s : State) (i n : ℕ) (c : Call) (e : Event) (es : List Event) → e.call ≡ c → e.answer ≡ (next_in g s c).answer
      → s.steps + n < step_limit
      → ((m : ℕ) → (next_in g s c).state.steps + m < step_limit → LeftIn (next_in g s c).state m i → Ending i m es)
      → After s i n c (next_in g s c) → Ending i n (e ∷ es)
  one_more s i n c e es u v time rest (passes w f x) = between (λ z. w (sym u ∙ z)) (rest n (omega arith) x)
  one_more s i zero c e es u v time rest (walks w a f some x) = absurd (omega arith)
  one_more s i (suc n) c e es u v time rest (walks w a f some x) =
      let answer : number_of e.answer ≡ 0 = rw v a in
      let one_less : suc n - 1 ≡ n = omega arith in
      moving (u ∙ w) answer (rest n (omega arith) (subst (λ (m : ℕ). LeftIn (next_in g s c).state m i) one_less x))
  one_more s i n c e es u v time rest (ends w f) = let answer : Final e.answer = rw v f in final (u ∙ w) answer

-- ---- along a course, over moves too
solo_rest : (i : ℕ) (e : Event) (es : List Event) → Solo i (e ∷ es) → Solo i es
solo_rest i e es a j p x = a j (suc p) (record { called = x.called; accepted = x.accepted })

module _ (g : Settings) where
  abbrev law_at : (x : At g) → SoloLaw (settings_at g x) (kind_at g x) (begun_of (settings_at g x))
  law_at x = solo_of (settings_at g x) x.limits

  abbrev LeftAt : At g → ℕ → ℕ → Type 0
  LeftAt x n i = LeftIn (settings_at g x) (kind_at g x) (law_at x) x.state n i

  -- what is left is of the worker's phase, which a move keeps
  left_carried : (x : At g) (b : ℕ) (fits : settings_fit (in_edition b g) ≡ true) → Carried g x b fits → (n i : ℕ) → LeftAt x n i → LeftAt (moved_at g x b fits) n i
  left_carried x b fits m n i left =
      let y = moved_at g x b fits in
      subst (λ (p : Phase). (law_at y).Left y.state n (sub_in x.state i) p) (sym (m.phase i))
      (left_moved (settings_at g x) b x.limits fits x.state n (sub_in x.state i) (phase_in (settings_at g x) x.state i) left)

  solo_ends : (x : At g) (q : Contents) → HoldsAt g x q → (i n : ℕ) → i < g.workers → x.state.steps + n < step_limit → LeftAt x n i
      → {es : List Event} → Course g x es → Solo i es → Ending i n es
  solo_ends x q h i n l time left none solo = no_more
  solo_ends x q h i n l time left (calls {e = e} {es = es} c u r) solo =
      let s = x.state in
      let called : e.call ≡ c = ap (λ (z : Event). z.call) u in
      let answered : e.answer ≡ (next_in (settings_at g x) s c).answer = ap (λ (z : Event). z.answer) u in
      let mine : (j : ℕ) → c ≡ step j → number_of (next_in (settings_at g x) s c).answer ≤ 4 → j ≡ i =
      λ j z m. solo j 0 (record { called = called ∙ z; accepted = rw answered m }) in
      let next-whole = onward (settings_at g x) x.limits (kind_at g x) s q h c in
      one_more (settings_at g x) (kind_at g x) (law_at x) s i n c e es called answered time
      (λ m t y. solo_ends (next_at g x c).state next-whole.list next-whole.whole i m l t y r (solo_rest i e es solo))
      (after_call (settings_at g x) (kind_at g x) (law_at x) s q h.common h.inv i n left l (omega arith) c mine)
  solo_ends x q h i n l time left (moves b fits m r) solo = solo_ends (moved_at g x b fits) q (m.whole q h) i n l time (left_carried x b fits m n i left) r solo

  -- after a begin that is not refused
  pub begun_ends : (x : At g) (q : Contents) → HoldsAt g x q → (i : ℕ) (side : Side) (v : ℕ) (c : Call)
      → next_in (settings_at g x) x.state c ≡ begin_in (settings_at g x) x.state i side v → number_of (next_in (settings_at g x) x.state c).answer ≡ 0
      → x.state.steps + suc (begun_of (settings_at g x) side) ≤ step_limit → {es : List Event} → Course g (next_at g x c).state es → Solo i es
      → Ending i (begun_of (settings_at g x) side) es
  begun_ends x q h i side v c is accepted enough {es} r solo = by (begin_called (settings_at g x) x.state i side v)
    where
      s : State
      s = x.state

      by : Called s (Begins (settings_at g x) s i) (next (Ok Moving) (begun (settings_at g x) s i side v)) (begin_in (settings_at g x) s i side v) → Ending i (begun_of (settings_at g x) side) es
      by (refuses m l unable e) =
          let answer : number_of (next_in (settings_at g x) s c).answer ≡ refusal_number m = ap (λ (o : Next State). number_of o.answer) (is ∙ e) in
          absurd (omega (arith, number_high m))
      by (does able e) =
          let t : (next_in (settings_at g x) s c).state ≡ begun (settings_at g x) s i side v = ap (λ (o : Next State). o.state) (is ∙ e) in
          let after = onward (settings_at g x) x.limits (kind_at g x) s q h c in
          solo_ends (next_at g x c).state after.list after.whole i (begun_of (settings_at g x) side) able.worker
          (rw t (omega arith))
          (subst (λ (z : State). LeftIn (settings_at g x) (kind_at g x) (law_at x) z (begun_of (settings_at g x) side) i) (sym t)
          (begun_left (settings_at g x) (kind_at g x) (law_at x) s q h.inv i side v))
          r solo
