-- Runs of a pool over calls and moves, as the abstract machine has them: its state is in settings of an edition, which a call keeps and a move changes.
-- What is shown of every run goes along such a course; that of a list of calls is the one without moves.
use Prim.Native.Nat.{ℕ, zero, suc}
use mathlib.Core.Path.{◌≡◌, refl, sym, ap, ◌∙◌}
use mathlib.Core.Bool.{true}
use mathlib.Core.List.{List, [], ◌∷◌}
use mathlib.Core.Option.{Option, none as nowhere, some}
use lib.ListN.{take, drop}
use Rattle.rules.specs.Limits.{settings_fit}
use Rattle.rules.specs.Make.{in_edition}
use Rattle.rules.specs.Measures.{Measures}
use Rattle.rules.specs.Sequential.{Operation, putting, taking, Contents, Found, give_by, leaving, find}
use Rattle.rules.specs.Run.{Call, Event, run}
use Rattle.rules.proofs.Types.{Settings, Answered}
use Rattle.rules.proofs.order.Closest.{Gives, OneAtATime}
use Rattle.rules.proofs.order.Law.{Next, told, Status, Others, Turn, refused, passes, opened, walks, tries, stays, loses, ends, wins, Runs, none as no_more, calls as told-call, jumps}
use Rattle.rules.proofs.order.Order.{one_at_a_time}
use Rattle.rules.proofs.machine.Machine.{State, phase_in, next_in, made_in}
use Rattle.rules.proofs.machine.Phases.{status_of}
use Rattle.rules.proofs.machine.Turns.{Kind, Turned, status_in}
use Rattle.rules.proofs.Transfer.{Whole, Onward, onward, whole_turn, made_whole, made_idle, Related, next_related}
use Rattle.rules.proofs.BothKinds.{kind_of}
use Rattle.rules.proofs.machine.Moved.{moved_in}

-- ---- what the list gives does not ask for an edition
module _ (g : Settings) (e : ℕ) where
  leaving_same : (most : ℕ) (q : Contents) (f : Option Found) → leaving most (in_edition e g) q f ≡ leaving most g q f
  unfolding leaving
  leaving_same most q nowhere = refl
  leaving_same most q (some f) = refl

  give_same : (most least : ℕ) (q : Contents) (n stamp : ℕ) (o : Operation) → give_by most least (in_edition e g) q n stamp o ≡ give_by most least g q n stamp o
  unfolding give_by
  give_same most least q n stamp (putting v) = refl
  give_same most least q n stamp taking = rw (leaving_same most q (find stamp q.items)) refl

  gives_kept : (q : Contents) (o : Operation) (a : Answered) (m : Measures) (q' : Contents) → Gives (in_edition e g) q o a m q' → Gives g q o a m q'
  gives_kept q o a m q' z = sym (give_same _ _ q _ _ o) ∙ z

module _ (g : Settings) where
  -- ---- the machine of all editions
  pub record At : Type 0 where
    pub edition : ℕ
    pub limits : settings_fit (in_edition edition g) ≡ true
    pub state : State

  abbrev pub settings_at : At → Settings
  settings_at x = in_edition x.edition g

  abbrev pub kind_at : (x : At) → Kind (settings_at x)
  kind_at x = kind_of (settings_at x) x.limits

  abbrev pub with_state : At → State → At
  with_state x s = record { edition = x.edition; limits = x.limits; state = s }

  abbrev pub with_state_in : At → Next State → Next At
  with_state_in x o = record { answer = o.answer; measures = o.measures; state = with_state x o.state }

  abbrev pub next_at : At → Call → Next At
  next_at x c = with_state_in x (next_in (settings_at x) x.state c)

  abbrev pub status_at : At → ℕ → Status
  status_at x i = status_in (settings_at x) x.state i

  abbrev pub HoldsAt : At → Contents → Type 0
  HoldsAt x q = Whole (settings_at x) x.limits (kind_at x) x.state q

  abbrev pub SnapFrom : At → Contents → ℕ → At → Type 0
  SnapFrom x₀ q₀ i x = (kind_at x).Snap x₀.state q₀ i x.state

  abbrev pub moved_at : (x : At) (b : ℕ) → settings_fit (in_edition b g) ≡ true → At
  moved_at x b fits = record { edition = b; limits = fits; state = moved_in (settings_at x) (in_edition b g) x.state }

  -- a move: every worker is in the phase that it was in, and what holds goes on holding
  pub record Carried (x : At) (b : ℕ) (fits : settings_fit (in_edition b g) ≡ true) : Type 0 where
    pub phase : (i : ℕ) → phase_in (in_edition b g) (moved_at x b fits).state i ≡ phase_in (settings_at x) x.state i
    pub whole : (q : Contents) → HoldsAt x q → HoldsAt (moved_at x b fits) q
    pub snap : (x₀ : At) (q₀ : Contents) (i : ℕ) → SnapFrom x₀ q₀ i x → SnapFrom x₀ q₀ i (moved_at x b fits)

  -- ---- the events from a state on
  pub data Course : At → List Event → Type 0 where
    none : {x : At} → Course x []
    calls : {x : At} {e : Event} {es : List Event} (c : Call) → e ≡ told c (next_at x c) → Course (next_at x c).state es → Course x (e ∷ es)
    moves : {x : At} {es : List Event} (b : ℕ) (fits : settings_fit (in_edition b g) ≡ true) → Carried x b fits → Course (moved_at x b fits) es → Course x es

  -- a part of a course is one
  pub course_take : {x : At} {es : List Event} → Course x es → (n : ℕ) → Course x (take n es)
  course_take none zero = none
  course_take none (suc n) = none
  course_take (calls c u r) zero = none
  course_take (calls c u r) (suc n) = calls c u (course_take r n)
  course_take (moves b fits m r) n = moves b fits m (course_take r n)

  -- what is so of a state and stays so, along any course
  pub record Kept (P : At → Type 0) : Type 0 where
    pub called : (x : At) (q : Contents) → HoldsAt x q → P x → (c : Call) → P (next_at x c).state
    pub carried : (x : At) (q : Contents) → HoldsAt x q → P x → (b : ℕ) (fits : settings_fit (in_edition b g) ≡ true) → Carried x b fits → P (moved_at x b fits)

  pub record From (P : At → Type 0) (es : List Event) : Type 0 where
    pub start : At
    pub list : Contents
    pub holds : HoldsAt start list
    pub so : P start
    pub course : Course start es

  pub after_call : (x : At) (q : Contents) → HoldsAt x q → (c : Call) → Onward (settings_at x) x.limits (kind_at x) x.state q c (next_in (settings_at x) x.state c)
  after_call x q h c = onward (settings_at x) x.limits (kind_at x) x.state q h c

  pub course_drop : (P : At → Type 0) → Kept P → (x : At) (q : Contents) → HoldsAt x q → P x → {es : List Event} → Course x es → (n : ℕ) → From P (drop n es)
  course_drop P kept x q h so none zero = record { start = x; list = q; holds = h; so = so; course = none }
  course_drop P kept x q h so none (suc n) = record { start = x; list = q; holds = h; so = so; course = none }
  course_drop P kept x q h so (calls c u r) zero = record { start = x; list = q; holds = h; so = so; course = calls c u r }
  course_drop P kept x q h so (calls c u r) (suc n) =
      let o = after_call x q h c in
      course_drop P kept (next_at x c).state o.list o.whole (kept.called x q h so c) r n
  course_drop P kept x q h so (moves b fits m r) n =
      course_drop P kept (moved_at x b fits) q (m.whole q h) (kept.carried x q h so b fits m) r n

  -- of a list of calls
  pub calls_course : (x : At) {ws : List ℕ} → Related (settings_at x) x.limits (kind_at x) ws x.state → (cs : List Call) → Course x (run x.edition ws cs)
  unfolding run
  calls_course x r [] = none
  calls_course x r (c ∷ cs) =
      let n = next_related (settings_at x) x.limits (kind_at x) r c in
      calls c (λ u. record { call = c; answer = n.answer u; measures = n.measures u }) (calls_course (next_at x c).state n.related cs)

  -- ---- a turn of the pool's machine is one of the machine of all editions
  abbrev TurnAt : At → Contents → Call → Next At → Type 0
  TurnAt x q c o = Turn g next_at status_at HoldsAt SnapFrom x q c o

  abbrev RunsAt : At → List Event → Type 0
  RunsAt x es = Runs g next_at status_at HoldsAt SnapFrom x es

  module _ (x : At) where
    abbrev Holds : State → Contents → Type 0
    Holds s q = HoldsAt (with_state x s) q

    others : {s t : State} {i : ℕ} → Others (settings_at x) (next_in (settings_at x)) (status_in (settings_at x)) Holds (kind_at x).Snap s i t
        → Others g next_at status_at HoldsAt SnapFrom (with_state x s) i (with_state x t)
    others w = record { same = w.same; kept = λ j n x₀ q₀ z. w.kept j n x₀.state q₀ z }

    turned : {s : State} {q : Contents} {c : Call} {o : Next State} → Turned (settings_at x) Holds (kind_at x).Snap s q c o → TurnAt (with_state x s) q c (with_state_in x o)
    turned (refused n e) = refused n (ap (with_state x) e)
    turned (passes no_step n w h) = passes no_step n (record { same = w.same; kept = λ j x₀ q₀ z. w.kept j x₀.state q₀ z }) h
    turned (opened i op u n a b w h) = opened i op u n a b (others w) h
    turned (walks i op u n a b w h) = walks i op u n a b (others w) h
    turned (tries i op u n a b w h z) = tries i op u n a b (others w) h z
    turned (stays i op u n a b w h z) = stays i op u n a b (others w) h (λ x₀ q₀ y. z x₀.state q₀ y)
    turned (loses i op u n a b w h) = loses i op u n a b (others w) h
    turned {q = q} {o = o} (ends i op u n a b w q' give h) = ends i op u n a b (others w) q' (gives_kept g x.edition q op o.answer o.measures q' give) h
    turned {o = o} (wins i op u n l a b w h z) =
        wins i op u n l a b (others w) h (λ x₀ q₀ y. gives_kept g x.edition q₀ op o.answer o.measures q₀ (z x₀.state q₀ y))

  turn_at : (x : At) (q : Contents) → HoldsAt x q → (c : Call) → TurnAt x q c (next_at x c)
  turn_at x q h c = turned x (whole_turn (settings_at x) x.limits (kind_at x) x.state q h c)

  -- no operation under way sees a move
  course_runs : {x : At} {es : List Event} → Course x es → RunsAt x es
  course_runs none = no_more
  course_runs (calls c u r) = told-call c u (course_runs r)
  course_runs (moves {x = x} b fits m r) =
      jumps (record {
        all = record { same = λ j. ap (status_of (x.state.slot j).value) (m.phase j); kept = λ j x₀ q₀ z. m.snap x₀ q₀ j z };
        kept = m.whole;
      }) (course_runs r)

  -- ---- from make on
  abbrev pub made_at : settings_fit g ≡ true → At
  made_at limits = record { edition = g.edition; limits = limits; state = made_in g }

  pub course_order : (limits : settings_fit g ≡ true) {es : List Event} → Course (made_at limits) es → OneAtATime g es
  course_order limits r =
      one_at_a_time g next_at status_at HoldsAt SnapFrom turn_at (made_at limits) (made_whole g limits (kind_of g limits)) (made_idle g limits (kind_of g limits)) _ (course_runs r)
