-- K7, the statement: "For a line from make, in all orders: of any 6 × n × (w + 1) + 1 counted steps in a row, begins between them allowed, at
-- least one gives put, taken, empty or full." The field calls this lock freedom, with a bound: among the workers that step, some operation ends.
-- How many steps in a row may go without a final answer is a parameter: K7 has its own number, and rows of crates/long_runs reach the closest one.
use Rattle.std.specs.Prelude.{ℕ, ◌+◌, ◌-◌, ◌*◌, ◌<◌, max, ◌≡◌, List, [], ◌∷◌, get_or, take, drop, leb, eqb, Ok}
use Rattle.laws.specs.Choice.{cond}
use Rattle.rules.specs.Answers.{Answered, number_of}
use Rattle.rules.specs.Layout.{steps_at}
use Rattle.rules.specs.Limits.{step_limit}
use Rattle.rules.specs.Run.{Call, begin_put, begin_take, step, set_size, Event, run, at, Final, StepOf}
use Rattle.rules.specs.Consequences.{words_after, OfEveryRun}
use Rattle.rounds.specs.Dispatch.{DispatchOut, Busy, dispatch_of}
use Rattle.rules.specs.Make.{in_edition}
use Rattle.turnaround.specs.Turnaround.{here, place_over, run_over, OfEveryTurnaround}
use Rattle.rules.specs.declared.Settings.{Settings}
use Rattle.rules.specs.declared.Answer.{Answer}
use Rattle.rules.specs.declared.Dispatched.TheVariants.{Finished}

-- ---- the figures: the most counted steps in a row without a final answer
-- K7's
abbrev pub k7_stretch : Settings → ℕ
k7_stretch g = 6 * g.workers * (g.width + 1)

-- one worker: a take makes a window, w reads, a shift, a window and w reads, and its commit is final. Several: one has just begun a put, w + 4; each
-- other makes a take whose pass comes to nothing, w - 1 reads and w confirms, or w reads and a shift, and then 3w + 2 from its window step on
abbrev pub exact_stretch : Settings → ℕ
exact_stretch g =
    cond (eqb g.workers 1) (2 * g.width + 3)
    ((g.workers - 1) * max (5 * g.width + 1) (4 * g.width + 3) + (g.width + 4))

-- ---- a stretch of a run: the m events from position p on
abbrev pub stretch : ℕ → ℕ → List Event → List Event
stretch p m es = take m (drop p es)

-- "counted": a step that was not refused; begins, size calls and refused calls may stand between
abbrev pub counted_call : Call → Answered → ℕ
counted_call (begin_put i v) a = 0
counted_call (begin_take i) a = 0
counted_call (step i) a = cond (leb (number_of a) 4) 1 0
counted_call (set_size width depth) a = 0

unfoldable pub counted_steps : List Event → ℕ
counted_steps [] = 0
counted_steps (e ∷ es) = counted_call e.call e.answer + counted_steps es

-- "at least one gives put, taken, empty or full"
pub record Finishes (es : List Event) : Type 0 where
  pub worker : ℕ
  pub position : ℕ
  pub own : StepOf es worker position
  pub final : Final (at es position).answer

-- ---- the claim: every stretch of the run of any list of calls on a new queue
abbrev pub StretchesWithin : Settings → ℕ → List Event → Type 0
StretchesWithin g n es = g.kind ≡ 0 → (p m : ℕ) → n < counted_steps (stretch p m es) → Finishes (stretch p m es)

abbrev pub StretchWithin : (Settings → ℕ) → Type 0
StretchWithin most = OfEveryRun (λ g ws cs. StretchesWithin g (most g) (run g.edition ws cs))

abbrev pub K7 : Type 0
K7 = StretchWithin k7_stretch

abbrev pub StretchExact : Type 0
StretchExact = StretchWithin exact_stretch

-- ---- what a caller wants of it: a dispatcher finishes an operation, where a worker is busy, its count is more than such a stretch, and so are
-- the steps left
pub record FinishesIn (g : Settings) (o : DispatchOut) : Type 0 where
  pub worker : ℕ
  pub among : worker < g.workers
  pub answer : Answer
  pub result : o.result ≡ Ok (Finished worker answer)
  pub final : Final (Ok answer)

abbrev pub DispatchesWithin : Settings → ℕ → List ℕ → Type 0
DispatchesWithin g n ws =
    g.kind ≡ 0 → (i steps : ℕ) → i < g.workers → Busy g ws → n < steps → get_or ws steps_at 0 + n < step_limit
    → FinishesIn g (dispatch_of g.edition ws i steps)

abbrev pub DispatchWithin : (Settings → ℕ) → Type 0
DispatchWithin most = OfEveryRun (λ g ws cs. DispatchesWithin g (most g) (words_after g.edition ws cs))

abbrev pub DispatchFinishes : Type 0
DispatchFinishes = DispatchWithin exact_stretch

abbrev pub DispatchK7 : Type 0
DispatchK7 = DispatchWithin k7_stretch

-- ---- both over any moves between editions (K6, K8): of the run, and of a dispatcher where the pool lies then
pub record OverMoves (most : Settings → ℕ) : Type 0 where
  pub stretches : OfEveryTurnaround (λ g ws xs. StretchesWithin g (most g) (run_over (here g ws) xs))
  pub dispatches : OfEveryTurnaround (λ g ws xs.
      DispatchesWithin (in_edition (place_over (here g ws) xs).edition g) (most g) (place_over (here g ws) xs).words)

abbrev pub K7OverMoves : Type 0
K7OverMoves = OverMoves k7_stretch × OverMoves exact_stretch
