-- "One at a time": a list of calls, its run, and an operation's own steps, by positions in the list.
use Rattle.std.specs.Prelude.{ℕ, ◌≤◌, ◌<◌, ◌≡◌, List, [], ◌∷◌, get_or, Err, Result}
use Rattle.rules.specs.declared.Answer.{Answer}
use Rattle.rules.specs.Answers.{Out, number_of, fields_by, fields_of}
use Rattle.rules.specs.Begin.{begin_put_of, begin_take_of}
use Rattle.rules.specs.Step.{step_of}
use Rattle.rules.specs.Resize.{set_size_of}
use Rattle.rules.specs.Layout.{settings_of, worker_at}
use Rattle.rules.specs.Measures.{Measures, no_measures, measures_of}
use Rattle.rules.specs.Sequential.{Operation, putting, taking}
use Rattle.rules.specs.Answers.{Answered}
use Rattle.rules.specs.declared.Refusal.TheVariants.{WorkerIdle}

-- the list has begin put, begin take and step, with any worker numbers and values; since paper 02's K8 the size call too, with any sizes
pub data Call : Type 0 where
  begin_put : ℕ → ℕ → Call
  begin_take : ℕ → Call
  step : ℕ → Call
  set_size : ℕ → ℕ → Call

-- the begin of an operation by a worker
abbrev pub begin : ℕ → Operation → Call
begin i (putting v) = begin_put i v
begin i taking = begin_take i

-- what a call of an edition answers, and the words that it leaves
unfoldable pub call_of : ℕ → List ℕ → Call → Out
call_of e ws (begin_put i v) = begin_put_of e ws i v
call_of e ws (begin_take i) = begin_take_of e ws i
call_of e ws (step i) = step_of e ws i
call_of e ws (set_size width depth) = set_size_of e ws (record { width = width; depth = depth })

-- a call with its answer, and what its answer is held to
pub record Event : Type 0 where
  pub call : Call
  pub answer : Answered
  pub measures : Measures

-- by the words just before the call
unfoldable pub measures_at : List ℕ → Call → Answered → Measures
measures_at ws (begin_put i v) a = no_measures
measures_at ws (begin_take i) a = no_measures
measures_at ws (step i) a = measures_of ws (settings_of ws) (worker_at (settings_of ws) i) a
measures_at ws (set_size width depth) a = no_measures

abbrev pub event_of : List ℕ → Call → Answered → Event
event_of ws c a = record { call = c; answer = a; measures = measures_at ws c a }

-- the run of a list of calls from given words: each call with its answer, refused calls too
unfoldable pub run : ℕ → List ℕ → List Call → List Event
run e ws [] = []
run e ws (c ∷ cs) = event_of ws c (call_of e ws c).answer ∷ run e (call_of e ws c).words cs

-- the event at a position; past the end, a call that was refused
abbrev pub nothing : Event
nothing = record { call = step 0; answer = Err WorkerIdle; measures = no_measures }

abbrev pub at : List Event → ℕ → Event
at es p = get_or es p nothing

-- ---- an answer's value, stamp and distance
abbrev pub value_in : Answered → ℕ
value_in a = get_or (fields_of a) 0 0

abbrev pub stamp_in : Answered → ℕ
stamp_in a = get_or (fields_of a) 3 0

abbrev pub distance_by : {R : Type 0} → Result Answer R → ℕ
distance_by a = get_or (fields_by a) 4 0

abbrev pub distance_in : Answered → ℕ
distance_in a = distance_by a

-- ---- operations
-- an answer 1 to 4, which finishes an operation
pub record Final (a : Answered) : Type 0 where
  pub low : 1 ≤ number_of a
  pub high : number_of a ≤ 4

-- position p is a step of worker i that was not refused
pub record StepOf (es : List Event) (i p : ℕ) : Type 0 where
  pub called : (at es p).call ≡ step i
  pub accepted : number_of (at es p).answer ≤ 4

-- "a begin not refused opens an operation": the one that worker i begins at b is still open just before p
pub record Since (es : List Event) (i : ℕ) (o : Operation) (b p : ℕ) : Type 0 where
  pub begun : (at es b).call ≡ begin i o
  pub opened : number_of (at es b).answer ≡ 0
  pub later : b < p
  pub quiet : (q : ℕ) → b < q → q < p → (at es q).call ≡ step i → ¬ (Final (at es q).answer)

-- "its own steps are that worker's next steps not refused, through the one that answers 1 to 4": position p is one of them
pub record Own (es : List Event) (i : ℕ) (o : Operation) (b p : ℕ) : Type 0 where
  pub since : Since es i o b p
  pub here : StepOf es i p
