-- K7, the dispatcher: it "steps busy workers round and round by number, from a worker the caller names, up to a given count of steps, and
-- stops at the first final answer, naming the worker. With no busy worker, or when the count runs out, it says which; if both hold, that no
-- worker is busy." The field calls this round robin. It is `step_of` again and again, and nothing else.
use Rattle.std.specs.Prelude.{ℕ, zero, suc, ◌+◌, ◌%◌, ◌<◌, ◌≢◌, List, [], ◌∷◌, ◌++◌, get_or, leb, eqb, Err, None, Ok, Option, Some, Result}
use Rattle.laws.specs.Choice.{cond}
use Rattle.rules.specs.Answers.{Answered, Out, number_of, refusal_number, refusal_numbered, fields_of, no_fields, final_of, Returned, returned}
use Rattle.rules.specs.Layout.{worker_at, phase_at}
use Rattle.rules.specs.Worker.{idle_phase}
use Rattle.rules.specs.Fit.{Checked, Unfit, Fit, checked_of}
use Rattle.rules.specs.Begin.{idle_at}
use Rattle.rules.specs.Step.{step_of}
use Rattle.rules.specs.declared.Settings.{Settings}
use Rattle.rules.specs.declared.Dispatched.{Dispatched}
use Rattle.rules.specs.declared.Dispatched.TheVariants.{Finished, NoneBusy, RanOut}
use Rattle.rules.specs.declared.Refusal.{Refusal}
use Rattle.rules.specs.declared.Refusal.TheVariants.{NoSuchWorker}

-- what a dispatcher comes to, or why it is refused
abbrev pub DispatchResult : Type 0
DispatchResult = Result Dispatched Refusal

-- that, and the words that it leaves
pub record DispatchOut : Type 0 where
  pub result : DispatchResult
  pub words : List ℕ

abbrev pub dispatched : DispatchResult → List ℕ → DispatchOut
dispatched r ws = record { result = r; words = ws }

-- for C, the number of a result and six fields, the sixth a worker
abbrev pub result_number : DispatchResult → ℕ
result_number (Ok (Finished worker answer)) = number_of (Ok answer)
result_number (Ok NoneBusy) = 5
result_number (Ok (RanOut next)) = 6
result_number (Err refusal) = refusal_number refusal

abbrev pub result_fields : DispatchResult → List ℕ
result_fields (Ok (Finished worker answer)) = fields_of (Ok answer) ++ (worker ∷ [])
result_fields (Ok NoneBusy) = no_fields ++ (0 ∷ [])
result_fields (Ok (RanOut next)) = no_fields ++ (next ∷ [])
result_fields (Err refusal) = no_fields ++ (0 ∷ [])

abbrev pub dispatch_returned : DispatchOut → Returned
dispatch_returned o = returned (result_number o.result) o.words (result_fields o.result)

-- ---- whose turn it is
-- some worker is busy: its phase is not idle
abbrev pub Busy : Settings → List ℕ → Type 0
Busy g ws = (i : ℕ) × (i < g.workers) × (get_or ws (phase_at (worker_at g i)) 0 ≢ idle_phase)

-- the worker after i, "round and round by number"
abbrev pub worker_after : Settings → ℕ → ℕ
worker_after g i = (i + 1) % g.workers

-- the first busy one of the m workers from i on
unfoldable pub busy_from : List ℕ → Settings → ℕ → ℕ → Option ℕ
busy_from ws g i zero = None
busy_from ws g i (suc m) = cond (idle_at ws (worker_at g i)) (busy_from ws g (worker_after g i) m) (Some i)

abbrev pub turn_from : List ℕ → Settings → ℕ → Option ℕ
turn_from ws g i = busy_from ws g i g.workers

-- ---- one turn
-- nothing is done where no worker is busy
abbrev pub if_busy : List ℕ → Option ℕ → (ℕ → DispatchOut) → DispatchOut
if_busy ws None go = dispatched (Ok NoneBusy) ws
if_busy ws (Some j) go = go j

-- a final answer ends the turns, and a refusal is passed through
unfoldable pub ended_by : ℕ → Answered → DispatchResult
ended_by j (Ok a) = Ok (Finished j a)
ended_by j (Err refusal) = Err refusal

-- worker j's step: after a 0 the turns go on
unfoldable pub after_step : ℕ → Out → DispatchOut → DispatchOut
after_step j o rest = cond (eqb (number_of o.answer) 0) rest (dispatched (ended_by j o.answer) o.words)

-- ---- turns from worker i on, up to a count of steps
unfoldable pub turns_of : List ℕ → Settings → ℕ → ℕ → DispatchOut
turns_of ws g i zero = if_busy ws (turn_from ws g i) (λ j. dispatched (Ok (RanOut i)) ws)
turns_of ws g i (suc k) =
    if_busy ws (turn_from ws g i) (λ j. after_step j (step_of g.edition ws j) (turns_of (step_of g.edition ws j).words g (worker_after g j) k))

-- ---- the call: fitness, then 24, whatever the count and whoever is busy
unfoldable pub fit_dispatch : List ℕ → Settings → ℕ → ℕ → DispatchOut
fit_dispatch ws g i steps = cond (leb g.workers i) (dispatched (Err NoSuchWorker) ws) (turns_of ws g i steps)

unfoldable pub checked_dispatch : List ℕ → Checked → ℕ → ℕ → DispatchOut
checked_dispatch ws (Unfit n) i steps = dispatched (Err n) ws
checked_dispatch ws (Fit g) i steps = fit_dispatch ws g i steps

unfoldable pub dispatch_of : ℕ → List ℕ → ℕ → ℕ → DispatchOut
dispatch_of e ws i steps = checked_dispatch ws (checked_of e ws) i steps

-- ---- as the code has it: `ended_by` of an answer's number and five fields
unfoldable pub ended_of : ℕ → ℕ → List ℕ → DispatchResult
ended_of j n fields = cond (leb n 4) (Ok (Finished j (final_of n fields))) (Err (refusal_numbered n))
