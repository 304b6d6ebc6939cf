-- "Begin" sets the value (0 for a take), phase 1 or 9, other words zero, index kept. A worker's failed commits survive it. Each call is one of an
-- edition `e`, and takes the pools of that edition alone.
use Rattle.std.specs.Prelude.{ℕ, List, Bool, get_or, leb, eqb, Ok}
use Rattle.laws.specs.Choice.{cond}
use Rattle.rules.specs.Answers.{Out, out, refuse}
use Rattle.rules.specs.Layout.{steps_at, worker_at, phase_at, index_at}
use Rattle.rules.specs.Limits.{step_limit}
use Rattle.rules.specs.Worker.{put_slot, fresh, idle_phase}
use Rattle.rules.specs.Fit.{Checked, Unfit, Fit, checked_of}
use Rattle.rules.specs.declared.Settings.{Settings}
use Rattle.rules.specs.declared.Side.{Side}
use Rattle.rules.specs.declared.Side.TheVariants.{Putting, Taking}
use Rattle.rules.specs.declared.Phase.TheVariants.{Window}
use Rattle.rules.specs.declared.Answer.TheVariants.{Moving}
use Rattle.rules.specs.declared.Refusal.TheVariants.{NoSuchWorker, StepsSpent, WorkerBusy}

-- the phase of the worker whose words start at `at` is idle
abbrev pub idle_at : List ℕ → ℕ → Bool
idle_at ws at = eqb (get_or ws (phase_at at) 0) idle_phase

-- the step count is at its limit, or above
abbrev pub out_of_steps : List ℕ → Bool
out_of_steps ws = leb step_limit (get_or ws steps_at 0)

-- 25, 27, then the worker whose words start at `at` is begun
unfoldable pub slot_begin : List ℕ → Settings → ℕ → Side → ℕ → Out
slot_begin ws g at side value =
    cond (idle_at ws at)
    (cond (out_of_steps ws) (refuse StepsSpent ws) (out (Ok Moving) (put_slot g ws at (fresh g value (get_or ws (index_at at) 0) (Window side)))))
    (refuse WorkerBusy ws)

-- 24 first
unfoldable pub fit_begin : List ℕ → Settings → ℕ → Side → ℕ → Out
fit_begin ws g i side value = cond (leb g.workers i) (refuse NoSuchWorker ws) (slot_begin ws g (worker_at g i) side value)

unfoldable pub checked_begin : List ℕ → Checked → ℕ → Side → ℕ → Out
checked_begin ws (Unfit n) i side value = refuse n ws
checked_begin ws (Fit g) i side value = fit_begin ws g i side value

unfoldable pub begin_of : ℕ → List ℕ → ℕ → Side → ℕ → Out
begin_of e ws i side value = checked_begin ws (checked_of e ws) i side value

abbrev pub begin_put_of : ℕ → List ℕ → ℕ → ℕ → Out
begin_put_of e ws i value = begin_of e ws i Putting value

abbrev pub begin_take_of : ℕ → List ℕ → ℕ → Out
begin_take_of e ws i = begin_of e ws i Taking 0
