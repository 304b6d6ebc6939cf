-- "One step": which rule a phase takes, and the order of a step's refusals.
use Rattle.std.specs.Prelude.{ℕ, List, get_or, leb}
use Rattle.laws.specs.Choice.{cond}
use Rattle.rules.specs.Answers.{Out, refuse}
use Rattle.rules.specs.Layout.{worker_at, index_at}
use Rattle.rules.specs.Fit.{Checked, Unfit, Fit, checked_of}
use Rattle.rules.specs.Begin.{idle_at, out_of_steps}
use Rattle.rules.specs.Effects.{view_of, refused_of}
use Rattle.rules.specs.Window.{window_rule}
use Rattle.rules.specs.Read.{queue_put_read, queue_take_read, stack_read}
use Rattle.rules.specs.Check.{check_rule}
use Rattle.rules.specs.Commit.{queue_commit, stack_commit}
use Rattle.rules.specs.Shift.{queue_shift, stack_shift}
use Rattle.rules.specs.Confirm.{queue_confirm, stack_confirm}
use Rattle.rules.specs.Apply.{apply_of}
use Rattle.rules.specs.declared.Settings.{Settings}
use Rattle.rules.specs.declared.Phase.{Phase}
use Rattle.rules.specs.declared.Phase.TheVariants.{Idle, Window, QueuePutRead, QueueTakeRead, StackRead, Check, QueueCommit, StackCommit, QueueShift, StackShift, QueueConfirm, StackConfirm}
use Rattle.rules.specs.declared.View.{View}
use Rattle.rules.specs.declared.Effect.{Effect}
use Rattle.rules.specs.declared.Refusal.TheVariants.{NoSuchWorker, StepsSpent, WorkerIdle}

unfoldable pub rule_by : Settings → View → Phase → Effect
rule_by g v Idle = refused_of v WorkerIdle
rule_by g v (Window side) = window_rule g v side
rule_by g v (QueuePutRead window scan) = queue_put_read g v window scan
rule_by g v (QueueTakeRead window bare scan sum) = queue_take_read g v window bare scan sum
rule_by g v (StackRead side window version scan sum) = stack_read g v side window version scan sum
rule_by g v (Check side version seen) = check_rule g v side version seen
rule_by g v (QueueCommit side window seen) = queue_commit g v side window seen
rule_by g v (StackCommit side seen) = stack_commit g v side seen
rule_by g v (QueueShift side window) = queue_shift g v side window
rule_by g v (StackShift side version scan sum) = stack_shift g v side version scan sum
rule_by g v (QueueConfirm window scan sum) = queue_confirm g v window scan sum
rule_by g v (StackConfirm side scan sum) = stack_confirm g v side scan sum

unfoldable pub rule_of : Settings → View → Effect
rule_of g v = rule_by g v v.worker.phase

-- 26, 27, then the rule, the commit's 23 among its effects
unfoldable pub slot_step : List ℕ → Settings → ℕ → Out
slot_step ws g at =
    cond (idle_at ws at) (refuse WorkerIdle ws)
    (cond (out_of_steps ws) (refuse StepsSpent ws)
    (apply_of ws g at (get_or ws (index_at at) 0) (rule_of g (view_of ws g at))))

-- 24 first
unfoldable pub fit_step : List ℕ → Settings → ℕ → Out
fit_step ws g i = cond (leb g.workers i) (refuse NoSuchWorker ws) (slot_step ws g (worker_at g i))

unfoldable pub checked_step : List ℕ → Checked → ℕ → Out
checked_step ws (Unfit n) i = refuse n ws
checked_step ws (Fit g) i = fit_step ws g i

unfoldable pub step_of : ℕ → List ℕ → ℕ → Out
step_of e ws i = checked_step ws (checked_of e ws) i
