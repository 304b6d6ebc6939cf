-- A queue's step, by its worker's phase: it ends its operation or lowers what it has left. L has to be enough for a take that starts where
-- the take window has moved (QueueLeft).
use mathlib.Core.Path.{◌≡◌, refl}
use Prim.Native.Nat.{ℕ, ◌<◌}
use Rattle.rules.specs.Step.{rule_of, rule_by}
use Rattle.rules.specs.Sequential.{Contents}
use Rattle.solo.proofs.Types.{Settings, Putting, Taking, Phase, Idle, Window, QueuePutRead, QueueTakeRead, StackRead, Check, QueueCommit, StackCommit, QueueShift, StackShift, QueueConfirm, StackConfirm}
use Rattle.rules.proofs.machine.Machine.{State, sub_in, view_in, phase_in, apply_in}
use Rattle.rules.proofs.machine.Good.{Good}
use Rattle.rules.proofs.queue.Inv.{Inv}
use Rattle.rules.proofs.progress.QueueLeft.{NextReady, queue_left}
use Rattle.rules.proofs.progress.QueueResult.{QueueResult}
use Rattle.rules.proofs.progress.QueuePut.{put_window_law, put_read, put_commit, put_shift}
use Rattle.solo.proofs.QueueTakePass.{take_window_law, take_read}
use Rattle.solo.proofs.QueueTakeEnd.{take_commit, take_shift, take_confirm}

module _ (g : Settings) (good : Good g) (kind : g.kind ≡ 0) (L : ℕ) (enough : g.width < L) (s : State) (q : Contents) (inv : Inv g s q) (ready : NextReady g L s) (i n : ℕ) where
  by_phase : (p : Phase) → phase_in g s i ≡ p → queue_left g L s n (sub_in s i) p → QueueResult g L s i n (apply_in g s i (rule_by g (view_in g s i) p))
  unfolding rule_by
  by_phase Idle now x = absurd x
  by_phase (Window Putting) now x = put_window_law g good kind L s q inv i n x
  by_phase (Window Taking) now x = take_window_law g good kind L enough s q inv i n x
  by_phase (QueuePutRead window scan) now x = put_read g good kind L s q inv i n window scan now x
  by_phase (QueueTakeRead window bare scan sum) now x = take_read g good kind L enough s q inv i n window bare scan sum now x
  by_phase (StackRead side window version scan sum) now x = absurd x
  by_phase (Check side version seen) now x = absurd x
  by_phase (QueueCommit Putting window seen) now x = put_commit g good kind L s q inv i n window seen now x
  by_phase (QueueCommit Taking window seen) now x = take_commit g good kind L s q inv i n window seen now x
  by_phase (StackCommit side seen) now x = absurd x
  by_phase (QueueShift Putting window) now x = put_shift g good kind L s q inv i n window now x
  by_phase (QueueShift Taking window) now x = take_shift g good kind L s q inv i n window now ready x
  by_phase (StackShift side version scan sum) now x = absurd x
  by_phase (QueueConfirm window scan sum) now x = take_confirm g good kind L s q inv i n window scan sum now x
  by_phase (StackConfirm side scan sum) now x = absurd x

  pub queue_step : queue_left g L s n (sub_in s i) (phase_in g s i) → QueueResult g L s i n (apply_in g s i (rule_of g (view_in g s i)))
  unfolding rule_of
  queue_step x = by_phase (phase_in g s i) refl x
