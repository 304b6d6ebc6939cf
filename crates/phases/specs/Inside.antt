-- What a rule asks of the window that it goes by: the one that a worker looks at has a sub, and the worker's index lies in the one that it goes
-- through, sub by sub.
use Rattle.std.specs.Prelude.{◌≤◌, ◌<◌}
use Rattle.rules.specs.Effects.{queue_view}
use Rattle.rules.specs.Window.{window_for}
use Rattle.rules.specs.declared.Phase.{Phase}
use Rattle.rules.specs.declared.Phase.TheVariants.{Idle, Window, QueuePutRead, QueueTakeRead, StackRead, Check, QueueCommit, StackCommit, QueueShift, StackShift, QueueConfirm, StackConfirm}
use Rattle.rules.specs.declared.View.{View}

abbrev pub InWindow : View → Phase → Type 0
InWindow v Idle = Unit {0}
InWindow v (Window side) = 1 ≤ (window_for (queue_view v) side).width
InWindow v (QueuePutRead window scan) = v.worker.index < window.width
InWindow v (QueueTakeRead window bare scan sum) = v.worker.index < window.width
InWindow v (StackRead side window version scan sum) = Unit {0}
InWindow v (Check side version seen) = Unit {0}
InWindow v (QueueCommit side window seen) = Unit {0}
InWindow v (StackCommit side seen) = Unit {0}
InWindow v (QueueShift side window) = Unit {0}
InWindow v (StackShift side version scan sum) = Unit {0}
InWindow v (QueueConfirm window scan sum) = v.worker.index < window.width
InWindow v (StackConfirm side scan sum) = Unit {0}

abbrev pub Inside : View → Type 0
Inside v = InWindow v v.worker.phase
