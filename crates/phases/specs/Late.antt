-- The phases whose rules are picked by the phase that the words hold. The window phase, the reads and the commits, which every operation goes through, are
-- told apart before the worker's words are read.
use Rattle.rules.specs.declared.Phase.{Phase}
use Rattle.rules.specs.declared.Phase.TheVariants.{Idle, Window, QueuePutRead, QueueTakeRead, StackRead, Check, QueueCommit, StackCommit, QueueShift, StackShift, QueueConfirm, StackConfirm}

abbrev pub Late : Phase → Type 0
Late Idle = Unit {0}
Late (Window side) = ⊥
Late (QueuePutRead window scan) = ⊥
Late (QueueTakeRead window bare scan sum) = ⊥
Late (StackRead side window version scan sum) = ⊥
Late (Check side version seen) = Unit {0}
Late (QueueCommit side window seen) = ⊥
Late (StackCommit side seen) = ⊥
Late (QueueShift side window) = Unit {0}
Late (StackShift side version scan sum) = Unit {0}
Late (QueueConfirm window scan sum) = Unit {0}
Late (StackConfirm side scan sum) = Unit {0}
