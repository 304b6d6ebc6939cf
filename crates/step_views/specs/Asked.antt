-- What a phase's rule asks of the sizes of a queue's windows: a step reads these alone. The others are none in its view, and no rule tells.
use Rattle.rules.specs.Windows.{no_size}
use Rattle.rules.specs.declared.Side.{Side}
use Rattle.rules.specs.declared.Side.TheVariants.{Putting, Taking}
use Rattle.rules.specs.declared.Phase.{Phase}
use Rattle.rules.specs.declared.Phase.TheVariants.{Idle, Window, QueuePutRead, QueueTakeRead, StackRead, Check, QueueCommit, StackCommit, QueueShift, StackShift, QueueConfirm, StackConfirm}
use Rattle.rules.specs.declared.Size.{Size}
use Rattle.rules.specs.declared.Sizes.{Sizes}
use Rattle.rules.specs.declared.View.{View}

abbrev pub no_sizes : Sizes
no_sizes = record { put = no_size; take = no_size; after = no_size; next = no_size; live = 0 }

abbrev pub only_take : Size → Sizes
only_take size = record { put = no_size; take = size; after = no_size; next = no_size; live = 0 }

-- a worker that looks at a window: its own
abbrev pub look_asks : Side → Sizes → Sizes
look_asks Putting s = record { put = s.put; take = no_size; after = no_size; next = no_size; live = 0 }
look_asks Taking s = only_take s.take

-- a put that commits: the take window's, above whose bottom R rows have a cell
abbrev pub commit_asks : Side → Sizes → Sizes
commit_asks Putting s = only_take s.take
commit_asks Taking s = no_sizes

-- a window that moves on: the one that comes; a put window also the take window's, and how many are live
abbrev pub shift_asks : Side → Sizes → Sizes
shift_asks Putting s = record { put = no_size; take = s.take; after = no_size; next = s.next; live = s.live }
shift_asks Taking s = record { put = no_size; take = no_size; after = s.after; next = no_size; live = 0 }

abbrev pub asked_by : Phase → Sizes → Sizes
asked_by Idle s = no_sizes
asked_by (Window side) s = look_asks side s
asked_by (QueuePutRead window scan) s = no_sizes
asked_by (QueueTakeRead window bare scan sum) s = no_sizes
asked_by (StackRead side window version scan sum) s = no_sizes
asked_by (Check side version seen) s = no_sizes
asked_by (QueueCommit side window seen) s = commit_asks side s
asked_by (StackCommit side seen) s = no_sizes
asked_by (QueueShift side window) s = shift_asks side s
asked_by (StackShift side version scan sum) s = no_sizes
asked_by (QueueConfirm window scan sum) s = no_sizes
asked_by (StackConfirm side scan sum) s = no_sizes

-- a view with these sizes alone
abbrev pub with_sizes : Sizes → View → View
with_sizes sizes v =
    record {
      top = v.top;
      mark = v.mark;
      sizes = sizes;
      puts = v.puts;
      first = v.first;
      second = v.second;
      worker = v.worker;
      kept = v.kept;
    }

abbrev pub asked : View → View
asked v = with_sizes (asked_by v.worker.phase v.sizes) v
