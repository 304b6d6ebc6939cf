-- What stands before `end` is what the input gave. Each turn reads some of it.
use Rattle.std.proofs.Common.{◌-◌, ◌≤◌, length, take}
use Rattle.std.specs.Io.KnownBytes.{Consumes}
use Rattle.mover.proofs.read_all.Given as goal

abbrev pub invariant-loop-end : goal.invariant-loop-end
invariant-loop-end g l = (l.end ≤ length l.src) × Consumes (g.R.Read.remaining l.initial.from) (g.R.Read.remaining l.from) (take l.end l.src)

abbrev pub decreases-loop-end : goal.decreases-loop-end
decreases-loop-end g l = length l.initial.src - l.end
