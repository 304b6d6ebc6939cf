-- `moves::move_workers` meets its contract: the loop's invariant is that the workers passed are moved.
use Rattle.std.proofs.Common.{◌≡◌}
use Rattle.turnaround.specs.Move.{workers_moved}
use Rattle.moves.proofs.move_workers.Given as goal

abbrev pub invariant-loop-i : goal.invariant-loop-i
invariant-loop-i l = l.to ≡ workers_moved l.from l.g l.initial.to l.h l.i
