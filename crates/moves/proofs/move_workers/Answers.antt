-- `moves::move_workers` meets its contract: the loop's invariant is that the workers passed are moved.
use Rattle.std.proofs.Common.{refl, add-one}
use Rattle.turnaround.specs.Move.{workers_moved}
use Rattle.moves.proofs.move_workers.Goals as goal

pub loop-i-init : goal.loop-i-init
unfolding workers_moved
loop-i-init c = refl

pub loop-i-preserved : goal.loop-i-preserved
unfolding workers_moved
loop-i-preserved c = rw (add-one c.loop-i.i, ← c.loop-i.invariant) c.move_worker.ensures
