-- `moves::move_worker` meets its contract: the loop's invariant is that the first k words are moved, to where the worker lies in the target.
use Rattle.std.proofs.Common.{refl, add-one}
use Rattle.turnaround.specs.Move.{worker_moved}
use Rattle.moves.proofs.move_worker.Goals as goal

pub loop-k-init : goal.loop-k-init
unfolding worker_moved
loop-k-init c = λ h e. refl

pub loop-k-preserved : goal.loop-k-preserved
unfolding worker_moved
loop-k-preserved c = λ h e. rw (add-one c.loop-k.k, ← c.loop-k.invariant h e, ← e, c.word_in.ensures)
