-- `moves::move_head` meets its contract: the head and the subs are as long in both areas, and the copy and the store are the definition's.
use Rattle.turnaround.specs.Move.{head_moved}
use Rattle.moves.proofs.move_head.Goals as goal

pub returns : goal.returns
unfolding head_moved
returns c = simp (c.copy.ensures, c.sub_at.ensures)
