-- `step::apply::apply` meets its contract: in each arm the outcome picks the same case of `apply_by`, and each call stands for what it ensures; a commit's outcomes
-- do not come here.
use Rattle.rules.specs.Apply.{apply_by, apply_of}
use Rattle.step.proofs.apply.apply.Goals as goal

pub returns-in-Refused : goal.returns-in-Refused
unfolding apply_of apply_by
returns-in-Refused c = simp c.in-Refused.is

pub returns-in-Moving : goal.returns-in-Moving
unfolding apply_of apply_by
returns-in-Moving c = simp (c.put_worker.ensures, c.in-Moving.is)

pub returns-in-Shifted : goal.returns-in-Shifted
unfolding apply_of apply_by
returns-in-Shifted c = simp (c.put_worker-in-Shifted.ensures, c.put_shifted.ensures, c.in-Shifted.is)

pub returns-in-Raised : goal.returns-in-Raised
unfolding apply_of apply_by
returns-in-Raised c = simp (c.put_worker-in-Raised.ensures, c.put_raised.ensures, c.in-Raised.is)

pub returns-in-Dropped : goal.returns-in-Dropped
unfolding apply_of apply_by
returns-in-Dropped c = simp (c.put_worker-in-Dropped.ensures, c.put_dropped.ensures, c.in-Dropped.is)

pub returns-in-Empty : goal.returns-in-Empty
unfolding apply_of apply_by
returns-in-Empty c = simp (c.put_worker-in-Empty.ensures, c.in-Empty.is)

pub returns-in-Full : goal.returns-in-Full
unfolding apply_of apply_by
returns-in-Full c = simp (c.put_worker-in-Full.ensures, c.in-Full.is)
