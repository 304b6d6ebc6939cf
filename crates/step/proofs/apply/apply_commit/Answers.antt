-- `step::apply::apply_commit` meets its contract: in each arm the outcome picks the same case of `apply_by`, and each call stands for what it ensures; no commit has the
-- other outcomes.
use Rattle.rules.specs.Apply.{apply_by, apply_of}
use Rattle.step.proofs.apply.apply_commit.Goals as goal

pub returns-in-Refused : goal.returns-in-Refused
unfolding apply_of apply_by
returns-in-Refused c = simp c.in-Refused.is

pub returns-in-Lost : goal.returns-in-Lost
unfolding apply_of apply_by
returns-in-Lost c = simp (c.put_worker.ensures, c.count_lost.ensures, c.in-Lost.is)

pub returns-in-Landed : goal.returns-in-Landed
unfolding apply_of apply_by
returns-in-Landed c = simp (c.put_worker-in-Landed.ensures, c.put_landed.ensures, c.in-Landed.is)

pub returns-in-Removed : goal.returns-in-Removed
unfolding apply_of apply_by
returns-in-Removed c = simp (c.put_worker-in-Removed.ensures, c.put_sub.ensures, c.taken-answer.ensures, c.in-Removed.is)
