-- `dispatcher::ended` meets its contract: at each return the test that led there picks the same branch of `ended_of`.
use borrow.Author.Tests.{le-leb, lt-leb}
use Rattle.rounds.specs.Dispatch.{ended_of}
use Rattle.laws.specs.Choice.{cond}
use Rattle.dispatcher.proofs.ended.Goals as goal

pub returns-then-n-le4 : goal.returns-then-n-le4
unfolding ended_of cond
returns-then-n-le4 c = simp (le-leb _ _ c.if-n-le4.true, ← c.final_answer.ensures)

pub returns-else-n-le4 : goal.returns-else-n-le4
unfolding ended_of cond
returns-else-n-le4 c = simp (lt-leb _ _ c.if-n-le4.false, c.numbered.ensures)
