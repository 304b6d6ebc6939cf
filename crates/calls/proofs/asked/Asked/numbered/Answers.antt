-- `Asked::numbered` meets its contract: each number picks its branch of `asked_numbered`, and a number that is none of them the last one.
use Rattle.std.proofs.Common.{refl}
use Rattle.laws.specs.Choice.{cond}
use Rattle.laws.specs.Tests.{tests}
use Rattle.calls.proofs.asked.Asked.numbered.Goals as goal

pub returns-in-0 : goal.returns-in-0
unfolding cond
returns-in-0 c = rw c.in-0.is refl

pub returns-in-1 : goal.returns-in-1
unfolding cond
returns-in-1 c = rw c.in-1.is refl

pub returns-in-3 : goal.returns-in-3
unfolding cond
returns-in-3 c = rw c.in-3.is refl

pub returns-in_default : goal.returns-in_default
unfolding cond
returns-in_default c = search (tests, c.in_default)
