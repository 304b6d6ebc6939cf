-- `Refusal::numbered` meets its contract: each number picks its branch of `refusal_numbered`, and a number that is none of them the last one.
use Rattle.std.proofs.Common.{refl}
use Rattle.laws.specs.Choice.{cond}
use Rattle.laws.specs.Tests.{tests}
use Rattle.rules.proofs.Refusal.numbered.Goals as goal

pub returns-in-21 : goal.returns-in-21
unfolding cond
returns-in-21 c = rw c.in-21.is refl

pub returns-in-22 : goal.returns-in-22
unfolding cond
returns-in-22 c = rw c.in-22.is refl

pub returns-in-23 : goal.returns-in-23
unfolding cond
returns-in-23 c = rw c.in-23.is refl

pub returns-in-24 : goal.returns-in-24
unfolding cond
returns-in-24 c = rw c.in-24.is refl

pub returns-in-25 : goal.returns-in-25
unfolding cond
returns-in-25 c = rw c.in-25.is refl

pub returns-in-26 : goal.returns-in-26
unfolding cond
returns-in-26 c = rw c.in-26.is refl

pub returns-in-27 : goal.returns-in-27
unfolding cond
returns-in-27 c = rw c.in-27.is refl

pub returns-in-28 : goal.returns-in-28
unfolding cond
returns-in-28 c = rw c.in-28.is refl

pub returns-in-29 : goal.returns-in-29
unfolding cond
returns-in-29 c = rw c.in-29.is refl

pub returns-in-30 : goal.returns-in-30
unfolding cond
returns-in-30 c = rw c.in-30.is refl

pub returns-in-31 : goal.returns-in-31
unfolding cond
returns-in-31 c = rw c.in-31.is refl

pub returns-in-32 : goal.returns-in-32
unfolding cond
returns-in-32 c = rw c.in-32.is refl

pub returns-in_default : goal.returns-in_default
unfolding cond
returns-in_default c = search (tests, c.in_default)
