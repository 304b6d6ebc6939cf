-- `step::answers::final_answer` meets its contract: each number picks its branch of `final_of`, and a number that is none of them the last one.
use Rattle.laws.specs.Choice.{cond}
use Rattle.laws.specs.Tests.{tests}
use Rattle.rules.specs.Answers.{final_of}
use Rattle.step.proofs.answers.final_answer.Goals as goal

pub returns-in-1 : goal.returns-in-1
unfolding final_of cond
returns-in-1 c = simp c.in-1.is

pub returns-in-2 : goal.returns-in-2
unfolding final_of cond
returns-in-2 c = simp c.in-2.is

pub returns-in-3 : goal.returns-in-3
unfolding final_of cond
returns-in-3 c = simp c.in-3.is

pub returns-in_default : goal.returns-in_default
unfolding final_of cond
returns-in_default c = search (tests, c.in_default)
