use Rattle.std.proofs.Common.{arith}
use Rattle.std.proofs.lemmas.Grind.{common_steps}
use Rattle.laws.specs.Choice.{cond}
use Rattle.program.specs.Ran.{over}
use Rattle.program.proofs.run.is_over.Goals as goal

pub returns-then-run-3 : goal.returns-then-run-3
unfolding over cond
returns-then-run-3 c = grind (arith, common_steps)

pub returns-else-run-3 : goal.returns-else-run-3
unfolding over cond
returns-else-run-3 c = grind (arith, common_steps)
