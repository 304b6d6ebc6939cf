-- `lines::summary::put_counts` meets its contract: the template has a mark for each number, and the area room for them. Assumes nothing.
use Rattle.std.proofs.Common.{refl, arith}
use Rattle.laws.specs.Choice.{cond}
use Rattle.lines.specs.Templates.{marks}
use Rattle.lines.specs.Summary.{counts_text, counts_lines}
use Rattle.lines.proofs.Summaries.{filled_counts_most}
use Rattle.lines.proofs.summary.put_counts.Goals as goal

pub put_filled-requires-clause-a_number_each : goal.put_filled-requires-clause-a_number_each
unfolding marks cond
put_filled-requires-clause-a_number_each g c = refl

pub put_filled-requires-clause-room : goal.put_filled-requires-clause-room
unfolding marks cond
put_filled-requires-clause-room g c = omega (arith, filled_counts_most counts_text c.args.s refl (omega (arith, c.well_formed)), c.requires)

pub returns : goal.returns
unfolding counts_lines
returns g c = c.put_filled.ensures
