-- `lines::summary::put_first` meets its contract: each case of the fault is that of the definition, and the first line has room. Assumes nothing.
use Rattle.std.proofs.Common.{arith}
use Rattle.lines.proofs.Summaries.{faulty_marks, faulty_most_by, first_most_by}
use Rattle.lines.proofs.summary.put_first.Goals as goal

pub put_filled-requires-clause-a_number_each : goal.put_filled-requires-clause-a_number_each
put_filled-requires-clause-a_number_each g c = faulty_marks

pub put_filled-requires-clause-room : goal.put_filled-requires-clause-room
put_filled-requires-clause-room g c =
    omega (arith, faulty_most_by c.from.result c.args.s.words c.from.type_inv (omega (arith, c.well_formed)), c.requires)

pub returns-in-Some-clause-short : goal.returns-in-Some-clause-short
returns-in-Some-clause-short g c =
    first_most_by g.R.RefusalNumber.number c.args.s (rw c.in-Some.is (omega (arith, c.from.type_inv, c.from.ensures, c.number.ensures))) (omega (arith, c.well_formed))
