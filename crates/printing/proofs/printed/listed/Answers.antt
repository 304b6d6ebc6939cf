-- `printing::printed::listed` meets its contract: a take alone is tested, for no other answer has a distance. Assumes nothing.
use Rattle.std.proofs.Common.{◌≡◌, ℕ, Bool, true, false, Option, refl, arith, ltb, le-ltb}
use Rattle.laws.specs.Choice.{cond}
use Rattle.lines.specs.declared.line.Entry.{Entry}
use Rattle.printing.specs.Printings.{answer_printed_by, listed_by}
use Rattle.printing.specs.Outputs.{printed_by}
use Rattle.printing.specs.declared.printed.Output.TheVariants.{Line as LineOut, Last as LastOut}
use Rattle.printing.specs.declared.printed.Printed.{Printed}
use Rattle.printing.specs.declared.printed.Printed.TheVariants.{Line, Last}
use Rattle.printing.proofs.printed.listed.Goals as goal

-- no bound is below 0
near : (bound : ℕ) → ltb bound 0 ≡ false
near bound = le-ltb bound 0 (omega arith)

either_printed : {R : Type 0} (end : Option R → Printed) (over : Bool) (last line : Entry) → printed_by end (cond over (LastOut last) (LineOut line)) ≡ cond over (Last last) (Line line)
unfolding cond
either_printed end true last line = refl
either_printed end false last line = refl

pub returns-in-Moving : goal.returns-in-Moving
unfolding listed_by answer_printed_by cond
returns-in-Moving g c = λ end. simp (near, c.in-Ok.is, c.in-Moving.is)

pub returns-in-Put : goal.returns-in-Put
unfolding listed_by answer_printed_by cond
returns-in-Put g c = λ end. simp (near, c.plain_of-in-Put.ensures, c.in-Ok.is, c.in-Put.is)

pub returns-in-Taken : goal.returns-in-Taken
unfolding listed_by answer_printed_by
returns-in-Taken g c = λ end. simp (c.taken_line.ensures, c.plain_of-in-Taken.ensures, c.in-Ok.is, c.in-Taken.is) (either_printed end _ _ _)

pub returns-in-Empty : goal.returns-in-Empty
unfolding listed_by answer_printed_by cond
returns-in-Empty g c = λ end. simp (near, c.plain_of-in-Empty.ensures, c.in-Ok.is, c.in-Empty.is)

pub returns-in-Full : goal.returns-in-Full
unfolding listed_by answer_printed_by cond
returns-in-Full g c = λ end. simp (near, c.plain_of-in-Full.ensures, c.in-Ok.is, c.in-Full.is)

pub returns-in-Err : goal.returns-in-Err
unfolding listed_by answer_printed_by cond
returns-in-Err g c = λ end. simp (near, c.plain_of.ensures, c.number.ensures, c.in-Err.is)
