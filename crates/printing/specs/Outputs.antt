-- What the code hands on of a word is small: of an event its line, of the file's end the fault alone. What is printed of the end hangs on all that was counted, so it is
-- made where its text is.
use Rattle.std.specs.Prelude.{Bool, true, false, ◌≡◌, Option}
use Rattle.printing.specs.declared.printed.Output.{Output}
use Rattle.printing.specs.declared.printed.Output.TheVariants.{Quiet, Line as LineOut, Last as LastOut, End}
use Rattle.printing.specs.declared.printed.Printed.{Printed}
use Rattle.printing.specs.declared.printed.Printed.TheVariants.{Nothing, Line, Last}

-- what is printed, by what is printed of the end at a fault
abbrev pub printed_by : {R : Type 0} → (Option R → Printed) → Output R → Printed
printed_by end Quiet = Nothing
printed_by end (LineOut e) = Line e
printed_by end (LastOut e) = Last e
printed_by end (End fault) = end fault

-- an event's output: no end
abbrev pub Outputs : {R : Type 0} → Output R → Printed → Type 0
Outputs {R} x printed = (end : Option R → Printed) → printed_by end x ≡ printed

-- whether a program stops after it
abbrev pub stops_after : {R : Type 0} → Output R → Bool
stops_after Quiet = false
stops_after (LineOut e) = false
stops_after (LastOut e) = true
stops_after (End fault) = true
