-- What a program does with one word of its input: what is printed, where it is then, and the pool's words.
-- A position is counted modulo 2^64, which no file reaches.
use Rattle.std.specs.Prelude.{ℕ, ◌+◌, ◌%◌, ◌^◌, List}
use Rattle.runfile.specs.declared.word.Read.{Read}
use Rattle.runfile.specs.declared.item.Place.TheVariants.{First}
use Rattle.replay.specs.Replay.{next_of, place_after, Next, goes, ends}
use Rattle.tally.specs.Tally.{no_tally, tallied}
use Rattle.printing.specs.Printings.{event_printed, end_printed}
use Rattle.printing.specs.Outputs.{printed_by}
use Rattle.printing.specs.declared.printed.Output.{Output}
use Rattle.rules.specs.declared.Refusal.{Refusal}
use Rattle.printing.specs.declared.printed.Mode.{Mode}
use Rattle.printing.specs.declared.printed.Printed.{Printed}
use Rattle.turns.specs.declared.Printer.{Printer}
use Rattle.turns.specs.declared.Turn.{Turn}

abbrev pub new_printer : Printer
new_printer = record { place = First; position = 0; tally = no_tally }

-- what is printed, and where the program is then
pub record Printing : Type 0 where
  pub printer : Printer
  pub printed : Printed

-- that, and the pool's words
pub record Turned : Type 0 where
  pub turn : Printing
  pub words : List ℕ

-- the output of a program that is where its printer says, with the pool's words
abbrev pub shown : Mode → List ℕ → Printer → Output Refusal → Printed
shown m ws p x = printed_by (λ fault. end_printed m p.tally p.position fault ws) x

-- the code's turn, with the pool's words after it
abbrev pub printing : Mode → Turn → List ℕ → Printing
printing m t ws = record { printer = t.printer; printed = shown m ws t.printer t.output }

abbrev pub turned : Mode → Turn → List ℕ → Turned
turned m t ws = record { turn = printing m t ws; words = ws }

unfoldable pub turn_by : Mode → List ℕ → Printer → Next → Printing
turn_by m ws p (goes e) =
    let t = tallied p.tally e in
    record {
      printer = record { place = place_after e.item e.answer; position = (p.position + 1) % 2 ^ 64; tally = t };
      printed = event_printed m t e;
    }
turn_by m ws p (ends fault) = record { printer = p; printed = end_printed m p.tally p.position fault ws }

unfoldable pub turn_of : Mode → List ℕ → Printer → Read → Turned
turn_of m ws p read =
    let r = next_of ws p.place p.position read in
    record { turn = turn_by m r.words p r.next; words = r.words }
