-- A stretch of what a program prints: the words of lent bytes, a turn for each, and what the turns print as text in lent output.
use Rattle.std.specs.Prelude.{ℕ, zero, suc, ◌+◌, ◌-◌, ◌/◌, Bool, false, List, leb, length}
use Rattle.std.proofs.Math.Seq.{paste}
use Rattle.laws.specs.Choice.{cond}
use Rattle.runfile.specs.Words.{word_bytes, read_at}
use Rattle.lines.specs.Summary.{summary_bytes}
use Rattle.printing.specs.Printings.{ends_with, printed_text}
use Rattle.turns.specs.Turn.{Turned, new_printer, turn_of}
use Rattle.printing.specs.declared.printed.Mode.{Mode}
use Rattle.pieces.specs.declared.stretch.Stretch.{Stretch}

-- before a file's first word
abbrev pub new_stretch : Stretch
new_stretch = record { printer = new_printer; at = 0; used = 0; complete = false }

-- a text in an output at `used`
abbrev pub put_at : List ℕ → ℕ → List ℕ → List ℕ
put_at out used text = paste out used text (length text)

-- a stretch, with the pool's words and the output
pub record Stretched : Type 0 where
  pub stretch : Stretch
  pub words : List ℕ
  pub out : List ℕ

abbrev pub stretched : Stretch → List ℕ → List ℕ → Stretched
stretched s ws out = record { stretch = s; words = ws; out = out }

-- a turn, with its text
abbrev pub turn_put : Stretched → Turned → Stretched
turn_put s t =
    record {
      stretch =
          record {
            printer = t.turn.printer;
            at = s.stretch.at + 1;
            used = s.stretch.used + length (printed_text t.turn.printed);
            complete = ends_with t.turn.printed;
          };
      words = t.words;
      out = put_at s.out s.stretch.used (printed_text t.turn.printed);
    }

unfoldable pub stretch_turn : Mode → List ℕ → Stretched → Stretched
stretch_turn m src s = turn_put s (turn_of m s.words s.stretch.printer (read_at src s.stretch.at))

-- what one turn prints has at most so many bytes: a line, or a summary
abbrev pub turn_bytes : ℕ
turn_bytes = summary_bytes

-- a stretch goes on until it is complete, and while the output has room for a turn
unfoldable pub goes_on : Stretch → ℕ → Bool
goes_on s room = cond s.complete false (leb (s.used + turn_bytes) room)

-- at most n turns
unfoldable pub stretch_from : Mode → ℕ → List ℕ → Stretched → Stretched
stretch_from m zero src s = s
stretch_from m (suc n) src s = cond (goes_on s.stretch (length s.out)) (stretch_from m n src (stretch_turn m src s)) s

-- the turns of lent bytes: one for each whole word, and one for the end of the file where they are its last
abbrev pub turns_in : List ℕ → Bool → ℕ
turns_in src last = cond last (length src / word_bytes + 1) (length src / word_bytes)

unfoldable pub stretch_of : Mode → List ℕ → Bool → Stretched → Stretched
stretch_of m src last s = stretch_from m (turns_in src last - s.stretch.at) src s
