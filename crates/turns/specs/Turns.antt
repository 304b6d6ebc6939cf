-- A program over a file's bytes, one word at a time.
use Rattle.std.specs.Prelude.{ℕ, zero, suc, ◌+◌, ◌/◌, List, [], length}
use Rattle.runfile.specs.Words.{word_bytes, read_at}
use Rattle.replay.specs.Replay.{lent}
use Rattle.printing.specs.Print.{print_then}
use Rattle.turns.specs.Turn.{new_printer, turn_of}
use Rattle.printing.specs.declared.printed.Mode.{Mode}
use Rattle.printing.specs.declared.printed.Printed.{Printed}
use Rattle.turns.specs.declared.Printer.{Printer}

-- what n turns print, from word position `at` on
unfoldable pub turns_from : Mode → ℕ → List ℕ → ℕ → List ℕ → Printer → List Printed
turns_from m zero bytes at ws p = []
turns_from m (suc n) bytes at ws p =
    print_then (turn_of m ws p (read_at bytes at)).turn.printed
    (turns_from m n bytes (at + 1) (turn_of m ws p (read_at bytes at)).words (turn_of m ws p (read_at bytes at)).turn.printer)

-- a turn for each whole word, and one for the end of the file
unfoldable pub turns_of : Mode → List ℕ → List Printed
turns_of m bytes = turns_from m (length bytes / word_bytes + 1) bytes 0 lent new_printer
