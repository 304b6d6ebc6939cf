-- How far the printing of a file is: what has been written of it, and what is to come.
use Rattle.std.specs.Prelude.{ℕ, ◌+◌, ◌*◌, ◌-◌, ◌/◌, Bool, true, false, List, [], ◌++◌, ◌≡◌, length, take}
use Rattle.runfile.specs.Words.{word_bytes}
use Rattle.printing.specs.Print.{text_of, print_of}
use Rattle.turns.specs.Turns.{turns_from}
use Rattle.pieces.specs.Stretch.{Stretched}
use Rattle.printing.specs.declared.printed.Mode.{Mode}
use Rattle.turns.specs.declared.Printer.{Printer}

-- a text and what the turns from word k on will print are what is printed of the file; a complete one is that by itself
abbrev pub ToCome : Mode → Bool → List ℕ → ℕ → List ℕ → List ℕ → Printer → Type 0
ToCome m true bytes k text ws p = text ≡ print_of m bytes
ToCome m false bytes k text ws p = text ++ text_of (turns_from m (length bytes / word_bytes + 1 - k) bytes k ws p) ≡ print_of m bytes

-- a stretch at word k of a file, where `written` is what was written before what its output holds
abbrev pub Progress : Mode → List ℕ → ℕ → List ℕ → Stretched → Type 0
Progress m bytes k written s =
    ToCome m s.stretch.complete bytes k (written ++ take s.stretch.used s.out) s.words s.stretch.printer

-- the bytes of a file from word p on: `src`, and `behind` it none where `src` is the last piece
pub record Piece (bytes : List ℕ) (p : ℕ) (src : List ℕ) (last : Bool) : Type 0 where
  pub front : List ℕ
  pub behind : List ℕ
  pub words : length front ≡ word_bytes * p
  pub whole : bytes ≡ front ++ (src ++ behind)
  pub none : last ≡ true → behind ≡ []
