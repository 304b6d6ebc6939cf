-- The lines of a summary, as bytes.
use Rattle.std.specs.Prelude.{ℕ, List, [], ◌∷◌, ◌++◌, Option, None, Some}
use Rattle.rules.specs.Limits.{step_limit}
use Rattle.lines.specs.Text.{ascii}
use Rattle.lines.specs.Templates.{filled}
use Rattle.lines.specs.declared.summary.Summary.{Summary}

-- "whole or faulty"
abbrev pub whole_text : List ℕ
whole_text = ascii "whole\n"

abbrev pub faulty_text : List ℕ
faulty_text = ascii "faulty # at #\n"

-- a fault's number is that of what stands for it
abbrev pub first_line_of : {R : Type 0} → (R → ℕ) → Option R → ℕ → List ℕ
first_line_of number None words = whole_text
first_line_of number (Some fault) words = filled faulty_text (number fault ∷ words ∷ [])

abbrev pub first_line : {R : Type 0} → (R → ℕ) → Summary R → List ℕ
first_line number s = first_line_of number s.fault s.words

-- the other lines
abbrev pub counts_text : List ℕ
counts_text = ascii "words #\nput # taken # empty # full # refused #\nheld #\nworst # bound #\nlost #\nsteps # of #\n"

abbrev pub counts_of : {R : Type 0} → Summary R → List ℕ
counts_of s =
    s.words ∷ s.puts ∷ s.takes ∷ s.empties ∷ s.fulls ∷ s.refused ∷ s.held ∷ s.worst ∷ s.bound ∷ s.lost ∷ s.steps ∷ step_limit ∷ []

unfoldable pub counts_lines : {R : Type 0} → Summary R → List ℕ
counts_lines s = filled counts_text (counts_of s)

unfoldable pub summary_text : {R : Type 0} → (R → ℕ) → Summary R → List ℕ
summary_text number s = first_line number s ++ counts_lines s

-- room for the first line, and an area for all
abbrev pub first_line_bytes : ℕ
first_line_bytes = 64

abbrev pub summary_bytes : ℕ
summary_bytes = 512
