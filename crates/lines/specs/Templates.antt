-- A text with numbers in it: each mark of a template stands for the next number, in decimal.
use Rattle.std.specs.Prelude.{ℕ, ◌+◌, List, [], ◌∷◌, ◌++◌, eqb, get_or, drop}
use Rattle.laws.specs.Choice.{cond}
use Rattle.lines.specs.Lines.{decimal}

-- the byte of "#"
abbrev pub mark : ℕ
mark = 35

unfoldable pub filled : List ℕ → List ℕ → List ℕ
filled [] numbers = []
filled (b ∷ bs) numbers = cond (eqb b mark) (decimal (get_or numbers 0 0) ++ filled bs (drop 1 numbers)) (b ∷ filled bs numbers)

-- how many marks a template has
unfoldable pub marks : List ℕ → ℕ
marks [] = 0
marks (b ∷ bs) = cond (eqb b mark) 1 0 + marks bs
