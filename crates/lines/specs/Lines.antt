-- The lines of a listing, as bytes: numbers in decimal with single spaces, and a newline.
use Rattle.std.specs.Prelude.{ℕ, zero, suc, ◌+◌, ◌/◌, ◌%◌, List, [], ◌∷◌, ◌++◌, eqb}
use Rattle.laws.specs.Choice.{cond}
use Rattle.lines.specs.Text.{ascii}
use Rattle.lines.specs.declared.line.Entry.{Entry}

abbrev pub space : ℕ
space = 32

abbrev pub newline : ℕ
newline = 10

-- the byte of "0"
abbrev pub zero_digit : ℕ
zero_digit = 48

-- the last decimal digit of a number
abbrev pub digit : ℕ → ℕ
digit x = zero_digit + x % 10

-- the last `most` digits of a number, with no leading zero
unfoldable pub digits_of : ℕ → ℕ → List ℕ
digits_of zero x = []
digits_of (suc most) x =
    let front = digits_of most (x / 10) ++ (digit x ∷ []) in
    cond (eqb (x / 10) 0) (digit x ∷ []) front

-- a number x has at most 1 + x digits
unfoldable pub decimal : ℕ → List ℕ
decimal x = digits_of (suc x) x

-- the byte after a number: a space, and a newline after the last
abbrev pub after_of : List ℕ → ℕ
after_of [] = newline
after_of (x ∷ xs) = space

-- the numbers in decimal
unfoldable pub line_of : List ℕ → List ℕ
line_of [] = []
line_of (x ∷ xs) = decimal x ++ (after_of xs ∷ line_of xs)

-- word position, number, worker, value, sub, row, stamp, distance
abbrev pub numbers_of : Entry → List ℕ
numbers_of e =
    e.position ∷ e.number ∷ e.worker ∷ e.value ∷ e.sub ∷ e.row.0 ∷ e.stamp.0 ∷ e.distance ∷ []

abbrev pub held_text : List ℕ
held_text = ascii "held "

abbrev pub worst_text : List ℕ
worst_text = ascii " worst "

-- "held" H "worst" D: items held and the greatest distance
unfoldable pub closing_of : ℕ → ℕ → List ℕ
closing_of held worst = held_text ++ (decimal held ++ (worst_text ++ line_of (worst ∷ [])))
