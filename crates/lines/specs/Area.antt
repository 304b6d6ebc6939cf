-- Text that fills the end of an area.
use Rattle.std.specs.Prelude.{ℕ, ◌-◌, List, [], ◌++◌, length, take, ltb}
use Rattle.laws.specs.Choice.{cond}

-- an area that a text ends: its bytes before the text, and the text
pub record Written : Type 0 where
  pub room : List ℕ
  pub text : List ℕ

abbrev pub written : List ℕ → List ℕ → Written
written room text = record { room = room; text = text }

-- a piece put just before the text; the bytes before the piece stay
abbrev pub put : Written → List ℕ → Written
put w piece = written (take (length w.room - length piece) w.room) (piece ++ w.text)

-- a line's area has 96 bytes
abbrev pub line_bytes : ℕ
line_bytes = 96

-- a piece put, and nothing written where there are fewer bytes than such a piece may need
unfoldable pub put_last : ℕ → Written → List ℕ → Written
put_last most w piece = cond (ltb (length w.room) most) w (put w piece)

-- what is then handed back of the area: the part that holds the text, and nothing where the area has fewer bytes
unfoldable pub used_part : ℕ → List ℕ → List ℕ → List ℕ
used_part most area text = cond (ltb (length area) most) [] text
