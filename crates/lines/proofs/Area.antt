-- Text put before text is the two in a row, so a line is put piece by piece from its end (`put_put`). Where there may be too little room for a text nothing is
-- put (`last_none`, `last_put`), and what is handed back is the used part (`text_last`).
use Rattle.std.proofs.Common.{◌≡◌, ℕ, ◌-◌, ◌<◌, ◌≤◌, ltb, List, [], ◌++◌, length, append_assoc, append-nil, ap, ◌∙◌, arith, length-append}
use Rattle.std.proofs.Math.Seq.{take-length, length-take-le, take-take}
use borrow.Author.Tests.{lt-ltb, le-ltb}
use Rattle.laws.specs.Choice.{cond, cases, cond_under}
use Rattle.lines.specs.Area.{Written, written, put, put_last, used_part}

-- as many bytes fewer are before the text as the piece has
pub put_room : (w : Written) (piece : List ℕ) → length (put w piece).room ≡ length w.room - length piece
put_room w piece = length-take-le (length w.room - length piece) w.room (omega arith)

pub put_put : (w : Written) (text piece : List ℕ) → put (put w text) piece ≡ put w (piece ++ text)
put_put w text piece =
    let left = length w.room - length text in
    let both : left - length piece ≡ length w.room - length (piece ++ text) = omega (arith, length-append piece text) in
    rw (put_room w text, take-take (left - length piece) left w.room (omega arith), both) (simp append_assoc)

-- nothing is put
pub put_none : (w : Written) → put w [] ≡ w
put_none w = let all : length w.room - 0 ≡ length w.room = omega arith in rw (all, take-length w.room)

-- ---- a piece that is put where there is room for the longest
module _ (most : ℕ) (w : Written) (piece : List ℕ) where
  pub last_none : length w.room < most → w ≡ put_last most w piece
  unfolding put_last cond
  last_none h = simp (lt-ltb _ _ h)

  pub last_put : most ≤ length w.room → put w piece ≡ put_last most w piece
  unfolding put_last cond
  last_put h = simp (le-ltb _ _ h)

-- ---- what is handed back of an area
-- a text that is put into an area with none is the used part
pub text_last : (most : ℕ) (area : List ℕ) (empty now : Written) (text : List ℕ) → empty ≡ written area [] → now ≡ put_last most empty text
    → now.text ≡ used_part most area text
unfolding put_last used_part
text_last most area empty now text e e' =
    let none = written area [] in
    ap (λ (w : Written). w.text) e'
    ∙ (ap (λ (w : Written). (put_last most w text).text) e ∙ (cond_under (λ (w : Written). w.text) (ltb (length area) most) none (put none text) ∙ rw (append-nil text)))

-- the used part is no longer than the longest text
pub used_most : (most : ℕ) (area text : List ℕ) → length text ≤ most → length (used_part most area text) ≤ most
unfolding used_part
used_most most area text fits = cases (λ (l : List ℕ). length l ≤ most) (ltb (length area) most) [] text (λ _. omega arith) (λ _. fits)
