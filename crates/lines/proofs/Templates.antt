-- A filled template in two parts: each part filled with its own numbers (`filled_append`), so the last byte or number can be put before what is behind it
-- (`byte_step`, `mark_step`). It is at most 20 bytes for each number longer than the template (`filled_most`).
use Rattle.std.proofs.Common.{◌≡◌, ℕ, suc, ◌+◌, ◌*◌, ◌^◌, ◌<◌, ◌≤◌, Bool, true, false, eqb, List, [], ◌∷◌, ◌++◌, length, drop, refl, sym, ap, ◌∙◌, arith, length-append, append_assoc, append-nil}
use Rattle.std.proofs.Math.Seq.{drop-length}
use Rattle.std.proofs.lemmas.List.{nil_from_length}
use borrow.Author.Tests.{eq-eqb, ne_eqb, eqb-true, eqb-false}
use Rattle.laws.specs.Choice.{cond}
use Rattle.rules.specs.Statement.{All}
use Rattle.lines.specs.Lines.{decimal}
use Rattle.lines.specs.Area.{Written, put}
use Rattle.lines.specs.Templates.{mark, filled, marks}
use Rattle.lines.proofs.Area.{put_put, put_none, put_room}
use Rattle.lines.proofs.Behind.{last_taken}
use Rattle.lines.proofs.Decimal.{decimal_most}

-- ---- a byte, and a mark
filled_mark : (b : ℕ) (bs : List ℕ) (x : ℕ) (xs : List ℕ) → b ≡ mark → filled (b ∷ bs) (x ∷ xs) ≡ decimal x ++ filled bs xs
unfolding filled cond
filled_mark b bs x xs e = simp (eq-eqb b mark e)

filled_byte : (b : ℕ) (bs xs : List ℕ) → (b ≡ mark → ⊥) → filled (b ∷ bs) xs ≡ b ∷ filled bs xs
unfolding filled cond
filled_byte b bs xs e = simp (ne_eqb b mark e)

marks_mark : (b : ℕ) (bs : List ℕ) → b ≡ mark → marks (b ∷ bs) ≡ 1 + marks bs
unfolding marks cond
marks_mark b bs e = simp (eq-eqb b mark e)

marks_byte : (b : ℕ) (bs : List ℕ) → (b ≡ mark → ⊥) → marks (b ∷ bs) ≡ marks bs
unfolding marks cond
marks_byte b bs e = simp (ne_eqb b mark e) (omega arith)

no_marks : marks [] ≡ 0
unfolding marks
no_marks = refl

filled_none : (xs : List ℕ) → filled [] xs ≡ []
unfolding filled
filled_none xs = refl

-- ---- two parts
marks_append : (front bs : List ℕ) → marks (front ++ bs) ≡ marks front + marks bs
unfolding marks
marks_append [] bs = omega arith
marks_append (a ∷ front) bs = omega (arith, marks_append front bs)

append_by : (a : ℕ) (front bs xs ys : List ℕ) (t : Bool) → eqb a mark ≡ t → marks (a ∷ front) ≡ length xs
    → ((xs' : List ℕ) → marks front ≡ length xs' → filled (front ++ bs) (xs' ++ ys) ≡ filled front xs' ++ filled bs ys)
    → filled (a ∷ (front ++ bs)) (xs ++ ys) ≡ filled (a ∷ front) xs ++ filled bs ys
append_by a front bs [] ys true t e ih = absurd (omega (arith, marks_mark a front (eqb-true a mark t)))
append_by a front bs (x ∷ xs) ys true t e ih =
    let is = eqb-true a mark t in
    let rest = ih xs (omega (arith, marks_mark a front is)) in
    filled_mark a (front ++ bs) x (xs ++ ys) is ∙ (rw (rest, filled_mark a front x xs is) (simp append_assoc))
append_by a front bs xs ys false t e ih =
    let no = eqb-false a mark t in
    let rest = ih xs (omega (arith, marks_byte a front no)) in
    filled_byte a (front ++ bs) (xs ++ ys) no ∙ rw (rest, filled_byte a front xs no)

filled_append : (front bs xs ys : List ℕ) → marks front ≡ length xs → filled (front ++ bs) (xs ++ ys) ≡ filled front xs ++ filled bs ys
filled_append [] bs [] ys e = rw (filled_none [])
filled_append [] bs (x ∷ xs) ys e = absurd (omega (arith, no_marks))
filled_append (a ∷ front) bs xs ys e = append_by a front bs xs ys _ refl e (λ xs' e'. filled_append front bs xs' ys e')

-- ---- the text is put from one of its bytes and one of its numbers on
-- `bytes` and `numbers` are what is left of the template and of its numbers
pub record Behind (w now : Written) (bs xs bytes numbers : List ℕ) : Type 0 where
  pub bytes_all : bytes ++ drop (length bytes) bs ≡ bs
  pub numbers_all : numbers ++ drop (length numbers) xs ≡ xs
  pub a_number_each : marks bytes ≡ length numbers
  pub stands : now ≡ put w (filled (drop (length bytes) bs) (drop (length numbers) xs))

pub behind_none : (w : Written) (bs xs : List ℕ) → marks bs ≡ length xs → Behind w w bs xs bs xs
behind_none w bs xs e =
    record {
      bytes_all = rw drop-length (append-nil bs);
      numbers_all = rw drop-length (append-nil xs);
      a_number_each = e;
      stands = rw (drop-length bs, filled_none) (sym (put_none w));
    }

pub behind_all : (w now : Written) (bs xs bytes numbers : List ℕ) → Behind w now bs xs bytes numbers → length bytes ≡ 0 → now ≡ put w (filled bs xs)
behind_all w now bs xs bytes numbers h e =
    let empty = nil_from_length bytes e in
    let none : length numbers ≡ 0 = omega (arith, ap marks empty, h.a_number_each, no_marks) in
    rw (e, none) at h.stands

module _ (w now : Written) (bs xs bytes numbers : List ℕ) (h : Behind w now bs xs bytes numbers) (room : length (filled bs xs) ≤ length w.room) where
  behind_text : List ℕ
  behind_text = filled (drop (length bytes) bs) (drop (length numbers) xs)

  -- there is room for the last piece of what is left, filled
  piece_room : (front piece : List ℕ) → filled bytes numbers ≡ front ++ piece → length piece ≤ length now.room
  unfolding behind_text
  piece_room front piece e =
      let parts = filled_append bytes (drop (length bytes) bs) numbers (drop (length numbers) xs) h.a_number_each in
      let whole : filled bs xs ≡ filled bytes numbers ++ behind_text = (rw (h.bytes_all, h.numbers_all) at parts) in
      let here = ap (λ (t : Written). length t.room) h.stands ∙ put_room w behind_text in
      omega (arith, simp length-append at (ap length whole), simp length-append at (ap length e))

  piece_put : (piece : List ℕ) → put now piece ≡ put w (piece ++ behind_text)
  unfolding behind_text
  piece_put piece = ap (λ (t : Written). put t piece) h.stands ∙ put_put w behind_text piece

  module _ (rest : List ℕ) (b : ℕ) (last : bytes ≡ rest ++ (b ∷ [])) where
    -- a byte before it
    byte_left : (b ≡ mark → ⊥) → marks rest ≡ length numbers
    byte_left plain = omega (arith, ap marks last ∙ marks_append rest (b ∷ []), marks_byte b [] plain, no_marks, h.a_number_each)

    pub byte_room : (b ≡ mark → ⊥) → 0 < length now.room
    byte_room plain =
        let parts = filled_append rest (b ∷ []) numbers [] (byte_left plain) in
        piece_room (filled rest numbers) (b ∷ [])
        (ap (filled bytes) (sym (append-nil numbers)) ∙ (ap (λ (l : List ℕ). filled l (numbers ++ [])) last ∙ (parts ∙ rw (filled_byte b [] [] plain, filled_none []))))

    pub byte_step : (b ≡ mark → ⊥) → Behind w (put now (b ∷ [])) bs xs rest numbers
    unfolding behind_text
    byte_step plain =
        let (next, all) = last_taken bs bytes rest b h.bytes_all last in
        record {
          bytes_all = all;
          numbers_all = h.numbers_all;
          a_number_each = byte_left plain;
          stands = piece_put (b ∷ []) ∙ rw next (rw (filled_byte b (drop (length bytes) bs) (drop (length numbers) xs) plain));
        }

    -- a mark: a number is left for it
    pub mark_left : b ≡ mark → 0 < length numbers
    mark_left is = omega (arith, ap marks last ∙ marks_append rest (b ∷ []), marks_mark b [] is, h.a_number_each)

    module _ (is : b ≡ mark) (others : List ℕ) (x : ℕ) (taken : numbers ≡ others ++ (x ∷ [])) where
      others_left : marks rest ≡ length others
      others_left = omega (arith, ap marks last ∙ marks_append rest (b ∷ []), marks_mark b [] is, no_marks, h.a_number_each, ap length taken, length-append others (x ∷ []))

      pub number_room : length (decimal x) ≤ length now.room
      number_room =
          let parts = filled_append rest (b ∷ []) others (x ∷ []) others_left in
          piece_room (filled rest others) (decimal x)
          (ap (filled bytes) taken ∙ (ap (λ (l : List ℕ). filled l (others ++ (x ∷ []))) last ∙ (parts ∙ rw (filled_mark b [] x [] is, filled_none [], append-nil))))

      pub mark_step : Behind w (put now (decimal x)) bs xs rest others
      unfolding behind_text
      mark_step =
          let (next, all) = last_taken bs bytes rest b h.bytes_all last in
          let (number, others_all) = last_taken xs numbers others x h.numbers_all taken in
          record {
            bytes_all = all;
            numbers_all = others_all;
            a_number_each = others_left;
            stands = piece_put (decimal x) ∙ rw (next, number) (rw (filled_mark b (drop (length bytes) bs) x (drop (length numbers) xs) is));
          }

-- ---- how long it is
-- numbers of 64 bits
abbrev pub Short : List ℕ → Type 0
Short xs = All (λ (x : ℕ). x < 2 ^ 64) xs

filled_by : (b : ℕ) (bs xs : List ℕ) (t : Bool) → eqb b mark ≡ t → marks (b ∷ bs) ≡ length xs → Short xs
    → ((xs' : List ℕ) → marks bs ≡ length xs' → Short xs' → length (filled bs xs') ≤ length bs + 20 * length xs')
    → length (filled (b ∷ bs) xs) ≤ suc (length bs) + 20 * length xs
filled_by b bs [] true e all short ih = absurd (omega (arith, marks_mark b bs (eqb-true b mark e)))
filled_by b bs (x ∷ xs) true e all short ih =
    let more = marks_mark b bs (eqb-true b mark e) in
    rw (filled_mark b bs x xs (eqb-true b mark e))
    (simp length-append (omega (arith, decimal_most 20 x (omega arith) (omega (arith, short.0)) short.0, ih xs (omega arith) short.1)))
filled_by b bs xs false e all short ih =
    let same = marks_byte b bs (eqb-false b mark e) in
    rw (filled_byte b bs xs (eqb-false b mark e)) (omega (arith, ih xs (omega arith) short))

pub filled_most : (bs xs : List ℕ) → marks bs ≡ length xs → Short xs → length (filled bs xs) ≤ length bs + 20 * length xs
unfolding filled
filled_most [] xs all short = omega arith
filled_most (b ∷ bs) xs all short = filled_by b bs xs _ refl all short (λ xs' all' short'. filled_most bs xs' all' short')
