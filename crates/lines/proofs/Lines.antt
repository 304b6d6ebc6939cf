-- A line from one of its numbers on: the number, the byte after it, and the line from the next number on; never longer than the whole line.
use Rattle.std.proofs.Common.{◌≡◌, ℕ, zero, suc, ◌+◌, ◌^◌, ◌<◌, ◌≤◌, List, [], ◌∷◌, ◌++◌, length, drop, refl, sym, ap, ◌∙◌, arith, length-append, append_assoc, append-nil}
use Rattle.std.proofs.Math.Seq.{drop-length}
use Rattle.laws.specs.Choice.{cond}
use Rattle.lines.specs.Lines.{space, newline, decimal, after_of, line_of, numbers_of, closing_of}
use Rattle.lines.specs.Area.{Written, line_bytes, put}
use Rattle.lines.specs.Text.{ascii}
use Rattle.lines.specs.Templates.{filled, marks}
use Rattle.lines.specs.declared.line.Entry.{Entry}
use Rattle.lines.proofs.Area.{put_put, put_none, put_room}
use Rattle.lines.proofs.Behind.{last_taken}
use Rattle.lines.proofs.Decimal.{decimal_most}
use Rattle.lines.proofs.Templates.{filled_most}

-- how long a line is from its first number
line_length : (x : ℕ) (xs : List ℕ) → length (line_of (x ∷ xs)) ≡ length (decimal x) + suc (length (line_of xs))
unfolding line_of
line_length x xs = length-append (decimal x) (after_of xs ∷ line_of xs)

line_part : (xs : List ℕ) (i : ℕ) → length (line_of (drop i xs)) ≤ length (line_of xs)
line_part xs zero = omega arith
line_part [] (suc i) = omega arith
line_part (x ∷ xs) (suc i) = omega (arith, line_part xs i, line_length x xs)

-- the line is put from one of its numbers on, with `left` before it and `after` the byte that follows those
pub record LineFrom (w now : Written) (xs left : List ℕ) (after : ℕ) : Type 0 where
  pub all : left ++ drop (length left) xs ≡ xs
  pub next : after ≡ after_of (drop (length left) xs)
  pub stands : now ≡ put w (line_of (drop (length left) xs))

pub line_none : (w : Written) (xs : List ℕ) → LineFrom w w xs xs newline
unfolding line_of
line_none w xs =
    let none = drop-length xs in
    record { all = rw none (append-nil xs); next = rw none; stands = rw none (sym (put_none w)) }

-- one number more: there is room for the byte and the number
pub record Step (w now : Written) (xs rest : List ℕ) (after x : ℕ) : Type 0 where
  pub byte_room : 0 < length now.room
  pub number_room : length (decimal x) ≤ length (put now (after ∷ [])).room
  pub put_both : LineFrom w (put (put now (after ∷ [])) (decimal x)) xs rest space

pub line_step : (w now : Written) (xs left rest : List ℕ) (after x : ℕ) → length (line_of xs) ≤ length w.room → LineFrom w now xs left after → left ≡ rest ++ (x ∷ [])
    → Step w now xs rest after x
unfolding line_of
line_step w now xs left rest after x fits h e =
    let behind = drop (length left) xs in
    let (parts, all) = last_taken xs left rest x h.all e in
    let part = line_part xs (length rest) in
    let long = ap (λ (l : List ℕ). length (line_of l)) parts ∙ line_length x behind in
    let here = ap (λ (t : Written). length t.room) h.stands ∙ put_room w (line_of behind) in
    let put_two = put_put now (after ∷ []) (decimal x) ∙ (ap (λ (t : Written). put t (decimal x ++ (after ∷ []))) h.stands ∙ put_put w (line_of behind) (decimal x ++ (after ∷ []))) in
    record {
      byte_room = omega arith;
      number_room = omega (arith, put_room now (after ∷ []));
      put_both = record { all = all; next = sym (ap after_of parts); stands = put_two ∙ rw (parts, h.next) (simp append_assoc) };
    }

-- a number of at most `digits` digits and the byte after it
line_most : (digits x : ℕ) (xs : List ℕ) → 0 < digits → x < 10 ^ digits → x < 2 ^ 64 → length (line_of (x ∷ xs)) ≤ digits + 1 + length (line_of xs)
line_most digits x xs some h few = omega (arith, line_length x xs, decimal_most digits x some h few)

-- every entry's line fits: 20 digits, 3 digits, six times 10 digits, and a byte after each
pub entry_fits : (e : Entry) → (e.position < 2 ^ 64) × (e.number < 2 ^ 32) × (e.worker < 2 ^ 8) × (e.value < 2 ^ 32) × (e.sub < 2 ^ 32)
    × (e.row.0 < 2 ^ 32) × (e.stamp.0 < 2 ^ 32) × (e.distance < 2 ^ 32) → length (line_of (numbers_of e)) ≤ line_bytes
unfolding line_of
entry_fits e bounds =
    let a = line_most 20 e.position (e.number ∷ e.worker ∷ e.value ∷ e.sub ∷ e.row.0 ∷ e.stamp.0 ∷ e.distance ∷ []) (omega arith) (omega arith) (omega arith) in
    let b = line_most 10 e.number (e.worker ∷ e.value ∷ e.sub ∷ e.row.0 ∷ e.stamp.0 ∷ e.distance ∷ []) (omega arith) (omega arith) (omega arith) in
    let c = line_most 3 e.worker (e.value ∷ e.sub ∷ e.row.0 ∷ e.stamp.0 ∷ e.distance ∷ []) (omega arith) (omega arith) (omega arith) in
    let f = line_most 10 e.value (e.sub ∷ e.row.0 ∷ e.stamp.0 ∷ e.distance ∷ []) (omega arith) (omega arith) (omega arith) in
    let g = line_most 10 e.sub (e.row.0 ∷ e.stamp.0 ∷ e.distance ∷ []) (omega arith) (omega arith) (omega arith) in
    let h = line_most 10 e.row.0 (e.stamp.0 ∷ e.distance ∷ []) (omega arith) (omega arith) (omega arith) in
    let i = line_most 10 e.stamp.0 (e.distance ∷ []) (omega arith) (omega arith) (omega arith) in
    let j = line_most 10 e.distance [] (omega arith) (omega arith) (omega arith) in
    omega arith

-- ---- the closing line, as a template
abbrev pub closing_template : List ℕ
closing_template = ascii "held # worst #\n"

pub closing_filled : (held worst : ℕ) → filled closing_template (held ∷ worst ∷ []) ≡ closing_of held worst
unfolding closing_of line_of filled cond
closing_filled held worst = refl

pub closing_marks : marks closing_template ≡ 2
unfolding marks cond
closing_marks = refl

-- 15 bytes of template, and at most 20 digits for each of its two marks
pub closing_fits : (held worst : ℕ) → held < 2 ^ 32 → worst < 2 ^ 32 → length (closing_of held worst) ≤ line_bytes
closing_fits held worst h w =
    rw (← closing_filled held worst) (omega (arith, filled_most closing_template (held ∷ worst ∷ []) closing_marks (omega arith, (omega arith, tt))))
