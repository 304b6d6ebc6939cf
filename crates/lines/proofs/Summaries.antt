-- Every summary fits its area: its template has as many marks as numbers, and each number has at most 20 digits.
use Rattle.std.proofs.Common.{ℕ, ◌≡◌, ◌+◌, ◌^◌, ◌<◌, ◌≤◌, List, [], ◌∷◌, length, refl, arith, length-append}
use Rattle.laws.specs.Choice.{cond}
use Rattle.rules.proofs.Numbered.{number_low}
use Rattle.rules.specs.Answers.{refusal_number}
use Rattle.rules.specs.declared.Refusal.{Refusal}
use Rattle.std.specs.Prelude.{Option, None, Some}
use Rattle.lines.specs.Templates.{marks, filled}
use Rattle.lines.specs.Summary.{faulty_text, counts_text, counts_of, first_line, first_line_of, counts_lines, summary_text, first_line_bytes, summary_bytes}
use Rattle.lines.specs.declared.summary.Summary.{Summary}
use Rattle.lines.proofs.Templates.{filled_most}

pub faulty_marks : marks faulty_text ≡ 2
unfolding marks cond
faulty_marks = refl

pub counts_marks : marks counts_text ≡ 12
unfolding marks cond
counts_marks = refl

-- a summary's numbers as the code holds them, but for the fault's
abbrev pub Held : {R : Type 0} → Summary R → Type 0
Held s =
    (s.words < 2 ^ 64) × (s.puts < 2 ^ 64) × (s.takes < 2 ^ 64) × (s.empties < 2 ^ 64) × (s.fulls < 2 ^ 64)
    × (s.refused < 2 ^ 64) × (s.held < 2 ^ 32) × (s.worst < 2 ^ 32) × (s.bound < 2 ^ 32) × (s.lost < 2 ^ 64) × (s.steps < 2 ^ 32)

-- the numbers of the counts in any template of 12 marks
pub filled_counts_most : {R : Type 0} (template : List ℕ) (s : Summary R) → marks template ≡ 12 → Held s → length (filled template (counts_of s)) ≤ length template + 240
filled_counts_most template s marked (w, p, t, e, u, r, h, x, b, l, n) =
    let most = filled_most template (counts_of s) marked (w, (p, (t, (e, (u, (r, (omega arith, (omega arith, (omega arith, (l, (omega arith, (omega arith, tt)))))))))))) in
    omega arith

pub counts_most : {R : Type 0} (s : Summary R) → Held s → length (counts_lines s) ≤ 330
unfolding counts_lines
counts_most s h = omega (arith, filled_counts_most counts_text s counts_marks h)

pub faulty_most_by : (fault words : ℕ) → fault < 2 ^ 64 → words < 2 ^ 64 → length (filled faulty_text (fault ∷ words ∷ [])) ≤ first_line_bytes
faulty_most_by fault words f w = let most = filled_most faulty_text (fault ∷ words ∷ []) faulty_marks (f, (w, tt)) in omega arith

module _ {R : Type 0} (number : R → ℕ) where
  -- the number of a fault as the code puts it
  abbrev pub HeldFault : Option R → Type 0
  HeldFault None = Unit {0}
  HeldFault (Some fault) = number fault < 2 ^ 64

  first_line_most : (fault : Option R) (words : ℕ) → HeldFault fault → words < 2 ^ 64 → length (first_line_of number fault words) ≤ first_line_bytes
  first_line_most None words f w = omega arith
  first_line_most (Some fault) words f w = faulty_most_by (number fault) words f w

  pub first_most_by : (s : Summary R) → HeldFault s.fault → Held s → length (first_line number s) ≤ first_line_bytes
  first_most_by s f h = first_line_most s.fault s.words f h.0

  pub summary_fits_by : (s : Summary R) → length (first_line number s) ≤ first_line_bytes → Held s → length (summary_text number s) ≤ summary_bytes
  unfolding summary_text
  summary_fits_by s first h = omega (arith, length-append (first_line number s) (counts_lines s), counts_most s h)

-- ---- where the fault is a refusal: its number is low, so nothing is asked of it
pub faulty_most : (fault : Refusal) (words : ℕ) → words < 2 ^ 64 → length (filled faulty_text (refusal_number fault ∷ words ∷ [])) ≤ first_line_bytes
faulty_most fault words w = faulty_most_by (refusal_number fault) words (omega (arith, number_low fault)) w

fault_held : (fault : Option Refusal) → HeldFault refusal_number fault
fault_held None = tt
fault_held (Some fault) = omega (arith, number_low fault)

pub first_most : (s : Summary Refusal) → Held s → length (first_line refusal_number s) ≤ first_line_bytes
first_most s h = first_most_by refusal_number s (fault_held s.fault) h

pub summary_fits : (s : Summary Refusal) → Held s → length (summary_text refusal_number s) ≤ summary_bytes
summary_fits s h = summary_fits_by refusal_number s (first_most s h) h
