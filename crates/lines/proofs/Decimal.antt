-- The decimal digits of a number are those that `{}` prints of it, so the library's lemmas hold of them: one digit below 10, else those of its tenth and the
-- last one; at most k of them below 10 ^ k.
use Rattle.std.proofs.Common.{◌≡◌, ℕ, suc, ◌+◌, ◌/◌, ◌%◌, ◌^◌, ◌<◌, ◌≤◌, [], ◌∷◌, ◌++◌, length, ◌∙◌, arith}
use Rattle.std.specs.Fmt.{decimal as printed}
use Rattle.std.proofs.lemmas.Fmt.{AppendsLastDigit, decimal_from_appends, decimal_digit, decimal_step, length-decimal-le, length-decimal-le_succ}
use borrow.Author.Tests.{eq-eqb, ne_eqb}
use Rattle.laws.specs.Choice.{cond}
use Rattle.lines.specs.Lines.{digits_of, decimal}

appends : AppendsLastDigit digits_of
unfolding digits_of cond
appends =
    record {
      one = λ k n h. let e : n / 10 ≡ 0 = omega arith in let r : n % 10 ≡ n = omega arith in simp (eq-eqb _ _ e, r);
      more = λ k n h. let e : n / 10 ≡ 0 → ⊥ = λ z. omega arith in simp (ne_eqb _ _ e);
    }

decimal_printed : (x : ℕ) → x < 2 ^ 64 → decimal x ≡ printed x
unfolding decimal
decimal_printed x h = decimal_from_appends digits_of appends (suc x) x h (omega (arith, length-decimal-le_succ x h))

pub one_digit : (x : ℕ) → x < 10 → decimal x ≡ (48 + x) ∷ []
one_digit x h = decimal_printed x (omega arith) ∙ decimal_digit x h

pub more_digits : (x : ℕ) → 10 ≤ x → x < 2 ^ 64 → decimal x ≡ decimal (x / 10) ++ ((48 + x % 10) ∷ [])
more_digits x some h = rw (decimal_printed x h, decimal_printed (x / 10) (omega arith)) (decimal_step x some h)

-- at most k digits below 10 ^ k
pub decimal_most : (k x : ℕ) → 0 < k → x < 10 ^ k → x < 2 ^ 64 → length (decimal x) ≤ k
decimal_most k x some few h = rw (decimal_printed x h) (length-decimal-le k x some few h)
