-- What `all` over a range of numbers from 0 tells is what holds at each number below its end.
use Rattle.std.proofs.Common.{◌≡◌, ℕ, zero, suc, ◌+◌, Bool, true, false, ◌&&◌, refl, sym, ap, ◌∙◌, add-zero, arith}
use Rattle.std.specs.List.{list_all, range_with_len}
use Rattle.std.proofs.iter.Yields.{nat_range_steps}
use Rattle.std.proofs.lemmas.Iterator.{YieldsList, YieldsList-from_range}
use Rattle.laws.specs.Choice.{both, both_one, all_below, all_below_same}

-- the first number apart
first_apart : (n : ℕ) (p : ℕ → Bool) → all_below (suc n) p ≡ both (p 0) (all_below n (λ i. p (suc i)))
unfolding all_below
first_apart zero p = sym (both_one (p 0))
first_apart (suc n) p = rw (first_apart n p) (grouped (p 0) (all_below n (λ i. p (suc i))) (p (suc n)))
  where
    grouped : (a b c : Bool) → both (both a b) c ≡ both a (both b c)
    grouped true b c = refl
    grouped false b c = refl

from_on : (a n : ℕ) (p : ℕ → Bool) → list_all p (range_with_len a n) ≡ all_below n (λ i. p (a + i))
unfolding all_below
from_on a zero p = refl
from_on a (suc n) p =
    rw (from_on (a + 1) n p, and_is (p a) (all_below n (λ i. p (a + 1 + i))), all_below_same n (λ i. p (a + 1 + i)) (λ i. p (a + suc i)) (λ i l. ap p (omega arith)))
    (sym (first_apart n (λ i. p (a + i)) ∙ rw (add-zero a) refl))
  where
    and_is : (x y : Bool) → (x && y) ≡ both x y
    and_is true y = refl
    and_is false y = refl

pub every : (n : ℕ) (p : ℕ → Bool) → list_all p (range_with_len 0 n) ≡ all_below n p
every n p = from_on 0 n p ∙ all_below_same n (λ i. p (0 + i)) p (λ i l. ap p (omega arith))

-- the numbers that such a range gives
pub numbers : (n : ℕ) → YieldsList nat_range_steps (λ (x : ℕ). x) (record { start = 0; end = n }) (range_with_len 0 n)
numbers n = YieldsList-from_range 0 n n refl (omega arith)
