-- One look for several: tests made together hold where each does, and the bits of two words together are zero where both words are.
use Rattle.std.specs.Prelude.{◌≡◌, ℕ, zero, suc, ◌+◌, ◌<◌, ◌≤◌, Bool, true, false, ◌&&◌, ◌==◌, bit_or, refl}
use Rattle.std.proofs.Common.{sym, subst, ⊎_elim, eq-or-lt_of_le, add-one, arith, eq-eqb, ne_eqb, eqb-true}
use Rattle.std.proofs.Math.Decide.{ℕ_discrete}
use Rattle.std.specs.Int.Bits.{or_add_and}
use Rattle.std.proofs.lemmas.Nat.{and_le_l, and_le_r}
use Rattle.std.proofs.lemmas.Bool.{eqb-false}
use Rattle.laws.specs.Choice.{both, both_one, all_below}

pub and_both : (a b : Bool) → (a && b) ≡ both a b
and_both true b = refl
and_both false b = refl

pub or_none : (a b : ℕ) → (bit_or a b == 0) ≡ both (a == 0) (b == 0)
or_none a b = go (a == 0) refl (b == 0) refl
  where
    go : (s : Bool) → (a == 0) ≡ s → (t : Bool) → (b == 0) ≡ t → (bit_or a b == 0) ≡ both s t
    go true p true q = eq-eqb (bit_or a b) 0 (omega (arith, eqb-true a 0 p, eqb-true b 0 q, or_add_and a b))
    go true p false q = ne_eqb (bit_or a b) 0 (λ (z : bit_or a b ≡ 0). eqb-false b 0 q (omega (arith, or_add_and a b, and_le_l a b)))
    go false p t q = ne_eqb (bit_or a b) 0 (λ (z : bit_or a b ≡ 0). eqb-false a 0 p (omega (arith, or_add_and a b, and_le_r a b)))

-- ---- all below a bound
-- one more, of what holds at each
pub each_more : (P : ℕ → Type 0) (k : ℕ) → ((i : ℕ) → i < k → P i) → P k → (i : ℕ) → i < k + 1 → P i
each_more P k h e i l = elim (ℕ_discrete i k) [ yes y ↦ subst P (sym y) e | no n ↦ h i (omega arith) ]

pub all_step : (i : ℕ) (p : ℕ → Bool) → all_below (i + 1) p ≡ both (all_below i p) (p i)
unfolding all_below
all_step i p = rw (add-one i) refl

-- a test that holds at each
pub all_hold : (n : ℕ) (p : ℕ → Bool) → ((i : ℕ) → i < n → p i ≡ true) → all_below n p ≡ true
unfolding all_below
all_hold zero p h = refl
all_hold (suc n) p h = rw (all_hold n p (λ i l. h i (omega arith)), h n (omega arith)) refl

-- one that holds anyway from m up to the bound
pub all_from : (m n : ℕ) (p : ℕ → Bool) → m ≤ n → ((k : ℕ) → m ≤ k → k < n → p k ≡ true) → all_below n p ≡ all_below m p
unfolding all_below
all_from m zero p l h = let z : m ≡ 0 = omega arith in rw z refl
all_from m (suc n) p l h =
    ⊎_elim
    (λ (q : m ≡ suc n). rw q refl)
    (λ (k : m < suc n). rw (h n (omega arith) (omega arith), both_one (all_below n p)) (all_from m n p (omega arith) (λ i a b. h i a (omega arith))))
    (eq-or-lt_of_le l)
