-- Words that differ in one stretch alone: after stores there, after a copy, and after two such stretches one behind the other.
use Prim.Native.Nat.{ℕ, zero, suc, ◌+◌, ◌≤◌, ◌<◌}
use mathlib.Core.Path.{◌≡◌, refl, ◌∙◌}
use mathlib.Core.Logic.{◌≢◌, ◌⊎◌, inl, inr}
use mathlib.Core.List.{List}
use native.Mathlib.Decide.{ℕ_discrete}
use native.Mathlib.Omega.{arith}
use lib.ListN.{get_or, set, length, length-set}
use lib.Seq.{get_or-set_same, get_or-set_other, paste, paste-zero, paste-suc, length-paste}

-- ---- words that differ from `low` up to `high` alone
pub record Only (low high : ℕ) (before after : List ℕ) : Type 0 where
  pub long : length after ≡ length before
  pub off : (m : ℕ) → (m < low) ⊎ (high ≤ m) → get_or after m 0 ≡ get_or before m 0

pub no_store : (low high : ℕ) (ws : List ℕ) → Only low high ws ws
no_store low high ws = record { long = refl; off = λ m o. refl }

pub one_store : (low high m x : ℕ) {before after : List ℕ} → low ≤ m → m < high → Only low high before after → Only low high before (set after m x)
one_store low high m x {after = after} a b s =
    record { long = length-set after m x ∙ s.long; off = λ n o. get_or-set_other after m n x 0 (clear n o) ∙ s.off n o }
  where
    clear : (n : ℕ) → (n < low) ⊎ (high ≤ n) → n ≢ m
    clear n (inl l) u = omega arith
    clear n (inr l) u = omega arith

-- ---- a copy
module _ (ws : List ℕ) (at : ℕ) (vs : List ℕ) where
  pub copy_only : (high n : ℕ) → at + n ≤ high → at + n ≤ length ws → n ≤ length vs → Only at high ws (paste ws at vs n)
  copy_only high zero l a b = rw (← paste-zero ws at vs) (no_store at high ws)
  copy_only high (suc n) l a b =
      rw (← paste-suc ws at vs n 0 (omega arith) (omega arith))
      (one_store at high (at + n) _ (omega arith) (omega arith) (copy_only high n (omega arith) (omega arith) (omega arith)))

  pub copied : (n k : ℕ) → k < n → at + n ≤ length ws → n ≤ length vs → get_or (paste ws at vs n) (at + k) 0 ≡ get_or vs k 0
  copied zero k l a b = absurd (omega arith)
  copied (suc n) k l a b =
      rw (← paste-suc ws at vs n 0 (omega arith) (omega arith)) (elim (ℕ_discrete k n) [
        | yes y ↦ rw y (get_or-set_same (paste ws at vs n) (at + n) (get_or vs n 0) 0 (rw (length-paste ws at vs n (omega arith) (omega arith)) (omega arith)))
        | no z ↦ get_or-set_other (paste ws at vs n) (at + n) (at + k) (get_or vs n 0) 0 (λ u. z (omega arith)) ∙ copied n k (omega arith) (omega arith) (omega arith)
      ])
