-- Words after a run of stores.
use mathlib.Core.Path.{◌≡◌, refl, ◌∙◌}
use mathlib.Core.Logic.{◌⊎◌, inl, inr}
use mathlib.Core.List.{List, [], ◌∷◌}
use Prim.Native.Nat.{ℕ, zero, suc, ◌+◌, ◌≤◌, ◌<◌}
use native.Mathlib.Nat.{add-zero}
use native.Mathlib.Omega.{arith}
use lib.ListN.{length, get_or, set, length-set}
use lib.Seq.{get_or-set_same, get_or-set_other, sets}

-- outside of a run of stores
pub sets_out : (vs l : List ℕ) (i m : ℕ) → (m < i) ⊎ (i + length vs ≤ m) → get_or (sets l i vs) m 0 ≡ get_or l m 0
sets_out [] l i m h = refl
sets_out (v ∷ vs) l i m (inl h) = sets_out vs (set l i v) (suc i) m (inl (omega arith)) ∙ get_or-set_other l i m v 0 (λ e. omega arith)
sets_out (v ∷ vs) l i m (inr h) = sets_out vs (set l i v) (suc i) m (inr (omega arith)) ∙ get_or-set_other l i m v 0 (λ e. omega arith)

-- within it
pub sets_in : (vs l : List ℕ) (i k : ℕ) → k < length vs → i + length vs ≤ length l → get_or (sets l i vs) (i + k) 0 ≡ get_or vs k 0
sets_in [] l i k h b = absurd (omega arith)
sets_in (v ∷ vs) l i zero h b = rw (add-zero i) (sets_out vs (set l i v) (suc i) i (inl (omega arith)) ∙ get_or-set_same l i v 0 (omega arith))
sets_in (v ∷ vs) l i (suc k) h b =
    let e : i + suc k ≡ suc i + k = omega arith in
    rw e (sets_in vs (set l i v) (suc i) k (omega arith) (simp length-set (omega arith)))
