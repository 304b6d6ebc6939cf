-- A list that is read from its end: once the last of what is left is taken, what is behind the rest begins with it.
use Rattle.std.proofs.Common.{◌≡◌, ℕ, suc, ◌-◌, ◌≤◌, List, [], ◌∷◌, ◌++◌, length, take, drop, get_or, refl, sym, ap, ◌∙◌, append_assoc, arith}
use Rattle.std.proofs.Math.Seq.{drop_at, take-suc, take-length}

pub last_taken : (all left rest : List ℕ) (x : ℕ) → left ++ drop (length left) all ≡ all → left ≡ rest ++ (x ∷ [])
    → (drop (length rest) all ≡ x ∷ drop (length left) all) × (rest ++ drop (length rest) all ≡ all)
last_taken all left rest x whole e =
    let behind = drop (length left) all in
    let parts : all ≡ rest ++ (x ∷ behind) = sym whole ∙ (ap (λ (l : List ℕ). l ++ behind) e ∙ append_assoc rest (x ∷ []) behind) in
    let next : drop (length rest) all ≡ x ∷ behind = ap (drop (length rest)) parts ∙ drop_at rest (x ∷ behind) (length rest) refl in
    (next, ap (λ (l : List ℕ). rest ++ l) next ∙ sym parts)

-- a list is what is before its last item, and that item
pub last_split : (xs : List ℕ) → 1 ≤ length xs → xs ≡ take (length xs - 1) xs ++ (get_or xs (length xs - 1) 0 ∷ [])
last_split xs h =
    let e : suc (length xs - 1) ≡ length xs = omega arith in
    sym (take-length xs) ∙ (ap (λ (n : ℕ). take n xs) (sym e) ∙ take-suc xs (length xs - 1) 0 (omega arith))
