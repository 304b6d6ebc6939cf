-- `shared_fitness::windows::zeros` meets its contract: the bits gathered are zero where each word gone through is.
use Rattle.std.proofs.Common.{rules, ◌≡◌, ℕ, zero, suc, ◌+◌, ◌-◌, ◌<◌, ◌≤◌, length, eqb, get_or, List, [], ◌∷◌, take, drop, refl, ap, ◌∙◌, bit_or, arith, length-drop}
use Rattle.std.proofs.lemmas.List.{get_or-drop}
use Rattle.std.proofs.Math.Seq.{take-suc}
use Rattle.std.proofs.lemmas.List.Sums.{fold-append}
use Rattle.std.specs.List.{fold, slice_range}
use Rattle.laws.specs.Choice.{all_below}
use Rattle.laws.specs.Looks.{or_none}
use Rattle.shared_fitness.proofs.windows.zeros.Goals as goal

-- the bits of so many words from a place on
none_of : (ws : List ℕ) (from n : ℕ) → from + n ≤ length ws
    → eqb (fold bit_or 0 (take n (drop from ws))) 0 ≡ all_below n (λ k. eqb (get_or ws (from + k) 0) 0)
unfolding all_below
none_of ws from zero l = refl
none_of ws from (suc n) l =
    let words = drop from ws in
    let within : n < length words = omega (arith, length-drop from ws) in
    rw (take-suc words n 0 within, fold-append bit_or 0 (take n words) (get_or words n 0 ∷ []), get_or-drop from ws n 0, or_none (fold bit_or 0 (take n words)) (get_or ws (from + n) 0), none_of ws from n (omega arith)) refl

pub returns : goal.returns
returns c =
    let a = c.args in
    let is : c.fold.result ≡ fold bit_or 0 (slice_range a.words.now a.from a.to) = search rules in
    ap (λ (any : ℕ). eqb any 0) is ∙ none_of a.words.now a.from (a.to - a.from) (omega arith)
