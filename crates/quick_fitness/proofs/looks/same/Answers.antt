-- `quick_fitness::looks::same` meets its contract: where all pairs are said to be the number, each is.
use Rattle.std.proofs.Common.{◌≡◌, ℕ, ◌+◌, ◌*◌, ◌<◌, Bool, true, false, length, refl, zero-add, arith, rules, tests}
use Rattle.std.proofs.lemmas.Iterator.{cases_from_all, YieldsList-from_range}
use Rattle.std.proofs.lemmas.List.FromFn.{length-range_with_len, get_or-range_with_len}
use Rattle.std.specs.Bool.{MatchBool}
use Rattle.std.specs.List.{AllWithin, range_with_len}
use Rattle.quick_fitness.specs.Alike.{bits_at}
use Rattle.rules.specs.Layout.{pair_words}
use Rattle.quick_fitness.proofs.looks.same.Goals as goal

-- of each number of a range, by its place there
at_each : (P : ℕ → Type 0) (No : Type 0) (n : ℕ) (r : Bool) → r ≡ true → MatchBool r (AllWithin P (range_with_len 0 n) 0 (length (range_with_len 0 n))) No
    → (k : ℕ) → k < n → P k
at_each P No n true e h k l = rw (get_or-range_with_len 0 n k 0 l, zero-add k) at (h k 0 (omega arith) (omega (arith, length-range_with_len 0 n)))
at_each P No n false e h k l = cc

pub returns : goal.returns
returns c =
    let a = c.args in
    let told = cases_from_all _ _ _ (λ k. bits_at a.words.now (a.at + pair_words * k) ≡ a.x) (λ k. Unit {0}) c.all.ensures.ran (YieldsList-from_range 0 a.count a.count refl (omega arith)) (λ k q h. search (rules, tests)) (λ k q h. tt) in
    λ e. at_each (λ k. bits_at a.words.now (a.at + pair_words * k) ≡ a.x) _ a.count c.all.result e told
