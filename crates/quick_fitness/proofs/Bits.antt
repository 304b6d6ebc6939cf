-- Pairs as numbers. The two words of a pair are told by their number, and the pairs of all windows by the live ones, one that may come behind them, and the
-- zeros behind that.
use Rattle.std.proofs.Common.{◌≡◌, ℕ, ◌+◌, ◌-◌, ◌*◌, ◌<◌, ◌≤◌, true, eqb, List, get_or, sym, ◌∙◌, arith, le-ltb, lt-ltb, eqb-true}
use Rattle.std.proofs.Math.Decide.{dec_lt}
use Rattle.laws.specs.Choice.{cond_true, cond_false, all_below, all_below_at}
use Rattle.rules.specs.Layout.{pair_words}
use Rattle.rules.specs.Limits.{most_live}
use Rattle.quick_fitness.specs.Alike.{bits_at, wanted_bits}

-- ---- the pair that is wanted
pub wanted_live : (live x k : ℕ) → k < live → wanted_bits live x k ≡ x
wanted_live live x k l = rw (lt-ltb k live l) (cond_true _ _)

pub wanted_none : (live x k : ℕ) → live ≤ k → wanted_bits live x k ≡ 0
wanted_none live x k l = rw (le-ltb k live l) (cond_false _ _)

-- ---- all pairs
module _ (ws : List ℕ) (at live even x : ℕ) (up : live ≤ even) (most : even ≤ most_live) where
  abbrev behind : ℕ
  behind = at + pair_words * even

  pub pairs_wanted : ((k : ℕ) → k < live → bits_at ws (at + pair_words * k) ≡ x)
      → ((k : ℕ) → k < even - live → bits_at ws (at + pair_words * live + pair_words * k) ≡ 0)
      → all_below (at + pair_words * most_live - behind) (λ i. eqb (get_or ws (behind + i) 0) 0) ≡ true
      → (k : ℕ) → k < most_live → bits_at ws (at + pair_words * k) ≡ wanted_bits live x k
  pairs_wanted same none zeros k l =
      elim (dec_lt k live) [
        | yes a ↦ same k a ∙ sym (wanted_live live x k a)
        | no a ↦ elim (dec_lt k even) [ yes b ↦ next (omega (arith, a)) b | no b ↦ last (omega (arith, b)) ]
      ]
    where
      next : live ≤ k → k < even → bits_at ws (at + pair_words * k) ≡ wanted_bits live x k
      next a b =
          let here : at + pair_words * live + pair_words * (k - live) ≡ at + pair_words * k = omega arith in
          (rw here at (none (k - live) (omega arith))) ∙ sym (wanted_none live x k a)

      last : even ≤ k → bits_at ws (at + pair_words * k) ≡ wanted_bits live x k
      last a =
          let one : (i n : ℕ) → i < at + pair_words * most_live - behind → behind + i ≡ n → get_or ws n 0 ≡ 0 =
          λ i n b e. eqb-true (get_or ws n 0) 0 (rw e at (all_below_at (at + pair_words * most_live - behind) (λ j. eqb (get_or ws (behind + j) 0) 0) i b zeros)) in
          let width = one (pair_words * (k - even)) (at + pair_words * k) (omega arith) (omega arith) in
          let depth = one (pair_words * (k - even) + 1) (at + pair_words * k + 1) (omega arith) (omega arith) in
          omega (arith, width, depth) ∙ sym (wanted_none live x k (omega arith))
