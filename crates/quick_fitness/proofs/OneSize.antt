-- Where the live windows are all as large as the take window, one test is that of each, and together they are as often as deep as it.
use Rattle.std.proofs.Common.{◌≡◌, ℕ, zero, suc, ◌+◌, ◌*◌, ◌<◌, ◌≤◌, Bool, true, false, List, refl, ap, ◌∙◌, arith}
use Rattle.laws.specs.Choice.{all_below, all_below_fails}
use Rattle.laws.specs.Looks.{all_hold, all_from}
use Rattle.rules.specs.Fit.{no_size_fit, pair_fit}
use Rattle.rules.specs.Limits.{most_live, size_fit}
use Rattle.rules.specs.Windows.{no_size, live_of, nth_size, bottom_of}
use Rattle.rules.specs.declared.Settings.{Settings}
use Rattle.rules.specs.declared.Size.{Size}
use Rattle.shared_fitness.proofs.Pairs.{pair_live, pair_beyond}

module _ (ws : List ℕ) (g : Settings) (first : (k : ℕ) → k < live_of ws g → nth_size ws g k ≡ nth_size ws g 0) where
  -- the first one's test is that of each, where the pairs beyond are none
  pub pairs_alike : 1 ≤ live_of ws g → live_of ws g ≤ most_live → ((k : ℕ) → live_of ws g ≤ k → k < most_live → nth_size ws g k ≡ no_size)
      → all_below most_live (pair_fit ws g) ≡ size_fit g (nth_size ws g 0)
  pairs_alike some most none = go (size_fit g (nth_size ws g 0)) refl
    where
      at_live : (k : ℕ) → k < live_of ws g → pair_fit ws g k ≡ size_fit g (nth_size ws g 0)
      at_live k l = pair_live ws g k l ∙ ap (size_fit g) (first k l)

      go : (b : Bool) → size_fit g (nth_size ws g 0) ≡ b → all_below most_live (pair_fit ws g) ≡ b
      go true e =
          all_from (live_of ws g) most_live (pair_fit ws g) most (λ k l h. pair_beyond ws g k l ∙ ap no_size_fit (none k l h))
          ∙ all_hold (live_of ws g) (pair_fit ws g) (λ k l. at_live k l ∙ e)
      go false e = all_below_fails most_live (pair_fit ws g) 0 (omega arith) (at_live 0 some ∙ e)

  -- and they are together as often as deep as it
  pub tops_alike : (k : ℕ) → k ≤ live_of ws g → bottom_of ws g k ≡ bottom_of ws g 0 + k * (nth_size ws g 0).depth
  unfolding bottom_of
  tops_alike zero l = omega arith
  tops_alike (suc k) l =
      let deep : (nth_size ws g k).depth ≡ (nth_size ws g 0).depth = ap (λ (s : Size). s.depth) (first k (omega arith)) in
      omega (arith, tops_alike k (omega arith))
