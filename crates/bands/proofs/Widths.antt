-- The sum of the windows' widths: none of a fit pool's live windows is wider than the pool, and the pairs beyond them are zero. So where the sum is that of so many
-- windows of the pool's width, each of them has it.
use Rattle.std.proofs.Common.{ℕ, zero, suc, ◌+◌, ◌*◌, ◌≤◌, ◌<◌, List, ◌≡◌, refl, ap, ⊎_elim, true, eq-or-lt_of_le, add-one, arith}
use Rattle.std.proofs.Math.Decide.{dec_lt}
use Rattle.rules.specs.Fit.{FitPool}
use Rattle.rules.specs.Limits.{most_live}
use Rattle.rules.specs.Windows.{has_windows, live_of, nth_size}
use Rattle.rules.specs.declared.Settings.{Settings}
use Rattle.rules.specs.declared.Size.{Size}

module _ (ws : List ℕ) (g : Settings) where
  unfoldable pub widths_below : ℕ → ℕ
  widths_below zero = 0
  widths_below (suc k) = widths_below k + (nth_size ws g k).width

  pub widths_none : widths_below 0 ≡ 0
  unfolding widths_below
  widths_none = refl

  next_width : (k : ℕ) → widths_below (suc k) ≡ widths_below k + (nth_size ws g k).width
  unfolding widths_below
  next_width k = refl

  pub widths_more : (k : ℕ) → widths_below (k + 1) ≡ widths_below k + (nth_size ws g k).width
  widths_more k = rw (add-one k) (next_width k)

  module _ (fit : FitPool g ws) (has : has_windows g ≡ true) where
    pub pair_width : (k : ℕ) → k < most_live → (nth_size ws g k).width ≤ g.width
    pair_width k h = elim (dec_lt k (live_of ws g)) [
      | yes l ↦ ((fit.windows has).size k l).width_most
      | no n ↦ omega (arith, ap (λ (s : Size). s.width) ((fit.windows has).none k (omega arith) h))
    ]

    -- of live windows, at most so many of the pool's width
    live_widths : (m : ℕ) → m ≤ live_of ws g → widths_below m ≤ m * g.width
    live_widths zero l = omega (arith, widths_none)
    live_widths (suc m) l = omega (arith, live_widths m (omega arith), next_width m, ((fit.windows has).size m (omega arith)).width_most)

    -- less where one of them is narrower
    narrower : (m k : ℕ) → m ≤ live_of ws g → k < m → widths_below m + g.width ≤ m * g.width + (nth_size ws g k).width
    narrower zero k l h = absurd (omega arith)
    narrower (suc m) k l h =
        ⊎_elim
        (λ (e : k ≡ m). rw e (omega (arith, live_widths m (omega arith), next_width m)))
        (λ (n : k < m). omega (arith, narrower m k (omega arith) n, next_width m, ((fit.windows has).size m (omega arith)).width_most))
        (eq-or-lt_of_le (omega arith))

    -- none beyond
    beyond : (m : ℕ) → live_of ws g ≤ m → m ≤ most_live → widths_below m ≡ widths_below (live_of ws g)
    beyond zero l h = let z : live_of ws g ≡ 0 = omega arith in rw z refl
    beyond (suc m) l h =
        ⊎_elim
        (λ (e : live_of ws g ≡ suc m). rw e refl)
        (λ (n : live_of ws g < suc m). omega (arith, beyond m (omega arith) (omega arith), next_width m, ap (λ (s : Size). s.width) ((fit.windows has).none m (omega arith) (omega arith))))
        (eq-or-lt_of_le l)

    pub same_width : widths_below most_live ≡ live_of ws g * g.width → (k : ℕ) → k < live_of ws g → g.width ≤ (nth_size ws g k).width
    same_width e k h = omega (arith, e, beyond most_live (fit.windows has).live16 (omega arith), narrower (live_of ws g) k (omega arith) h)
