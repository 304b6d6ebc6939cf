-- The bottoms of a queue's windows: each is as far above the one before as that window is deep, and none is above P.
use Rattle.std.proofs.Common.{ℕ, zero, suc, ◌+◌, ◌^◌, ◌≤◌, ◌<◌, List, ◌≡◌, refl, ⊎_elim, true, eq-or-lt_of_le, add-one, arith, eqb, eqb-true, get_or, length}
use Rattle.laws.specs.Choice.{both_true}
use Rattle.rules.specs.Fit.{FitPool}
use Rattle.rules.specs.Layout.{top_at, pair_at}
use Rattle.rules.specs.Limits.{windowed, most_live}
use Rattle.rules.specs.Windows.{has_windows, live_of, nth_size, bottom_of}
use Rattle.rules.specs.declared.Settings.{Settings}
use Rattle.rules.specs.declared.Size.{Size}
use Rattle.rules.proofs.Workers.{windowed_is, windows_some}

module _ (ws : List ℕ) (g : Settings) where
  pub next_bottom : (k : ℕ) → bottom_of ws g (suc k) ≡ bottom_of ws g k + (nth_size ws g k).depth
  unfolding bottom_of
  next_bottom k = refl

  pub bottom_after : (k : ℕ) → bottom_of ws g (k + 1) ≡ bottom_of ws g k + (nth_size ws g k).depth
  bottom_after k = rw (add-one k) (next_bottom k)

  pub bottoms_up : (a b : ℕ) → a ≤ b → bottom_of ws g a ≤ bottom_of ws g b
  bottoms_up a zero l = let z : a ≡ 0 = omega arith in rw z (omega arith)
  bottoms_up a (suc b) l =
      ⊎_elim
      (λ (e : a ≡ suc b). rw e (omega arith))
      (λ (m : a < suc b). omega (arith, bottoms_up a b (omega arith), next_bottom b))
      (eq-or-lt_of_le l)

  module _ (fit : FitPool g ws) (has : has_windows g ≡ true) where
    pub bottom_high : (k : ℕ) → k ≤ live_of ws g → bottom_of ws g k ≤ get_or ws top_at 0
    bottom_high k l = omega (arith, bottoms_up k (live_of ws g) l, (fit.windows has).lead)

    pub is_windowed : windowed g ≡ true
    is_windowed = (both_true (windowed g) (eqb g.kind 0) has).0

    pub is_queue : g.kind ≡ 0
    is_queue = eqb-true g.kind 0 (both_true (windowed g) (eqb g.kind 0) has).1

    pub pairs_there : pair_at g most_live ≤ length ws
    pairs_there = omega (arith, fit.enough, windows_some g.edition (windowed_is g is_windowed))

    -- so a window's top, made of the bottom and the size that are read, is a word
    pub top_small : get_or ws top_at 0 < 2 ^ 32 → (k : ℕ) → k < live_of ws g → {bottom : ℕ} {size : Size} → bottom ≡ bottom_of ws g k → size ≡ nth_size ws g k
        → bottom + size.depth < 2 ^ 32
    top_small small k l e f = rw (e, f) (omega (arith, next_bottom k, bottom_high (suc k) l))
