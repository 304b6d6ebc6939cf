-- Each band of a fit pool has at most R rows and ends below 2^32, so that its rows lie in at most two straight runs. So what a walk through the runs of all bands
-- of a sub meets is what the sub holds.
use Rattle.std.proofs.Common.{ℕ, zero, suc, ◌+◌, ◌-◌, ◌^◌, ◌≤◌, ◌<◌, List, ◌++◌, ◌≡◌, refl, ap₂, Bool, true, false, arith, ltb, eqb, get_or, eqb-true}
use Rattle.std.proofs.Math.Decide.{ℕ_discrete}
use Rattle.laws.specs.Choice.{cond, cases, both_true}
use Rattle.rules.specs.Fit.{FitPool}
use Rattle.rules.specs.Held.{Band, band_between, sub_band, window_band, band_count, band_of, items_above, held_bands, held_sub}
use Rattle.rules.specs.Layout.{top_at, first_at, second_at, first_of, second_of}
use Rattle.rules.specs.Limits.{windowed}
use Rattle.ring.specs.Segments.{walked_band, walked_bands, walked_sub}
use Rattle.rules.specs.Windows.{has_windows, live_of, nth_size, bottom_of, higher, lower, level_of}
use Rattle.rules.specs.declared.Settings.{Settings}
use Rattle.rules.proofs.Cells.{band_fits}
use Rattle.bands.proofs.Rows.{rows_in_runs}
use Rattle.bands.proofs.Bottoms.{bottoms_up, bottom_high, is_windowed}

-- what a walk asks of a band
pub record Walked (g : Settings) (b : Band) : Type 0 where
  pub few : b.rows ≤ g.rows
  pub small : b.below + b.rows < 2 ^ 32

module _ (ws : List ℕ) (g : Settings) (fit : FitPool g ws) (words : (k : ℕ) → get_or ws k 0 < 2 ^ 32) (j : ℕ) (wide : j < g.width) where
  -- the rows put are at most R above the higher of those taken and the take window's bottom
  pub put_near : has_windows g ≡ true → first_of ws j ≤ higher (second_of ws j) (bottom_of ws g 0) + g.rows
  unfolding level_of cond
  put_near has =
      let queue = eqb-true g.kind 0 (both_true (windowed g) (eqb g.kind 0) has).1 in
      let sub = fit.sub j wide in
      elim (ℕ_discrete (first_of ws j) (second_of ws j)) [
        | yes y ↦ omega arith
        | no n ↦ rw (is_windowed ws g fit has) at (sub.queue_rows queue n)
      ]

  -- rows between one that is not below the take window's bottom and one that is not above P
  pub between_walked : has_windows g ≡ true → (k m : ℕ) → k ≤ live_of ws g → Walked g (band_between (higher (second_of ws j) (bottom_of ws g k)) (lower (first_of ws j) (bottom_of ws g m)))
  between_walked has k m l =
      record {
        few = omega (arith, put_near has, bottoms_up ws g 0 k (omega arith));
        small = omega (arith, words (first_at j), words (second_at j), words top_at, bottom_high ws g fit has k l);
      }

  none_walked : Walked g (band_between 0 0)
  none_walked = record { few = omega arith; small = omega arith }

  window_walked : has_windows g ≡ true → (k : ℕ) → k < live_of ws g → Walked g (window_band ws g j k)
  window_walked has k l =
      cases (Walked g) (ltb j (nth_size ws g k).width) _ _ (λ e. between_walked has k (suc k) (omega arith)) (λ e. none_walked)

  sub_walked : has_windows g ≡ false → Walked g (sub_band g (first_of ws j) (second_of ws j))
  sub_walked old =
      record {
        few = band_fits g (bottom_of ws g 0) (first_of ws j) (second_of ws j) old (fit.sub j wide);
        small = cases (λ (n : ℕ). n + (first_of ws j - n) < 2 ^ 32) (eqb g.kind 0) (second_of ws j) 0 (λ e. omega (arith, words (first_at j), words (second_at j))) (λ e. omega (arith, words (first_at j)));
      }

  pub band_walked : (k : ℕ) → k < band_count ws g → Walked g (band_of ws g j k)
  unfolding band_of band_count cond
  band_walked k = go (has_windows g) refl
    where
      go : (b : Bool) → has_windows g ≡ b → k < cond b (live_of ws g) 1 → Walked g (cond b (window_band ws g j k) (sub_band g (first_of ws j) (second_of ws j)))
      go true e l = window_walked e k l
      go false e l = sub_walked e

  walked_band_law : (k : ℕ) → k < band_count ws g → walked_band ws g j k ≡ items_above ws g j (band_of ws g j k).below (band_of ws g j k).rows
  walked_band_law k l = let w = band_walked k l in rows_in_runs ws g j (band_of ws g j k).below (band_of ws g j k).rows fit.bounds w.few w.small

  walked_bands_law : (m : ℕ) → m ≤ band_count ws g → walked_bands ws g j m ≡ held_bands ws g j m
  unfolding walked_bands held_bands
  walked_bands_law zero l = refl
  walked_bands_law (suc m) l = ap₂ ◌++◌ (walked_bands_law m (omega arith)) (walked_band_law m (omega arith))

  pub walked_sub_law : walked_sub ws g j ≡ held_sub ws g j
  unfolding held_sub
  walked_sub_law = walked_bands_law (band_count ws g) (omega arith)
