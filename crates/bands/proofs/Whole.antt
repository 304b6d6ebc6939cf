-- A sub that lies within all live windows holds one band of rows, from the lowest bottom up to the highest top.
use Rattle.std.proofs.Common.{ℕ, ◌-◌, ◌^◌, ◌≤◌, ◌<◌, List, ◌≡◌, refl, ap, ◌∙◌, Bool, true, false, zero-add, arith, eqb, get_or, eqb-true}
use Rattle.laws.specs.Choice.{cond, both_true}
use Rattle.rules.specs.Fit.{FitPool}
use Rattle.rules.specs.Held.{Band, sub_band, band_count, band_of, items_above, held_bands, held_sub}
use Rattle.rules.specs.Layout.{first_at, first_of, second_of}
use Rattle.rules.specs.Limits.{windowed}
use Rattle.rules.specs.Windows.{has_windows, live_of, nth_size, bottom_of, higher, lower}
use Rattle.rules.specs.declared.Settings.{Settings}
use Rattle.bands.specs.Together.{whole_band, Together}
use Rattle.bands.specs.declared.reach.Reach.{Reach}
use Rattle.bands.proofs.JoinedBands.{lowest_in, rows_up_to, joined_bands}
use Rattle.bands.proofs.Walks.{Walked, between_walked, band_walked}

-- the windows from the first on
bands_together : (ws : List ℕ) (g : Settings) (j : ℕ) → has_windows g ≡ true → (m : ℕ) → ((k : ℕ) → k < m → j < (nth_size ws g k).width) → held_bands ws g j m ≡ items_above ws g j (lowest_in ws g j 0) (rows_up_to ws g j 0 m)
unfolding held_bands
bands_together ws g j has m inside = rw (zero-add m) at (joined_bands ws g j has 0 m (λ i _ l. inside i (omega arith)))

-- ---- all that a sub holds
-- what the whole band of a sub has
pub record IsWhole (ws : List ℕ) (g : Settings) (j bottom : ℕ) (b : Band) : Type 0 where
  pub walked : Walked g b
  pub above : bottom ≤ b.below
  pub first_cells : 1 ≤ g.kind → b.below ≡ 0
  pub items : held_sub ws g j ≡ items_above ws g j b.below b.rows

module _ (ws : List ℕ) (g : Settings) (fit : FitPool g ws) (words : (k : ℕ) → get_or ws k 0 < 2 ^ 32) (r : Reach) (t : Together ws g r) (j : ℕ) (within : j < r.width) where
  wide : j < g.width
  wide = omega (arith, t.most)

  -- of windows together
  whole_windows : has_windows g ≡ true → IsWhole ws g j r.bottom (whole_band g r (first_of ws j) (second_of ws j))
  unfolding cond held_sub band_count
  whole_windows has =
      let queue : eqb g.kind 0 ≡ true = (both_true (windowed g) (eqb g.kind 0) has).1 in
      let low : r.bottom ≡ bottom_of ws g 0 = rw has at t.low in
      let high : r.top ≡ bottom_of ws g (live_of ws g) = rw has at t.high in
      rw (queue, low, high) (
      record {
        walked = between_walked ws g fit words j wide has 0 (live_of ws g) (omega arith);
        above = omega arith;
        first_cells = λ stack. absurd (omega (arith, eqb-true g.kind 0 queue));
        items = rw has (bands_together ws g j has (live_of ws g) (λ k l. omega (arith, t.wide k has l)));
      }
      )

  -- of one band alone
  count : has_windows g ≡ false → band_count ws g ≡ 1
  unfolding band_count cond
  count old = rw old refl

  band : has_windows g ≡ false → band_of ws g j 0 ≡ sub_band g (first_of ws j) (second_of ws j)
  unfolding band_of cond
  band old = rw old refl

  band_alone : has_windows g ≡ false → held_sub ws g j ≡ items_above ws g j (sub_band g (first_of ws j) (second_of ws j)).below (sub_band g (first_of ws j) (second_of ws j)).rows
  unfolding held_sub held_bands
  band_alone old = ap (held_bands ws g j) (count old) ∙ ap (λ (b : Band). items_above ws g j b.below b.rows) (band old)

  alone_walked : has_windows g ≡ false → Walked g (sub_band g (first_of ws j) (second_of ws j))
  alone_walked old = rw (band old) at (band_walked ws g fit words j wide 0 (omega (arith, count old)))

  whole_alone : has_windows g ≡ false → IsWhole ws g j r.bottom (whole_band g r (first_of ws j) (second_of ws j))
  unfolding cond
  whole_alone old = go (eqb g.kind 0) refl
    where
      go : (q : Bool) → eqb g.kind 0 ≡ q → IsWhole ws g j r.bottom (whole_band g r (first_of ws j) (second_of ws j))
      go true e =
          let low : r.bottom ≡ 0 = rw old at t.low in
          let high : r.top ≡ 2 ^ 32 - 1 = rw old at t.high in
          let down : higher (second_of ws j) r.bottom ≡ second_of ws j = omega arith in
          let up : lower (first_of ws j) r.top ≡ first_of ws j = omega (arith, words (first_at j)) in
          rw (e, down, up) (record { walked = rw e at (alone_walked old); above = omega arith; first_cells = λ stack. absurd (omega (arith, eqb-true g.kind 0 e)); items = rw e at (band_alone old) })
      go false e = rw e (record { walked = rw e at (alone_walked old); above = let low : r.bottom ≡ 0 = rw old at t.low in omega arith; first_cells = λ stack. refl; items = rw e at (band_alone old) })

  pub whole_sub : IsWhole ws g j r.bottom (whole_band g r (first_of ws j) (second_of ws j))
  whole_sub = go (has_windows g) refl
    where
      go : (b : Bool) → has_windows g ≡ b → IsWhole ws g j r.bottom (whole_band g r (first_of ws j) (second_of ws j))
      go true e = whole_windows e
      go false e = whole_alone e

-- the lowest bottom is the take window's
pub lowest_is : (ws : List ℕ) (g : Settings) (r : Reach) → Together ws g r → has_windows g ≡ true → r.bottom ≡ bottom_of ws g 0
unfolding cond
lowest_is ws g r t has = rw has at t.low

-- where a sub does not lie within all windows, there are windows
pub beyond_has : (ws : List ℕ) (g : Settings) (r : Reach) (j : ℕ) → Together ws g r → r.width ≤ j → j < g.width → has_windows g ≡ true
beyond_has ws g r j t low high = go (has_windows g) refl
  where
    go : (b : Bool) → has_windows g ≡ b → b ≡ true
    go true e = refl
    go false e = absurd (omega (arith, t.every e))
