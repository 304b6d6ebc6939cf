-- The rows that a sub holds of a live window are those of its band (`holding`). A sub holds nothing, or all that it holds lies within R rows above its level,
-- the higher of its last taken row and the take window's bottom; so a band has at most R rows, and two bands of a sub share no cell, since each window's top
-- is the next one's bottom (`held_once`).
use Prim.Native.Nat.{ℕ, zero, suc, ◌+◌, ◌-◌, ◌%◌, ◌^◌, ◌≤◌, ◌<◌}
use mathlib.Core.Path.{◌≡◌, refl, sym, ◌∙◌}
use mathlib.Core.Logic.{⊎_elim}
use mathlib.Core.Bool.{Bool, true, false, false≢true}
use mathlib.Core.List.{List}
use native.Mathlib.Nat.{le_refl, le_trans, eq-or-lt_of_le}
use native.Mathlib.Decide.{dec_lt}
use native.Mathlib.Omega.{arith}
use lib.ListN.{get_or, length, length-append}
use lib.Dec.{ltb}
use borrow.Author.Tests.{ltb-true, ltb-false, eqb-true}
use Rattle.laws.specs.Choice.{cond, cases, both_true}
use Rattle.laws.specs.Wrap.{sub32}
use Rattle.rules.specs.Layout.{top_at, cell_of, first_of, second_of}
use Rattle.rules.specs.Limits.{windowed}
use Rattle.rules.specs.Windows.{has_windows, live_of, nth_size, bottom_of, higher, lower, level_of}
use Rattle.rules.specs.Fit.{WindowsFit, FitPool}
use Rattle.rules.specs.Held.{Band, band_between, rows_below, sub_band, window_band, band_count, band_of, items_above, held_bands, held_sub}
use Rattle.rules.specs.HeldRows.{HeldRow}
use Rattle.rules.proofs.Types.{Settings}
use Rattle.rules.proofs.Cells.{rows_pos, held_order, band_fits, higher_right, lower_right, queue_below}
use Rattle.rules.proofs.words.Places.{ring_one}

-- ---- what a sub holds of a window
items_length : (ws : List ℕ) (g : Settings) (j t k : ℕ) → length (items_above ws g j t k) ≡ k
unfolding items_above
items_length ws g j t zero = refl
items_length ws g j t (suc k) = simp length-append (omega (arith, items_length ws g j t k))

-- rows up to a bottom and rows above it
gaps : (l p h q a b : ℕ) → l ≤ h → p ≤ h → p ≤ q → a ≤ p - l → b ≤ q - h → a + b ≤ q - l
gaps l p h q a b u v w x y = omega arith

lower_grows : (f b c : ℕ) → b ≤ c → lower f b ≤ lower f c
lower_grows f b c l = omega arith

higher_grows : (s b c : ℕ) → b ≤ c → higher s b ≤ higher s c
higher_grows s b c l = omega arith

stacked : (f s b c d m n : ℕ) → b ≤ c → c ≤ d → m ≤ lower f c - higher s b → n ≤ lower f d - higher s c → m + n ≤ lower f d - higher s b
stacked f s b c d m n l h x y =
    gaps (higher s b) (lower f c) (higher s c) (lower f d) m n (higher_grows s b c l) (le_trans (lower_right f c) (higher_right s c)) (lower_grows f c d h) x y

-- each window's bottom is at or above the ones before it
pub bottoms_grow : (ws : List ℕ) (g : Settings) (k l : ℕ) → k ≤ l → bottom_of ws g k ≤ bottom_of ws g l
unfolding bottom_of
bottoms_grow ws g k zero h = let z : k ≡ 0 = omega arith in rw z (le_refl _)
bottoms_grow ws g k (suc l) h =
    ⊎_elim
    (λ (e : k ≡ suc l). rw e (le_refl _))
    (λ (m : k < suc l). omega (arith, bottoms_grow ws g k l (omega arith)))
    (eq-or-lt_of_le h)

-- so none is above the put window's top
pub bottom_most : (ws : List ℕ) (g : Settings) (k : ℕ) → WindowsFit g ws → k ≤ live_of ws g → bottom_of ws g k ≤ get_or ws top_at 0
bottom_most ws g k fit l = omega (arith, bottoms_grow ws g k (live_of ws g) l, fit.lead)

-- the rows of x are the held ones of the live window k, at most R and all of them 32-bit words
pub record Holding (ws : List ℕ) (g : Settings) (k j : ℕ) (x : Band) : Type 0 where
  pub most : x.rows ≤ g.rows
  pub few : 1 ≤ x.rows → x.below + x.rows < 2 ^ 32
  pub each : (row : ℕ) → x.below < row → row ≤ x.below + x.rows → HeldRow ws g k j row
  pub only : (row : ℕ) → HeldRow ws g k j row → (x.below < row) × (row ≤ x.below + x.rows)

module _ (ws : List ℕ) (g : Settings) (j : ℕ) (few : first_of ws j < 2 ^ 32) (fit : FitPool g ws) (l : j < g.width) where
  -- where windows have no sizes of their own, all that it holds
  whole_holding : (k : ℕ) → has_windows g ≡ false → Holding ws g k j (sub_band g (first_of ws j) (second_of ws j))
  whole_holding k old =
      let order = held_order g _ _ _ (fit.sub j l) in
      record {
        most = band_fits g _ _ _ old (fit.sub j l);
        few = λ some. omega arith;
        each = λ row a u. record { above = a; up_to = omega arith; window = λ has. absurd (false≢true (sym old ∙ has)) };
        only = λ row h. (h.above, omega (arith, h.up_to));
      }

  module _ (has : has_windows g ≡ true) where
    queue : g.kind ≡ 0
    queue = eqb-true _ _ (both_true (windowed g) _ has).1

    below_is : rows_below g (second_of ws j) ≡ second_of ws j
    below_is = queue_below g queue (second_of ws j)

    -- a sub that holds something has at most R rows above its level
    above_level : second_of ws j < first_of ws j → first_of ws j ≤ higher (second_of ws j) (bottom_of ws g 0) + g.rows
    unfolding level_of cond
    above_level some = rw (both_true (windowed g) _ has).0 at ((fit.sub j l).queue_rows queue (λ e. omega arith))

    band_holding : (k : ℕ) → j < (nth_size ws g k).width
        → Holding ws g k j (band_between (higher (second_of ws j) (bottom_of ws g k)) (lower (first_of ws j) (bottom_of ws g (suc k))))
    band_holding k wide =
        record {
          most = elim (dec_lt (second_of ws j) (first_of ws j)) [
            | yes y ↦ omega (arith, above_level y, bottoms_grow ws g 0 k (omega arith))
            | no n ↦ omega arith
          ];
          few = λ some. omega arith;
          each = λ row a u.
              record { above = omega (arith, below_is); up_to = omega arith; window = λ _. record { wide = wide; above = omega arith; up_to = omega arith } };
          only = λ row h.
              let w = h.window has in (omega (arith, below_is, h.above, w.above), omega (arith, below_is, h.above, w.above, h.up_to, w.up_to));
        }

    none_holding : (k : ℕ) → (nth_size ws g k).width ≤ j → Holding ws g k j (band_between 0 0)
    none_holding k narrow =
        record {
          most = omega arith;
          few = λ some. omega arith;
          each = λ row a u. absurd (omega arith);
          only = λ row h. absurd (omega (arith, (h.window has).wide));
        }

    window_holding : (k : ℕ) → Holding ws g k j (window_band ws g j k)
    window_holding k =
        cases (Holding ws g k j) (ltb j (nth_size ws g k).width) _ _ (λ e. band_holding k (ltb-true _ _ e)) (λ e. none_holding k (ltb-false _ _ e))

    -- all bands together lie above the level, one above the other
    band_rows : (k : ℕ) → (window_band ws g j k).rows ≤ lower (first_of ws j) (bottom_of ws g (suc k)) - higher (second_of ws j) (bottom_of ws g k)
    band_rows k =
        cases (λ (x : Band). x.rows ≤ lower (first_of ws j) (bottom_of ws g (suc k)) - higher (second_of ws j) (bottom_of ws g k)) (ltb j (nth_size ws g k).width) _ _
        (λ e. omega arith) (λ e. omega arith)

    bands_rows : (m : ℕ) → length (held_bands ws g j m) ≤ lower (first_of ws j) (bottom_of ws g m) - higher (second_of ws j) (bottom_of ws g 0)
    unfolding held_bands band_of cond
    bands_rows zero = omega arith
    bands_rows (suc k) =
        let more : length (held_bands ws g j (suc k)) ≡ length (held_bands ws g j k) + (window_band ws g j k).rows =
        length-append (held_bands ws g j k) _ ∙ rw (has, items_length ws g j (window_band ws g j k).below (window_band ws g j k).rows) refl in
        let low = bottoms_grow ws g 0 k (omega arith) in
        let high = bottoms_grow ws g k (suc k) (omega arith) in
        rw more (stacked (first_of ws j) (second_of ws j) (bottom_of ws g 0) (bottom_of ws g k) (bottom_of ws g (suc k)) _ _ low high (bands_rows k) (band_rows k))

    bands_most : (m : ℕ) → length (held_bands ws g j m) ≤ g.rows
    bands_most m = elim (dec_lt (second_of ws j) (first_of ws j)) [ yes y ↦ omega (arith, bands_rows m, above_level y) | no n ↦ omega (arith, bands_rows m) ]

    -- a row held is held of one window, and the row of one cell alone
    pub held_once : (k m row row' : ℕ) → HeldRow ws g k j row → HeldRow ws g m j row' → cell_of g row ≡ cell_of g row' → k ≡ m
    held_once k m row row' h h' e =
        let w = h.window has in
        let w' = h'.window has in
        let level = above_level (omega (arith, below_is, h.above, h.up_to)) in
        let lowest : bottom_of ws g 0 ≤ bottom_of ws g k = bottoms_grow ws g 0 k (omega arith) in
        let lowest' : bottom_of ws g 0 ≤ bottom_of ws g m = bottoms_grow ws g 0 m (omega arith) in
        let back : sub32 row 1 ≡ row - 1 = omega (arith, below_is, h.above, h.up_to) in
        let back' : sub32 row' 1 ≡ row' - 1 = omega (arith, below_is, h'.above, h'.up_to) in
        let same : (row - 1) % g.rows ≡ (row' - 1) % g.rows = rw (back, back') at e in
        let one : row ≡ row' =
        ring_one g.rows (higher (second_of ws j) (bottom_of ws g 0)) row row' (rows_pos g fit.bounds)
        (omega (arith, below_is, h.above, w.above)) (omega (arith, h.up_to)) (omega (arith, below_is, h'.above, w'.above)) (omega (arith, h'.up_to)) same in
        elim (dec_lt k m) [
          | yes y ↦ absurd (omega (arith, bottoms_grow ws g (suc k) m y, w.up_to, w'.above))
          | no n ↦ elim (dec_lt m k) [
            | yes y ↦ absurd (omega (arith, bottoms_grow ws g (suc m) k y, w'.up_to, w.above))
            | no n' ↦ omega arith
          ]
        ]

  pub holding : (k : ℕ) → Holding ws g k j (band_of ws g j k)
  unfolding band_of
  holding k = cases (Holding ws g k j) (has_windows g) _ _ (λ has. window_holding has k) (λ old. whole_holding k old)

  -- a sub holds at most R items
  pub sub_most : length (held_sub ws g j) ≤ g.rows
  unfolding held_sub band_count held_bands cond
  sub_most = go (has_windows g) refl
    where
      go : (b : Bool) → has_windows g ≡ b → length (held_bands ws g j (cond b (live_of ws g) 1)) ≤ g.rows
      go true has = bands_most has (live_of ws g)
      go false old = omega (arith, items_length ws g j (band_of ws g j 0).below (band_of ws g j 0).rows, (holding 0).most)
