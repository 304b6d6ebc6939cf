-- Windows one after the other that a sub lies in hold one band of rows: where a window's band ends at its top, the next one's starts there, and above the last put
-- row, or below the last taken one, the bands are empty. A window that the sub does not lie in holds nothing of it.
use Rattle.std.proofs.Common.{ℕ, zero, suc, ◌+◌, ◌-◌, ◌≤◌, ◌<◌, List, ◌++◌, append_assoc, append-nil, ◌≡◌, refl, sym, ap, ap₂, ◌∙◌, ◌≢◌, ⊎_elim, true, add-zero, add-suc, le_trans, eq-or-lt_of_le, add-one, arith, lt-ltb, le-ltb}
use Rattle.std.proofs.Math.Decide.{ℕ_discrete, dec_lt}
use Rattle.laws.specs.Choice.{cond}
use Rattle.rules.specs.Held.{Band, band_between, band_of, items_above, held_bands}
use Rattle.rules.specs.Layout.{first_of, second_of}
use Rattle.rules.specs.Windows.{has_windows, nth_size, bottom_of, higher, lower}
use Rattle.rules.specs.declared.Settings.{Settings}
use Rattle.rules.proofs.Cells.{lower_left}
use Rattle.bands.specs.Together.{Joins}
use Rattle.bands.proofs.Rows.{rows_join}
use Rattle.bands.proofs.Bottoms.{bottoms_up}

-- ---- rows between a lowest one and a bound, up to b and on to c, with s the last taken row and f the last put one
module _ (f s a b c : ℕ) (up : a ≤ b) (on : b ≤ c) where
  -- above the last put row there are none more
  none_more : f ≤ b → lower f b - higher s a + (lower f c - higher s b) ≡ lower f c - higher s a
  none_more l =
      let p : lower f b ≡ f = omega arith in
      let q : lower f c ≡ f = omega arith in
      let r : f - higher s b ≡ 0 = omega arith in
      rw (p, q, r) (add-zero (f - higher s a))

  -- below the last taken row there are none yet
  none_yet : b < f → b ≤ s → lower f b - higher s a + (lower f c - higher s b) ≡ lower f c - higher s a
  none_yet l m =
      let p : lower f b ≡ b = omega arith in
      let q : higher s a ≡ s = omega arith in
      let r : higher s b ≡ s = omega arith in
      let z : b - s ≡ 0 = omega arith in
      rw (p, q, r, z) (omega arith)

  go_on : b < f → s < b → lower f b - higher s a + (lower f c - higher s b) ≡ lower f c - higher s a
  go_on l m =
      let p : lower f b ≡ b = omega arith in
      let r : higher s b ≡ b = omega arith in
      let h : higher s a ≤ b = omega arith in
      let t : b ≤ lower f c = omega arith in
      rw (p, r) (omega_sum (higher s a) (lower f c) h t)
    where
      omega_sum : (x y : ℕ) → x ≤ b → b ≤ y → b - x + (y - b) ≡ y - x
      omega_sum x y k n = omega arith

  rows_sum : lower f b - higher s a + (lower f c - higher s b) ≡ lower f c - higher s a
  rows_sum = elim (dec_lt b f) [ yes l ↦ elim (dec_lt s b) [ yes m ↦ go_on l m | no m ↦ none_yet l (omega arith) ] | no l ↦ none_more (omega arith) ]

  gap : (x y : ℕ) → x - y ≢ 0 → y < x
  gap x y n = omega arith

  meet_above : higher s b < f → higher s a + (lower f b - higher s a) ≡ higher s b
  meet_above above =
      let p : lower f b ≡ b = omega arith in
      rw p (elim (dec_lt s b) [
        | yes m ↦ let r : higher s b ≡ b = omega arith in rw r (omega arith)
        | no m ↦ let q : higher s a ≡ s = omega arith in let r : higher s b ≡ s = omega arith in rw (q, r) (omega arith)
      ])

  rows_meet : lower f c - higher s b ≢ 0 → higher s a + (lower f b - higher s a) ≡ higher s b
  rows_meet some = meet_above (le_trans (gap (lower f c) (higher s b) some) (lower_left f c))

-- ---- bands one above the other
module _ (ws : List ℕ) (g : Settings) (j : ℕ) where
  -- a band that is empty, or starts where the rows so far end
  band_joins : (t a below rows : ℕ) → (rows ≢ 0 → t + a ≡ below) → items_above ws g j t a ++ items_above ws g j below rows ≡ items_above ws g j t (a + rows)
  unfolding items_above
  band_joins t a below rows h = elim (ℕ_discrete rows 0) [
    | yes y ↦ rw (y, add-zero) (append-nil _)
    | no n ↦ rw (← h n) (sym (rows_join ws g j t a rows))
  ]

  -- the lowest row of a window that is held, and how many rows there are from it up to the bottom of another
  abbrev pub lowest_in : ℕ → ℕ
  lowest_in k = higher (second_of ws j) (bottom_of ws g k)

  abbrev pub rows_up_to : ℕ → ℕ → ℕ
  rows_up_to k m = lower (first_of ws j) (bottom_of ws g m) - lowest_in k

  module _ (has : has_windows g ≡ true) where
    -- ---- a window that the sub lies in
    band_is : (k : ℕ) → j < (nth_size ws g k).width → band_of ws g j k ≡ band_between (lowest_in k) (lower (first_of ws j) (bottom_of ws g (suc k)))
    unfolding band_of cond
    band_is k inside = rw (has, lt-ltb j (nth_size ws g k).width inside) refl

    pub joined_bands : (k d : ℕ) → ((i : ℕ) → k ≤ i → i < k + d → j < (nth_size ws g i).width) → held_bands ws g j (k + d) ≡ held_bands ws g j k ++ items_above ws g j (lowest_in k) (rows_up_to k (k + d))
    unfolding held_bands items_above
    joined_bands k zero inside =
        let none : rows_up_to k k ≡ 0 = omega arith in
        rw (add-zero k, none) (sym (append-nil _))
    joined_bands k (suc d) inside =
        let m = k + d in
        let rows = lower (first_of ws j) (bottom_of ws g (suc m)) - lowest_in m in
        let from = bottoms_up ws g k m (omega arith) in
        let on = bottoms_up ws g m (suc m) (omega arith) in
        let more : rows_up_to k m + rows ≡ rows_up_to k (suc m) = rows_sum (first_of ws j) (second_of ws j) (bottom_of ws g k) (bottom_of ws g m) (bottom_of ws g (suc m)) from on in
        rw (add-suc k d) (
        ap₂ ◌++◌ (joined_bands k d (λ i l h. inside i l (omega arith))) (ap (λ (b : Band). items_above ws g j b.below b.rows) (band_is m (inside m (omega arith) (omega arith))))
        ∙ append_assoc (held_bands ws g j k) (items_above ws g j (lowest_in k) (rows_up_to k m)) (items_above ws g j (lowest_in m) rows)
        ∙ ap (λ x. held_bands ws g j k ++ x) (
        band_joins (lowest_in k) (rows_up_to k m) (lowest_in m) rows (rows_meet (first_of ws j) (second_of ws j) (bottom_of ws g k) (bottom_of ws g m) (bottom_of ws g (suc m)) from on)
        ∙ ap (items_above ws g j (lowest_in k)) more)
        )

    -- so those that were gone through and the joined ones
    pub joined_held : (from end top : ℕ) → Joins ws g j from end top → held_bands ws g j end ≡ held_bands ws g j from ++ items_above ws g j (lowest_in from) (lower (first_of ws j) top - lowest_in from)
    joined_held from end top w =
        let far : from + (end - from) ≡ end = omega (arith, w.on) in
        rw w.up_to (rw far at (joined_bands from (end - from) (λ i l h. w.inside i l (omega (arith, far)))))

    -- ---- a band without rows
    none_joins : (k : ℕ) → (band_of ws g j k).rows ≡ 0 → held_bands ws g j (suc k) ≡ held_bands ws g j k
    unfolding held_bands items_above
    none_joins k e = rw e (append-nil _)

    band_outside : (k : ℕ) → (nth_size ws g k).width ≤ j → (band_of ws g j k).rows ≡ 0
    unfolding band_of cond
    band_outside k outside = rw (has, le-ltb j (nth_size ws g k).width outside) (omega arith)

    pub outside_none : (k : ℕ) → (nth_size ws g k).width ≤ j → held_bands ws g j (k + 1) ≡ held_bands ws g j k
    outside_none k outside = rw (add-one k) (none_joins k (band_outside k outside))

    -- no band has rows above the last put one
    band_low : (k : ℕ) → first_of ws j ≤ lowest_in k → (band_of ws g j k).rows ≡ 0
    unfolding band_of cond
    band_low k l = elim (dec_lt j (nth_size ws g k).width) [
      | yes y ↦ rw (has, lt-ltb j (nth_size ws g k).width y) (omega arith)
      | no n ↦ rw (has, le-ltb j (nth_size ws g k).width (omega arith)) (omega arith)
    ]

    -- so there is nothing from a window on whose lowest row is not below it
    pub nothing_above : (k m : ℕ) → first_of ws j ≤ lowest_in k → k ≤ m → held_bands ws g j m ≡ held_bands ws g j k
    nothing_above k zero l up = let z : k ≡ 0 = omega arith in rw z refl
    nothing_above k (suc m) l up =
        ⊎_elim
        (λ (e : k ≡ suc m). rw e refl)
        (λ (h : k < suc m). none_joins m (band_low m (omega (arith, bottoms_up ws g k m (omega arith)))) ∙ nothing_above k m l (omega arith))
        (eq-or-lt_of_le up)
