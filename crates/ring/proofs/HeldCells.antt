-- K2's theorem, and K8's: the segments of each live window are exactly the cells that a sub holds of it, once each, and the distance along them is
-- the answers'. The list of their cells is the list of the rows' remainders (Ring), and R rows in a row have R different ones (crates/rules, words/Places). The
-- rows that a sub holds of a window are those of its band (crates/rules, HeldRows).
use Prim.Native.Nat.{ℕ, zero, suc, ◌+◌, ◌-◌, ◌%◌, ◌^◌, ◌≤◌, ◌<◌}
use mathlib.Core.Path.{◌≡◌, refl, sym, ap, ◌∙◌}
use mathlib.Core.Logic.{◌⊎◌, inl, inr}
use mathlib.Core.Bool.{Bool, true, false}
use mathlib.Core.List.Memᴰ
use mathlib.Core.List.{List, [], ◌∷◌, Memᴰ}
use native.Mathlib.Omega.{arith}
use lib.ListN.{get_or, length}
use Rattle.laws.specs.Choice.{cond}
use Rattle.laws.specs.Wrap.{sub32}
use Rattle.rules.specs.Layout.{cell_of, sub_cells_at, first_of}
use Rattle.rules.specs.Limits.{Bounds}
use Rattle.rules.specs.Windows.{has_windows, live_of}
use Rattle.rules.specs.Fit.{FitPool}
use Rattle.rules.specs.Held.{Band, band_count, band_of, items_above, held_bands, held_sub, held_below, held_by, held_of, distance_of}
use Rattle.ring.specs.Segments.{band_segments, held_segments, up_from, cells_of, cell_items, walked_bands, walked_sub, walked_below, walked_distance}
use Rattle.rules.specs.HeldRows.{HeldRow}
use Rattle.ring.specs.HeldCells.{HeldCells, HeldInSegments, WalkMeetsHeld, SameDistance, SameNumber}
use Rattle.rules.specs.declared.Settings.{Settings}
use Rattle.rules.specs.declared.Stamp.{Stamp}
use Rattle.rules.proofs.Cells.{rows_pos}
use Rattle.rules.proofs.Fitness.{fit_pool}
use Rattle.rules.proofs.HeldRows.{holding, held_once}
use Rattle.ring.proofs.Ring.{remainders, remainders_length, remainders_at, segments_cells, segments_within, above_cells}
use Rattle.rules.proofs.words.Places.{ring_one}

-- ---- places in a list
abbrev Place : List ℕ → ℕ → Type 0
Place xs c = (k : ℕ) × (k < length xs) × (get_or xs k 0 ≡ c)

mem_place : (xs : List ℕ) (c : ℕ) → Memᴰ c xs → Place xs c
mem_place [] c m = absurd (Memᴰ.not-nil m)
mem_place (x ∷ xs) c m = by (Memᴰ.cases_cons m) (mem_place xs c)
  where
    by : (c ≡ x) ⊎ Memᴰ c xs → (Memᴰ c xs → Place xs c) → Place (x ∷ xs) c
    by (inl e) rest = (zero, omega arith, sym e)
    by (inr n) rest = let r = rest n in (suc r.0, omega (arith, r.1), r.2)

place_mem : (xs : List ℕ) (k c : ℕ) → k < length xs → get_or xs k 0 ≡ c → Memᴰ c xs
place_mem [] k c l e = absurd (omega arith)
place_mem (x ∷ xs) zero c l e = Memᴰ.head (sym e)
place_mem (x ∷ xs) (suc k) c l e = Memᴰ.tail (place_mem xs k c (omega arith) e)

-- ---- a band of at most R rows, each a 32-bit word
module _ (ws : List ℕ) (g : Settings) (j : ℕ) (x : Band) (b : Bounds g) (most : x.rows ≤ g.rows) (few : 1 ≤ x.rows → x.below + x.rows < 2 ^ 32) where
  abbrev cells : List ℕ
  cells = cells_of (band_segments g x)

  cells_are : cells ≡ remainders g.rows x.below x.rows
  cells_are = segments_cells g.rows x.below x.rows (rows_pos g b) most

  number : length cells ≡ x.rows
  number = ap length cells_are ∙ remainders_length g.rows x.below x.rows

  -- place i has the cell of row below + i + 1
  cell_at : (i : ℕ) → i < x.rows → get_or cells i 0 ≡ (x.below + i + 1 - 1) % g.rows
  cell_at i l =
      let back : x.below + i ≡ x.below + i + 1 - 1 = omega arith in
      ap (λ (xs : List ℕ). get_or xs i 0) cells_are ∙ remainders_at g.rows x.below x.rows i l ∙ ap (λ (n : ℕ). n % g.rows) back

  in_order : (i : ℕ) → i < x.rows → get_or cells i 0 ≡ cell_of g (x.below + i + 1)
  in_order i l =
      let low = few (omega arith) in
      let back : sub32 (x.below + i + 1) 1 ≡ x.below + i + 1 - 1 = omega arith in
      cell_at i l ∙ sym (ap (λ (n : ℕ). n % g.rows) back)

  once : (a c : ℕ) → a < length cells → c < length cells → get_or cells a 0 ≡ get_or cells c 0 → a ≡ c
  once a c la lc e =
      let same = sym (cell_at a (omega (arith, number))) ∙ e ∙ cell_at c (omega (arith, number)) in
      let in_a : x.below + a + 1 ≤ x.below + g.rows = omega (arith, number) in
      let in_c : x.below + c + 1 ≤ x.below + g.rows = omega (arith, number) in
      let row = ring_one g.rows x.below (x.below + a + 1) (x.below + c + 1) (rows_pos g b) (omega arith) in_a (omega arith) in_c same in
      omega arith

  row_of : (c : ℕ) → Memᴰ c cells → (row : ℕ) × (x.below < row) × (row ≤ x.below + x.rows) × (cell_of g row ≡ c)
  row_of c m =
      let i = mem_place cells c m in
      let l : i.0 < x.rows = omega (arith, number, i.1) in
      (x.below + i.0 + 1, omega arith, omega arith, sym (in_order i.0 l) ∙ i.2)

  of_row : (c row : ℕ) → x.below < row → row ≤ x.below + x.rows → cell_of g row ≡ c → Memᴰ c cells
  of_row c row a u e =
      let i = row - x.below - 1 in
      let l : i < x.rows = omega arith in
      let is : x.below + i + 1 ≡ row = omega arith in
      place_mem cells i c (omega (arith, number)) (in_order i l ∙ ap (cell_of g) is ∙ e)

  items : cell_items ws (sub_cells_at g j) cells ≡ items_above ws g j x.below x.rows
  unfolding items_above up_from
  items = ap (cell_items ws (sub_cells_at g j)) cells_are ∙ along x.rows few
    where
      along : (n : ℕ) → (1 ≤ n → x.below + n < 2 ^ 32) → cell_items ws (sub_cells_at g j) (remainders g.rows x.below n) ≡ items_above ws g j x.below n
      along zero f = refl
      along (suc n) f = above_cells ws g j x.below (suc n) (f (omega arith))

-- ---- the segments of a live window
module _ (ws : List ℕ) (g : Settings) (j : ℕ) (few : first_of ws j < 2 ^ 32) (fit : FitPool g ws) (l : j < g.width) where
  held_if : (k c : ℕ) → Memᴰ c (cells_of (held_segments ws g j k)) → (row : ℕ) × HeldRow ws g k j row × (cell_of g row ≡ c)
  held_if k c m =
      let h = holding ws g j few fit l k in
      let r = row_of ws g j (band_of ws g j k) fit.bounds h.most h.few c m in
      (r.0, h.each r.0 r.1 r.2, r.3)

  if_held : (k c : ℕ) → (row : ℕ) × HeldRow ws g k j row × (cell_of g row ≡ c) → Memᴰ c (cells_of (held_segments ws g j k))
  if_held k c r =
      let h = holding ws g j few fit l k in
      let o = h.only r.0 r.1 in
      of_row ws g j (band_of ws g j k) fit.bounds h.most h.few c r.0 o.0 o.1 r.2

  pub band_walked : (k : ℕ) → cell_items ws (sub_cells_at g j) (cells_of (held_segments ws g j k)) ≡ items_above ws g j (band_of ws g j k).below (band_of ws g j k).rows
  band_walked k = let h = holding ws g j few fit l k in items ws g j (band_of ws g j k) fit.bounds h.most h.few

  held_cells : (k : ℕ) → HeldCells ws g k j (held_segments ws g j k)
  held_cells k =
      let h = holding ws g j few fit l k in
      let x = band_of ws g j k in
      record {
        within = segments_within g.rows x.below x.rows (rows_pos g fit.bounds) h.most;
        exactly = λ c. (held_if k c, if_held k c);
        once = once ws g j x fit.bounds h.most h.few;
        number = number ws g j x fit.bounds h.most h.few;
        in_order = in_order ws g j x fit.bounds h.most h.few;
        items = band_walked k;
      }

  -- no cell is in the runs of two windows
  windows_apart : (k m c : ℕ) → k < band_count ws g → m < band_count ws g
      → Memᴰ c (cells_of (held_segments ws g j k)) → Memᴰ c (cells_of (held_segments ws g j m)) → k ≡ m
  unfolding band_count cond
  windows_apart k m c a b u v = go (has_windows g) refl a b
    where
      go : (e : Bool) → has_windows g ≡ e → k < cond e (live_of ws g) 1 → m < cond e (live_of ws g) 1 → k ≡ m
      go true has p q = let r = held_if k c u in let t = held_if m c v in held_once ws g j few fit l has k m r.0 t.0 r.1 t.1 (r.2 ∙ sym t.2)
      go false old p q = omega arith

  bands_walked : (m : ℕ) → walked_bands ws g j m ≡ held_bands ws g j m
  unfolding walked_bands held_bands
  bands_walked zero = refl
  bands_walked (suc k) = rw (bands_walked k, band_walked k) refl

  pub sub_walked : walked_sub ws g j ≡ held_sub ws g j
  unfolding held_sub
  sub_walked = bands_walked (band_count ws g)

-- ---- a pool
module _ (ws : List ℕ) (g : Settings) (few : (j : ℕ) → first_of ws j < 2 ^ 32) (fit : FitPool g ws) where
  walked_below_law : (m : ℕ) → m ≤ g.width → walked_below ws g m ≡ held_below ws g m
  unfolding walked_below held_below
  walked_below_law zero l = refl
  walked_below_law (suc j) l = rw (walked_below_law j (omega arith), sub_walked ws g j (few j) fit l) refl

  pub distance_walked : (s : Stamp) → walked_distance ws g s ≡ distance_of ws g s
  unfolding walked_distance distance_of
  distance_walked s = rw (walked_below_law g.width (omega arith)) refl

-- ---- the theorem
pub held_in_segments : HeldInSegments
held_in_segments ws g j image l =
    let fit = fit_pool g.edition ws g image.fit in
    (λ k m. held_cells ws g j (image.words _) fit l k, windows_apart ws g j (image.words _) fit l)

pub walk_meets_held : WalkMeetsHeld
walk_meets_held ws g image = walked_below_law ws g (λ j. image.words _) (fit_pool g.edition ws g image.fit) g.width (omega arith)

pub same_distance : SameDistance
same_distance ws g s image = distance_walked ws g (λ j. image.words _) (fit_pool g.edition ws g image.fit) s

pub same_number : SameNumber
unfolding held_of held_by
same_number ws g image = rw image.fit (ap length (walk_meets_held ws g image))
