-- What is counted band by band and sub by sub: one more adds what it has.
use Rattle.std.proofs.Common.{ℕ, ◌+◌, ◌-◌, ◌^◌, ◌≤◌, ◌<◌, List, ◌≡◌, refl, sym, ap, ◌∙◌, Bool, true, add-one, arith, get_or, length, length-append, max, min}
use Rattle.laws.specs.Choice.{cond}
use Rattle.bands.proofs.Bottoms.{next_bottom, bottoms_up, is_queue}
use Rattle.bands.proofs.JoinedBands.{lowest_in, joined_held, nothing_above}
use Rattle.bands.proofs.Rows.{rows_items, rows_in_runs}
use Rattle.bands.proofs.Walks.{Walked, between_walked, band_walked, walked_sub_law}
use Rattle.bands.proofs.Whole.{whole_sub, lowest_is}
use Rattle.bands.proofs.Extremes.{max_is_higher, min_is_lower}
use Rattle.rules.specs.declared.Segments.{Segments}
use Rattle.bands.specs.Together.{Joins, Together, TellsCell, band_within, whole_band}
use Rattle.bands.specs.declared.reach.Reach.{Reach}
use Rattle.rules.proofs.Cells.{count_append}
use Rattle.rules.specs.Fit.{FitPool}
use Rattle.rules.specs.Held.{Item, band_between, band_count, band_of, items_above, held_bands, held_sub, held_below, count_items, reported}
use Rattle.rules.specs.Layout.{first_of, second_of, sub_cells_at}
use Rattle.ring.specs.Segments.{segments_above, cells_of, cell_items, walked_sub}
use Rattle.rules.specs.Windows.{has_windows, live_of, nth_size, bottom_of, lower}
use Rattle.rules.specs.declared.Settings.{Settings}
use Rattle.rules.specs.declared.Size.{Size}

module _ (ws : List ℕ) (g : Settings) where
  -- ---- bands
  pub live_bands : has_windows g ≡ true → band_count ws g ≡ live_of ws g
  unfolding band_count cond
  live_bands has = rw has refl

  -- a band as it is read: by a sub's words, a window's bottom and its size
  pub band_read : has_windows g ≡ true → (j k : ℕ) {first second bottom : ℕ} {size : Size} → first ≡ first_of ws j → second ≡ second_of ws j
      → bottom ≡ bottom_of ws g k → size ≡ nth_size ws g k → band_within j first second bottom size ≡ band_of ws g j k
  unfolding band_of cond
  band_read has j k a b c d = rw (a, b, c, d, has, next_bottom ws g k) refl

  pub rows_none : (j : ℕ) → length (held_bands ws g j 0) ≡ 0
  unfolding held_bands
  rows_none j = refl

  pub rows_more : (j k : ℕ) → length (held_bands ws g j (k + 1)) ≡ length (held_bands ws g j k) + (band_of ws g j k).rows
  unfolding held_bands
  rows_more j k = rw add-one (simp (length-append, rows_items))

  -- ---- subs
  pub held_none : length (held_below ws g 0) ≡ 0
  unfolding held_below
  held_none = refl

  pub held_more : (j : ℕ) → length (held_below ws g (j + 1)) ≡ length (held_below ws g j) + length (held_sub ws g j)
  unfolding held_below
  held_more j = rw add-one (simp length-append)

-- ---- windows that a sub lies in one after the other
module _ (ws : List ℕ) (g : Settings) (fit : FitPool g ws) (words : (k : ℕ) → get_or ws k 0 < 2 ^ 32) (has : has_windows g ≡ true) (j : ℕ) (wide : j < g.width) (p : Item → Bool) where
  joined_walked : (from end top : ℕ) → Joins ws g j from end top → Walked g (band_between (lowest_in ws g j from) (lower (first_of ws j) top))
  joined_walked from end top w = rw w.up_to (between_walked ws g fit words j wide has from end (omega (arith, w.on, w.last)))

  joined_few : (from end top : ℕ) → Joins ws g j from end top → lower (first_of ws j) top - lowest_in ws g j from ≤ g.rows
  joined_few from end top w = (joined_walked from end top w).few

  -- what lies in the runs of their band is what is held from the first of them on
  joined_counted : (from end top : ℕ) → Joins ws g j from end top
      → count_items p (held_bands ws g j from) + count_items p (cell_items ws (sub_cells_at g j) (cells_of (segments_above g.rows (lowest_in ws g j from) (lower (first_of ws j) top - lowest_in ws g j from))))
      ≡ count_items p (held_bands ws g j end)
  joined_counted from end top w =
      let low = lowest_in ws g j from in
      let rows = lower (first_of ws j) top - low in
      let walked = joined_walked from end top w in
      let cells = rows_in_runs ws g j low rows fit.bounds walked.few walked.small in
      ap (λ (xs : List Item). count_items p (held_bands ws g j from) + count_items p xs) cells
      ∙ sym (count_append p (held_bands ws g j from) (items_above ws g j low rows))
      ∙ sym (ap (count_items p) (joined_held ws g j has from end top w))

  -- all that is gone through on a walk is what the live windows hold
  pub live_counted : count_items p (walked_sub ws g j) ≡ count_items p (held_bands ws g j (live_of ws g))
  unfolding held_sub
  live_counted = ap (count_items p) (walked_sub_law ws g fit words j wide) ∙ ap (λ (m : ℕ). count_items p (held_bands ws g j m)) (live_bands ws g has)

  pub none_counted : count_items p (held_bands ws g j 0) ≡ 0
  unfolding held_bands count_items
  none_counted = refl

  -- from the last put row on there is nothing
  pub rest_counted : (k : ℕ) → k ≤ live_of ws g → first_of ws j ≤ lowest_in ws g j k → count_items p (walked_sub ws g j) ≡ count_items p (held_bands ws g j k)
  rest_counted k l low = live_counted ∙ ap (count_items p) (nothing_above ws g j has k (live_of ws g) low l)

-- ---- such windows of which the band is read
pub record JoinedRead (ws : List ℕ) (g : Settings) (r : Reach) (j from end below rows : ℕ) : Type 0 where
  pub few : rows ≤ g.rows
  pub tells : TellsCell g.rows r below
  pub counted : (s : ℕ) {n m : ℕ} {held : Segments} → n ≡ count_items (reported g.kind s) (held_bands ws g j from) → held ≡ segments_above g.rows below rows
      → m ≡ count_items (reported 0 s) (cell_items ws (sub_cells_at g j) (cells_of held)) → n + m ≡ count_items (reported g.kind s) (held_bands ws g j end)

pub joined_read : (ws : List ℕ) (g : Settings) → FitPool g ws → ((k : ℕ) → get_or ws k 0 < 2 ^ 32) → has_windows g ≡ true → (r : Reach) → Together ws g r → (j : ℕ) → j < g.width
    → {from end top first second bottom low high below rows : ℕ} → Joins ws g j from end top → first ≡ first_of ws j → second ≡ second_of ws j → bottom ≡ bottom_of ws g from
    → low ≡ max second bottom → high ≡ min first top → (below ≡ (band_between low high).below) × (rows ≡ (band_between low high).rows) → JoinedRead ws g r j from end below rows
joined_read ws g fit words has r t j wide {from} {end} {top} {below = below} {rows = rows} w a b d e f h =
    let low = lowest_in ws g j from in
    let cells = cell_items ws (sub_cells_at g j) (cells_of (segments_above g.rows low (lower (first_of ws j) top - low))) in
    let read : (below ≡ low) × (rows ≡ lower (first_of ws j) top - low) = rw (e ∙ max_is_higher _ _, f ∙ min_is_lower _ _, a, b, d) at h in
    rw (read.0, read.1) (
    record {
      few = joined_few ws g fit words has j wide (λ _. true) from end top w;
      tells = (t.at_cell, omega (arith, lowest_is ws g r t has, bottoms_up ws g 0 from (omega arith)));
      counted = λ s x y z.
          let queue = ap (λ (kind : ℕ). count_items (reported kind s) cells) (sym (is_queue ws g fit has)) in
          omega (arith, x, rw y at z, queue, joined_counted ws g fit words has j wide (reported g.kind s) from end top w);
    }
    )

-- ---- a sub that lies within all windows, of which the whole band is read
pub record WholeRead (ws : List ℕ) (g : Settings) (r : Reach) (j below rows : ℕ) : Type 0 where
  pub few : rows ≤ g.rows
  pub first_cells : 1 ≤ g.kind → below ≡ 0
  pub tells : TellsCell g.rows r below
  pub counted : (p : Item → Bool) → count_items p (cell_items ws (sub_cells_at g j) (cells_of (segments_above g.rows below rows))) ≡ count_items p (walked_sub ws g j)
  pub many : rows ≡ length (held_sub ws g j)

pub whole_read : (ws : List ℕ) (g : Settings) → FitPool g ws → ((k : ℕ) → get_or ws k 0 < 2 ^ 32) → (r : Reach) → Together ws g r → (j : ℕ) → j < r.width
    → {first second below rows : ℕ} → first ≡ first_of ws j → second ≡ second_of ws j
    → (below ≡ (whole_band g r first second).below) × (rows ≡ (whole_band g r first second).rows) → WholeRead ws g r j below rows
whole_read ws g fit words r t j within a b e =
    let band = whole_band g r (first_of ws j) (second_of ws j) in
    let whole = whole_sub ws g fit words r t j within in
    let wide : j < g.width = omega (arith, t.most) in
    let walk = rows_in_runs ws g j band.below band.rows fit.bounds whole.walked.few whole.walked.small in
    rw (e.0, e.1, a, b) (
    record {
      few = whole.walked.few;
      first_cells = whole.first_cells;
      tells = (t.at_cell, whole.above);
      counted = λ p. ap (count_items p) (walk ∙ sym whole.items ∙ sym (walked_sub_law ws g fit words j wide));
      many = sym (ap length whole.items ∙ rows_items ws g j band.below band.rows);
    }
    )

-- ---- the band of a live window has at most R rows
pub live_few : (ws : List ℕ) (g : Settings) → FitPool g ws → ((k : ℕ) → get_or ws k 0 < 2 ^ 32) → has_windows g ≡ true → (j k : ℕ) → j < g.width → k < live_of ws g
    → (band_of ws g j k).rows ≤ g.rows
live_few ws g fit words has j k wide live = (band_walked ws g fit words j wide k (omega (arith, live_bands ws g has))).few
