-- The distance's way through the cells: paper 02's "go through a sub's held cells in at most two straight runs, up to the last cell and
-- on from the first". That these are the held cells, and no answer changes, is stated in specs/HeldCells.
use Rattle.std.specs.Prelude.{ℕ, zero, suc, ◌+◌, ◌-◌, ◌%◌, ◌≤◌, ◌≡◌, List, [], ◌∷◌, ◌++◌, map, leb, eqb}
use Rattle.laws.specs.Choice.{cond}
use Rattle.rules.specs.Layout.{sub_cells_at, nth_cell_at}
use Rattle.rules.specs.Held.{Item, cell_item, Band, band_of, band_count, count_items, reported}
use Rattle.rules.specs.declared.Settings.{Settings}
use Rattle.rules.specs.declared.Stamp.{Stamp}
use Rattle.rules.specs.declared.Segment.{Segment}
use Rattle.rules.specs.declared.Segments.{Segments}

-- ---- which cells
abbrev pub segment : ℕ → ℕ → Segment
segment start count = record { start = start; count = count }

abbrev pub no_cells : Segment
no_cells = segment 0 0

abbrev pub only : Segment → Segments
only x = record { first = x; second = no_cells }

-- one "up to the last cell" and one "on from the first", in a ring of `rows` cells
abbrev pub wrapped : ℕ → ℕ → ℕ → Segments
wrapped rows start held = record { first = segment start (rows - start); second = segment 0 (held - (rows - start)) }

-- the straight runs of `held` cells from cell `start` on
unfoldable pub segments_from : ℕ → ℕ → ℕ → Segments
segments_from rows start held = cond (leb held (rows - start)) (only (segment start held)) (wrapped rows start held)

-- those of the cells of `held` rows above row `below`; no cells, no remainder
unfoldable pub segments_above : ℕ → ℕ → ℕ → Segments
segments_above rows below held = cond (eqb held 0) (only no_cells) (segments_from rows (below % rows) held)

-- those of a band
abbrev pub band_segments : Settings → Band → Segments
band_segments g b = segments_above g.rows b.below b.rows

-- of what sub j holds: "K2's runs are then for each live window"
abbrev pub held_segments : List ℕ → Settings → ℕ → ℕ → Segments
held_segments ws g j k = band_segments g (band_of ws g j k)

-- at most two straight runs in a ring of `rows` cells; one without cells is none
pub record Within (rows : ℕ) (x : Segments) : Type 0 where
  -- "up to the last cell": the first ends at or before it, and just there where the second has cells
  pub first_end : x.first.start + x.first.count ≤ rows
  pub first_to_last : 1 ≤ x.second.count → x.first.start + x.first.count ≡ rows
  -- "and on from the first": there the second starts, and it ends before the first one's start
  pub second_start : x.second.start ≡ 0
  pub second_end : x.second.count ≤ x.first.start

-- the k numbers from n on
unfoldable pub up_from : ℕ → ℕ → List ℕ
up_from n zero = []
up_from n (suc k) = up_from n k ++ ((n + k) ∷ [])

abbrev pub segment_cells : Segment → List ℕ
segment_cells x = up_from x.start x.count

-- the cells of both, one after the other
abbrev pub cells_of : Segments → List ℕ
cells_of x = segment_cells x.first ++ segment_cells x.second

-- ---- what lies in them
-- the items in some cells, of those from a place on
abbrev pub cell_items : List ℕ → ℕ → List ℕ → List Item
cell_items ws at cells = map (λ c. cell_item ws (nth_cell_at at c)) cells

-- the items that a walk through the segments of a band of sub j meets
abbrev pub walked_band : List ℕ → Settings → ℕ → ℕ → List Item
walked_band ws g j k = cell_items ws (sub_cells_at g j) (cells_of (held_segments ws g j k))

-- of its bands below m
unfoldable pub walked_bands : List ℕ → Settings → ℕ → ℕ → List Item
walked_bands ws g j zero = []
walked_bands ws g j (suc k) = walked_bands ws g j k ++ walked_band ws g j k

abbrev pub walked_sub : List ℕ → Settings → ℕ → List Item
walked_sub ws g j = walked_bands ws g j (band_count ws g)

-- of the subs below m
unfoldable pub walked_below : List ℕ → Settings → ℕ → List Item
walked_below ws g zero = []
walked_below ws g (suc j) = walked_below ws g j ++ walked_sub ws g j

abbrev pub walked_items : List ℕ → Settings → List Item
walked_items ws g = walked_below ws g g.width

-- the distance, counted on that walk
unfoldable pub walked_distance : List ℕ → Settings → Stamp → ℕ
walked_distance ws g s = count_items (reported g.kind s.0) (walked_items ws g)
