-- Paper 02, K2: "please let the distance take no remainder for each row, and go through a sub's held cells in at most two straight
-- runs, up to the last cell and on from the first. Show that these runs are exactly its held cells, once each, and that no answer
-- changes." K8: "a row of a sub at or below the take window's bottom, outside its window's width, or above the put window's top holds
-- nothing, and K2's runs are then for each live window."
-- The runs are `held_segments`, the distance along them is `walked_distance` (specs/Segments); the code's contracts cite both. The
-- answers' own definition, over the held list, is `distance_of` (crates/rules, specs/Held), and no rule names a segment.
use Rattle.std.specs.Prelude.{ℕ, ◌+◌, ◌^◌, ◌<◌, ◌≡◌, ◌↔◌, get_or, length}
use mathlib.Core.List.{List, Memᴰ}
use Rattle.rules.specs.Layout.{cell_of, sub_cells_at}
use Rattle.rules.specs.Fit.{Fit, checked_of}
use Rattle.rules.specs.Held.{band_of, band_count, items_above, held_items, held_of, distance_of}
use Rattle.rules.specs.HeldRows.{HeldRow}
use Rattle.ring.specs.Segments.{Within, held_segments, cells_of, cell_items, walked_items, walked_distance}
use Rattle.rules.specs.declared.Settings.{Settings}
use Rattle.rules.specs.declared.Stamp.{Stamp}
use Rattle.rules.specs.declared.Segments.{Segments}

-- "lent 32-bit words", and fit, with these settings
pub record FitImage (ws : List ℕ) (g : Settings) : Type 0 where
  pub words : (k : ℕ) → get_or ws k 0 < 2 ^ 32
  pub fit : checked_of g.edition ws ≡ Fit g

-- ---- the held cells of a sub
-- x are the straight runs of the held cells of sub j, of one live window
pub record HeldCells (ws : List ℕ) (g : Settings) (k j : ℕ) (x : Segments) : Type 0 where
  -- "in at most two straight runs, up to the last cell and on from the first"
  pub within : Within g.rows x
  -- "exactly its held cells": a cell is in them if and only if it is that of a held row
  pub exactly : (c : ℕ) → Memᴰ c (cells_of x) ↔ ((row : ℕ) × HeldRow ws g k j row × (cell_of g row ≡ c))
  -- "once each": no two places in their list have the same cell
  pub once : (a b : ℕ) → a < length (cells_of x) → b < length (cells_of x) → get_or (cells_of x) a 0 ≡ get_or (cells_of x) b 0 → a ≡ b
  -- as many as the sub holds of it, in the order of their rows
  pub number : length (cells_of x) ≡ (band_of ws g j k).rows
  pub in_order : (i : ℕ) → i < (band_of ws g j k).rows → get_or (cells_of x) i 0 ≡ cell_of g ((band_of ws g j k).below + i + 1)
  -- and the items in them are the band's in the held list
  pub items : cell_items ws (sub_cells_at g j) (cells_of x) ≡ items_above ws g j (band_of ws g j k).below (band_of ws g j k).rows

-- of every fit image and every sub of it, queue and stack; no cell is in the runs of two windows
abbrev pub HeldInSegments : Type 0
HeldInSegments =
    (ws : List ℕ) (g : Settings) (j : ℕ) → FitImage ws g → j < g.width
    → ((k : ℕ) → k < band_count ws g → HeldCells ws g k j (held_segments ws g j k))
    × ((k l c : ℕ) → k < band_count ws g → l < band_count ws g → Memᴰ c (cells_of (held_segments ws g j k)) → Memᴰ c (cells_of (held_segments ws g j l)) → k ≡ l)

-- ---- "no answer changes"
-- the walk meets the held list, item by item in its order
abbrev pub WalkMeetsHeld : Type 0
WalkMeetsHeld = (ws : List ℕ) (g : Settings) → FitImage ws g → walked_items ws g ≡ held_items ws g

-- so the distance along the segments is the answers' own
abbrev pub SameDistance : Type 0
SameDistance = (ws : List ℕ) (g : Settings) (s : Stamp) → FitImage ws g → walked_distance ws g s ≡ distance_of ws g s

-- and as many are met as the pool holds
abbrev pub SameNumber : Type 0
SameNumber = (ws : List ℕ) (g : Settings) → FitImage ws g → length (walked_items ws g) ≡ held_of g.edition ws
