-- The limits of the settings, and of the step count.
use Rattle.std.specs.Prelude.{ℕ, ◌*◌, ◌%◌, ◌<◌, ◌≤◌, List, [], ◌∷◌, Bool, true, ltb, leb, eqb}
use Rattle.laws.specs.Choice.{cond, both, all}
use Rattle.rules.specs.declared.Settings.{Settings}
use Rattle.rules.specs.declared.Size.{Size}

abbrev pub widest : ℕ
widest = 16

abbrev pub deepest : ℕ
deepest = 64

abbrev pub most_rows : ℕ
most_rows = 1024

abbrev pub most_workers : ℕ
most_workers = 32

abbrev pub most_cells : ℕ
most_cells = 4096

-- kind 0 or 1, w 1 to 16, d 1 to 64, s 1 to d, R from 2 × d to 1,024, n 1 to 32, w × R at most 4,096; the stride "from 0
-- to w - 1", so "a pool of width 1 has only 0"
abbrev pub limits : Settings → List Bool
limits g =
    leb g.kind 1 ∷
    leb 1 g.width ∷ leb g.width widest ∷
    leb 1 g.depth ∷ leb g.depth deepest ∷
    leb 1 g.shift ∷ leb g.shift g.depth ∷
    leb (2 * g.depth) g.rows ∷ leb g.rows most_rows ∷
    leb 1 g.workers ∷ leb g.workers most_workers ∷
    leb (g.width * g.rows) most_cells ∷
    ltb g.stride g.width ∷ []

-- the editions with windows that have sizes of their own: from 2 on
unfoldable pub windowed : Settings → Bool
windowed g = leb 2 g.edition

-- a queue has s = d, and R is a multiple of d; from edition 2 on "R need no longer be a multiple of d"
abbrev pub queue_limits : Settings → List Bool
queue_limits g = eqb g.shift g.depth ∷ cond (windowed g) true (eqb (g.rows % g.depth) 0) ∷ []

unfoldable pub settings_fit : Settings → Bool
settings_fit g = both (all (limits g)) (cond (eqb g.kind 0) (all (queue_limits g)) true)

-- "width (up to the pool's w) and depth (1 to 64, at most half of R)"
abbrev pub size_limits : Settings → Size → List Bool
size_limits g size =
    leb 1 size.width ∷ leb size.width g.width ∷
    leb 1 size.depth ∷ leb size.depth deepest ∷ leb (2 * size.depth) g.rows ∷ []

unfoldable pub size_fit : Settings → Size → Bool
size_fit g size = all (size_limits g size)

-- so many windows are live at the most
abbrev pub most_live : ℕ
most_live = 16

-- a pool takes so many steps
abbrev pub step_limit : ℕ
step_limit = 4000000000

-- the bounds that settings within limits have
pub record Bounds (g : Settings) : Type 0 where
  pub kind1 : g.kind ≤ 1
  pub width1 : 1 ≤ g.width
  pub width16 : g.width ≤ widest
  pub depth1 : 1 ≤ g.depth
  pub depth64 : g.depth ≤ deepest
  pub shift1 : 1 ≤ g.shift
  pub shift_depth : g.shift ≤ g.depth
  pub rows2 : 2 * g.depth ≤ g.rows
  pub rows1024 : g.rows ≤ most_rows
  pub workers1 : 1 ≤ g.workers
  pub workers32 : g.workers ≤ most_workers
  pub cells : g.width * g.rows ≤ most_cells
  pub stride_width : g.stride < g.width
