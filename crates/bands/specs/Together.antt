-- Windows together: one window's top is the next one's bottom, so a sub that lies within all of them holds one band of rows, from the lowest bottom up to the
-- highest top. Without windows of their own sizes every sub does, with no bound. A sub that lies within some of them that follow each other holds one band there.
use Rattle.std.specs.Prelude.{ℕ, ◌+◌, ◌-◌, ◌%◌, ◌^◌, ◌≤◌, ◌<◌, ◌≡◌, List, true, false, ltb, eqb}
use Rattle.laws.specs.Choice.{cond}
use Rattle.rules.specs.Held.{Band, band_between}
use Rattle.bands.specs.declared.reach.Band.{Band as Read}
use Rattle.rules.specs.Windows.{has_windows, live_of, nth_size, bottom_of, higher, lower}
use Rattle.rules.specs.declared.Settings.{Settings}
use Rattle.rules.specs.declared.Size.{Size}
use Rattle.bands.specs.declared.reach.Reach.{Reach}

-- rows that were read are those of a band
abbrev pub IsBand : Read → Band → Type 0
IsBand b band = (b.below ≡ band.below) × (b.rows ≡ band.rows)

-- what a sub of these words holds between the lowest bottom and the highest top; a stack's rows are all its own
abbrev pub whole_band : Settings → Reach → ℕ → ℕ → Band
whole_band g r first second = cond (eqb g.kind 0) (band_between (higher second r.bottom) (lower first r.top)) (band_between 0 first)

-- of one window, from its bottom and by its size
abbrev pub band_within : ℕ → ℕ → ℕ → ℕ → Size → Band
band_within j first second bottom size =
    cond (ltb j size.width) (band_between (higher second bottom) (lower first (bottom + size.depth))) (band_between 0 0)

-- the cell of a ring of so many rows tells that of the row above `below`: it is that of the row above a bottom which is no higher
abbrev pub TellsCell : ℕ → Reach → ℕ → Type 0
TellsCell rows r below = (r.cell ≡ r.bottom % rows) × (r.bottom ≤ below)

-- the lowest bottom, the cell of the row above it, the highest top, and a width within which a sub lies in all of them
pub record Together (ws : List ℕ) (g : Settings) (r : Reach) : Type 0 where
  pub low : r.bottom ≡ cond (has_windows g) (bottom_of ws g 0) 0
  pub at_cell : r.cell ≡ r.bottom % g.rows
  pub high : r.top ≡ cond (has_windows g) (bottom_of ws g (live_of ws g)) (2 ^ 32 - 1)
  pub most : r.width ≤ g.width
  pub wide : (k : ℕ) → has_windows g ≡ true → k < live_of ws g → r.width ≤ (nth_size ws g k).width
  pub every : has_windows g ≡ false → r.width ≡ g.width

-- the live windows from one on that a sub lies in, up to the first that it does not lie in, and their highest top
pub record Joins (ws : List ℕ) (g : Settings) (j from end top : ℕ) : Type 0 where
  pub on : from ≤ end
  pub last : end ≤ live_of ws g
  pub up_to : top ≡ bottom_of ws g end
  pub inside : (k : ℕ) → from ≤ k → k < end → j < (nth_size ws g k).width
  pub outside : end < live_of ws g → (nth_size ws g end).width ≤ j
