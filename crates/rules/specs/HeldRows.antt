-- Which rows a sub holds, as K2 (crates/ring, specs/HeldCells) and K8 (specs/Full) speak of them: "a row of a sub at or below the take window's bottom, outside
-- its window's width, or above the put window's top holds nothing". The items in them are specs/Held's.
use Rattle.std.specs.Prelude.{ℕ, suc, ◌≤◌, ◌<◌, ◌≡◌, List, true}
use Rattle.rules.specs.Layout.{first_of, second_of}
use Rattle.rules.specs.Windows.{has_windows, nth_size, bottom_of}
use Rattle.rules.specs.Held.{rows_below}
use Rattle.rules.specs.declared.Settings.{Settings}

-- a row of sub j in the live window k: within its width, above its bottom and up to its top, which is the next one's bottom
pub record InWindow (ws : List ℕ) (g : Settings) (k j row : ℕ) : Type 0 where
  pub wide : j < (nth_size ws g k).width
  pub above : bottom_of ws g k < row
  pub up_to : row ≤ bottom_of ws g (suc k)

-- a row that sub j holds: in a queue above those taken and up to those put, in a stack from 1 up to those held; and of the live window k, where
-- windows have sizes of their own
pub record HeldRow (ws : List ℕ) (g : Settings) (k j row : ℕ) : Type 0 where
  pub above : rows_below g (second_of ws j) < row
  pub up_to : row ≤ first_of ws j
  pub window : has_windows g ≡ true → InWindow ws g k j row
