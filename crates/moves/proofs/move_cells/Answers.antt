-- `moves::move_cells` meets its contract: in either area the cells lie behind the workers and end the needed words, and there are as many of them in both.
use Rattle.std.proofs.Common.{◌≡◌, arith}
use Rattle.rules.specs.Layout.{sub_cells_at, cells_at}
use Rattle.turnaround.specs.Move.{cells_moved}
use Rattle.rules.specs.declared.Settings.{Settings}
use Rattle.moves.proofs.move_cells.Goals as goal

-- the cells are those of sub 0 and on
first_sub : (g : Settings) → sub_cells_at g 0 ≡ cells_at g
first_sub g = omega arith

pub returns : goal.returns
unfolding cells_moved
returns c =
    simp (c.copy.ensures, c.sub_cells_at.ensures, c.sub_cells_at-2.ensures, first_sub)
