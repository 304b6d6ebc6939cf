-- `held::reported::segment_reported` meets its contract: the cells from a place on are the first cells of the part that starts there.
use Rattle.std.proofs.Common.{◌+◌, ◌*◌, ◌-◌, ◌≤◌, ap, ◌∙◌, arith, length}
use Rattle.rules.proofs.Cells.{sub_cells_le}
use Rattle.ring.proofs.Walk.{cells_part}
use Rattle.rules.specs.Held.{count_items}
use Rattle.rules.specs.Layout.{cell_words}
use Rattle.held.proofs.reported.segment_reported.Goals as goal

pub returns : goal.returns
returns c =
    let a = c.args in
    let at = c.sub_cells_at.result in
    let segment_in : at + cell_words * (a.x.start + a.x.count) ≤ length a.words.now = omega (arith, c.sub_cells_at.ensures, sub_cells_le a.g a.j c.requires.sub_in) in
    let part = cells_part a.words.now (length a.words.now - (at + cell_words * a.x.start)) at a.x.start a.x.count (omega (arith, segment_in)) in
    (rw c.sub_cells_at.ensures at (c.cells_reported.ensures.0 ∙ ap (count_items _) part), c.cells_reported.ensures.1)
