-- `held::reported::segments_reported` meets its contract: the counts of the two segments are the count of their cells one after the other, and a
-- segment without cells counts nothing.
use Rattle.std.proofs.Common.{◌≡◌, arith}
use Rattle.ring.proofs.Walk.{cells_none, cells_two}
use Rattle.rules.specs.Held.{count_items, reported}
use Rattle.rules.specs.Layout.{sub_cells_at}
use Rattle.ring.specs.Segments.{segment_cells, cell_items}
use Rattle.held.proofs.reported.segments_reported.Goals as goal

pub returns-then-x-eq0 : goal.returns-then-x-eq0
returns-then-x-eq0 c =
    let a = c.args in
    let p = reported a.kind a.s.0 in
    let at = sub_cells_at a.g a.j in
    let both = cells_two p a.words.now at (segment_cells a.x.first) (segment_cells a.x.second) in
    let none : count_items p (cell_items a.words.now at (segment_cells a.x.second)) ≡ 0 = rw c.if-x-eq0.true (cells_none _ a.words.now _ _) in
    (omega (arith, both, c.segment_reported.ensures.0), omega (arith, c.segment_reported.ensures.1))

pub returns : goal.returns
returns c =
    let a = c.args in
    let both = cells_two (reported a.kind a.s.0) a.words.now (sub_cells_at a.g a.j) (segment_cells a.x.first) (segment_cells a.x.second) in
    (omega (arith, both, c.segment_reported-2.ensures.0, c.segment_reported-3.ensures.0), omega arith)
