-- `held::reported::cells_reported` meets its contract: the loop's invariant is the count over the cells gone through.
use Rattle.std.proofs.Common.{◌≡◌, ◌≤◌}
use Rattle.rules.specs.Held.{count_items, reported}
use Rattle.ring.specs.Segments.{up_from, cell_items}
use Rattle.held.proofs.reported.cells_reported.Given as goal

abbrev pub invariant-loop-k : goal.invariant-loop-k
invariant-loop-k l = record {
  few : l.n ≤ l.k;
  counted : l.n ≡ count_items (reported l.kind l.s.0) (cell_items l.cells 0 (up_from 0 l.k));
}
