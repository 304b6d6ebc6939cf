-- `held::reported::distance` meets its contract: both loops' invariant is the count over the subs gone through; the second goes through those that lie outside a window.
use Rattle.std.proofs.Common.{◌≡◌, ◌*◌, ◌≤◌}
use Rattle.ring.specs.Segments.{walked_below}
use Rattle.rules.specs.Limits.{most_rows, most_live}
use Rattle.rules.specs.Held.{count_items, reported}
use Rattle.held.proofs.reported.distance.Given as goal

abbrev pub invariant-loop-j : goal.invariant-loop-j
invariant-loop-j l = record {
  few : l.n ≤ most_live * most_rows * l.j;
  counted : l.n ≡ count_items (reported l.g.kind l.s.0) (walked_below l.words l.g l.j);
}

abbrev pub invariant-loop-j-2 : goal.invariant-loop-j-2
invariant-loop-j-2 l = record {
  few : l.n ≤ most_live * most_rows * l.j;
  counted : l.n ≡ count_items (reported l.g.kind l.s.0) (walked_below l.words l.g l.j);
}
