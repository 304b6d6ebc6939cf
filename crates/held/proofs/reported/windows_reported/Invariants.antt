-- `held::reported::windows_reported` meets its contract: the count so far is over the windows gone through, and the bottom so far is that of the next. Those that join have one
-- band; one that the sub does not lie in has none, and from the last put row on there is nothing.
use Rattle.std.proofs.Common.{◌≡◌, ◌*◌, ◌-◌, ◌≤◌}
use Rattle.rules.specs.Held.{count_items, reported, held_bands}
use Rattle.rules.specs.Limits.{most_rows}
use Rattle.rules.specs.Windows.{bottom_of}
use Rattle.held.proofs.reported.windows_reported.Given as goal

abbrev pub invariant-loop-k : goal.invariant-loop-k
invariant-loop-k l = record {
  within : l.k ≤ l.live;
  bottom : l.bottom ≡ bottom_of l.words l.g l.k;
  few : l.n ≤ most_rows * l.k;
  counted : l.n ≡ count_items (reported l.g.kind l.s.0) (held_bands l.words l.g l.j l.k);
}

abbrev pub decreases-loop-k : goal.decreases-loop-k
decreases-loop-k l = l.live - l.k
