-- `held::total::windows_held` meets its contract: the count so far is of the rows of the bands gone through, and the bottom so far is that of the next window.
use Rattle.std.proofs.Common.{◌≡◌, ◌*◌, ◌≤◌, length}
use Rattle.rules.specs.Held.{held_bands}
use Rattle.rules.specs.Windows.{bottom_of}
use Rattle.rules.specs.Limits.{most_rows}
use Rattle.held.proofs.total.windows_held.Given as goal

abbrev pub invariant-loop-k : goal.invariant-loop-k
invariant-loop-k l = record {
  bottom : l.bottom ≡ bottom_of l.words l.g l.k;
  few : l.n ≤ most_rows * l.k;
  counted : l.n ≡ length (held_bands l.words l.g l.j l.k);
}
