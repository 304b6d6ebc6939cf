-- `bands::reach::common_width` meets its contract: the sum so far is that of the widths of the pairs gone through; where it is that of so many windows of the pool's width, each has it.
use Rattle.std.proofs.Common.{◌≡◌, ◌*◌, ◌≤◌}
use Rattle.bands.proofs.Widths.{widths_below}
use Rattle.bands.proofs.reach.common_width.Given as goal

abbrev pub invariant-loop-k : goal.invariant-loop-k
invariant-loop-k l = record {
  small : l.sum ≤ 16 * l.k;
  widths : l.sum ≡ widths_below l.words l.g l.k;
}
