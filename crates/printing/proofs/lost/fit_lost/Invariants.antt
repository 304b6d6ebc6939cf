-- `printing::lost::fit_lost` meets its contract: so many are those of the workers below i, each a word. Assumes nothing.
use Rattle.std.proofs.Common.{◌≡◌, ◌*◌, ◌^◌, ◌≤◌}
use Rattle.printing.specs.Lost.{lost_below}
use Rattle.printing.proofs.lost.fit_lost.Given as goal

abbrev pub invariant-loop-i : goal.invariant-loop-i
invariant-loop-i l = record { fits : l.n ≤ 2 ^ 32 * l.i; sum : l.n ≡ lost_below l.words l.g l.i }
