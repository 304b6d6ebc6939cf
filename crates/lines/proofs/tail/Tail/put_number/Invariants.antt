-- `lines::tail::Tail::put_number` meets its contract: the digits that are left to put, put before what is there, are always the whole number's; below 10 one is
-- left. The measure is the number that is left. Assumes nothing.
use Rattle.std.proofs.Common.{◌≡◌, ◌≤◌, length}
use Rattle.lines.specs.Area.{put}
use Rattle.lines.specs.Lines.{decimal}
use Rattle.lines.proofs.tail.Tail.put_number.Given as goal

abbrev pub invariant-loop-rest : goal.invariant-loop-rest
invariant-loop-rest l =
    record {
      whole : put l.self (decimal l.rest) ≡ put l.initial.self (decimal l.x);
      room : length (decimal l.rest) ≤ length l.self.room;
    }

abbrev pub decreases-loop-rest : goal.decreases-loop-rest
decreases-loop-rest l = l.rest
