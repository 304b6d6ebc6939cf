-- At each read the arrays have their lengths, the account of what was read and printed is kept, and each turn of the loop was a read.
use Rattle.std.proofs.Common.{◌≡◌, ◌≤◌, true, false, length}
use Rattle.program.specs.Ran.{Left}
use Rattle.program.proofs.run.print_file.Given as goal

abbrev pub invariant-loop : goal.invariant-loop
invariant-loop g l =
    record {
      inside : l.run.stretch.used ≤ length l.out;
      going : l.run.ended ≡ false → (l.run.stretch.at ≡ 0) × (l.run.carried ≤ length l.src);
      completes : l.run.ended ≡ true → l.run.stretch.complete ≡ true;
      counted : l.run.reads ≡ l.counter;
      left : Left l.mode l.run l.src l.words l.out;
    }
