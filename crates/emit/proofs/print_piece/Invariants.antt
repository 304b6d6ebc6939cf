-- With room for a turn each stretch comes further, until all is printed or the piece has no turn left.
use Rattle.std.proofs.Common.{◌≡◌, ◌-◌, ◌≤◌, true, length}
use Rattle.buffers.specs.Kept.{Keeps, ReadsNothing, Remembers}
use Rattle.emit.proofs.print_piece.Given as goal

abbrev pub invariant-loop-run : goal.invariant-loop-run
invariant-loop-run g l =
    let from = l.initial.run in
    record {
      inside : l.run.stretch.used ≤ length l.initial.out;
      turns : l.run.stretch.at ≤ l.turns;
      reading : ReadsNothing from l.run;
      remembers : Remembers from l.run;
      completes : from.ended ≡ true → l.run.stretch.at ≡ l.turns → l.run.stretch.complete ≡ true;
      keeps : Keeps l.mode from l.src l.initial.words l.initial.out l.run l.src l.words l.out;
    }

abbrev pub decreases-loop-run : goal.decreases-loop-run
decreases-loop-run g l = l.turns - l.run.stretch.at
