-- `lines::tail::Tail::put_line` meets its contract. What follows the numbers that are left stands as a line, and the byte that follows the last of them is known.
-- Assumes nothing.
use Rattle.std.specs.Iterator.Adapters.{rev_source}
use Rattle.std.specs.Slice.Iter.{iter_rest}
use Rattle.lines.proofs.Lines.{LineFrom}
use Rattle.lines.proofs.tail.Tail.put_line.Given as goal

abbrev pub invariant-loop-x : goal.invariant-loop-x
invariant-loop-x l = LineFrom l.initial.self l.self l.numbers (iter_rest (rev_source l.x-iterator)) l.after
