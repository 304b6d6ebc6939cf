-- `lines::tail::Tail::put_filled` meets its contract: what follows the bytes and the numbers that are left stands, filled. Assumes nothing.
use Rattle.std.specs.Iterator.Adapters.{rev_source}
use Rattle.std.specs.Slice.Iter.{iter_rest}
use Rattle.lines.proofs.Templates.{Behind}
use Rattle.lines.proofs.tail.Tail.put_filled.Given as goal

abbrev pub invariant-loop-b : goal.invariant-loop-b
invariant-loop-b l = Behind l.initial.self l.self l.template l.numbers (iter_rest (rev_source l.b-iterator)) l.left
