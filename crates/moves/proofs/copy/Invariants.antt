-- `moves::copy` meets its contract: the loop's invariant is that the first k words are copied, and that the target has as many words as were lent.
use Rattle.std.proofs.Common.{◌≡◌, length, drop}
use Rattle.std.proofs.Math.Seq.{paste}
use Rattle.moves.proofs.copy.Given as goal

abbrev pub invariant-loop-k : goal.invariant-loop-k
invariant-loop-k l = (length l.to ≡ length l.initial.to) × (l.to ≡ paste l.initial.to l.start (drop l.at l.from) l.k)
