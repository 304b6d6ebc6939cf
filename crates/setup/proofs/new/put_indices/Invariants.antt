-- `setup::new::put_indices` meets its contract: the loop's invariant is that the workers passed have their index.
use Rattle.std.proofs.Common.{◌≡◌}
use Rattle.rules.specs.Make.{indexed}
use Rattle.setup.proofs.new.put_indices.Given as goal

abbrev pub invariant-loop-i : goal.invariant-loop-i
invariant-loop-i l = l.words ≡ indexed l.initial.words l.g l.i
