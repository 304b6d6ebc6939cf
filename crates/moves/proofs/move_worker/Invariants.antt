-- `moves::move_worker` meets its contract: the loop's invariant is that the first k words are moved, to where the worker lies in the target.
use Rattle.std.proofs.Common.{◌≡◌}
use Rattle.rules.specs.Layout.{worker_at}
use Rattle.turnaround.specs.Move.{worker_moved}
use Rattle.rules.specs.declared.Settings.{Settings}
use Rattle.moves.proofs.move_worker.Given as goal

abbrev pub invariant-loop-k : goal.invariant-loop-k
invariant-loop-k l = (h : Settings) → l.at ≡ worker_at h l.i → l.to ≡ worker_moved l.from l.g l.initial.to h l.i l.k
