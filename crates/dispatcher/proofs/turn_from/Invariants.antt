-- `dispatcher::turn_from` meets its contract: the first busy worker of those still to be looked at is the first of all.
use Rattle.std.proofs.Common.{◌<◌, ◌≡◌, ◌-◌}
use Rattle.rounds.specs.Dispatch.{busy_from}
use Rattle.dispatcher.proofs.turn_from.Given as goal

abbrev pub invariant-loop-passed : goal.invariant-loop-passed
invariant-loop-passed l = (l.i < l.g.workers) × (busy_from l.words l.g l.i (l.g.workers - l._passed) ≡ busy_from l.words l.g l.from l.g.workers)
