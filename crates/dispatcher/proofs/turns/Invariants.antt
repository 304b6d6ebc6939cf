-- `dispatcher::turns` meets its contract: the pool is fit at the start of each turn, since it stays fit where no window moves on and is checked again where one does, and the
-- turns still to come, from where they are, are the whole of them.
use Rattle.rounds.specs.Dispatch.{turns_of}
use Rattle.rules.specs.Fit.{Fit, checked_of}
use lib.ListN.{length}
use mathlib.Core.Path.{◌≡◌}
use Prim.Native.Nat.{◌<◌, ◌-◌}
use Rattle.dispatcher.proofs.turns.Given as goal

abbrev pub invariant-loop-made : goal.invariant-loop-made
invariant-loop-made l =
    (length l.words ≡ length l.initial.words) × (l.i < l.g.workers) × (checked_of l.g.edition l.words ≡ Fit l.g) × (turns_of l.words l.g l.i (l.steps - l.made) ≡ turns_of l.initial.words l.g l.first l.steps)
