-- `bridge::behind::put_pairs` meets its contract: the loop's invariant is that the first k live windows have the pool's size.
use Rattle.std.proofs.Common.{◌≡◌}
use Rattle.rules.specs.Layout.{pairs_at}
use Rattle.turnaround.specs.Move.{own_pairs}
use Rattle.bridge.proofs.behind.put_pairs.Given as goal

abbrev pub invariant-loop-k : goal.invariant-loop-k
invariant-loop-k l = record { place : l.at ≡ pairs_at l.h; put : l.to ≡ own_pairs l.initial.to l.h l.k }
