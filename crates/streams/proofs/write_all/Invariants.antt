-- What is left are the last of the bytes, and those before them were written. Each turn writes some.
use Rattle.std.proofs.Common.{◌≡◌, ◌-◌, ◌≤◌, length, take, drop}
use Rattle.std.specs.Io.KnownBytes.{Appends}
use Rattle.streams.proofs.write_all.Given as goal

abbrev pub invariant-loop-rest : goal.invariant-loop-rest
invariant-loop-rest g l =
    let done = length l.bytes - length l.rest in
    (length l.rest ≤ length l.bytes) × (l.rest ≡ drop done l.bytes) × Appends (g.W.Write.contents l.initial.to) (g.W.Write.contents l.to) (take done l.bytes)

abbrev pub decreases-loop-rest : goal.decreases-loop-rest
decreases-loop-rest g l = length l.rest
