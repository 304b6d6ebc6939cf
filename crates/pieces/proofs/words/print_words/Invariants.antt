-- `pieces::words::print_words` meets its contract: at each turn what is left of the stretch, from where it is, is the whole of it. Assumes nothing.
use Prim.Native.Nat.{◌-◌, ◌≤◌}
use mathlib.Core.Path.{◌≡◌}
use lib.ListN.{length}
use Rattle.pieces.specs.Stretch.{stretched, stretch_from}
use Rattle.pieces.proofs.words.print_words.Given as goal

abbrev pub invariant-loop-s : goal.invariant-loop-s
invariant-loop-s l =
    (length l.words ≡ length l.initial.words) × (length l.out ≡ length l.initial.out)
    × (stretch_from l.mode (l.turns - l.s.at) l.src (stretched l.s l.words l.out) ≡ stretch_from l.mode (l.turns - l.initial.s.at) l.src (stretched l.initial.s l.initial.words l.initial.out))
    × (l.initial.s.used ≤ length l.initial.out → l.s.used ≤ length l.initial.out)

abbrev pub decreases-loop-s : goal.decreases-loop-s
decreases-loop-s l = l.turns - l.s.at
