-- `pieces::stretch::turns_in` meets its contract: one turn more where the bytes are the last. Assumes nothing.
use Rattle.std.proofs.Common.{◌≡◌, ℕ, ◌+◌, ◌/◌, ◌≤◌, Bool, true, false, length, arith}
use mir.Val.{bool_byte}
use Rattle.laws.specs.Choice.{cond}
use Rattle.pieces.proofs.stretch.turns_in.Goals as goal

one_more : (last : Bool) (n : ℕ) → (n + bool_byte last ≡ cond last (n + 1) n) × (bool_byte last ≤ 1)
unfolding cond
one_more true n = (omega arith, omega arith)
one_more false n = (omega arith, omega arith)

pub returns : goal.returns
returns c =
    let (turns, most) = one_more c.args.last (length c.args.src.now / 4) in
    rw c.from.ensures (turns, omega arith)
