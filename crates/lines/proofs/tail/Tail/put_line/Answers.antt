-- `lines::tail::Tail::put_line` meets its contract. What follows the numbers that are left stands as a line, and the byte that follows the last of them is known.
-- Assumes nothing.
use Rattle.std.proofs.Common.{◌≡◌, ap, ◌∙◌}
use Rattle.std.specs.Iterator.Adapters.{rev_source}
use Rattle.std.specs.Slice.Iter.{iter_rest}
use Rattle.lines.proofs.Lines.{line_none, line_step}
use Rattle.lines.proofs.tail.Tail.put_line.Goals as goal

pub loop-x-init : goal.loop-x-init
loop-x-init c =
    let all : iter_rest (rev_source c.into_iter-x-iterator.result) ≡ c.args.numbers.now =
    ap (λ r. iter_rest (rev_source r)) c.into_iter-x-iterator.ensures.into_iter_gives ∙ (ap iter_rest c.rev-x-items.ensures.source ∙ c.iter.ensures.rest) in
    rw all (line_none c.args.self.now c.args.numbers.now)

pub put_byte-requires : goal.put_byte-requires
put_byte-requires c = (line_step _ _ _ _ _ _ _ c.requires c.loop-x.invariant c.in-Some.ensures.steps).byte_room

pub put_number-requires : goal.put_number-requires
put_number-requires c = rw c.put_byte.ensures (line_step _ _ _ _ _ _ _ c.requires c.loop-x.invariant c.in-Some.ensures.steps).number_room

pub loop-x-preserved : goal.loop-x-preserved
loop-x-preserved c =
    rw (c.put_number.ensures, c.put_byte.ensures) (line_step _ _ _ _ _ _ _ c.requires c.loop-x.invariant c.in-Some.ensures.steps).put_both
