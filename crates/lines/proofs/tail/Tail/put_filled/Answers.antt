-- `lines::tail::Tail::put_filled` meets its contract: what follows the bytes and the numbers that are left stands, filled. Assumes nothing.
use Rattle.std.proofs.Common.{◌≡◌, ap, ◌∙◌, arith}
use Rattle.std.specs.Iterator.Adapters.{rev_source}
use Rattle.std.specs.Slice.Iter.{iter_rest}
use Rattle.lines.proofs.Behind.{last_split}
use Rattle.lines.proofs.Templates.{behind_none, behind_all, byte_room, byte_step, mark_left, number_room, mark_step}
use Rattle.lines.proofs.tail.Tail.put_filled.Goals as goal

pub loop-b-init : goal.loop-b-init
loop-b-init c =
    let all : iter_rest (rev_source c.into_iter-b-iterator.result) ≡ c.args.template.now =
    ap (λ r. iter_rest (rev_source r)) c.into_iter-b-iterator.ensures.into_iter_gives ∙ (ap iter_rest c.rev-b-items.ensures.source ∙ c.iter.ensures.rest) in
    rw all (behind_none c.args.self.now c.args.template.now c.args.numbers.now c.requires.a_number_each)

pub put_byte-requires : goal.put_byte-requires
put_byte-requires c = byte_room _ _ _ _ _ _ c.loop-b.invariant c.requires.room _ _ c.in-Some.ensures.steps (λ e. omega (arith, c.if-b-ne-MARK.true))

pub loop-b-preserved-then-b-ne-MARK : goal.loop-b-preserved-then-b-ne-MARK
loop-b-preserved-then-b-ne-MARK c =
    rw c.put_byte.ensures (byte_step _ _ _ _ _ _ c.loop-b.invariant c.requires.room _ _ c.in-Some.ensures.steps (λ e. omega (arith, c.if-b-ne-MARK.true)))

pub loop-b-preserved-then-left-lt1 : goal.loop-b-preserved-then-left-lt1
loop-b-preserved-then-left-lt1 c =
    let left = mark_left _ _ _ _ _ _ c.loop-b.invariant c.requires.room _ _ c.in-Some.ensures.steps c.if-b-ne-MARK.false in
    absurd (omega arith)

pub put_number-requires : goal.put_number-requires
put_number-requires c =
    number_room _ _ _ _ _ _ c.loop-b.invariant c.requires.room _ _ c.in-Some.ensures.steps c.if-b-ne-MARK.false _ _ (last_split c.loop-b.left.now c.in-len1-up.len_at_least)

pub loop-b-preserved : goal.loop-b-preserved
loop-b-preserved c =
    rw c.put_number.ensures
    (mark_step _ _ _ _ _ _ c.loop-b.invariant c.requires.room _ _ c.in-Some.ensures.steps c.if-b-ne-MARK.false _ _ (last_split c.loop-b.left.now c.in-len1-up.len_at_least))

pub returns : goal.returns
returns c = behind_all _ _ _ _ _ _ c.loop-b.invariant c.in-None.ensures.steps.0
