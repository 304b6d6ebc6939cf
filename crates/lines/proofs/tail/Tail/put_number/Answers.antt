-- `lines::tail::Tail::put_number` meets its contract: the digits that are left to put, put before what is there, are always the whole number's; below 10 one is
-- left. Assumes nothing.
use Rattle.std.proofs.Common.{◌+◌, ◌/◌, ◌%◌, [], ◌∷◌, length, sym, ap, ◌∙◌, arith, length-append}
use Rattle.lines.specs.Area.{Written, put}
use Rattle.lines.specs.Lines.{decimal}
use Rattle.lines.proofs.Area.{put_put, put_room}
use Rattle.lines.proofs.Decimal.{one_digit, more_digits}
use Rattle.lines.proofs.tail.Tail.put_number.Goals as goal

pub put_byte-requires : goal.put_byte-requires
put_byte-requires c =
    let l = c.loop-rest in
    let more = more_digits l.rest c.loop-rest-test.true (omega arith) in
    omega (arith, l.invariant.room, simp length-append at (ap length more))

pub loop-rest-preserved : goal.loop-rest-preserved
loop-rest-preserved c =
    let l = c.loop-rest in
    let more = more_digits l.rest c.loop-rest-test.true (omega arith) in
    let next = ap (λ (w : Written). put w (decimal (l.rest / 10))) c.put_byte.ensures ∙ put_put l.self ((48 + l.rest % 10) ∷ []) (decimal (l.rest / 10)) in
    record {
      whole = next ∙ (ap (put l.self) (sym more) ∙ l.invariant.whole);
      room = omega (arith, l.invariant.room, simp length-append at (ap length more), ap (λ (w : Written). length w.room) c.put_byte.ensures ∙ put_room l.self ((48 + l.rest % 10) ∷ []));
    }

pub put_byte-requires-2 : goal.put_byte-requires-2
put_byte-requires-2 c =
    let l = c.loop-rest in
    omega (arith, l.invariant.room, ap length (one_digit l.rest c.loop-rest-test.false))

pub returns : goal.returns
returns c =
    let l = c.loop-rest in
    c.put_byte-2.ensures ∙ (ap (put l.self) (sym (one_digit l.rest c.loop-rest-test.false)) ∙ l.invariant.whole)
