use Rattle.std.proofs.Common.{arith, rules}
use Rattle.std.proofs.lemmas.Bool.{not-true}
use Rattle.laws.specs.Choice.{cond}
use Rattle.buffers.proofs.Keeping.{nothing_read_twice, remembers_twice, still_remembers}
use Rattle.emit.proofs.Keeping.{print_keeps, further}
use Rattle.emit.proofs.print_piece.Goals as goal

pub loop-run-init : goal.loop-run-init
unfolding cond
loop-run-init g c =
    let t = c.turns_in-turns.ensures.0 in
    record {
      inside = search rules;
      turns = omega (arith, c.requires);
      reading = search rules;
      remembers = search rules;
      completes = λ e at. absurd (omega (arith, c.requires, rw e at t));
      keeps = λ h. h;
    }

pub loop-run-smaller : goal.loop-run-smaller
loop-run-smaller g c =
    let a = c.args in
    let l = c.loop-run in
    let w = c.with_room-roomy in
    let p = c.print_on-run in
    let on = further a.mode a.src.now l.words l.out p.new.words p.new.out c.turns_in-turns.result a.from l.run w.result p.result c.turns_in-turns.ensures.0
    l.invariant.reading w.ensures.same.2 w.ensures.same.0 w.ensures.same.1 (not-true _ c.loop-run-test.true) c.if-run-turns.true w.ensures.room p.ensures.prints in
    omega (arith, on.0, on.1)

pub loop-run-preserved : goal.loop-run-preserved
loop-run-preserved g c =
    let a = c.args in
    let l = c.loop-run in
    let w = c.with_room-roomy in
    let p = c.print_on-run in
    let same = p.ensures.same in
    let on = further a.mode a.src.now l.words l.out p.new.words p.new.out c.turns_in-turns.result a.from l.run w.result p.result c.turns_in-turns.ensures.0
    l.invariant.reading w.ensures.same.2 w.ensures.same.0 w.ensures.same.1 (not-true _ c.loop-run-test.true) c.if-run-turns.true w.ensures.room p.ensures.prints in
    record {
      inside = omega (arith, p.ensures.inside, l.auto.out);
      turns = on.1;
      reading = nothing_read_twice l.invariant.reading (nothing_read_twice w.ensures.same.2 same.0);
      remembers = remembers_twice l.invariant.remembers (remembers_twice w.ensures.same.3 (still_remembers same.0.unread same.1));
      completes = on.2;
      keeps = λ h. print_keeps a.mode w.result p.result a.src.now l.words l.out p.new.words p.new.out p.ensures.prints same.0 same.1
          (w.ensures.keeps a.mode a.src.now l.words (l.invariant.keeps h));
    }
