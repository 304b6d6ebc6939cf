use Rattle.std.proofs.Common.{◌≡◌, ◌≤◌, ◌+◌, ◌/◌, false, sym, ◌∙◌, arith, length, take}
use Rattle.laws.specs.Choice.{cond}
use Rattle.program.proofs.Keeping.{left_fed, last_left, carry_keeps}
use Rattle.program.proofs.run.print_some.Goals as goal

pub returns-then-printed-clause-keeps : goal.returns-then-printed-clause-keeps
returns-then-printed-clause-keeps g c =
    let a = c.args in
    let n = c.in-Ok.n in
    let r = c.in-Ok.ensures in
    let src = c.read_behind-read.new.area in
    let p = c.print_piece-printed in
    let fits : a.run.carried + n ≤ length src = omega (arith, r.fits, c.read_behind-read.auto.area) in
    λ h.
    last_left p.result src (take (a.run.carried + n) src) p.new.words p.new.out c.if-printed.true a.mode
    (p.ensures.keeps
    (left_fed a.run c.after-piece.result a.src.now src a.words.now a.out.now n (rw c.in-Ok.is at c.after-piece.ensures) c.requires.carried_in_bounds.1 fits r.before a.mode h))

pub returns-clause-keeps : goal.returns-clause-keeps
unfolding cond
returns-clause-keeps g c =
    let a = c.args in
    let n = c.in-Ok.n in
    let end = a.run.carried + n in
    let r = c.in-Ok.ensures in
    let src = c.read_behind-read.new.area in
    let p = c.print_piece-printed in
    let y = c.carry-rest in
    let next = c.next_piece.ensures in
    let going = c.if-printed.false in
    let here : c.after-piece.result.ended ≡ false = sym p.ensures.same.0.ended ∙ going in
    let fits : end ≤ length src = omega (arith, r.fits, c.read_behind-read.auto.area) in
    let all : p.result.stretch.complete ≡ false → p.result.stretch.at ≡ length (take end src) / 4 = λ e. p.ensures.all.0 e ∙ rw here in
    λ h.
    carry_keeps p.result c.next_piece.result src y.new.src p.new.words p.new.out end fits going all y.ensures.front
    next.stretch next.reading next.writing (next.carried ∙ y.ensures.cut) a.mode
    (p.ensures.keeps
    (left_fed a.run c.after-piece.result a.src.now src a.words.now a.out.now n (rw c.in-Ok.is at c.after-piece.ensures) c.requires.carried_in_bounds.1 fits r.before a.mode h))
