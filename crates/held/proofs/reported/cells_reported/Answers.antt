-- `held::reported::cells_reported` meets its contract: the loop's invariant is the count over the cells gone through.
use Rattle.std.proofs.Common.{sym, ◌∙◌, arith, rules}
use Rattle.laws.specs.Choice.{cond_true, cond_false}
use Rattle.ring.proofs.Walk.{cells_none, cells_more}
use Rattle.rules.specs.Held.{reported}
use Rattle.held.proofs.reported.cells_reported.Goals as goal
use Rattle.held.proofs.reported.cells_reported.Goals.{then-is_reported, else-is_reported}

pub loop-k-init : goal.loop-k-init
loop-k-init c = record { few = search rules; counted = sym (cells_none _ c.args.cells.now 0 0) }

pub loop-k-preserved : goal.loop-k-preserved
loop-k-preserved c =
    let it = c.cell_item-it.ensures in
    let a = c.args in
    let one = cells_more (reported a.kind a.s.0) a.cells.now c.loop-k.k in
    let test = rw (it.0, it.1) at (sym c.is_reported.ensures) in
    elim c.if-is_reported.branch [
      | then-is_reported w ↦ record { few = omega arith; counted = omega (arith, simp (test ∙ w.if-is_reported.true, cond_true) at one) }
      | else-is_reported w ↦ record { few = omega arith; counted = omega (arith, simp (test ∙ w.if-is_reported.false, cond_false) at one) }
    ]
