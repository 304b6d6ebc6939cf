-- `calls::begin::fit_begin` meets its contract: at each return the test that led there picks the same branch of `fit_begin`, and each call stands for what it ensures.
use mathlib.Core.Path.{◌∙◌}
use borrow.Author.Tests.{le-leb, lt-leb}
use Rattle.laws.specs.Choice.{cond}
use Rattle.rules.specs.Begin.{fit_begin}
use Rattle.rules.proofs.Workers.{worker_lent}
use Rattle.calls.proofs.begin.fit_begin.Goals as goal

pub returns-then-g-i : goal.returns-then-g-i
unfolding fit_begin cond
returns-then-g-i c = simp (le-leb _ _ c.if-g-i.true)

pub slot_begin-requires : goal.slot_begin-requires
slot_begin-requires c =
    rw c.worker_at.ensures (worker_lent c.args.g _ c.args.i c.if-g-i.false c.requires.enough)

pub returns : goal.returns
unfolding fit_begin cond
returns c =
    c.slot_begin.ensures
    ∙ simp (c.worker_at.ensures, lt-leb _ _ c.if-g-i.false)
