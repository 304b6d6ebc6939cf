-- `step::work::fit_step` meets its contract: at each return the test that led there picks the same branch of `fit_step`, and each call stands for what it ensures.
use mathlib.Core.Path.{◌∙◌}
use borrow.Author.Tests.{le-leb, lt-leb}
use Rattle.laws.specs.Choice.{cond}
use Rattle.rules.specs.Step.{fit_step}
use Rattle.rules.specs.Worker.{slot_at}
use Rattle.rules.proofs.Workers.{worker_lent}
use Rattle.step.proofs.work.fit_step.Goals as goal

pub returns-then-g-i : goal.returns-then-g-i
unfolding fit_step cond
returns-then-g-i c = simp (le-leb _ _ c.if-g-i.true)

pub slot_step-requires : goal.slot_step-requires
unfolding slot_at
slot_step-requires c =
    let l = c.if-g-i.false in
    let at = c.worker_at.ensures in
    record {
      fit = c.requires;
      lent = rw at (worker_lent c.args.g _ c.args.i l c.requires.enough);
      index = rw at (c.requires.index c.args.i l);
      span = rw at (c.requires.span c.args.i l);
    }

pub returns : goal.returns
unfolding fit_step cond
returns c = c.slot_step.ensures ∙ simp (c.worker_at.ensures, lt-leb _ _ c.if-g-i.false)
