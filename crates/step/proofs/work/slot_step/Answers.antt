-- `step::work::slot_step` meets its contract: at each return the tests that led there pick the same branch of `slot_step`, and each call stands for what it ensures.
use mathlib.Core.Path.{sym, ◌∙◌}
use Rattle.laws.specs.Choice.{cond}
use Rattle.rules.specs.Step.{slot_step}
use Rattle.step_views.specs.ByPhase.{rule_step}
use Rattle.step.proofs.work.slot_step.Goals as goal

pub returns-then-idle_at : goal.returns-then-idle_at
unfolding slot_step cond
returns-then-idle_at c = simp (sym c.idle_at.ensures ∙ c.if-idle_at.true)

pub returns-then-out_of_steps : goal.returns-then-out_of_steps
unfolding slot_step cond
returns-then-out_of_steps c = simp (sym c.idle_at.ensures ∙ c.if-idle_at.false, sym c.out_of_steps.ensures ∙ c.if-out_of_steps.true)

pub returns : goal.returns
unfolding slot_step rule_step cond
returns c =
    c.phase_step.ensures
    ∙ simp (sym c.out_of_steps.ensures ∙ c.if-out_of_steps.false, sym c.idle_at.ensures ∙ c.if-idle_at.false)
