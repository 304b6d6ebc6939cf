-- `calls::begin::slot_begin` meets its contract: at each return the tests that led there pick the same branch of `slot_begin`, and each call stands for what it ensures.
use Rattle.std.proofs.Common.{sym, ap, ◌∙◌}
use Rattle.std.specs.Prelude.{Ok}
use Rattle.laws.specs.Choice.{cond}
use Rattle.rules.specs.Answers.{out}
use Rattle.rules.specs.Begin.{slot_begin}
use Rattle.rules.specs.declared.Answer.TheVariants.{Moving}
use Rattle.calls.proofs.begin.slot_begin.Goals as goal

pub returns-then-not-idle_at : goal.returns-then-not-idle_at
unfolding slot_begin cond
returns-then-not-idle_at c = simp (sym c.idle_at.ensures ∙ c.if-not-idle_at.true)

pub returns-then-out_of_steps : goal.returns-then-out_of_steps
unfolding slot_begin cond
returns-then-out_of_steps c = simp (sym c.idle_at.ensures ∙ c.if-not-idle_at.false, sym c.out_of_steps.ensures ∙ c.if-out_of_steps.true)

pub returns : goal.returns
unfolding slot_begin cond
returns c =
    ap (out (Ok Moving)) c.store.ensures
    ∙ simp (
      c.fresh_slot-slot.ensures,
      c.index_of-index.ensures,
      sym c.out_of_steps.ensures ∙ c.if-out_of_steps.false,
      sym c.idle_at.ensures ∙ c.if-not-idle_at.false,
    )
