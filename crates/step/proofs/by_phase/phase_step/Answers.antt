-- `step::by_phase::phase_step` meets its contract: each number is that of its phase, of the side that it tells, and every other is that of a late one.
use mathlib.Core.Path.{sym, ◌∙◌}
use Rattle.laws.specs.Choice.{cond}
use Rattle.rules.specs.Worker.{slot_at}
use Rattle.worker.proofs.Either.{either, neither}
use Rattle.step.proofs.Numbers.{late_is}
use Rattle.step.proofs.by_phase.phase_step.Goals as goal

pub look-requires-clause-at_value : goal.look-requires-clause-at_value
unfolding cond
look-requires-clause-at_value c =
    let number = c.phase_number-number.ensures in
    let side = c.side_of-side.ensures in either c.in-1.is (λ e. sym number ∙ e ∙ simp (side, e)) (λ e. sym number ∙ e ∙ simp (side, e))

pub read-requires-clause-at_value : goal.read-requires-clause-at_value
unfolding cond
read-requires-clause-at_value c =
    let number = c.phase_number-number.ensures in
    let side = c.side_of-side.ensures in either c.in-2.is (λ e. sym number ∙ e ∙ simp (side, e)) (λ e. sym number ∙ e ∙ simp (side, e))

pub commit-requires-clause-at_value : goal.commit-requires-clause-at_value
unfolding cond
commit-requires-clause-at_value c =
    let number = c.phase_number-number.ensures in
    let side = c.side_of-side.ensures in either c.in-4.is (λ e. sym number ∙ e ∙ simp (side, e)) (λ e. sym number ∙ e ∙ simp (side, e))

pub late-requires-clause-late : goal.late-requires-clause-late
unfolding slot_at
late-requires-clause-late c =
    let w = c.args in
    let r = c.in_default.in_default-own.rest in late_is w.g (slot_at w.g w.words.now w.at) _ c.phase_number-number.ensures (neither r.0.0.1) (neither r.0.1) (neither r.1)
