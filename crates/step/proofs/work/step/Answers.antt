-- `step::work::step` meets its contract: a pool that is not fit is refused, and the step of a fit one is `fit_step`'s.
use Rattle.std.proofs.Common.{sym, ap, ◌∙◌}
use Rattle.std.proofs.lemmas.Result.{err_from_is_err_and}
use Rattle.rules.proofs.Fitness.{fit_pool, found_settings, found_refusal}
use Rattle.rules.specs.Fit.{Checked, checked_of}
use Rattle.rules.specs.Step.{checked_step, step_of}
use Rattle.rules.specs.Make.{shipped}
use Rattle.step.proofs.work.step.Goals as goal

pub fit_step-requires : goal.fit_step-requires
fit_step-requires c = fit_pool shipped _ _ (found_settings (checked_of shipped c.args.words.now) _ c.in_ok-g.ensures)

pub returns : goal.returns
unfolding step_of checked_step
returns c =
    c.fit_step.ensures
    ∙ ap (λ (k : Checked). checked_step c.args.words.now k c.args.worker) (sym (found_settings (checked_of shipped c.args.words.now) _ c.in_ok-g.ensures))

pub returns-in_err-g : goal.returns-in_err-g
unfolding step_of checked_step
returns-in_err-g c =
    let p = err_from_is_err_and c.from_residual.result c.from_residual.ensures.1 in
    rw (p.1, p.2) (ap (λ (k : Checked). checked_step c.args.words.now k c.args.worker) (sym (found_refusal (checked_of shipped c.args.words.now) _ c.in_err-g.ensures)))
