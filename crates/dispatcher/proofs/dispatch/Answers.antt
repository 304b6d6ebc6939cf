-- `dispatcher::dispatch` meets its contract: a pool that is not fit is refused, and of a fit one the turns are `fit_dispatch`'s.
use Rattle.std.proofs.Common.{sym, ap, ◌∙◌}
use Rattle.std.proofs.lemmas.Result.{err_from_is_err_and}
use Rattle.rounds.specs.Dispatch.{checked_dispatch, dispatch_of}
use Rattle.rules.proofs.Fitness.{fit_head, fit_own, found_settings, found_refusal}
use Rattle.rules.specs.Fit.{Checked, checked_of}
use Rattle.rules.specs.Make.{shipped}
use Rattle.dispatcher.proofs.dispatch.Goals as goal

pub fit_dispatch-requires-clause-fit : goal.fit_dispatch-requires-clause-fit
fit_dispatch-requires-clause-fit c = fit_own shipped _ _ (found_settings (checked_of shipped c.args.words.now) _ c.in_ok-g.ensures)

pub fit_dispatch-requires-clause-edition_value : goal.fit_dispatch-requires-clause-edition_value
fit_dispatch-requires-clause-edition_value c = (fit_head shipped _ _ (found_settings (checked_of shipped c.args.words.now) _ c.in_ok-g.ensures)).1

pub returns : goal.returns
unfolding dispatch_of checked_dispatch
returns c =
    let a = c.args in
    c.fit_dispatch.ensures
    ∙ ap (λ (k : Checked). checked_dispatch a.words.now k a.worker a.steps) (sym (found_settings (checked_of shipped a.words.now) _ c.in_ok-g.ensures))

pub returns-in_err-g : goal.returns-in_err-g
unfolding dispatch_of checked_dispatch
returns-in_err-g c =
    let a = c.args in
    let p = err_from_is_err_and c.from_residual.result c.from_residual.ensures.1 in
    rw (p.1, p.2) (ap (λ (k : Checked). checked_dispatch a.words.now k a.worker a.steps) (sym (found_refusal (checked_of shipped a.words.now) _ c.in_err-g.ensures)))
