-- `calls::begin::begin` meets its contract: a pool that is not fit is refused, and the begin of a fit one is `fit_begin`'s.
use Rattle.std.proofs.Common.{sym, ap, ◌∙◌}
use Rattle.std.proofs.lemmas.Result.{err_from_is_err_and}
use Rattle.rules.proofs.Fitness.{fit_pool, found_settings, found_refusal}
use Rattle.rules.specs.Begin.{begin_of, checked_begin}
use Rattle.rules.specs.Fit.{Checked, checked_of}
use Rattle.rules.specs.Make.{shipped}
use Rattle.calls.proofs.begin.begin.Goals as goal

pub fit_begin-requires : goal.fit_begin-requires
fit_begin-requires c = fit_pool shipped _ _ (found_settings (checked_of shipped c.args.words.now) _ c.in_ok-g.ensures)

pub returns : goal.returns
unfolding begin_of checked_begin
returns c =
    let a = c.args in
    c.fit_begin.ensures
    ∙ ap (λ (k : Checked). checked_begin a.words.now k a.i a.side a.value) (sym (found_settings (checked_of shipped a.words.now) _ c.in_ok-g.ensures))

pub returns-in_err-g : goal.returns-in_err-g
unfolding begin_of checked_begin
returns-in_err-g c =
    let a = c.args in
    let p = err_from_is_err_and c.from_residual.result c.from_residual.ensures.1 in
    rw (p.1, p.2) (ap (λ (k : Checked). checked_begin a.words.now k a.i a.side a.value) (sym (found_refusal (checked_of shipped a.words.now) _ c.in_err-g.ensures)))
