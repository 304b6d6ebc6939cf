-- `moves::checked_move` meets its contract: a source that was found fit is a fit pool, whose settings its words hold, and one that was not is refused.
use Rattle.std.proofs.Common.{◌≡◌, ℕ, List, Ok, refl, sym, ap, ◌∙◌, arith}
use Rattle.std.proofs.lemmas.Result.{err_from_is_err_and}
use Rattle.rules.specs.Fit.{Checked, FitPool, source_checked, fitness_of}
use Rattle.rules.specs.Layout.{settings_of}
use Rattle.rules.specs.Make.{in_edition}
use Rattle.rules.specs.declared.Settings.{Settings}
use Rattle.rules.specs.declared.Refusal.TheVariants.{NotFit, WrongEdition}
use Rattle.rules.proofs.Fitness.{found_fit, found_unfit, fit_with_other, fit_pool}
use Rattle.turnaround.specs.Move.{fit_move, checked_move}
use Rattle.moves.proofs.checked_move.Goals as goal

-- a source that is found fit is a fit pool
source_fit : (e : ℕ) (from : List ℕ) → Ok tt ≡ fitness_of (source_checked e from) → FitPool (settings_of from) from
source_fit e from found = fit_pool e from (settings_of from) (fit_with_other WrongEdition NotFit e from (settings_of from) (found_fit WrongEdition e from found))

pub returns-in_err-check_source : goal.returns-in_err-check_source
unfolding checked_move
returns-in_err-check_source c =
    let p = err_from_is_err_and c.from_residual.result c.from_residual.ensures.1 in
    rw (p.1, p.2, found_unfit (source_checked c.args.old c.args.from.now) _ c.in_err-check_source.ensures) refl

pub settings-requires : goal.settings-requires
settings-requires c = omega (arith, (source_fit c.args.old c.args.from.now c.in_ok-check_source.ensures).enough)

pub fit_move-requires : goal.fit_move-requires
fit_move-requires c = rw c.settings.ensures (source_fit c.args.old c.args.from.now c.in_ok-check_source.ensures)

pub returns : goal.returns
unfolding checked_move
returns c =
    let a = c.args in
    let fit = found_fit WrongEdition a.old a.from.now c.in_ok-check_source.ensures in
    c.fit_move.ensures
    ∙ ap (λ (g : Settings). fit_move a.from.now g a.to.now (in_edition a.new g)) c.settings.ensures
    ∙ ap (λ (k : Checked). checked_move a.new a.from.now k a.to.now) (sym fit)
