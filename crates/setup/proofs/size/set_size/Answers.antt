-- `setup::size::set_size` meets its contract: the settings found are a fit pool's, and words in which none are found are refused.
use Rattle.std.proofs.Common.{◌≡◌, refl, sym, ap, ◌∙◌, Ok, Err}
use Rattle.std.proofs.lemmas.Result.{err_from_is_err_and}
use Rattle.rules.specs.Fit.{Checked, Unfit, Fit, settings_found, checked_of}
use Rattle.rules.specs.Make.{shipped}
use Rattle.rules.specs.Resize.{set_size_of, checked_set_size, fit_set_size}
use Rattle.rules.specs.declared.Refusal.{Refusal}
use Rattle.rules.specs.declared.Settings.{Settings}
use Rattle.rules.proofs.Fitness.{fit_pool, fit_head}
use Rattle.setup.proofs.size.set_size.Goals as goal

-- what is found tells what was checked
found : (k : Checked) (g : Settings) → Ok g ≡ settings_found k → k ≡ Fit g
found (Unfit refusal) g e = cc
found (Fit h) g e = ap Fit cc

not_found : (k : Checked) (refusal : Refusal) → Err refusal ≡ settings_found k → k ≡ Unfit refusal
not_found (Unfit other) refusal e = ap Unfit cc
not_found (Fit g) refusal e = cc

pub returns-in_err-g : goal.returns-in_err-g
unfolding set_size_of checked_set_size
returns-in_err-g c =
    let p = err_from_is_err_and c.from_residual.result c.from_residual.ensures.1 in
    rw (p.1, p.2, not_found (checked_of shipped c.args.words.now) _ c.in_err-g.ensures) refl

pub fit_set_size-requires-clause-fit_pool : goal.fit_set_size-requires-clause-fit_pool
fit_set_size-requires-clause-fit_pool c =
    let ws = c.args.words.now in
    fit_pool shipped ws c.in_ok-g.g (found (checked_of shipped ws) c.in_ok-g.g c.in_ok-g.ensures)

pub fit_set_size-requires-clause-edition_shipped : goal.fit_set_size-requires-clause-edition_shipped
fit_set_size-requires-clause-edition_shipped c =
    let ws = c.args.words.now in
    (fit_head shipped ws c.in_ok-g.g (found (checked_of shipped ws) c.in_ok-g.g c.in_ok-g.ensures)).1

pub returns : goal.returns
unfolding set_size_of checked_set_size
returns c = rw (found (checked_of shipped c.args.words.now) c.in_ok-g.g c.in_ok-g.ensures) c.fit_set_size.ensures
