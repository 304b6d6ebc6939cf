-- `printing::lost::lost` meets its contract: words that are fit are counted worker by worker; of other words none. Assumes nothing.
use Rattle.std.proofs.Common.{ap, sym, ◌∙◌}
use Rattle.rules.proofs.Fitness.{fit_head, fit_pool, found_settings, found_refusal}
use Rattle.rules.specs.Fit.{Checked, checked_of}
use Rattle.rules.specs.Make.{shipped}
use Rattle.printing.specs.Lost.{lost_by, lost_of}
use Rattle.printing.proofs.lost.lost.Goals as goal

pub fit_lost-requires-clause-fit_pool : goal.fit_lost-requires-clause-fit_pool
fit_lost-requires-clause-fit_pool c = fit_pool shipped _ _ (found_settings (checked_of shipped c.args.words.now) _ c.in-Ok.ensures)

pub fit_lost-requires-clause-shipped_edition : goal.fit_lost-requires-clause-shipped_edition
fit_lost-requires-clause-shipped_edition c = (fit_head shipped _ _ (found_settings (checked_of shipped c.args.words.now) _ c.in-Ok.ensures)).1

pub returns-in-Ok : goal.returns-in-Ok
unfolding lost_of lost_by
returns-in-Ok c = c.fit_lost.ensures ∙ ap (λ (k : Checked). lost_by c.args.words.now k) (sym (found_settings (checked_of shipped c.args.words.now) _ c.in-Ok.ensures))

pub returns-in-Err : goal.returns-in-Err
unfolding lost_of lost_by
returns-in-Err c = ap (λ (k : Checked). lost_by c.args.words.now k) (sym (found_refusal (checked_of shipped c.args.words.now) _ c.in-Err.ensures))
