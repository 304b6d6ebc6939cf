-- `held::total::items` meets its contract: words that are fit are counted sub by sub; of other words none.
use Rattle.std.proofs.Common.{sym, ap, ◌∙◌}
use Rattle.rules.proofs.Fitness.{fit_pool, found_settings, found_refusal}
use Rattle.rules.specs.Fit.{Checked, checked_of}
use Rattle.rules.specs.Held.{held_by, held_of}
use Rattle.rules.specs.Make.{shipped}
use Rattle.held.proofs.total.items.Goals as goal

pub fit_items-requires : goal.fit_items-requires
fit_items-requires c = fit_pool shipped _ _ (found_settings (checked_of shipped c.args.words.now) _ c.in-Ok.ensures)

pub returns-in-Ok : goal.returns-in-Ok
unfolding held_of held_by
returns-in-Ok c =
    c.fit_items.ensures ∙ ap (λ (k : Checked). held_by c.args.words.now k) (sym (found_settings (checked_of shipped c.args.words.now) _ c.in-Ok.ensures))

pub returns-in-Err : goal.returns-in-Err
unfolding held_of held_by
returns-in-Err c = ap (λ (k : Checked). held_by c.args.words.now k) (sym (found_refusal (checked_of shipped c.args.words.now) _ c.in-Err.ensures))
