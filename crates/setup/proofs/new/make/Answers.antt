-- `setup::new::make` meets its contract: settings that fit are within bounds.
use Rattle.std.proofs.Common.{sym, ◌∙◌}
use Rattle.rules.proofs.Fitness.{settings_bounds}
use Rattle.setup.proofs.new.make.Goals as goal

pub words_needed-n-requires : goal.words_needed-n-requires
words_needed-n-requires c = settings_bounds _ (sym c.settings_fit.ensures ∙ c.if-not-settings_fit.false)

pub put_new-requires-clause-bounds : goal.put_new-requires-clause-bounds
put_new-requires-clause-bounds c = settings_bounds _ (sym c.settings_fit.ensures ∙ c.if-not-settings_fit.false)
