-- `tally::bound_in` meets its contract: settings within limits have the bounds that `most_passed` asks for. Assumes nothing.
use Rattle.laws.specs.Choice.{cond}
use Rattle.std.proofs.Common.{sym, ◌∙◌}
use Rattle.rules.proofs.Fitness.{settings_bounds}
use Rattle.tally.specs.Tally.{bound_in}
use Rattle.tally.proofs.bound_in.Goals as goal

pub most_passed-requires : goal.most_passed-requires
most_passed-requires c = settings_bounds _ (sym c.settings_fit.ensures ∙ c.if-settings_fit.true)

pub returns-then-settings_fit : goal.returns-then-settings_fit
unfolding bound_in cond
returns-then-settings_fit c = c.most_passed.ensures ∙ simp (← c.in_edition-made.ensures, ← c.settings_fit.ensures, c.if-settings_fit.true)

pub returns-else-settings_fit : goal.returns-else-settings_fit
unfolding bound_in cond
returns-else-settings_fit c = simp (← c.in_edition-made.ensures, ← c.settings_fit.ensures, c.if-settings_fit.false)
