-- `fitness::refusals::check_head` meets its contract: at each return the tests that led there pick the same branch of `head_checked`, and settings that
-- passed theirs are within the bounds that the rest of the check asks for.
use Rattle.std.proofs.Common.{ap, sym, subst, ◌∙◌}
use borrow.Author.Tests.{eq-eqb, ne_eqb}
use Rattle.fitness.proofs.Heads.{asked, own_bounds}
use Rattle.rules.specs.Fit.{body_checked, head_checked, fitness_of}
use Rattle.rules.specs.Limits.{Bounds}
use Rattle.rules.specs.declared.Settings.{Settings}
use Rattle.laws.specs.Choice.{cond}
use Rattle.fitness.proofs.refusals.check_head.Goals as goal

pub returns-then-not-settings_fit : goal.returns-then-not-settings_fit
unfolding head_checked cond
returns-then-not-settings_fit c = simp (asked c.args.g _ _ c.in_edition.ensures c.settings_fit.ensures c.if-not-settings_fit.true)

pub returns-then-g-edition : goal.returns-then-g-edition
unfolding head_checked cond
returns-then-g-edition c =
    simp (asked c.args.g _ _ c.in_edition.ensures c.settings_fit.ensures c.if-not-settings_fit.false, ne_eqb _ _ c.if-g-edition.true)

pub check_body-requires : goal.check_body-requires
check_body-requires c =
    (c.requires.0, subst Bounds c.requires.1 (own_bounds _ _ (asked c.args.g _ _ c.in_edition.ensures c.settings_fit.ensures c.if-not-settings_fit.false) c.if-g-edition.false))

pub returns : goal.returns
unfolding head_checked cond
returns c =
    c.check_body.ensures
    ∙ ap (λ (g : Settings). fitness_of (body_checked c.args.words.now g)) (sym c.requires.1)
    ∙ simp (asked c.args.g _ _ c.in_edition.ensures c.settings_fit.ensures c.if-not-settings_fit.false, eq-eqb _ _ c.if-g-edition.false)
