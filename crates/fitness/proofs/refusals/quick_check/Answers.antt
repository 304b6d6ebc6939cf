-- `fitness::refusals::quick_check` meets its contract: of the shipped edition by quick looks, of any other by the whole check.
use mathlib.Core.Path.{ap, ◌∙◌}
use borrow.Author.Tests.{lt-ltb, le-ltb}
use Rattle.laws.specs.Choice.{cond}
use Rattle.rules.specs.Fit.{head_checked, checked_by, fitness_of}
use Rattle.rules.specs.Make.{shipped}
use Rattle.rules.specs.declared.Settings.{Settings}
use Rattle.fitness.proofs.refusals.quick_check.Goals as goal
use Rattle.rules.specs.declared.Refusal.TheVariants.{NotFit}

pub returns-then-words-lt-HEAD_WORDS : goal.returns-then-words-lt-HEAD_WORDS
unfolding checked_by cond
returns-then-words-lt-HEAD_WORDS c = simp (lt-ltb _ _ c.if-words-lt-HEAD_WORDS.true)

pub returns-then-edition-eq-SHIPPED : goal.returns-then-edition-eq-SHIPPED
unfolding checked_by cond
returns-then-edition-eq-SHIPPED c =
    let a = c.args in
    rw (le-ltb _ _ c.if-words-lt-HEAD_WORDS.false, c.if-edition-eq-SHIPPED.true) (c.check_shipped.ensures ∙ ap (λ (g : Settings). fitness_of (head_checked NotFit shipped a.words.now g)) c.settings.ensures)
