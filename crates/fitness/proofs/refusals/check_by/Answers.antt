-- `fitness::refusals::check_by` meets its contract: at each return the test that led there picks the same branch of `checked_by`, and each call stands for what it ensures.
use borrow.Author.Tests.{le-ltb, lt-ltb}
use mathlib.Core.Path.{◌∙◌}
use Rattle.rules.specs.Fit.{checked_by}
use Rattle.laws.specs.Choice.{cond}
use Rattle.fitness.proofs.refusals.check_by.Goals as goal

pub returns-then-words-lt-HEAD_WORDS : goal.returns-then-words-lt-HEAD_WORDS
unfolding checked_by cond
returns-then-words-lt-HEAD_WORDS c = simp (lt-ltb _ _ c.if-words-lt-HEAD_WORDS.true)

pub returns : goal.returns
unfolding checked_by cond
returns c = c.check_head.ensures ∙ simp (le-ltb _ _ c.if-words-lt-HEAD_WORDS.false, ← c.settings.ensures)
