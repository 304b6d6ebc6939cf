-- `dispatcher::check_after` meets its contract: the kind and the tops pick the same branch of the choice.
use Rattle.laws.specs.Choice.{cond}
use borrow.Author.Tests.{eq-eqb, ne_eqb}
use mathlib.Core.Path.{refl, ◌∙◌}
use Rattle.dispatcher.proofs.check_after.Goals as goal

pub returns-then-words-top : goal.returns-then-words-top
unfolding cond
returns-then-words-top c = c.check.ensures ∙ rw (eq-eqb _ _ c.if-g-eq0.true, c.if-words-top.true) refl

pub returns-else-words-top : goal.returns-else-words-top
unfolding cond
returns-else-words-top c = rw (eq-eqb _ _ c.if-g-eq0.true, c.if-words-top.false) refl

pub returns-else-g-eq0 : goal.returns-else-g-eq0
unfolding cond
returns-else-g-eq0 c = rw (ne_eqb _ _ c.if-g-eq0.false) refl
