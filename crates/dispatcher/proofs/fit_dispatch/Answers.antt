-- `dispatcher::fit_dispatch` meets its contract: at each return the test that led there picks the same branch of `fit_dispatch`.
use borrow.Author.Tests.{le-leb, lt-leb}
use mathlib.Core.Path.{◌∙◌}
use Rattle.rounds.specs.Dispatch.{fit_dispatch}
use Rattle.laws.specs.Choice.{cond}
use Rattle.dispatcher.proofs.fit_dispatch.Goals as goal

pub returns-then-g-i : goal.returns-then-g-i
unfolding fit_dispatch cond
returns-then-g-i c = simp (le-leb _ _ c.if-g-i.true)

pub returns : goal.returns
unfolding fit_dispatch cond
returns c = c.turns.ensures ∙ simp (lt-leb _ _ c.if-g-i.false)
