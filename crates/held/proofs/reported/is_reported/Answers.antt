-- `held::reported::is_reported` meets its contract: a spacer is not counted, and of the others the kind picks the same test.
use Rattle.std.proofs.Common.{◌≡◌, ℕ, ◌∙◌, arith, nat_lt, nat_cmp, is_lt}
use Rattle.std.proofs.lemmas.Bool.Decides.{nat_tests}
use Rattle.laws.specs.Choice.{cond}
use Rattle.laws.specs.Tests.{tests}
use Rattle.held.proofs.reported.is_reported.Goals as goal

-- one stamp is below another by their numbers
less_is : (a b : ℕ) → is_lt (nat_cmp a b) ≡ nat_lt a b
less_is a b = grind (arith, nat_tests)

pub returns-then-it-eq0 : goal.returns-then-it-eq0
unfolding cond
returns-then-it-eq0 c = search tests

pub returns-then-kind-eq0 : goal.returns-then-kind-eq0
unfolding cond
returns-then-kind-eq0 c = c.lt.ensures ∙ less_is c.args.it.stamp.0 c.args.s.0 ∙ search tests

pub returns-else-kind-eq0 : goal.returns-else-kind-eq0
unfolding cond
returns-else-kind-eq0 c = c.lt-else-kind-eq0.ensures ∙ less_is c.args.s.0 c.args.it.stamp.0 ∙ search tests
