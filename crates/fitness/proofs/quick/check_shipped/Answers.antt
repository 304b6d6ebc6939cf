-- `fitness::quick::check_shipped` meets its contract: settings within limits and of the shipped edition leave the rest of the check.
use Rattle.std.proofs.Common.{true, ◌≡◌}
use borrow.Author.Tests.{eq-eqb, ne_eqb}
use Rattle.laws.specs.Choice.{cond}
use Rattle.rules.specs.Fit.{head_checked}
use Rattle.rules.specs.Limits.{settings_fit}
use Rattle.rules.specs.Make.{shipped, in_edition}
use Rattle.fitness.proofs.Heads.{asked, own_bounds}
use Rattle.fitness.proofs.quick.check_shipped.Goals as goal
use Rattle.fitness.proofs.quick.check_shipped.Goals.{else-settings_fit-via-then-settings_fit+else-g-eq-SHIPPED, else-settings_fit-via-else-settings_fit}

pub quick_body-requires-clause-bounds : goal.quick_body-requires-clause-bounds
quick_body-requires-clause-bounds c =
    let found : settings_fit (in_edition shipped c.args.g) ≡ true = asked c.args.g _ _ c.in_edition.ensures c.settings_fit.ensures c.if-settings_fit.true in
    rw c.as_shipped.ensures (own_bounds _ _ found c.if-g-eq-SHIPPED.true)

pub returns-then-g-eq-SHIPPED : goal.returns-then-g-eq-SHIPPED
unfolding head_checked cond
returns-then-g-eq-SHIPPED c =
    let found : settings_fit (in_edition shipped c.args.g) ≡ true = asked c.args.g _ _ c.in_edition.ensures c.settings_fit.ensures c.if-settings_fit.true in
    rw (found, eq-eqb _ _ c.if-g-eq-SHIPPED.true) (rw c.as_shipped.ensures at c.quick_body.ensures)

pub returns : goal.returns
unfolding head_checked cond
returns c =
    elim c.else-settings_fit.branch [
      | else-settings_fit-via-then-settings_fit+else-g-eq-SHIPPED w ↦
          simp (asked c.args.g _ _ c.in_edition.ensures c.settings_fit.ensures w.if-settings_fit.true, ne_eqb _ _ w.if-g-eq-SHIPPED.false)
      | else-settings_fit-via-else-settings_fit w ↦ simp (asked c.args.g _ _ c.in_edition.ensures c.settings_fit.ensures w.if-settings_fit.false)
    ]
