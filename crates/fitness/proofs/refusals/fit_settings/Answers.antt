-- `fitness::refusals::fit_settings` meets its contract: a pool that was found fit is of the edition, and its settings are those that its words hold.
use Rattle.std.proofs.Common.{refl, arith}
use Rattle.rules.proofs.Fitness.{found_fit, fit_pool, fit_head}
use Rattle.rules.specs.Make.{shipped}
use Rattle.rules.specs.declared.Refusal.TheVariants.{NotFit}
use Rattle.fitness.proofs.refusals.fit_settings.Goals as goal

pub shipped_settings-requires : goal.shipped_settings-requires
shipped_settings-requires c =
    let ws = c.args.words.now in
    let fit = found_fit NotFit shipped ws c.in_ok-check.ensures in
    (omega (arith, (fit_pool shipped ws _ fit).enough), (fit_head shipped ws _ fit).1)

pub returns : goal.returns
returns c = rw (found_fit NotFit shipped c.args.words.now c.in_ok-check.ensures, c.shipped_settings.ensures) refl
