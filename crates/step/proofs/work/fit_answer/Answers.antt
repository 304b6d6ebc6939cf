-- `step::work::fit_answer` meets its contract: the calls' promises put together are the definition.
use native.Mathlib.Omega.{arith}
use Rattle.rules.specs.Make.{shipped}
use Rattle.rules.proofs.Fitness.{fit_pool, fit_head}
use Rattle.step.proofs.work.fit_answer.Goals as goal

pub shipped_settings-g-requires : goal.shipped_settings-g-requires
shipped_settings-g-requires c =
    let fit = c.requires in
    (omega (arith, (fit_pool shipped _ _ fit).enough), (fit_head shipped _ _ fit).1)

pub fit_step-requires : goal.fit_step-requires
fit_step-requires c = rw c.shipped_settings-g.ensures (fit_pool shipped _ _ c.requires)
