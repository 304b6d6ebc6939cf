-- `calls::entry::begun` meets its contract: the calls' promises put together are the definition.
use native.Mathlib.Omega.{arith}
use Rattle.rules.specs.Make.{shipped}
use Rattle.rules.proofs.Fitness.{fit_pool, fit_head}
use Rattle.calls.proofs.entry.begun.Goals as goal

pub shipped_settings-g-requires : goal.shipped_settings-g-requires
shipped_settings-g-requires c =
    let fit = c.requires in
    (omega (arith, (fit_pool shipped _ _ fit).enough), (fit_head shipped _ _ fit).1)

pub fit_begin-requires : goal.fit_begin-requires
fit_begin-requires c = rw c.shipped_settings-g.ensures (fit_pool shipped _ _ c.requires)
