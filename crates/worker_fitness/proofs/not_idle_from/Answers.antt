-- `worker_fitness::not_idle_from` meets its contract: every worker passed is fit.
use Rattle.std.proofs.Common.{arith}
use Rattle.laws.specs.Choice.{all_below_more}
use Rattle.worker_fitness.proofs.Places.{is_fit}
use Rattle.worker_fitness.proofs.not_idle_from.Goals as goal

pub loop-i-preserved : goal.loop-i-preserved
loop-i-preserved c =
    let l = c.loop-i in
    let a = c.args in
    λ h. all_below_more l.i (is_fit a.words.now a.g) (l.invariant h) (rw c.worker_at-at.ensures at (c.idle_fit.ensures c.if-not-idle_fit.false))
