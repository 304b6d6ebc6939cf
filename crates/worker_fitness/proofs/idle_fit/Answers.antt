-- `worker_fitness::idle_fit` meets its contract: an idle worker has seen no window, and a stack's has no words of one.
use Rattle.std.proofs.Common.{eqb-true, ltb-true, sym, ◌∙◌}
use Rattle.laws.specs.Choice.{both_true}
use Rattle.laws.specs.Looks.{and_both}
use Rattle.rules.specs.Worker.{slot_at}
use Rattle.worker_fitness.proofs.Idle.{idle_fits}
use Rattle.worker_fitness.proofs.idle_fit.Goals as goal

pub returns : goal.returns
unfolding slot_at
returns c =
    λ e.
    let all = both_true _ _ (simp and_both at e) in
    let own = both_true _ _ all.0 in
    let inside = both_true _ _ own.1 in
    idle_fits c.args.g _ (eqb-true _ _ own.0) (ltb-true _ _ inside.0) (ltb-true _ _ inside.1) (sym c.stack_unseen.ensures ∙ all.1)
