-- `worker_fitness::workers_fit` meets its contract: every worker passed is fit, and the first that is not decides the whole.
use Rattle.std.proofs.Common.{true, ◌≡◌, ◌-◌, ◌≤◌}
use Rattle.laws.specs.Choice.{all_below}
use Rattle.worker_fitness.proofs.Places.{is_fit}
use Rattle.worker_fitness.proofs.workers_fit.Given as goal

abbrev pub invariant-loop-i : goal.invariant-loop-i
invariant-loop-i l = (l.i ≤ l.g.workers) × (all_below l.i (is_fit l.words l.g) ≡ true)

abbrev pub decreases-loop-i : goal.decreases-loop-i
decreases-loop-i l = l.g.workers - l.i
