-- `worker_fitness::not_idle_from` meets its contract: every worker passed is fit.
use Rattle.std.proofs.Common.{true, ◌≡◌}
use Rattle.laws.specs.Choice.{all_below}
use Rattle.worker_fitness.proofs.Places.{is_fit}
use Rattle.worker_fitness.proofs.not_idle_from.Given as goal

abbrev pub invariant-loop-i : goal.invariant-loop-i
invariant-loop-i l = all_below l.first (is_fit l.words l.g) ≡ true → all_below l.i (is_fit l.words l.g) ≡ true
