-- `worker_fitness::every_fit` meets its contract: the two loops' invariants are that every worker passed, and every word of this worker passed, is fit; the first word
-- that is not decides the whole, and both loops are left.
use Rattle.std.proofs.Common.{◌+◌, ◌≡◌, true, get_or}
use Rattle.laws.specs.Choice.{all_below}
use Rattle.worker_fitness.specs.Words.{word_fit}
use Rattle.worker_fitness.proofs.Places.{is_fit}
use Rattle.worker_fitness.proofs.every_fit.Given as goal

abbrev pub invariant-loop-k : goal.invariant-loop-k
invariant-loop-k l = (l.fit ≡ true) × (all_below l.k (λ k. word_fit l.g l.width k (get_or l.words (l.at + k) 0)) ≡ true)

abbrev pub invariant-workers : goal.invariant-workers
invariant-workers l = (l.fit ≡ true) × (all_below l.i (is_fit l.words l.g) ≡ true)
