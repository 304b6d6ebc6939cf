-- `shared_fitness::fours::all_in_fours` meets its contract: the test held of each number gone through.
use Rattle.std.proofs.Common.{ℕ, ◌*◌, ◌<◌, true}
use Rattle.shared_fitness.proofs.fours.all_in_fours.Given as goal

abbrev pub invariant-loop-four : goal.invariant-loop-four
invariant-loop-four g l = (j : ℕ) → j < 4 * l.four → goal.F-post g l.test j true

abbrev pub invariant-loop-j : goal.invariant-loop-j
invariant-loop-j g l = (j : ℕ) → j < l.j → goal.F-post g l.test j true
