-- Every row of the table holds and reaches its figures: by the tests, as in the proofs of runs.
use mathlib.Core.Path.{◌≡◌, refl}
use mathlib.Core.Bool.{true}
use Rattle.rules.specs.Sequential.{most_passed}
use Rattle.rules.specs.Newer.{k14_bound, exact_bound}
use Rattle.rules.specs.Statement.{All}
use Rattle.runs.specs.Reach.{Reaches}
use Rattle.spacer_runs.specs.Spacers.{spacers}
use Rattle.runs.specs.Tests.{every, reaches}
use Rattle.runs.proofs.Claims.{all_from_tests, row_reaches}
use Rattle.runs.proofs.Computing.{computing}

-- ---- the table
table_passes : every reaches spacers ≡ true
unfolding spacers most_passed exact_bound k14_bound computing
table_passes = refl

pub spacer_runs_hold : All Reaches spacers
spacer_runs_hold = all_from_tests reaches row_reaches spacers table_passes
