-- Every row of the tables holds and reaches its figures: by the tests, as in the proofs of runs.
use mathlib.Core.Path.{◌≡◌, refl}
use mathlib.Core.Bool.{true}
use lib.Dec.{eqb}
use borrow.Author.Tests.{eqb-true}
use Rattle.laws.specs.Choice.{all_holds, Holds as Passed}
use Rattle.rules.specs.Sequential.{most_passed, least_full}
use Rattle.rules.specs.Newer.{k14_bound, framework_bound, thesis_bound, exact_bound}
use Rattle.rules.specs.Statement.{All}
use Rattle.stretch.specs.Stretch.{counted_steps}
use Rattle.runs.specs.Rows.{AllHold}
use Rattle.runs.specs.Reach.{Reaches}
use Rattle.long_runs.specs.Extremes.{extremes}
use Rattle.long_runs.specs.Solos.{solos}
use Rattle.long_runs.specs.Stretches.{Stretch, Unanswered, stretches}
use Rattle.long_runs.specs.Sizes.{sized, parting, puts_below, lines_below}
use Rattle.runs.specs.Tests.{every, holds, reaches}
use Rattle.long_runs.specs.Tests.{unanswered}
use Rattle.runs.proofs.Claims.{list_right, all_from_tests, row_holds, row_reaches}
use Rattle.runs.proofs.Computing.{computing}

-- ---- the tests give the claim
stretch_unanswered : (s : Stretch) → Passed (unanswered s) → Unanswered s
stretch_unanswered s t =
    record {
      holds = row_holds s.row (all_holds (holds s.row) t.0);
      zeros = list_right eqb eqb-true _ _ t.1.0;
      counted = eqb-true _ _ t.1.1.0;
    }

-- ---- the tables
tables_pass : (every reaches extremes ≡ true) × (every reaches solos ≡ true) × (every unanswered stretches ≡ true) × (every holds sized ≡ true) × (every holds parting ≡ true)
unfolding extremes solos stretches sized parting puts_below lines_below most_passed least_full framework_bound exact_bound thesis_bound k14_bound counted_steps computing
tables_pass = (refl, refl, refl, refl, refl)

pub long_runs_hold : All Reaches extremes × All Reaches solos × All Unanswered stretches × AllHold sized × AllHold parting
long_runs_hold = (
  all_from_tests reaches row_reaches extremes tables_pass.0,
  all_from_tests reaches row_reaches solos tables_pass.1,
  all_from_tests unanswered stretch_unanswered stretches tables_pass.2,
  all_from_tests holds row_holds sized tables_pass.3,
  all_from_tests holds row_holds parting tables_pass.4,
)
