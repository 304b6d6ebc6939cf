-- What a stretch claims, as tests that compute.
use Rattle.std.specs.Prelude.{Bool, List, [], ◌∷◌, replicate, eqb}
use Rattle.laws.specs.Choice.{all}
use Rattle.stretch.specs.Stretch.{counted_steps}
use Rattle.runs.specs.Tests.{same_list, holds}
use Rattle.long_runs.specs.Stretches.{Stretch, events_in, numbers_in}

abbrev pub unanswered : Stretch → List Bool
unanswered s =
    all (holds s.row) ∷ same_list eqb (numbers_in s) (replicate s.length 0)
    ∷ eqb (counted_steps (events_in s)) (s.figure s.row.settings) ∷ []
