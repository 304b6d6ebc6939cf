-- What a row with cards claims, as tests that compute.
use Rattle.std.specs.Prelude.{Bool, List, [], ◌∷◌, eqb}
use Rattle.laws.specs.Choice.{all}
use Rattle.runs.specs.Tests.{same_list, holds}
use Rattle.card_runs.specs.Cards.{Cards, cards_of}

abbrev pub says : Cards → List Bool
says x = all (holds x.row) ∷ same_list eqb (cards_of x.row) x.says ∷ []
