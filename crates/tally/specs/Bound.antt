-- THE BOUND of a file's distances, by its events: that of its pool, or of a size that it has set, whichever is the greatest; and what is counted over them.
use Rattle.std.specs.Prelude.{ℕ, max, List, [], ◌∷◌, ◌==◌}
use Rattle.laws.specs.Choice.{cond}
use Rattle.rules.specs.Answers.{number_of}
use Rattle.rules.specs.Sequential.{most_passed}
use Rattle.rules.specs.declared.Settings.{Settings}
use Rattle.rules.specs.declared.Size.{Size}
use Rattle.rules.specs.Answers.{Answered}
use Rattle.runfile.specs.declared.item.Item.{Item as Saying}
use Rattle.runfile.specs.declared.item.Item.TheVariants.{Open, Make, Says}
use Rattle.runfile.specs.declared.item.Said.TheVariants.{BeginPut, BeginTake, Step, End, SetSize}
use Rattle.replay.specs.Replay.{Happened}
use Rattle.tally.specs.Tally.{passed_in, tally_after}
use Rattle.tally.specs.declared.Tally.{Tally}

-- what is counted over some events
unfoldable pub tally_over : Tally → List Happened → Tally
tally_over t [] = t
tally_over t (x ∷ xs) = tally_over (tally_after t x.event) xs

-- the sizes that were set: those of its size words that were not refused
abbrev pub with_size : Saying → Answered → List Size → List Size
with_size (Open opening) a rest = rest
with_size (Make g) a rest = rest
with_size (Says (BeginPut worker value)) a rest = rest
with_size (Says (BeginTake worker)) a rest = rest
with_size (Says (Step worker)) a rest = rest
with_size (Says End) a rest = rest
with_size (Says (SetSize width depth)) a rest = cond (number_of a == 0) (record { width = width; depth = depth } ∷ rest) rest

unfoldable pub sizes_set : List Happened → List Size
sizes_set [] = []
sizes_set (x ∷ xs) = with_size x.event.item x.event.answer (sizes_set xs)

-- the most that a take from a window of one of some sizes may pass over; 0 of none
unfoldable pub most_in : List Size → ℕ
most_in [] = 0
most_in (size ∷ sizes) = max (passed_in size) (most_in sizes)

-- the bound of some events on a pool
abbrev pub bound_of : Settings → List Happened → ℕ
bound_of g xs = max (most_passed g) (most_in (sizes_set xs))
