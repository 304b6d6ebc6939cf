-- What is counted over the events of a file: operations finished by kind, calls refused, the greatest distance, and the bound on one.
use Rattle.std.specs.Prelude.{ℕ, ◌+◌, ◌-◌, ◌*◌, ◌%◌, ◌^◌, max, Bool, ◌==◌, nat_lt}
use Rattle.laws.specs.Choice.{cond}
use Rattle.rules.specs.Answers.{number_by, number_of}
use Rattle.rules.specs.Limits.{settings_fit}
use Rattle.rules.specs.Make.{shipped_from}
use Rattle.rules.specs.Run.{distance_by, distance_in}
use Rattle.rules.specs.Sequential.{most_passed}
use Rattle.rules.specs.declared.Settings.{Settings}
use Rattle.rules.specs.declared.Size.{Size}
use Rattle.rules.specs.Answers.{Answered}
use Rattle.runfile.specs.declared.item.Item.{Item}
use Rattle.runfile.specs.declared.item.Item.TheVariants.{Open, Make, Says}
use Rattle.runfile.specs.declared.item.Said.TheVariants.{BeginPut, BeginTake, Step, End, SetSize}
use Rattle.replay.specs.Replay.{Event}
use Rattle.replay.specs.declared.event.Done.{Done}
use Rattle.tally.specs.declared.Tally.{Tally}

abbrev pub no_tally : Tally
no_tally = record { puts = 0; takes = 0; empties = 0; fulls = 0; refused = 0; worst = 0; bound = 0 }

-- a tally with another bound
abbrev pub with_bound : Tally → ℕ → Tally
with_bound t bound = record { puts = t.puts; takes = t.takes; empties = t.empties; fulls = t.fulls; refused = t.refused; worst = t.worst; bound = bound }

-- demand 3's bound, in a file's pool of some settings, which is of the shipped edition; none is made of settings off limits
unfoldable pub bound_in : Settings → ℕ
bound_in g = cond (settings_fit (shipped_from g)) (most_passed (shipped_from g)) 0

-- "at most (width - 1) × depth older items", of a window of a size
abbrev pub passed_in : Size → ℕ
passed_in size = (size.width - 1) * size.depth

-- the bound after a word that has an answer of this number: from the word that makes the pool on it is the pool's, and a size that is set may raise it,
-- since from then on a take's window may have that size
abbrev pub bound_after : ℕ → Item → ℕ → ℕ
bound_after bound (Open opening) n = bound
bound_after bound (Make g) n = bound_in g
bound_after bound (Says (BeginPut worker value)) n = bound
bound_after bound (Says (BeginTake worker)) n = bound
bound_after bound (Says (Step worker)) n = bound
bound_after bound (Says End) n = bound
bound_after bound (Says (SetSize width depth)) n = cond (n == 0) (max bound (passed_in (record { width = width; depth = depth }))) bound

-- 1 put, 2 taken, 3 empty, 4 full; above these are the refusals
abbrev pub is_refused : Answered → Bool
is_refused a = nat_lt 4 (number_of a)

-- a tally with a word that has an answer of this number and distance, by a way of counting on where something is so
abbrev pub tally_on : (ℕ → Bool → ℕ) → Tally → Item → ℕ → ℕ → Tally
tally_on on t item n distance =
    record {
      puts = on t.puts (n == 1);
      takes = on t.takes (n == 2);
      empties = on t.empties (n == 3);
      fulls = on t.fulls (n == 4);
      refused = on t.refused (nat_lt 4 n);
      worst = max t.worst distance;
      bound = bound_after t.bound item n;
    }

-- with an event
abbrev pub tally_by : (ℕ → Bool → ℕ) → Tally → Event → Tally
tally_by on t e = tally_on on t e.item (number_of e.answer) (distance_in e.answer)

abbrev pub count_on : ℕ → Bool → ℕ
count_on x b = x + cond b 1 0

unfoldable pub tally_after : Tally → Event → Tally
tally_after t e = tally_by count_on t e

-- modulo 2^64, as the code counts
abbrev pub wrap_on : ℕ → Bool → ℕ
wrap_on x b = cond b ((x + 1) % 2 ^ 64) x

unfoldable pub tallied : Tally → Event → Tally
tallied t e = tally_by wrap_on t e

-- that, where what stands for a refusal has a number of its own: it counts as the number says
unfoldable pub counted_by : {R : Type 0} → (R → ℕ) → Tally → Done R → Tally
counted_by number t d = tally_on wrap_on t (Says d.said) (number_by number d.answer) (distance_by d.answer)
