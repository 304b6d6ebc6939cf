-- FILES ARE RUNS, the statement: the calls of a file that was read are a list of calls on a new pool, and their answers are `run`'s, the very one of
-- demand 3. So what is proved of every run holds of every file, of each front part of it too.
use Rattle.std.specs.Prelude.{ℕ, List, [], ◌∷◌, ◌++◌, map, ◌≡◌, length}
use Rattle.std.proofs.Math.Option.{Option, none, some}
use Rattle.rules.specs.Answers.{number_of}
use Rattle.rules.specs.Consequences.{words_after, OfEveryRun}
use Rattle.rules.specs.Make.{make_of}
use Rattle.rules.specs.Run.{Call, Event, event_of, run}
use Rattle.rules.specs.declared.Settings.{Settings}
use Rattle.rules.specs.Answers.{Answered}
use Rattle.replay.specs.Replay.{Asked, nothing, making, calling, asked_of, Happened, replay_of, lent}

-- ---- what a file's words ask for
abbrev asked : Happened → Asked
asked x = asked_of x.event.item

-- the pool: the settings of the word that makes it
abbrev pub settings_or : Option Settings → Asked → Option Settings
settings_or other nothing = other
settings_or other (making g) = some g
settings_or other (calling c) = other

unfoldable pub pool_in : List Happened → Option Settings
pool_in [] = none
pool_in (x ∷ xs) = settings_or (pool_in xs) (asked x)

-- the calls, each with its answer, on the words just before it
abbrev pub with_call : List ℕ → Asked → Answered → List Event → List Event
with_call ws nothing a rest = rest
with_call ws (making g) a rest = rest
with_call ws (calling c) a rest = event_of ws c a ∷ rest

unfoldable pub events_in : List ℕ → List Happened → List Event
events_in ws [] = []
events_in ws (x ∷ xs) = with_call ws (asked x) x.event.answer (events_in x.words xs)

abbrev pub calls_in : List Happened → List Call
calls_in xs = map (λ (e : Event). e.call) (events_in lent xs)

-- the pool's words after the last of them
unfoldable pub words_in : List ℕ → List Happened → List ℕ
words_in ws [] = ws
words_in ws (x ∷ xs) = words_in x.words xs

-- ---- the claim
-- the events of a file, or a front part of them, are a run on a new pool of these settings
pub record RunsOn (g : Settings) (xs : List Happened) : Type 0 where
  pub made : number_of (make_of lent g).answer ≡ 0
  pub answers : events_in lent xs ≡ run g.edition (make_of lent g).words (calls_in xs)
  pub words : words_in lent xs ≡ words_after g.edition (make_of lent g).words (calls_in xs)

-- before there is a pool there is no call
abbrev pub RunsOnPool : Option Settings → List Happened → Type 0
RunsOnPool none xs = events_in lent xs ≡ []
RunsOnPool (some g) xs = RunsOn g xs

-- the first words of a file that did something: all of them, or those before some others
abbrev pub FrontOf : List ℕ → List Happened → Type 0
FrontOf bytes xs = (rest : List Happened) × ((replay_of bytes).events ≡ xs ++ rest)

abbrev pub FilesAreRuns : Type 0
FilesAreRuns = (bytes : List ℕ) (xs : List Happened) → FrontOf bytes xs → RunsOnPool (pool_in xs) xs

-- each event stands at its word's position, and the file's end, or its fault, after the last of them; the pool's words are then the same
pub record Counted (bytes : List ℕ) : Type 0 where
  pub each : (xs : List Happened) (x : Happened) (rest : List Happened) → (replay_of bytes).events ≡ xs ++ (x ∷ rest) → x.event.position ≡ length xs
  pub end : (replay_of bytes).end.position ≡ length (replay_of bytes).events
  pub words : (replay_of bytes).end.words ≡ words_in lent (replay_of bytes).events

abbrev pub PositionsCount : Type 0
PositionsCount = (bytes : List ℕ) → Counted bytes

-- ---- what follows: a claim that holds of every run holds of every file
abbrev pub OfEveryFile : (Settings → List ℕ → List Call → Type 0) → Type 0
OfEveryFile P =
    (bytes : List ℕ) (xs : List Happened) → FrontOf bytes xs → (g : Settings) → pool_in xs ≡ some g → P g (make_of lent g).words (calls_in xs)

abbrev pub RunsGiveFiles : Type 1
RunsGiveFiles = (P : Settings → List ℕ → List Call → Type 0) → OfEveryRun P → OfEveryFile P
