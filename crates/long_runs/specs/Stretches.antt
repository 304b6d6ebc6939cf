-- Stretches without a final answer: three of queues, as long as K7's exact figure says, so that it cannot be lower there; and one of a stack that is
-- longer than K7's figure, and could go on until the step count is spent. The same runs, with a word on each turn, are texts in examples/runs.
use Rattle.std.specs.Prelude.{ℕ, ◌≡◌, List, [], ◌∷◌, ◌++◌, map, replicate}
use Rattle.rules.specs.Answers.{number_of}
use Rattle.rules.specs.Run.{Call, Event}
use Rattle.rules.specs.declared.Settings.{Settings}
use Rattle.stretch.specs.Stretch.{stretch, counted_steps, exact_stretch, k7_stretch}
use Rattle.runs.specs.Rows.{Row, Holds, events_of}
use Rattle.runs.specs.Reach.{more}
use Rattle.runs.specs.Notation.{queue, stack, runs, steps, put, take, landed, taken, plain}

-- so many events of a row's run, from a position on, and the figure that says how many of them are steps
pub record Stretch : Type 0 where
  pub row : Row
  pub position : ℕ
  pub length : ℕ
  pub figure : Settings → ℕ

abbrev pub events_in : Stretch → List Event
events_in s = stretch s.position s.length (events_of s.row)

abbrev pub numbers_in : Stretch → List ℕ
numbers_in s = map (λ (e : Event). number_of e.answer) (events_in s)

-- each of them answers 0
pub record Unanswered (s : Stretch) : Type 0 where
  pub holds : Holds s.row
  pub zeros : numbers_in s ≡ replicate s.length 0
  pub counted : counted_steps (events_in s) ≡ s.figure s.row.settings

abbrev quiet : ℕ → ℕ → (Settings → ℕ) → Row → Stretch
quiet p m f r = record { row = r; position = p; length = m; figure = f }

-- a stack's put moves the window up, its take moves it down again, and each finds the sub at the window's end
abbrev round : List Call
round = steps 0 3 ++ steps 1 3

unfoldable pub stretches : List Stretch
stretches =
    -- stretch-one-worker: a take reads each sub twice; 2w + 3 = 7 steps
    quiet 26 8 exact_stretch
    (runs (queue 2 1 2 1) (put 0 1 3 ++ put 0 2 4 ++ put 0 3 7 ++ take 0 3 ++ take 0 4 ++ take 0 8)
    (landed 0 3 1 0 1 1 ∷ landed 0 4 2 1 1 2 ∷ landed 0 7 3 1 2 3 ∷ taken 0 3 2 1 1 2 1 ∷ taken 0 4 1 0 1 1 0 ∷ taken 0 8 3 1 2 3 0 ∷ [])) ∷
    -- stretch-window: worker 1's take has seen a window that moved since; (n - 1) (4w + 3) + w + 4 = 12 steps, 5 of worker 0 and 7 of worker 1
    quiet 24 13 exact_stretch
    (runs (queue 1 1 2 2)
    (take 1 1 ++ put 0 1 3 ++ take 0 3 ++ put 0 2 6 ++ take 0 6 ++ put 0 3 5 ++ steps 1 7 ++ steps 1 1 ++ steps 0 1)
    (landed 0 3 1 0 1 1 ∷ taken 0 3 1 0 1 1 0 ∷ landed 0 6 2 0 2 2 ∷ taken 0 6 2 0 2 2 0 ∷ plain 1 9 3 ∷ landed 0 6 3 0 3 3 ∷ [])) ∷
    -- stretch-sub: it has read a sub that changed since; (n - 1) (5w + 1) + w + 4 = 17 steps, 6 of worker 0 and 11 of worker 1
    quiet 20 18 exact_stretch
    (runs (queue 2 1 2 2)
    (put 0 1 3 ++ take 0 3 ++ put 0 2 3 ++ take 1 2 ++ steps 0 1 ++ take 0 3 ++ put 0 3 6 ++ steps 1 11 ++ steps 1 1 ++ steps 0 1)
    (landed 0 3 1 0 1 1 ∷ taken 0 3 1 0 1 1 0 ∷ landed 0 4 2 1 1 2 ∷ taken 0 3 2 1 1 2 0 ∷ plain 1 14 3 ∷ landed 0 7 3 1 2 3 ∷ [])) ∷
    -- stack-endless: five rounds are 30 steps, six more than K7's 6n (w + 1)
    quiet 5 32 (more 6 k7_stretch)
    (runs (stack 1 1 1 2 2) (put 0 1 4 ++ put 0 2 0 ++ take 1 0 ++ round ++ round ++ round ++ round ++ round) (landed 0 4 1 0 1 1 ∷ [])) ∷ []
