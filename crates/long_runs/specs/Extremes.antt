-- Runs that reach the closest bounds: demand 3's numbers for a queue's take and for both fulls, and the exact figure for a stack's take,
-- which is below demand 3's (w - 1) (2d + 2s) by one or more for each other sub. So no bound can be lower there, and no "full" can ask
-- for more items held. The same runs, with a word on each turn, are texts in examples/runs.
use Rattle.std.specs.Prelude.{List, [], ◌∷◌, ◌++◌}
use Rattle.rules.specs.Sequential.{most_passed, least_full}
use Rattle.rules.specs.Newer.{framework_bound, thesis_bound, k14_bound, exact_bound}
use Rattle.runs.specs.Reach.{Reach, passing, holding, more, less}
use Rattle.runs.specs.Notation.{queue, stack, runs, steps, put, take, landed, taken, plain}

unfoldable pub extremes : List Reach
extremes =
    -- queue-bound: a take of a queue passes over (w - 1) d = 4 older items
    passing (most_passed ∷ [])
    (runs (queue 3 2 4 3) (put 0 1 3 ++ put 0 2 3 ++ put 1 3 3 ++ put 1 4 3 ++ put 2 5 3 ++ take 2 3)
    (landed 0 3 1 0 1 1 ∷ landed 0 3 2 0 2 2 ∷ landed 1 3 3 1 1 3 ∷ landed 1 3 4 1 2 4 ∷ landed 2 3 5 2 1 5 ∷ taken 2 3 5 2 1 5 4 ∷ [])) ∷
    -- stack-bound: a take of a stack passes over K14's (w - 1) (2d + 2s - 1) = 3 newer items, one less for each other sub than demand 3 allows
    passing (exact_bound ∷ thesis_bound ∷ k14_bound ∷ framework_bound ∷ [])
    (runs (stack 2 1 1 3 2)
    (put 0 1 4 ++ put 1 2 4 ++ take 0 3 ++ put 1 3 4 ++ steps 0 1 ++ steps 1 4 ++ take 1 3 ++ put 0 4 4 ++ put 0 5 4 ++ put 0 6 8 ++ steps 1 1)
    (landed 0 4 1 0 1 1 ∷ landed 1 4 2 1 1 2 ∷ taken 0 4 1 0 1 1 1 ∷ landed 1 8 3 1 2 3 ∷ landed 0 4 4 0 1 4 ∷ landed 0 4 5 0 2 5 ∷ landed 0 8 6 0 3 6 ∷ taken 1 4 3 1 2 3 3 ∷ [])) ∷
    -- stack-published-bound: and where the shift is below the depth over 5, more than the published (w - 1) (2s + d) = 4
    passing (exact_bound ∷ thesis_bound ∷ k14_bound ∷ more 1 framework_bound ∷ [])
    (runs (stack 2 2 1 5 2)
    (put 0 1 4 ++ put 0 2 4 ++ put 1 3 4 ++ put 1 4 4 ++ put 1 5 3 ++ take 0 4 ++ take 0 3 ++ steps 1 1 ++ steps 0 1 ++ steps 1 4
    ++ put 0 6 4 ++ put 0 7 4 ++ put 0 8 4 ++ put 0 9 8 ++ put 1 10 4 ++ put 0 11 3 ++ take 1 4 ++ take 1 3 ++ steps 0 5 ++ steps 1 1)
    (landed 0 4 1 0 1 1 ∷ landed 0 4 2 0 2 2 ∷ landed 1 4 3 1 1 3 ∷ landed 1 4 4 1 2 4 ∷ taken 0 4 2 0 2 2 2 ∷ taken 0 4 1 0 1 1 2 ∷ landed 1 8 5 1 3 5 ∷
    landed 0 4 6 0 1 6 ∷ landed 0 4 7 0 2 7 ∷ landed 0 4 8 0 3 8 ∷ landed 0 8 9 0 4 9 ∷ landed 1 4 10 1 4 10 ∷ taken 1 4 10 1 4 10 0 ∷ landed 0 8 11 0 5 11 ∷
    taken 1 4 5 1 3 5 5 ∷ [])) ∷
    -- stack-exact: where s does not divide d - 1 the most is (w - 1) (d + 2s + s floor((d - 1) / s)) = 6, one less than K14's figure
    passing (exact_bound ∷ thesis_bound ∷ less 1 k14_bound ∷ framework_bound ∷ [])
    (runs (stack 2 2 2 6 3)
    (put 1 1 4 ++ put 1 2 4 ++ put 1 3 5 ++ put 1 4 4 ++ put 0 5 3 ++ take 1 4 ++ take 1 4 ++ take 1 5 ++ steps 0 1 ++ put 1 6 4 ++ put 1 7 4 ++ put 1 8 4
    ++ put 1 9 5 ++ put 1 10 4 ++ put 1 11 4 ++ put 1 12 4 ++ steps 0 3 ++ take 1 4 ++ take 1 4 ++ take 1 4 ++ steps 0 5 ++ put 0 13 4 ++ put 0 14 4 ++ put 0 15 4 ++ steps 1 1)
    (landed 1 4 1 1 1 1 ∷ landed 1 4 2 1 2 2 ∷ landed 1 5 3 0 1 3 ∷ landed 1 4 4 0 2 4 ∷ taken 1 4 4 0 2 4 0 ∷ taken 1 4 3 0 1 3 0 ∷ taken 1 5 2 1 2 2 0 ∷
    landed 1 4 6 1 2 5 ∷ landed 1 4 7 1 3 6 ∷ landed 1 4 8 1 4 7 ∷ landed 1 5 9 0 1 8 ∷ landed 1 4 10 0 2 9 ∷ landed 1 4 11 0 3 10 ∷ landed 1 4 12 0 4 11 ∷
    taken 1 4 12 0 4 11 0 ∷ taken 1 4 11 0 3 10 0 ∷ landed 0 12 5 0 3 12 ∷ landed 0 4 13 0 4 13 ∷ landed 0 4 14 0 5 14 ∷ landed 0 4 15 0 6 15 ∷ taken 1 5 8 1 4 7 6 ∷ [])) ∷
    -- stack-few-rows: where R has room for one shift alone, the highest window is the most: (w - 1) (d + s) = 2
    passing (exact_bound ∷ less 1 thesis_bound ∷ less 1 k14_bound ∷ less 1 framework_bound ∷ [])
    (runs (stack 2 1 1 2 3) (put 1 1 4 ++ put 1 2 5 ++ put 0 3 3 ++ take 1 4 ++ take 1 4 ++ steps 0 5 ++ put 0 4 4 ++ steps 1 1)
    (landed 1 4 1 1 1 1 ∷ landed 1 5 2 0 1 2 ∷ taken 1 4 2 0 1 2 0 ∷ landed 0 8 3 0 1 3 ∷ landed 0 4 4 0 2 4 ∷ taken 1 5 1 1 1 1 2 ∷ [])) ∷
    -- queue-full: a queue is full with w (R - d) = 2 items held, four put and two taken
    holding (least_full ∷ [])
    (runs (queue 2 1 2 1) (put 0 1 3 ++ put 0 2 4 ++ put 0 3 7 ++ put 0 4 4 ++ take 0 3 ++ take 0 4 ++ put 0 5 4)
    (landed 0 3 1 0 1 1 ∷ landed 0 4 2 1 1 2 ∷ landed 0 7 3 1 2 3 ∷ landed 0 4 4 0 2 4 ∷ taken 0 3 1 0 1 1 0 ∷ taken 0 4 2 1 1 2 0 ∷ plain 0 4 4 ∷ [])) ∷
    -- stack-full: a stack is full with w (R - s + 1) = 8 items held
    holding (least_full ∷ [])
    (runs (stack 2 2 2 5 1) (put 0 1 4 ++ put 0 2 4 ++ put 0 3 5 ++ put 0 4 4 ++ put 0 5 8 ++ put 0 6 4 ++ put 0 7 5 ++ put 0 8 4 ++ put 0 9 6)
    (landed 0 4 1 0 1 1 ∷ landed 0 4 2 0 2 2 ∷ landed 0 5 3 1 1 3 ∷ landed 0 4 4 1 2 4 ∷ landed 0 8 5 1 3 5 ∷ landed 0 4 6 1 4 6 ∷ landed 0 5 7 0 3 7 ∷ landed 0 4 8 0 4 8 ∷ plain 0 6 4 ∷ [])) ∷ []
