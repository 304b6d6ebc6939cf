-- Spacers in the runs of long_runs/specs/Extremes: the same calls with other values, so that as many items are passed over, at the bound, and fewer
-- are reported. The same runs, with a word on each turn, are texts in examples/runs.
use Rattle.std.specs.Prelude.{List, [], ◌∷◌, ◌++◌}
use Rattle.rules.specs.Sequential.{most_passed}
use Rattle.rules.specs.Newer.{exact_bound, k14_bound}
use Rattle.runs.specs.Reach.{Reach, passing}
use Rattle.runs.specs.Notation.{queue, stack, runs, steps, put, take, landed, taken}

unfoldable pub spacers : List Reach
spacers =
    -- queue-spacers: a take of a queue passes over (w - 1) d = 4 older items, all of them spacers, and reports 0
    passing (most_passed ∷ [])
    (runs (queue 3 2 4 3) (put 0 0 3 ++ put 0 0 3 ++ put 1 0 3 ++ put 1 0 3 ++ put 2 5 3 ++ take 2 3)
    (landed 0 3 0 0 1 1 ∷ landed 0 3 0 0 2 2 ∷ landed 1 3 0 1 1 3 ∷ landed 1 3 0 1 2 4 ∷ landed 2 3 5 2 1 5 ∷ taken 2 3 5 2 1 5 0 ∷ [])) ∷
    -- queue-spacer-taken: the item taken is a spacer, and so are two of the 4 passed over; the other two are reported
    passing (most_passed ∷ [])
    (runs (queue 3 2 4 3) (put 0 1 3 ++ put 0 0 3 ++ put 1 0 3 ++ put 1 4 3 ++ put 2 0 3 ++ take 2 3)
    (landed 0 3 1 0 1 1 ∷ landed 0 3 0 0 2 2 ∷ landed 1 3 0 1 1 3 ∷ landed 1 3 4 1 2 4 ∷ landed 2 3 0 2 1 5 ∷ taken 2 3 0 2 1 5 2 ∷ [])) ∷
    -- stack-spacers: a take of a stack passes over (w - 1) (2d + 2s - 1) = 3 newer items, all of them spacers, and reports 0
    passing (exact_bound ∷ k14_bound ∷ [])
    (runs (stack 2 1 1 3 2)
    (put 0 1 4 ++ put 1 2 4 ++ take 0 3 ++ put 1 3 4 ++ steps 0 1 ++ steps 1 4 ++ take 1 3 ++ put 0 0 4 ++ put 0 0 4 ++ put 0 0 8 ++ steps 1 1)
    (landed 0 4 1 0 1 1 ∷ landed 1 4 2 1 1 2 ∷ taken 0 4 1 0 1 1 1 ∷ landed 1 8 3 1 2 3 ∷ landed 0 4 0 0 1 4 ∷ landed 0 4 0 0 2 5 ∷ landed 0 8 0 0 3 6 ∷ taken 1 4 3 1 2 3 0 ∷ [])) ∷
    -- stack-spacer-taken: the item taken is a spacer, and so is one of the 3 passed over; the other two are reported
    passing (exact_bound ∷ k14_bound ∷ [])
    (runs (stack 2 1 1 3 2)
    (put 0 1 4 ++ put 1 2 4 ++ take 0 3 ++ put 1 0 4 ++ steps 0 1 ++ steps 1 4 ++ take 1 3 ++ put 0 4 4 ++ put 0 0 4 ++ put 0 6 8 ++ steps 1 1)
    (landed 0 4 1 0 1 1 ∷ landed 1 4 2 1 1 2 ∷ taken 0 4 1 0 1 1 1 ∷ landed 1 8 0 1 2 3 ∷ landed 0 4 4 0 1 4 ∷ landed 0 4 0 0 2 5 ∷ landed 0 8 6 0 3 6 ∷ taken 1 4 0 1 2 3 2 ∷ [])) ∷ []
