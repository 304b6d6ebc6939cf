-- Runs that reach the exact figures of K3: their last operation is made by one worker alone, from its begin on, and takes as many steps as its
-- figure says. So no figure can be lower there. The same runs, with a word on each turn, are texts in examples/runs.
use Rattle.std.specs.Prelude.{List, [], ◌∷◌, ◌++◌}
use Rattle.rules.specs.Sequential.{Operation, putting, taking}
use Rattle.solo.specs.Solo.{solo_steps}
use Rattle.rules.specs.declared.Settings.{Settings}
use Rattle.runs.specs.Rows.{Row}
use Rattle.runs.specs.Reach.{Reach, ending}
use Rattle.runs.specs.Notation.{queue, stack, runs, steps, put, take, landed, taken, plain}

-- the last operation takes as many steps as its figure says
abbrev alone : Operation → Row → Reach
alone o = ending ((λ (g : Settings). solo_steps g o) ∷ [])

unfoldable pub solos : List Reach
solos =
    -- solo-queue-put: a queue's put by itself takes w + 5 = 7 steps
    alone (putting 3)
    (runs (queue 2 1 2 1) (put 0 1 3 ++ put 0 2 4 ++ put 0 3 7) (landed 0 3 1 0 1 1 ∷ landed 0 4 2 1 1 2 ∷ landed 0 7 3 1 2 3 ∷ [])) ∷
    -- solo-queue-take: a queue's take by itself takes 3w + 3 = 9 steps
    alone taking
    (runs (queue 2 1 2 2)
    (put 0 1 3 ++ take 0 3 ++ put 0 2 2 ++ put 1 3 3 ++ steps 0 2 ++ take 1 3 ++ take 1 9)
    (landed 0 3 1 0 1 1 ∷ taken 0 3 1 0 1 1 0 ∷ landed 1 3 3 1 1 2 ∷ taken 1 3 3 1 1 2 0 ∷ plain 1 9 3 ∷ [])) ∷
    -- solo-stack-put: a stack's put by itself takes 2w + 8 = 12 steps
    alone (putting 5)
    (runs (stack 2 1 1 3 2)
    (put 0 1 4 ++ put 0 2 2 ++ put 1 3 4 ++ steps 0 5 ++ take 1 3 ++ steps 0 1 ++ put 0 4 5 ++ steps 1 1 ++ put 0 5 12)
    (landed 0 4 1 0 1 1 ∷ landed 1 4 3 1 1 2 ∷ landed 0 8 2 0 2 3 ∷ landed 0 5 4 1 2 4 ∷ landed 0 12 5 1 3 5 ∷ [])) ∷
    -- solo-stack-take: and so does a take
    alone taking
    (runs (stack 2 1 1 3 2)
    (put 0 1 4 ++ put 0 2 2 ++ put 1 3 4 ++ steps 0 6 ++ put 0 4 2 ++ put 1 5 4 ++ steps 0 1 ++ take 1 4 ++ take 1 4 ++ steps 0 1 ++ steps 1 1 ++ take 1 12)
    (landed 0 4 1 0 1 1 ∷ landed 1 4 3 1 1 2 ∷ landed 0 8 2 0 2 3 ∷ landed 1 4 5 1 2 4 ∷ taken 1 4 5 1 2 4 0 ∷ taken 1 5 2 0 2 3 0 ∷ taken 1 12 1 0 1 1 1 ∷ [])) ∷
    -- solo-stack-confirm: from w 5 on the greater figure is 3w + 4 = 19
    alone taking
    (runs (stack 5 1 1 2 2)
    (put 0 1 4 ++ put 0 2 5 ++ put 0 3 5 ++ put 0 4 5 ++ put 0 5 5 ++ put 1 6 6 ++ take 0 4 ++ take 0 5 ++ take 0 5 ++ take 0 5 ++ take 0 5 ++ steps 1 1 ++ take 0 19)
    (landed 0 4 1 0 1 1 ∷ landed 0 5 2 1 1 2 ∷ landed 0 5 3 2 1 3 ∷ landed 0 5 4 3 1 4 ∷ landed 0 5 5 4 1 5 ∷
    taken 0 4 5 4 1 5 0 ∷ taken 0 5 1 0 1 1 3 ∷ taken 0 5 2 1 1 2 2 ∷ taken 0 5 3 2 1 3 1 ∷ taken 0 5 4 3 1 4 0 ∷ plain 0 19 3 ∷ [])) ∷ []
