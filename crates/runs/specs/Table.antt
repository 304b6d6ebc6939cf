-- "Runs by hand", the starred ones, in the paper's order.
use Rattle.std.specs.Prelude.{List, [], ◌∷◌, ◌++◌}
use Rattle.rules.specs.Layout.{needed}
use Rattle.rules.specs.Run.{Call}
use Rattle.runs.specs.Rows.{Line, Row}
use Rattle.runs.specs.Notation.{queue, stack, makes, runs, steps, put, take, landed, taken, plain}

-- four puts, and a fifth that finds no room
abbrev five_puts : List Call
five_puts = put 0 11 3 ++ (put 0 12 4 ++ (put 0 13 7 ++ (put 0 14 4 ++ put 0 15 4)))

abbrev five_lines : List Line
five_lines = landed 0 3 11 0 1 1 ∷ landed 0 4 12 1 1 2 ∷ landed 0 7 13 1 2 3 ∷ landed 0 4 14 0 2 4 ∷ plain 0 4 4 ∷ []

-- two puts both at commit with seen 0: the second fails
abbrev pub two_puts : List Call
two_puts = put 0 5 2 ++ put 1 6 2 ++ steps 0 1 ++ steps 1 7

abbrev pub two_lines : List Line
two_lines = landed 0 3 5 0 1 1 ∷ landed 1 9 6 0 2 2 ∷ []

unfoldable pub table : List Row
table =
    -- w 2, R 4, n 2 need 90 words; 89 gives 21 (paper 02, K8)
    makes (queue 2 1 4 2) 90 0 ∷
    makes (queue 2 1 4 2) 89 21 ∷
    -- w 16, R 256 is made, R 257 (d = 1) gives 22; w 17 gives 22
    makes (queue 16 1 256 1) 8283 0 ∷
    makes (queue 16 1 257 1) 8315 22 ∷
    makes (queue 17 1 2 1) 161 22 ∷
    -- line w 2, d 1, R 2, one worker: four puts land at sub/row 0/1, 1/1, 1/2, 0/2 in 3, 4, 7, 4 steps; the fifth is full in 4
    runs (queue 2 1 2 1) five_puts five_lines ∷
    -- then a take: stamp 1, distance 0, 3 steps
    runs (queue 2 1 2 1) (five_puts ++ take 0 3) (five_lines ++ (taken 0 3 11 0 1 1 0 ∷ [])) ∷
    -- line w 2, d 2, R 4: worker 0 puts twice, worker 1 puts and takes, all values nonzero: distance 2, the bound
    runs (queue 2 2 4 2) (put 0 1 3 ++ (put 0 2 3 ++ (put 1 3 3 ++ take 1 3)))
    (landed 0 3 1 0 1 1 ∷ landed 0 3 2 0 2 2 ∷ landed 1 3 3 1 1 3 ∷ taken 1 3 3 1 1 3 2 ∷ []) ∷
    -- new line, w 2: a take is empty in 5 steps
    runs (queue 2 1 2 1) (take 0 5) (plain 0 5 3 ∷ []) ∷
    -- line w 1, d 1, R 2: two puts both at commit with seen 0; the second fails, then lands in row 2 after 6 more steps
    runs (queue 1 1 2 2) two_puts two_lines ∷
    -- new pile, w 1, d 1: a take is empty in 4 steps; a put lands in 4
    runs (stack 1 1 1 2 1) (take 0 4 ++ put 0 9 4) (plain 0 4 3 ∷ landed 0 4 9 0 1 1 ∷ []) ∷
    -- step count 3,999,999,999 still moves; 4,000,000,000 gives 27
    record {
      settings = queue 2 1 2 1;
      lent = needed (queue 2 1 2 1);
      made = 0;
      counted = 3999999999;
      calls = put 0 7 2;
      lines = plain 0 1 27 ∷ [];
    } ∷ []
