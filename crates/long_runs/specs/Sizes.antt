-- K8 by hand: runs with size calls, and runs that editions 1 and 2 answer differently.
use Rattle.std.specs.Prelude.{ℕ, zero, suc, ◌+◌, List, [], ◌∷◌, ◌++◌}
use Rattle.rules.specs.Make.{in_edition}
use Rattle.rules.specs.Run.{Call, set_size}
use Rattle.runs.specs.Notation.{queue, stack, runs, steps, put, take, landed, taken, plain}
use Rattle.runs.specs.Rows.{Line, Row}

abbrev size : ℕ → ℕ → List Call
size width depth = set_size width depth ∷ []

-- a size call that is refused: "listed with worker 0", whatever its operation's steps
abbrev refused : ℕ → ℕ → Line
refused k number = plain 0 k number

-- ---- narrow, and wide again
-- the first window has both subs; then windows of width 1, which sub 1 is outside of; then one of width 2 again
abbrev narrowed : List Call
narrowed =
    size 1 1 ++ put 0 11 3 ++ put 0 12 4 ++ put 0 13 7 ++ put 0 14 6
    ++ size 2 1 ++ put 0 15 6 ++ put 0 16 4

abbrev narrowed_lines : List Line
narrowed_lines =
    landed 0 3 11 0 1 1 ∷ landed 0 4 12 1 1 2 ∷
    -- the worker's index 1 is modulo 1
    landed 0 7 13 0 2 3 ∷ landed 0 6 14 0 3 4 ∷
    -- sub 1 has no rows 2 and 3: its next is above the bottom of the window seen
    landed 0 6 15 0 4 5 ∷ landed 0 4 16 1 4 6 ∷ []

unfoldable pub sized : List Row
sized =
    runs (queue 2 1 4 1) narrowed narrowed_lines ∷
    -- and the takes go through the same windows
    runs (queue 2 1 4 1)
    (narrowed ++ take 0 3 ++ take 0 4 ++ take 0 7 ++ take 0 6 ++ take 0 6 ++ take 0 4 ++ take 0 4)
    (narrowed_lines ++ (taken 0 3 12 1 1 2 1 ∷ taken 0 4 11 0 1 1 0 ∷ taken 0 7 13 0 2 3 0 ∷ taken 0 6 14 0 3 4 0 ∷ taken 0 6 15 0 4 5 0 ∷ taken 0 4 16 1 4 6 0 ∷ plain 0 4 3 ∷ [])) ∷
    -- a window that is deeper than the pool's: a take passes over (2 - 1) * 4 older items, where the pool's own sizes have 1
    runs (queue 2 1 8 2)
    (size 2 4 ++ put 0 1 3 ++ put 0 2 4 ++ take 0 3 ++ take 0 4
    ++ put 0 3 7 ++ put 0 4 3 ++ put 0 5 3 ++ put 0 6 3 ++ put 1 7 3 ++ take 1 7)
    (landed 0 3 1 0 1 1 ∷ landed 0 4 2 1 1 2 ∷ taken 0 3 2 1 1 2 1 ∷ taken 0 4 1 0 1 1 0 ∷
    landed 0 7 3 0 2 3 ∷ landed 0 3 4 0 3 4 ∷ landed 0 3 5 0 4 5 ∷ landed 0 3 6 0 5 6 ∷ landed 1 3 7 1 2 7 ∷ taken 1 7 7 1 2 7 4 ∷ []) ∷
    -- "it refuses a next size off limits, or one for a pile, with 32": width 1 to w, depth 1 to 64 and at most half of R
    runs (queue 2 1 4 1) (size 0 1 ++ size 3 1 ++ size 1 0 ++ size 1 3 ++ size 2 2)
    (refused 0 32 ∷ refused 0 32 ∷ refused 0 32 ∷ refused 0 32 ∷ []) ∷
    runs (stack 2 1 1 4 1) (size 1 1) (refused 0 32 ∷ []) ∷
    -- an edition whose windows have no sizes has no such call: its pool is not fit for it
    runs (in_edition 1 (queue 2 1 4 1)) (size 1 1) (refused 0 23 ∷ []) ∷ []

-- ---- where editions 1 and 2 part
-- puts of 1, 2, .. into one sub with windows of one row: each but the first moves the window on
abbrev one_put : ℕ → List Call
one_put zero = put 0 1 3
one_put (suc n) = put 0 (2 + n) 6

abbrev one_line : ℕ → Line
one_line zero = landed 0 3 1 0 1 1
one_line (suc n) = landed 0 6 (2 + n) 0 (2 + n) (2 + n)

unfoldable pub puts_below : ℕ → List Call
puts_below zero = []
puts_below (suc n) = puts_below n ++ one_put n

unfoldable pub lines_below : ℕ → List Line
lines_below zero = []
lines_below (suc n) = lines_below n ++ (one_line n ∷ [])

-- a take has seen sub 0 bare twice, and sub 1 spent once; before it looks there again sub 0 is put to, and the put window moves on
abbrev confirming : List Call
confirming = put 1 7 3 ++ take 1 3 ++ take 0 4 ++ put 1 8 4 ++ put 1 9 4 ++ steps 0 4

abbrev confirming_lines : List Line
confirming_lines = landed 1 3 7 1 1 1 ∷ taken 1 3 7 1 1 1 0 ∷ landed 1 4 8 0 1 2 ∷ []

unfoldable pub parting : List Row
parting =
    -- "and fewer than 16 live windows": the 17th window is one too many in edition 2, which answers 4; the last three steps find its worker idle
    runs (in_edition 1 (queue 1 1 32 1)) (puts_below 17) (lines_below 17) ∷
    runs (in_edition 2 (queue 1 1 32 1)) (puts_below 17) (lines_below 16 ++ (plain 0 3 4 ∷ plain 0 3 26 ∷ plain 0 3 26 ∷ plain 0 3 26 ∷ [])) ∷
    -- "its confirm answers empty only if the put window's top also equals the seen one": edition 1 answers 3, and edition 2
    -- starts again, and takes
    runs (in_edition 1 (queue 2 1 4 2)) confirming (confirming_lines ++ (plain 0 5 3 ∷ plain 0 5 26 ∷ plain 0 5 26 ∷ plain 0 5 26 ∷ [])) ∷
    runs (in_edition 2 (queue 2 1 4 2)) confirming (confirming_lines ++ (taken 0 8 8 0 1 2 0 ∷ [])) ∷ []
