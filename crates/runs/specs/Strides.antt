-- Paper 02's stride, by hand: "from 0 to w - 1, where 0 stands for 1 (a pool of width 1 has only 0). After a commit that failed, only there the
-- index moves on by the stride instead of by 1." That stride 1 gives the run of stride 0 is a theorem for every list of calls: `StrideOne` of
-- rules.
use Rattle.std.specs.Prelude.{ℕ, List, [], ◌∷◌, ◌++◌}
use Rattle.rules.specs.Make.{with_stride}
use Rattle.runs.specs.Rows.{Line, Row}
use Rattle.runs.specs.Notation.{queue, stack, makes, runs, steps, put, take, landed, taken}

-- ---- runs by the stride, and by where its second worker ends up
-- queue w 3: workers 0 and 3 are at sub 0, both at commit of a put with seen 0. Worker 0's lands; worker 3's fails, and lands in another sub
abbrev pub queue_puts : ℕ → ℕ → Row
queue_puts stride sub =
    runs (with_stride (queue 3 1 2 4) stride) (put 0 5 2 ++ put 3 6 2 ++ steps 0 1 ++ steps 3 1 ++ steps 3 3)
    (landed 0 3 5 0 1 1 ∷ landed 3 6 6 sub 1 2 ∷ [])

-- stack w 3: so do workers 1 and 4 at sub 1
abbrev pub stack_puts : ℕ → ℕ → Row
stack_puts stride sub =
    runs (with_stride (stack 3 1 1 2 5) stride) (put 1 5 3 ++ put 4 6 3 ++ steps 1 1 ++ steps 4 1 ++ steps 4 4)
    (landed 1 4 5 1 1 1 ∷ landed 4 8 6 sub 1 2 ∷ [])

-- with an item in each sub: two takes at commit at sub 1
abbrev pub stack_takes : ℕ → Line → Row
stack_takes stride second =
    runs (with_stride (stack 3 1 1 2 5) stride)
    (put 0 7 4 ++ put 1 8 4 ++ put 2 9 4 ++ take 1 3 ++ take 4 3 ++ steps 1 1 ++ steps 4 1 ++ steps 4 4)
    (landed 0 4 7 0 1 1 ∷ landed 1 4 8 1 1 2 ∷ landed 2 4 9 2 1 3 ∷ taken 1 4 8 1 1 2 1 ∷ second ∷ [])

unfoldable pub strides : List Row
strides =
    -- w 3 has strides 0 to 2; w 1 has only 0
    makes (with_stride (queue 3 1 2 1) 2) 77 0 ∷
    makes (with_stride (queue 3 1 2 1) 3) 77 22 ∷
    makes (with_stride (queue 1 1 2 1) 0) 65 0 ∷
    makes (with_stride (queue 1 1 2 1) 1) 65 22 ∷
    -- stride 2: from sub 0 to 2; strides 0 and 1: from sub 0 to 1
    queue_puts 2 2 ∷
    queue_puts 0 1 ∷
    queue_puts 1 1 ∷
    -- stride 2: from sub 1 round to 0; strides 0 and 1: from sub 1 to 2
    stack_puts 2 0 ∷
    stack_puts 0 2 ∷
    stack_puts 1 2 ∷
    stack_takes 2 (taken 4 8 7 0 1 1 1) ∷
    stack_takes 0 (taken 4 8 9 2 1 3 0) ∷
    stack_takes 1 (taken 4 8 9 2 1 3 0) ∷
    -- "only there": with stride 2 too a miss moves on by 1, from sub 0 to 1
    runs (with_stride (queue 3 1 2 1) 2) (put 0 5 3 ++ put 0 6 4) (landed 0 3 5 0 1 1 ∷ landed 0 4 6 1 1 2 ∷ []) ∷ []
