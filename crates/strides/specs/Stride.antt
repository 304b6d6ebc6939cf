-- Paper 02, the stride: "Give the pool a stride, held in word 10, from 0 to w - 1, where 0 stands for 1 (a pool of width 1 has only 0).
-- After a commit that failed, only there the index moves on by the stride instead of by 1."
-- The statement: strides 0 and 1 are one. The same calls have the same answers, and after them the words differ in word 10 alone.
use Rattle.std.specs.Prelude.{ℕ, ◌≤◌, ◌≡◌, ◌≢◌, List, get_or, set}
use Rattle.rules.specs.Answers.{number_of}
use Rattle.rules.specs.Layout.{width_at, stride_at}
use Rattle.rules.specs.Make.{with_stride, make_of}
use Rattle.rules.specs.Run.{Call, run}
use Rattle.rules.specs.Consequences.{words_after}
use Rattle.rules.specs.declared.Settings.{Settings}

-- ---- of any words, fit or damaged
-- the same list of calls on words whose word 10 is 1, and on the same words but for a 0 there
pub record OneAsZero (e : ℕ) (ws : List ℕ) (cs : List Call) : Type 0 where
  -- each call with its answer, refused calls too
  pub answers : run e (set ws stride_at 1) cs ≡ run e (set ws stride_at 0) cs
  pub words : words_after e (set ws stride_at 1) cs ≡ set (words_after e (set ws stride_at 0) cs) stride_at 1

-- "a pool of width 1 has only 0": with a 1 it is not fit
abbrev pub StrideOneOnWords : Type 0
StrideOneOnWords = (e : ℕ) (ws : List ℕ) (cs : List Call) → get_or ws width_at 0 ≢ 1 → OneAsZero e ws cs

-- ---- of a new pool
-- a pool made with these settings, and one made with stride 0 instead
pub record AsStrideZero (ws : List ℕ) (g : Settings) (cs : List Call) : Type 0 where
  pub made : (make_of ws g).answer ≡ (make_of ws (with_stride g 0)).answer
  pub answers : run g.edition (make_of ws g).words cs ≡ run g.edition (make_of ws (with_stride g 0)).words cs
  pub words : words_after g.edition (make_of ws g).words cs ≡ set (words_after g.edition (make_of ws (with_stride g 0)).words cs) stride_at g.stride

-- of every list of calls, the empty one too
abbrev pub StrideOne : Type 0
StrideOne = (ws : List ℕ) (g : Settings) (cs : List Call) → number_of (make_of ws g).answer ≡ 0 → g.stride ≡ 1 → AsStrideZero ws g cs

-- and whatever the stride of a pool of width 1 or 2: it is 0 or 1
abbrev pub WidthTwo : Type 0
WidthTwo = (ws : List ℕ) (g : Settings) (cs : List Call) → number_of (make_of ws g).answer ≡ 0 → g.width ≤ 2 → AsStrideZero ws g cs
