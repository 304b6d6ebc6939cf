-- Paper 02, K5: "For site engineers, each worker gets a ninth word, its failed commits since make. It survives begin and the final answer,
-- and counts modulo 2^32."
-- What the card says is true: after every list of calls on a new pool the word of a worker is the number of that worker's steps which found
-- another count or version than the one seen. That number is defined over the run, from the words just before each step; it names neither
-- the word nor the outcome of a step that counts one more (specs/Apply, `count_lost`).
use Rattle.std.specs.Prelude.{ℕ, ◌+◌, ◌≤◌, ◌<◌, ◌≡◌, List, [], ◌∷◌, Bool, true, false, get_or, leb, eqb}
use Rattle.laws.specs.Choice.{cond, both}
use Rattle.laws.specs.Wrap.{add32}
use Rattle.rules.specs.Answers.{number_of}
use Rattle.rules.specs.Layout.{worker_words, lost_word, worker_at, lost_at}
use Rattle.rules.specs.Fit.{Fit, checked_of}
use Rattle.rules.specs.Effects.{view_of, last_put, last_taken, sub_version}
use Rattle.rules.specs.Step.{step_of}
use Rattle.rules.specs.Run.{Call, begin_put, begin_take, step, set_size, call_of}
use Rattle.rules.specs.Consequences.{words_after, OfEveryRun}
use Rattle.rules.specs.declared.Settings.{Settings}
use Rattle.rules.specs.declared.Side.TheVariants.{Putting, Taking}
use Rattle.rules.specs.declared.Phase.{Phase}
use Rattle.rules.specs.declared.Phase.TheVariants.{Idle, Window, QueuePutRead, QueueTakeRead, StackRead, Check, QueueCommit, StackCommit, QueueShift, StackShift, QueueConfirm, StackConfirm}
use Rattle.rules.specs.declared.View.{View}

-- ---- a failed commit
abbrev differ : ℕ → ℕ → Bool
differ x y = cond (eqb x y) false true

-- a commit finds another count of items put or taken (queue), or another version (stack), than the one seen; no other phase commits
abbrev pub finds : View → Phase → Bool
finds v Idle = false
finds v (Window side) = false
finds v (QueuePutRead window scan) = false
finds v (QueueTakeRead window bare scan sum) = false
finds v (StackRead side window version scan sum) = false
finds v (Check side version seen) = false
finds v (QueueCommit Putting window seen) = differ (last_put v) seen
finds v (QueueCommit Taking window seen) = differ (last_taken v) seen
finds v (StackCommit side seen) = differ (sub_version v).0 seen.0
finds v (QueueShift side window) = false
finds v (StackShift side version scan sum) = false
finds v (QueueConfirm window scan sum) = false
finds v (StackConfirm side scan sum) = false

-- a step of worker j finds it so, in the words just before it
abbrev pub finds_other : Settings → List ℕ → ℕ → Bool
finds_other g ws j = finds (view_of ws g (worker_at g j)) (view_of ws g (worker_at g j)).worker.phase

-- a call is a step of worker i, not refused, and finds it so
abbrev pub fails : Settings → List ℕ → ℕ → Call → Bool
fails g ws i (begin_put j v) = false
fails g ws i (begin_take j) = false
fails g ws i (step j) = both (eqb j i) (both (leb (number_of (step_of g.edition ws j).answer) 4) (finds_other g ws j))
fails g ws i (set_size width depth) = false

-- "its failed commits": how many of the calls of a list do, from given words on
unfoldable pub failed_commits : Settings → List ℕ → ℕ → List Call → ℕ
failed_commits g ws i [] = 0
failed_commits g ws i (c ∷ cs) = cond (fails g ws i c) 1 0 + failed_commits g (call_of g.edition ws c).words i cs

-- ---- the card
-- an edition whose workers have the word: each from 1 on
abbrev pub HasCards : Settings → Type 0
HasCards g = lost_word < worker_words g.edition

abbrev pub CardsFromOne : Type 0
CardsFromOne = (g : Settings) → 1 ≤ g.edition → HasCards g

abbrev pub card_of : Settings → List ℕ → ℕ → ℕ
card_of g ws i = get_or ws (lost_at (worker_at g i)) 0

-- of any fit pool: a call that fails for worker i adds one to its card, "modulo 2^32"; every other call leaves it as it was, so that "it
-- survives begin and the final answer"
abbrev pub OneMore : Type 0
OneMore =
    (ws : List ℕ) (g : Settings) (c : Call) (i : ℕ) → checked_of g.edition ws ≡ Fit g → HasCards g → i < g.workers
    → card_of g (call_of g.edition ws c).words i ≡ cond (fails g ws i c) (add32 (card_of g ws i) 1) (card_of g ws i)

-- "since make": of every list of calls on a new pool, exactly, for no run is long enough to wrap
abbrev pub CardsTrue : Type 0
CardsTrue = OfEveryRun (λ g ws cs.
    HasCards g → (i : ℕ) → i < g.workers → card_of g (words_after g.edition ws cs) i ≡ failed_commits g ws i cs)
