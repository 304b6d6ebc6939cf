-- How many more steps a queue's worker makes before its final one, by its phase, while nobody gives a final answer. A worker that steps
-- alone is the case where all is fresh and clean.
--
-- Where no commit succeeds no sub's last rows change. A window moves only after every sub in its width has reached its top, so after it has moved
-- every sub is below it ("low"), and it does not move again. A put is slowed down once by the put window, a take once by the take window. Below, w
-- is the pool's width, v that of the window seen, at most w, and scan counts the subs that a pass has read. A fresh pass saw the present window; a
-- clean one is one whose reads are all still true, so that its confirm finds nothing left; and where one of them found its sub bare, the window seen is
-- the put window, and stays so, for that sub is below its top.
--
--   put   window   w + 4; low: 2                         then a fresh pass
--         read     stale: v + w + 5 - scan               the rest, a shift that fails, and a put that starts again
--                  fresh, or low: v + 3 - scan           the rest, a shift (by it or another), and a put that starts again low
--                  fresh and low: 1                      this read hits
--         commit   nothing seen changed: 0               else w + 5
--         shift    stale: w + 5; fresh, or low: 3
--   take  window   w + 2 + L; low: 2w, or w + 1 where an item is held    then a fresh, clean pass
--         read     2v + w + 2 + L - scan                 the rest, a confirm that fails, and a take that starts again
--                  clean: v + w + 3 + L - scan           the rest, a shift that fails, and a take that starts again
--                  clean, and fresh or low: v + 1 + L - scan   the rest, a shift, and a take that starts again low
--                  clean, fresh and low: 2v - 1 - scan   no sub is spent: the rest, and all but the last step of a confirm
--                  fresh and low, an item ahead: v - scan   some read hits
--         commit   nothing seen changed: 0               else w + 3 + L
--         shift    stale: w + 3 + L; fresh, or low: L + 1
--         confirm  clean: v - 1 - scan                   else v + w + 2 + L - scan
--
-- L is what a take has left that starts at a window which every sub is below: 2w, or w + 1 where it is known that an item is held when the
-- take window moves; "low" of a take's read or shift says that L is enough as well (`Ready`). A step lowers its own worker's number; a shift raises
-- nobody's, for what was fresh is then low.
use mathlib.Core.Path.{◌≡◌}
use mathlib.Core.Logic.{◌≢◌, ◌⊎◌, inl, inr}
use Prim.Native.Nat.{ℕ, suc, ◌+◌, ◌*◌, ◌≤◌, ◌<◌}
use native.Mathlib.Omega.{arith}
use Rattle.rules.specs.Windows.{higher}
use Rattle.rules.proofs.Types.{Settings, Putting, Taking, Phase, Idle, Window, QueuePutRead, QueueTakeRead, StackRead, Check, QueueCommit, StackCommit, QueueShift, StackShift, QueueConfirm, StackConfirm, Span}
use Rattle.rules.proofs.counts.Visits.{Visited}
use Rattle.rules.proofs.machine.Machine.{Frame, State, top_of, mark_of}
use Rattle.rules.proofs.progress.Clean.{Clean}
use Rattle.rules.proofs.progress.Steps.{Measure}
use Rattle.rules.proofs.progress.Confirm.{AtConfirm}

-- the put window and the take window
abbrev pub put_now : Frame → Span
put_now f = record { top = top_of f; bottom = f.base f.tail; width = f.wide f.tail }

abbrev pub take_now : Frame → Span
take_now f = record { top = mark_of f; bottom = f.base f.head; width = f.wide f.head }

-- every sub in a window's width is below its top
abbrev pub Low : Span → (ℕ → ℕ) → Type 0
Low now rows = (j : ℕ) → j < now.width → rows j < now.top

-- ---- a put, by the put window and the last put rows
module _ (g : Settings) (now : Span) (put : ℕ → ℕ) (n : ℕ) where
  pub data PutWindow : Type 0 where
    any : g.width + 4 ≤ n → PutWindow
    low : Low now put → 2 ≤ n → PutWindow

  pub data PutRead (window : Span) (scan : ℕ) : Type 0 where
    stale : window.width + g.width + 5 ≤ n + scan → PutRead window scan
    fresh : window.top ≡ now.top → window.width + 3 ≤ n + scan → PutRead window scan
    late : Low now put → window.width + 3 ≤ n + scan → PutRead window scan
    sure : window.top ≡ now.top → Low now put → 1 ≤ n → PutRead window scan

  pub data PutCommit (index seen : ℕ) : Type 0 where
    live : put index ≡ seen → PutCommit index seen
    stale : g.width + 5 ≤ n → PutCommit index seen

  pub data PutShift (window : Span) : Type 0 where
    stale : g.width + 5 ≤ n → PutShift window
    fresh : window.top ≡ now.top → 3 ≤ n → PutShift window
    late : Low now put → 3 ≤ n → PutShift window

-- ---- a take, by the take window and the last put and taken rows
-- some sub of a width holds an item
abbrev pub Stock : ℕ → (ℕ → ℕ) → (ℕ → ℕ) → Type 0
Stock width put taken = (j : ℕ) × (j < width) × (taken j < put j)

-- L is enough for a take that starts at a window of a width that every sub is below: in any case 2w; w + 1 where an item is held, which it hits
abbrev pub Ready : Settings → ℕ → ℕ → (ℕ → ℕ) → (ℕ → ℕ) → Type 0
Ready g L width put taken = (2 * g.width ≤ L) ⊎ ((g.width + 1 ≤ L) × Stock width put taken)

-- the take window is below the put window, and finds what L asks for where it moves
abbrev pub Behind : State → Type 0
Behind s = s.frame.head < s.frame.tail

abbrev pub NextReady : Settings → ℕ → State → Type 0
NextReady g L s = Behind s → Ready g L (s.frame.wide (suc s.frame.head)) s.first s.second

-- what a take's pass sums up of each sub
abbrev pub count_of : (ℕ → ℕ) → Span → ℕ → ℕ
count_of put window j = higher (put j) window.bottom

-- some sub in a window's width has not reached its top
abbrev pub Under : (ℕ → ℕ) → Span → Type 0
Under put window = (j : ℕ) × (j < window.width) × (put j < window.top)

-- a clean pass, which has found so many subs bare
pub record Pass (put : ℕ → ℕ) (index : ℕ) (window : Span) (bare scan sum : ℕ) : Type 0 where
  pub clean : Clean window.width (count_of put window) index scan sum
  pub under : bare ≢ 0 → Under put window

module _ (g : Settings) (L : ℕ) (now : Span) (put taken : ℕ → ℕ) (n : ℕ) where
  abbrev Found : Type 0
  Found = Ready g L now.width put taken

  pub data TakeWindow : Type 0 where
    any : g.width + 2 + L ≤ n → TakeWindow
    confirms : Low now taken → 2 * g.width ≤ n → TakeWindow
    hits : Low now taken → Stock now.width put taken → g.width + 1 ≤ n → TakeWindow

  pub data TakeRead (index : ℕ) (window : Span) (bare scan sum : ℕ) : Type 0 where
    stale : 2 * window.width + g.width + 2 + L ≤ n + scan → TakeRead index window bare scan sum
    clean : Pass put index window bare scan sum → window.width + g.width + 3 + L ≤ n + scan → TakeRead index window bare scan sum
    fresh : Pass put index window bare scan sum → window.top ≡ now.top → window.width + 1 + L ≤ n + scan → TakeRead index window bare scan sum
    late : Pass put index window bare scan sum → Low now taken → Found → window.width + 1 + L ≤ n + scan → TakeRead index window bare scan sum
    confirms : Pass put index window bare scan sum → window.top ≡ now.top → Low now taken → 2 * window.width ≤ n + scan + 1 → TakeRead index window bare scan sum
    hits : window.top ≡ now.top → Low now taken → (j : ℕ) → j < window.width → taken j < put j → ¬ (Visited window.width index scan j)
        → window.width ≤ n + scan → TakeRead index window bare scan sum

  pub data TakeCommit (index seen : ℕ) : Type 0 where
    live : taken index ≡ seen → TakeCommit index seen
    stale : g.width + 3 + L ≤ n → TakeCommit index seen

  pub data TakeShift (window : Span) : Type 0 where
    stale : g.width + 3 + L ≤ n → TakeShift window
    fresh : window.top ≡ now.top → L + 1 ≤ n → TakeShift window
    late : Low now taken → Found → L + 1 ≤ n → TakeShift window

  pub data TakeConfirm (index : ℕ) (window : Span) (scan sum : ℕ) : Type 0 where
    stale : window.width + g.width + 2 + L ≤ n + scan → TakeConfirm index window scan sum
    clean : AtConfirm window.width (count_of put window) n index scan sum → Under put window → TakeConfirm index window scan sum

  -- a take that starts again at a window that every sub is below
  pub starts_low : Low now taken → Found → L ≤ n → TakeWindow
  starts_low l (inl a) m = confirms l (omega arith)
  starts_low l (inr a) m = hits l a.1 (omega (arith, a.0))

-- ---- by the phase, with p and t the put window and the take window
abbrev pub Left : Settings → ℕ → Span → Span → (ℕ → ℕ) → (ℕ → ℕ) → ℕ → ℕ → Phase → Type 0
Left g L p t put taken n index Idle = ⊥
Left g L p t put taken n index (Window Putting) = PutWindow g p put n
Left g L p t put taken n index (Window Taking) = TakeWindow g L t put taken n
Left g L p t put taken n index (QueuePutRead window scan) = PutRead g p put n window scan
Left g L p t put taken n index (QueueTakeRead window bare scan sum) = TakeRead g L t put taken n index window bare scan sum
Left g L p t put taken n index (StackRead side window version scan sum) = ⊥
Left g L p t put taken n index (Check side version seen) = ⊥
Left g L p t put taken n index (QueueCommit Putting window seen) = PutCommit g p put n index seen
Left g L p t put taken n index (QueueCommit Taking window seen) = TakeCommit g L t put taken n index seen
Left g L p t put taken n index (StackCommit side seen) = ⊥
Left g L p t put taken n index (QueueShift Putting window) = PutShift g p put n window
Left g L p t put taken n index (QueueShift Taking window) = TakeShift g L t put taken n window
Left g L p t put taken n index (StackShift side version scan sum) = ⊥
Left g L p t put taken n index (QueueConfirm window scan sum) = TakeConfirm g L t put taken n index window scan sum
Left g L p t put taken n index (StackConfirm side scan sum) = ⊥

abbrev pub queue_left : Settings → ℕ → Measure
queue_left g L s n index phase = Left g L (put_now s.frame) (take_now s.frame) s.first s.second n index phase
