-- What a queue's worker owes: at most so many more counted steps before its final answer, while nobody gives one (progress/QueueLeft); an
-- idle one, what an operation has left that it begins. Whatever went on before, a take that has read a sub owes at most 3w + 1 + L, a put
-- 2w + 5, and any other worker 2w + 3 + L.
use mathlib.Core.Path.{◌≡◌, refl, sym, subst}
use mathlib.Core.Logic.{◌≢◌, ◌⊎◌, inl, inr}
use Prim.Native.Nat.{ℕ, zero, suc, ◌+◌, ◌*◌, ◌≤◌, ◌<◌, max}
use native.Mathlib.Nat.{le_refl}
use native.Mathlib.Omega.{arith}
use Rattle.rules.specs.Worker.{phase_of, fresh}
use Rattle.rules.specs.Sequential.{Contents}
use Rattle.stretch.proofs.Types.{Settings, Side, Putting, Taking, Phase, Idle, Window, QueuePutRead, QueueTakeRead, StackRead, Check, QueueCommit, StackCommit, QueueShift, StackShift, QueueConfirm, StackConfirm, Span, Slot}
use Rattle.rules.proofs.counts.Sums.{upd_other}
use Rattle.rules.proofs.machine.Machine.{State, sub_in, phase_in}
use Rattle.rules.proofs.machine.Phases.{status_of}
use Rattle.rules.proofs.machine.Calls.{begun}
use Rattle.rules.proofs.machine.Good.{Good}
use Rattle.rules.proofs.queue.Inv.{Sees, TakeReads, Knows, Inv}
use Rattle.rules.proofs.progress.Clean.{clean_none}
use Rattle.rules.proofs.progress.Steps.{at_begun}
use Rattle.rules.proofs.progress.QueueSeen.{wide_le}
use Rattle.rules.proofs.progress.QueueLeft.{take_now, PutWindow, PutRead, PutCommit, PutShift, TakeWindow, TakeRead, TakeCommit, TakeShift, TakeConfirm, queue_left}
use Rattle.rules.proofs.progress.QueueResult.{open_put, put_in}

pub record Rests (g : Settings) (L n : ℕ) (p : Phase) : Type 0 where
  pub idle : p ≡ Idle
  pub take : g.width + 2 + L ≤ n
  pub put : g.width + 4 ≤ n

abbrev pub Owes : Settings → ℕ → State → ℕ → ℕ → Phase → Type 0
Owes g L s n index p = Rests g L n p ⊎ queue_left g L s n index p

-- worker i in state s
abbrev pub OwesIn : Settings → ℕ → State → ℕ → ℕ → Type 0
OwesIn g L s n i = Owes g L s n (sub_in s i) (phase_in g s i)

-- each of the workers
abbrev pub Debts : Settings → ℕ → State → (ℕ → ℕ) → Type 0
Debts g L s debt = (i : ℕ) → i < g.workers → OwesIn g L s (debt i) i

-- ---- an operation that has just begun
begun_left : (g : Settings) (L : ℕ) (s : State) (n index : ℕ) (side : Side) → g.width + 2 + L ≤ n → g.width + 4 ≤ n → queue_left g L s n index (Window side)
begun_left g L s n index Putting take put = PutWindow.any put
begun_left g L s n index Taking take put = TakeWindow.any take

pub begun_owes : (g : Settings) (L : ℕ) (s : State) (n i : ℕ) (side : Side) (v : ℕ) → g.width + 2 + L ≤ n → g.width + 4 ≤ n → OwesIn g L (begun g s i side v) n i
begun_owes g L s n i side v take put = inr (at_begun g (queue_left g L) s i n side v (begun_left g L s n (sub_in s i) side take put))

-- the other workers owe what they did
pub begun_others : (g : Settings) (L : ℕ) (s : State) (n i : ℕ) (side : Side) (v j : ℕ) → j ≢ i → OwesIn g L s n j → OwesIn g L (begun g s i side v) n j
begun_others g L s n i side v j ne owes =
    subst (λ (x : Slot). Owes g L s n x.index (phase_of g x)) (sym (upd_other s.slot i (fresh g v (sub_in s i) (Window side)) j ne)) owes

pub begun_put_owes : (g : Settings) (L : ℕ) (s : State) (i v : ℕ) → OwesIn g L (begun g s i Putting v) (g.width + 4) i
begun_put_owes g L s i v = inr (at_begun g (queue_left g L) s i (g.width + 4) Putting v (PutWindow.any (le_refl _)))

-- ---- a worker in any phase
abbrev pub most_owed : Settings → ℕ → ℕ
most_owed g L = max (3 * g.width + 1 + L) (2 * g.width + 3 + L)

module _ (g : Settings) (good : Good g) (L : ℕ) (enough : g.width < L) (s : State) (q : Contents) (inv : Inv g s q) where
  width1 : 1 ≤ g.width
  width1 = good.bounds.width1

  put_wide : {window : Span} → Sees s.frame s.frame.tail window → window.width ≤ g.width
  put_wide k = wide_le inv.pool (le_refl _) k

  take_wide : {window : Span} → Sees s.frame s.frame.head window → window.width ≤ g.width
  take_wide k = wide_le inv.pool inv.pool.windows.order k

  -- a take that has read nothing yet is clean
  reading : (index : ℕ) (window : Span) (bare scan sum : ℕ) → TakeReads s index window bare scan sum
      → TakeRead g L (take_now s.frame) s.first s.second (most_owed g L) index window bare scan sum
  reading index window bare zero sum k =
      TakeRead.clean (record { clean = clean_none k.read.sums; under = λ some. absurd (some (omega (arith, k.read.bare_le))) }) (omega (arith, take_wide k.read.sees))
  reading index window bare (suc scan) sum k = TakeRead.stale (omega (arith, take_wide k.read.sees))

  by_phase : (index : ℕ) (p : Phase) → Knows s index p → Owes g L s (most_owed g L) index p
  by_phase index Idle k = inl (record { idle = refl; take = omega arith; put = omega (arith, width1) })
  by_phase index (Window Putting) k = inr (PutWindow.any (omega (arith, width1)))
  by_phase index (Window Taking) k = inr (TakeWindow.any (omega arith))
  by_phase index (QueuePutRead window scan) k = inr (PutRead.stale (omega (arith, width1, put_wide k.sees)))
  by_phase index (QueueTakeRead window bare scan sum) k = inr (reading index window bare scan sum k)
  by_phase index (StackRead side window version scan sum) k = absurd k
  by_phase index (Check side version seen) k = absurd k
  by_phase index (QueueCommit Putting window seen) k = inr (PutCommit.stale (omega (arith, width1)))
  by_phase index (QueueCommit Taking window seen) k = inr (TakeCommit.stale (omega (arith, width1)))
  by_phase index (StackCommit side seen) k = absurd k
  by_phase index (QueueShift Putting window) k = inr (PutShift.stale (omega (arith, width1)))
  by_phase index (QueueShift Taking window) k = inr (TakeShift.stale (omega (arith, width1)))
  by_phase index (StackShift side version scan sum) k = absurd k
  by_phase index (QueueConfirm window scan sum) k = inr (TakeConfirm.stale (omega (arith, take_wide k.sees)))
  by_phase index (StackConfirm side scan sum) k = absurd k

  pub owes_most : (i : ℕ) → OwesIn g L s (most_owed g L) i
  owes_most i = by_phase (sub_in s i) (phase_in g s i) (inv.knows i)

  -- ---- a put in any phase
  put_by_phase : (value index : ℕ) (p : Phase) → Knows s index p → open_put (status_of value p) ≡ 1 → queue_left g L s (2 * g.width + 5) index p
  put_by_phase value index Idle k e = absurd (omega arith)
  put_by_phase value index (Window Putting) k e = PutWindow.any (omega arith)
  put_by_phase value index (Window Taking) k e = absurd (omega arith)
  put_by_phase value index (QueuePutRead window scan) k e = PutRead.stale (omega (arith, put_wide k.sees))
  put_by_phase value index (QueueTakeRead window bare scan sum) k e = absurd (omega arith)
  put_by_phase value index (StackRead side window version scan sum) k e = absurd k
  put_by_phase value index (Check side version seen) k e = absurd k
  put_by_phase value index (QueueCommit Putting window seen) k e = PutCommit.stale (omega arith)
  put_by_phase value index (QueueCommit Taking window seen) k e = absurd (omega arith)
  put_by_phase value index (StackCommit side seen) k e = absurd k
  put_by_phase value index (QueueShift Putting window) k e = PutShift.stale (omega arith)
  put_by_phase value index (QueueShift Taking window) k e = absurd (omega arith)
  put_by_phase value index (StackShift side version scan sum) k e = absurd k
  put_by_phase value index (QueueConfirm window scan sum) k e = absurd (omega arith)
  put_by_phase value index (StackConfirm side scan sum) k e = absurd k

  pub put_owes : (i : ℕ) → put_in g s i ≡ 1 → OwesIn g L s (2 * g.width + 5) i
  put_owes i e = inr (put_by_phase (s.slot i).value (sub_in s i) (phase_in g s i) (inv.knows i) e)
