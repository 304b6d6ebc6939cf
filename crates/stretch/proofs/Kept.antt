-- A window that moves leaves nobody more than before: every sub in its width had reached it, so nobody was low, and what was fresh is low now.
use mathlib.Core.Path.{◌≡◌, sym, subst}
use mathlib.Core.Logic.{inl, inr}
use Prim.Native.Nat.{ℕ, suc, ◌≤◌}
use native.Mathlib.Omega.{arith}
use Rattle.rules.specs.Sequential.{Contents}
use Rattle.stretch.proofs.Types.{Settings, Putting, Taking, Phase, Idle, Window, QueuePutRead, QueueTakeRead, StackRead, Check, QueueCommit, StackCommit, QueueShift, StackShift, QueueConfirm, StackConfirm, Span}
use Rattle.rules.proofs.counts.Sums.{upd_other}
use Rattle.rules.proofs.machine.Machine.{Frame, State, raised_of, dropped_of}
use Rattle.rules.proofs.queue.Inv.{Inv}
use Rattle.rules.proofs.progress.QueueLeft.{put_now, take_now, Low, Ready, NextReady, PutWindow, PutRead, PutCommit, PutShift, TakeWindow, TakeRead, TakeCommit, TakeShift, TakeConfirm, Left, queue_left}
use Rattle.rules.proofs.progress.QueueResult.{Moved, still, up, on}
use Rattle.stretch.proofs.Owed.{Owes}

-- ---- the put window
module _ (g : Settings) (was now : Span) (put : ℕ → ℕ) (not_low : Low was put → ⊥) (now_low : Low now put) where
  put_window_up : {n : ℕ} → PutWindow g was put n → PutWindow g now put n
  put_window_up (PutWindow.any m) = PutWindow.any m
  put_window_up (PutWindow.low l m) = absurd (not_low l)

  put_read_up : {n : ℕ} {window : Span} {scan : ℕ} → PutRead g was put n window scan → PutRead g now put n window scan
  put_read_up (PutRead.stale m) = PutRead.stale m
  put_read_up (PutRead.fresh e m) = PutRead.late now_low m
  put_read_up (PutRead.late l m) = absurd (not_low l)
  put_read_up (PutRead.sure e l m) = absurd (not_low l)

  put_commit_up : {n index seen : ℕ} → PutCommit g was put n index seen → PutCommit g now put n index seen
  put_commit_up (PutCommit.live e) = PutCommit.live e
  put_commit_up (PutCommit.stale m) = PutCommit.stale m

  put_shift_up : {n : ℕ} {window : Span} → PutShift g was put n window → PutShift g now put n window
  put_shift_up (PutShift.stale m) = PutShift.stale m
  put_shift_up (PutShift.fresh e m) = PutShift.late now_low m
  put_shift_up (PutShift.late l m) = absurd (not_low l)

  kept_up : (L : ℕ) (t : Span) (taken : ℕ → ℕ) (n index : ℕ) (p : Phase) → Left g L was t put taken n index p → Left g L now t put taken n index p
  kept_up L t taken n index Idle x = x
  kept_up L t taken n index (Window Putting) x = put_window_up x
  kept_up L t taken n index (Window Taking) x = x
  kept_up L t taken n index (QueuePutRead window scan) x = put_read_up x
  kept_up L t taken n index (QueueTakeRead window bare scan sum) x = x
  kept_up L t taken n index (StackRead side window version scan sum) x = x
  kept_up L t taken n index (Check side version seen) x = x
  kept_up L t taken n index (QueueCommit Putting window seen) x = put_commit_up x
  kept_up L t taken n index (QueueCommit Taking window seen) x = x
  kept_up L t taken n index (StackCommit side seen) x = x
  kept_up L t taken n index (QueueShift Putting window) x = put_shift_up x
  kept_up L t taken n index (QueueShift Taking window) x = x
  kept_up L t taken n index (StackShift side version scan sum) x = x
  kept_up L t taken n index (QueueConfirm window scan sum) x = x
  kept_up L t taken n index (StackConfirm side scan sum) x = x

-- ---- the take window, which finds what L asks for
module _ (g : Settings) (L : ℕ) (was now : Span) (put taken : ℕ → ℕ) (not_low : Low was taken → ⊥) (now_low : Low now taken) (ready : Ready g L now.width put taken) where
  take_window_on : {n : ℕ} → TakeWindow g L was put taken n → TakeWindow g L now put taken n
  take_window_on (TakeWindow.any m) = TakeWindow.any m
  take_window_on (TakeWindow.confirms l m) = absurd (not_low l)
  take_window_on (TakeWindow.hits l stock m) = absurd (not_low l)

  take_read_on : {n index : ℕ} {window : Span} {bare scan sum : ℕ} → TakeRead g L was put taken n index window bare scan sum → TakeRead g L now put taken n index window bare scan sum
  take_read_on (TakeRead.stale m) = TakeRead.stale m
  take_read_on (TakeRead.clean c m) = TakeRead.clean c m
  take_read_on (TakeRead.fresh c e m) = TakeRead.late c now_low ready m
  take_read_on (TakeRead.late c l r m) = absurd (not_low l)
  take_read_on (TakeRead.confirms c e l m) = absurd (not_low l)
  take_read_on (TakeRead.hits e l j lj held ahead m) = absurd (not_low l)

  take_commit_on : {n index seen : ℕ} → TakeCommit g L was put taken n index seen → TakeCommit g L now put taken n index seen
  take_commit_on (TakeCommit.live e) = TakeCommit.live e
  take_commit_on (TakeCommit.stale m) = TakeCommit.stale m

  take_shift_on : {n : ℕ} {window : Span} → TakeShift g L was put taken n window → TakeShift g L now put taken n window
  take_shift_on (TakeShift.stale m) = TakeShift.stale m
  take_shift_on (TakeShift.fresh e m) = TakeShift.late now_low ready m
  take_shift_on (TakeShift.late l r m) = absurd (not_low l)

  take_confirm_on : {n index : ℕ} {window : Span} {scan sum : ℕ} → TakeConfirm g L was put taken n index window scan sum → TakeConfirm g L now put taken n index window scan sum
  take_confirm_on (TakeConfirm.stale m) = TakeConfirm.stale m
  take_confirm_on (TakeConfirm.clean a u) = TakeConfirm.clean a u

  kept_on : (p : Span) (n index : ℕ) (phase : Phase) → Left g L p was put taken n index phase → Left g L p now put taken n index phase
  kept_on p n index Idle x = x
  kept_on p n index (Window Putting) x = x
  kept_on p n index (Window Taking) x = take_window_on x
  kept_on p n index (QueuePutRead window scan) x = x
  kept_on p n index (QueueTakeRead window bare scan sum) x = take_read_on x
  kept_on p n index (StackRead side window version scan sum) x = x
  kept_on p n index (Check side version seen) x = x
  kept_on p n index (QueueCommit Putting window seen) x = x
  kept_on p n index (QueueCommit Taking window seen) x = take_commit_on x
  kept_on p n index (StackCommit side seen) x = x
  kept_on p n index (QueueShift Putting window) x = x
  kept_on p n index (QueueShift Taking window) x = take_shift_on x
  kept_on p n index (StackShift side version scan sum) x = x
  kept_on p n index (QueueConfirm window scan sum) x = take_confirm_on x
  kept_on p n index (StackConfirm side scan sum) x = x

-- ---- a raised put window leaves the take window
take_same : (f : Frame) (width top : ℕ) → f.head ≤ f.tail → take_now (raised_of f width top) ≡ take_now f
take_same f width top l =
    rw (
      upd_other f.base (suc (suc f.tail)) top (suc f.head) (λ e. omega arith),
      upd_other f.base (suc (suc f.tail)) top f.head (λ e. omega arith),
      upd_other f.wide (suc f.tail) width f.head (λ e. omega arith),
    )

-- ---- any step that is not final leaves every other worker what it owes
module _ (g : Settings) (L : ℕ) (s : State) (q : Contents) (inv : Inv g s q)
    (ready : NextReady g L s) (n index : ℕ) (p : Phase) where
  abbrev f : Frame
  f = s.frame

  left_kept : (i : ℕ) (t : State) → Moved g s i t → queue_left g L s n index p → queue_left g L t n index p
  left_kept i t (still x e) left = rw e left
  left_kept i t (up top x e one not_low now_low) left =
      let f' : Frame = raised_of f s.next.width top in
      rw e (subst (λ (t : Span). Left g L (put_now f') t s.first s.second n index p) (sym (take_same f s.next.width top inv.pool.windows.order))
      (kept_up g (put_now f) (put_now f') s.first not_low now_low L (take_now f) s.second n index p left))
  left_kept i t (on mark x e below not_low now_low) left =
      rw e (kept_on g L (take_now f) (take_now (dropped_of f)) s.first s.second not_low now_low (ready below) (put_now f) n index p left)

  pub owes_kept : (i : ℕ) (t : State) → Moved g s i t → Owes g L s n index p → Owes g L t n index p
  owes_kept i t m (inl r) = inl r
  owes_kept i t m (inr x) = inr (left_kept i t m x)
