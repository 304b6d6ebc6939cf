-- A take's commit, shift and confirm on a queue: each ends it or lowers what it has left (QueueLeft). A shift that moves the take window
-- finds there what L asks for (Ready).
use mathlib.Core.Path.{◌≡◌, refl, sym, ap, ◌∙◌, subst}
use mathlib.Core.Logic.{◌≢◌}
use mathlib.Core.Bool.{Bool, true, false, false≢true}
use Prim.Native.Nat.{ℕ, suc, ◌+◌, ◌-◌, ◌≤◌, ◌<◌}
use native.Mathlib.Omega.{arith}
use lib.Dec.{ltb, eqb}
use borrow.Author.Tests.{ltb-true, eqb-true, eqb-false, eq-eqb}
use Rattle.laws.specs.Choice.{cond, cases, both}
use Rattle.laws.specs.Wrap.{add32, sub32}
use Rattle.rules.specs.Limits.{windowed}
use Rattle.rules.specs.Windows.{level_of}
use Rattle.rules.specs.Effects.{moved_of, next_of, hop_of}
use Rattle.rules.specs.Commit.{queue_commit, queue_take_commit, commit_by, removed_of, row_above, lost_of}
use Rattle.rules.specs.Shift.{queue_shift, shift_by, shifted_of}
use Rattle.rules.specs.Confirm.{queue_confirm, same_top}
use Rattle.rules.specs.Sequential.{Contents}
use Rattle.solo.proofs.Types.{Settings, Taking, Window, QueueCommit, QueueShift, QueueConfirm, Span, Slot, Effect}
use Rattle.rules.specs.declared.Outcome.TheVariants.{Dropped}
use Rattle.rules.proofs.counts.Sums.{upd_self}
use Rattle.rules.proofs.order.Law.{Next}
use Rattle.rules.proofs.order.Gives.{final_taken}
use Rattle.rules.proofs.machine.Machine.{Frame, State, top_of, mark_of, sub_in, view_in, phase_in, apply_in, apply_in_by, dropped_of, apply_dropped, lost_restarts}
use Rattle.rules.proofs.machine.Phases.{OfQueue}
use Rattle.rules.proofs.machine.Good.{Good}
use Rattle.rules.proofs.queue.Inv.{Windows, TakeShifts, Confirms, Knows, Inv}
use Rattle.rules.proofs.queue.View.{of_now, put_level}
use Rattle.rules.proofs.queue.CommitTake.{take_commit as commit-law}
use Rattle.rules.proofs.progress.Steps.{restarted, shifts_on, Unless, unless_refused}
use Rattle.rules.proofs.progress.Confirm.{AtConfirm, confirm_cases, confirm_some, confirm_more, confirm_ends}
use Rattle.rules.proofs.progress.QueueSeen.{wide_le, wide16, count_few, take_wide, not_filled}
use Rattle.rules.proofs.progress.QueueLeft.{take_now, Low, Behind, NextReady, count_of, Under, TakeWindow, TakeCommit, TakeShift, TakeConfirm, starts_low, queue_left}
use Rattle.rules.proofs.progress.QueueResult.{taken as took, QueueResult, on, moves, ends, queue_on, rests, queue_nothing}

module _ (g : Settings) (good : Good g) (kind : g.kind ≡ 0) (L : ℕ) (s : State) (q : Contents) (inv : Inv g s q) (i n : ℕ) where
  abbrev Steps : Effect → Type 0
  Steps e = QueueResult g L s i n (apply_in g s i e)

  abbrev f : Frame
  f = s.frame

  abbrev w : Windows g f
  w = inv.pool.windows

  abbrev j : ℕ
  j = sub_in s i

  abbrev put : ℕ → ℕ
  put = s.first

  abbrev taken : ℕ → ℕ
  taken = s.second

  -- ---- commit: a take whose sub is as it was seen takes its item; another starts again
  module _ (window : Span) (seen : ℕ) (now : phase_in g s i ≡ QueueCommit Taking window seen) where
    -- whatever its row
    removes : (level : ℕ) → Steps (removed_of g (view_in g s i) (put j) (add32 level 1) (row_above level))
    unfolding apply_in apply_in_by
    removes level = ends (final_taken _ _ _ _ _) (rests g kind L s i n s.slot j) (took (rw now refl) refl (upd_self put j))

    lost : taken j ≢ seen → TakeCommit g L (take_now f) put taken n j seen → Steps (lost_of g (view_in g s i) Taking)
    lost other (TakeCommit.live e) = absurd (other e)
    lost other (TakeCommit.stale m) = rw (lost_restarts g s i Taking) (queue_on g kind L s i n (hop_of g j) (Window Taking) tt _ (omega arith) (TakeWindow.any (omega arith)))

    abbrev Commits : Effect → Type 0
    Commits = Unless g s i (QueueResult g L s i n)

    pub take_commit : TakeCommit g L (take_now f) put taken n j seen → Steps (queue_commit g (view_in g s i) Taking window seen)
    unfolding queue_commit queue_take_commit commit_by
    take_commit left =
        cases Commits (eqb (taken j) seen) _ _
        (λ t. cases Commits _ _ _ (λ u able. removes _) (λ u. unless_refused g s i (QueueResult g L s i n)))
        (λ t able. lost (eqb-false _ _ t) left)
        (commit-law g kind s q inv i window seen now).able

  -- ---- shift: the window moves, and every sub is below it; or it is the put window, which is the answer; or it has moved before
  module _ (window : Span) (now : phase_in g s i ≡ QueueShift Taking window) (ready : NextReady g L s) where
    k : TakeShifts s window
    k = subst (Knows s j) now (inv.knows i)

    -- sub 0 is in every window
    not_low : s.mark ≡ window.top → Low (take_now f) taken → ⊥
    not_low same l =
        let wide1 : 1 ≤ f.wide f.head = w.wide1 f.head w.order in
        let e : window.top ≡ mark_of f = omega (arith, inv.pool.mark) in
        omega (arith, l 0 wide1, k.reached 0 (omega (arith, take_wide inv.pool k.sees e)))

    shift_some : TakeShift g L (take_now f) put taken n window → L + 1 ≤ n
    shift_some (TakeShift.stale m) = omega arith
    shift_some (TakeShift.fresh e m) = m
    shift_some (TakeShift.late l r m) = m

    -- the take window is below the put window
    below_top : s.mark < s.top → Behind s
    below_top l =
        let ne : f.head ≢ f.tail = λ e. let z : mark_of f ≡ top_of f = rw e refl in omega (arith, inv.pool.mark, inv.pool.top) in
        omega (arith, w.order)

    moved : (mark : ℕ) → s.mark ≡ window.top → Behind s → L + 1 ≤ n → Steps (shifted_of g (view_in g s i) Dropped Taking s.top mark)
    moved mark same below many =
        let most : L ≤ n - 1 = omega arith in
        let is = apply_dropped g s i mark in
        moves (shifts_on g (queue_left g L) s i n Taking s.top mark (dropped_of f) _ is (omega arith) (starts_low g L (take_now (dropped_of f)) put taken (n - 1) now_low (ready below) most))
        (on mark (restarted g s i Taking) (ap (λ (o : Next State). o.state) is) below (not_low same) now_low)
      where
        now_low : Low (take_now (dropped_of f)) taken
        now_low m l = omega (arith, inv.pool.subs.taken_le m, w.rise (suc f.head) (suc (suc f.head)) (omega arith) (omega arith))

    restarts : s.mark ≢ window.top → TakeShift g L (take_now f) put taken n window → Steps (moved_of g (view_in g s i) j (Window Taking) (s.slot i))
    restarts other (TakeShift.stale m) = queue_on g kind L s i n j (Window Taking) tt _ (omega arith) (TakeWindow.any (omega arith))
    restarts other (TakeShift.fresh e m) = absurd (omega (arith, inv.pool.mark))
    restarts other (TakeShift.late l r m) =
        let most : L ≤ n - 1 = omega arith in
        queue_on g kind L s i n j (Window Taking) tt _ (omega arith) (starts_low g L (take_now f) put taken (n - 1) l r most)

    pub take_shift : TakeShift g L (take_now f) put taken n window → Steps (queue_shift g (view_in g s i) Taking window)
    unfolding queue_shift shift_by
    take_shift left =
        cases Steps (eqb s.mark window.top) _ _
        (λ t. cases Steps (ltb s.mark s.top) _ _ (λ u. moved _ (eqb-true _ _ t) (below_top (ltb-true _ _ u)) (shift_some left))
        (λ u. queue_nothing g kind L s i n Taking j (took (rw now refl) refl refl)))
        (λ t. restarts (eqb-false _ _ t) left)

  -- ---- confirm: a clean one finds nothing left
  module _ (window : Span) (scan sum : ℕ) (now : phase_in g s i ≡ QueueConfirm window scan sum) where
    c : Confirms s j window scan
    c = subst (Knows s j) now (inv.knows i)

    wide : window.width ≤ g.width
    wide = wide_le inv.pool w.order c.sees

    abbrev on' : ℕ
    on' = next_of window.width j

    abbrev left' : ℕ
    left' = sub32 sum (level_of g (put j) window.bottom)

    abbrev Confirming : Type 0
    Confirming = TakeConfirm g L (take_now f) put taken n j window scan sum

    -- what the confirm takes off for the sub
    row : count_of put window j ≡ level_of g (put j) window.bottom
    row = sym (put_level kind inv.pool window f.head w.order c.sees j (omega (arith, c.index_lt, wide)))

    one_more : AtConfirm window.width (count_of put window) n j scan sum → AtConfirm window.width (count_of put window) (n - 1) on' (suc scan) left'
    one_more a =
        subst (λ (x : ℕ). AtConfirm window.width (count_of put window) (n - 1) on' (suc scan) (sub32 sum x)) row
        (confirm_more a (count_few inv.pool w.order c.sees j) c.index_lt c.scan_lt)

    nothing_left : AtConfirm window.width (count_of put window) n j scan sum → suc scan ≡ window.width → left' ≡ 0
    nothing_left a last =
        subst (λ (x : ℕ). sub32 sum x ≡ 0) row (confirm_ends a (count_few inv.pool w.order c.sees j) c.index_lt c.scan_lt last)

    -- and the put window is the one seen while a sub in its width is below its top
    top_seen : Under put window → same_top g (view_in g s i) window ≡ true
    unfolding cond
    top_seen u = go (windowed g)
      where
        same : s.top ≡ window.top
        same = inv.pool.top ∙ sym (not_filled inv.pool w.order c.sees u.0 u.1 u.2)

        go : (b : Bool) → cond b (eqb s.top window.top) true ≡ true
        go true = eq-eqb s.top window.top same
        go false = refl

    abbrev sure : Bool
    sure = both (eqb left' 0) (same_top g (view_in g s i) window)

    clean_sure : AtConfirm window.width (count_of put window) n j scan sum → Under put window → suc scan ≡ window.width → sure ≡ true
    unfolding cond
    clean_sure a u last = rw (eq-eqb left' 0 (nothing_left a last), top_seen u) refl

    of : OfQueue g (QueueConfirm window scan sum)
    of = of_now g kind s i (QueueConfirm window scan sum) now

    confirms_on : suc scan < window.width → Confirming → Steps (moved_of g (view_in g s i) on' (QueueConfirm window (suc scan) left') (s.slot i))
    confirms_on l (TakeConfirm.stale m) = queue_on g kind L s i n on' (QueueConfirm window (suc scan) left') of _ (omega arith) (TakeConfirm.stale (omega arith))
    confirms_on l (TakeConfirm.clean a u) = queue_on g kind L s i n on' (QueueConfirm window (suc scan) left') of _ (confirm_some a l) (TakeConfirm.clean (one_more a) u)

    lost_confirm : suc scan ≡ window.width → sure ≡ false → Confirming → (kept : Slot) → Steps (moved_of g (view_in g s i) on' (Window Taking) kept)
    lost_confirm last z (TakeConfirm.stale m) kept = queue_on g kind L s i n on' (Window Taking) tt kept (omega arith) (TakeWindow.any (omega arith))
    lost_confirm last z (TakeConfirm.clean a u) kept = absurd (false≢true (sym z ∙ clean_sure a u last))

    pub take_confirm : Confirming → Steps (queue_confirm g (view_in g s i) window scan sum)
    unfolding queue_confirm
    take_confirm left =
        confirm_cases g window.width (wide16 inv.pool w.order c.sees good.bounds) (view_in g s i) Steps Taking scan left' (λ x. QueueConfirm window x left') sure c.scan_lt
        (λ l. confirms_on l left)
        (λ e. queue_nothing g kind L s i n Taking on' (took (rw now refl) refl refl))
        (λ e z kept. lost_confirm e z left kept)
