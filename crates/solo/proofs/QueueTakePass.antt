-- A take's window and its reads on a queue: each lowers what it has left (QueueLeft). A clean pass stays clean, and where an item is ahead
-- within a window that every sub is below, a miss is another sub's.
use mathlib.Core.Path.{◌≡◌, refl, sym, subst}
use mathlib.Core.Logic.{◌≢◌, ◌⊎◌, inl, inr}
use Prim.Native.Nat.{ℕ, suc, ◌-◌, ◌%◌, ◌≤◌, ◌<◌}
use native.Mathlib.Omega.{arith}
use lib.Dec.{leb, eqb}
use borrow.Author.Tests.{leb-true, leb-false, eqb-true, eqb-false}
use Rattle.laws.specs.Choice.{cases}
use Rattle.laws.specs.Wrap.{add32}
use Rattle.rules.specs.Windows.{level_of}
use Rattle.rules.specs.Worker.{zero_slot}
use Rattle.rules.specs.Effects.{moved_of, next_of, with_pass, take_window}
use Rattle.rules.specs.Window.{window_rule}
use Rattle.rules.specs.Read.{queue_take_read, queue_take_miss, after_takes}
use Rattle.rules.specs.Sequential.{Contents}
use Rattle.solo.proofs.Types.{Settings, Taking, Phase, QueueTakeRead, QueueCommit, QueueShift, QueueConfirm, Span, Effect}
use Rattle.rules.proofs.counts.Wraps.{add32_suc, next_lt}
use Rattle.rules.proofs.counts.Visits.{Visited, visited_none, visited_all, visited_next}
use Rattle.rules.proofs.machine.Machine.{Frame, State, mark_of, sub_in, view_in, phase_in, apply_in}
use Rattle.rules.proofs.machine.Phases.{OfQueue}
use Rattle.rules.proofs.machine.Good.{Good}
use Rattle.rules.proofs.queue.Inv.{Windows, Sees, TakeReads, Knows, Inv}
use Rattle.rules.proofs.queue.View.{of_now, window_told, take_window_is, put_level}
use Rattle.rules.proofs.progress.Clean.{Clean, clean_start, clean_more, rest_start}
use Rattle.rules.proofs.progress.Steps.{miss_cases}
use Rattle.rules.proofs.progress.Confirm.{AtConfirm}
use Rattle.rules.proofs.progress.QueueSeen.{wide_le, wide16, take_wide}
use Rattle.rules.proofs.progress.QueueLeft.{take_now, Low, count_of, Under, Pass, TakeWindow, TakeRead, TakeCommit, TakeShift, TakeConfirm}
use Rattle.rules.proofs.progress.QueueResult.{QueueResult, queue_on}

module _ (g : Settings) (good : Good g) (kind : g.kind ≡ 0) (L : ℕ) (enough : g.width < L) (s : State) (q : Contents) (inv : Inv g s q) (i n : ℕ) where
  abbrev Steps : Effect → Type 0
  Steps e = QueueResult g L s i n (apply_in g s i e)

  abbrev f : Frame
  f = s.frame

  abbrev w : Windows g f
  w = inv.pool.windows

  abbrev j : ℕ
  j = sub_in s i

  abbrev put : ℕ → ℕ
  put = s.first

  abbrev taken : ℕ → ℕ
  taken = s.second

  -- ---- window
  window_some : TakeWindow g L (take_now f) put taken n → 1 ≤ n
  window_some (TakeWindow.any m) = omega arith
  window_some (TakeWindow.confirms l m) = omega (arith, good.bounds.width1)
  window_some (TakeWindow.hits l stock m) = omega arith

  first_pass : (index : ℕ) (window : Span) → Pass put index window 0 0 0
  first_pass index window = record { clean = clean_start window.width (count_of put window) index; under = λ u. absurd (u refl) }

  fresh_pass : (index : ℕ) (window : Span) → Sees f f.head window → window.top ≡ mark_of f → TakeWindow g L (take_now f) put taken n
      → TakeRead g L (take_now f) put taken (n - 1) index window 0 0 0
  fresh_pass index window k e (TakeWindow.any m) =
      TakeRead.fresh (first_pass index window) e (omega (arith, wide_le inv.pool w.order k))
  fresh_pass index window k e (TakeWindow.confirms l m) =
      TakeRead.confirms (first_pass index window) e l (omega (arith, wide_le inv.pool w.order k))
  fresh_pass index window k e (TakeWindow.hits l stock m) =
      let inside : stock.0 < window.width = omega (arith, take_wide inv.pool k e, stock.1) in
      TakeRead.hits e l stock.0 inside stock.2 (λ v. visited_none inside v) (omega (arith, wide_le inv.pool w.order k))

  pub take_window_law : TakeWindow g L (take_now f) put taken n → Steps (window_rule g (view_in g s i) Taking)
  unfolding window_rule
  take_window_law left =
      let window : Span = take_window (view_in g s i) in
      cases Steps (eqb g.kind 0) _ _
      (λ e. queue_on g kind L s i n (j % window.width) (QueueTakeRead window 0 0 0) (window_told g kind s i Taking) zero_slot (window_some left)
      (fresh_pass (j % window.width) window (take_window_is kind inv.pool i) inv.pool.mark left))
      (λ e. absurd (eqb-false _ _ e kind))

  -- ---- read
  module _ (window : Span) (bare scan sum : ℕ) (now : phase_in g s i ≡ QueueTakeRead window bare scan sum) where
    k : TakeReads s j window bare scan sum
    k = subst (Knows s j) now (inv.knows i)

    scan_lt : scan < window.width
    scan_lt = k.scan_lt

    index : j < window.width
    index = k.read.index_lt

    wide : window.width ≤ g.width
    wide = wide_le inv.pool w.order k.read.sees

    few : window.width ≤ 16
    few = wide16 inv.pool w.order k.read.sees good.bounds

    abbrev on : ℕ
    on = next_of window.width j

    on_lt : on < window.width
    on_lt = next_lt window.width j (omega (arith, scan_lt))

    abbrev Reads : Type 0
    Reads = TakeRead g L (take_now f) put taken n j window bare scan sum

    read_some : Reads → 1 ≤ n
    read_some (TakeRead.stale m) = omega (arith, scan_lt)
    read_some (TakeRead.clean c m) = omega (arith, scan_lt)
    read_some (TakeRead.fresh c e m) = omega (arith, scan_lt)
    read_some (TakeRead.late c l r m) = omega (arith, scan_lt)
    read_some (TakeRead.confirms c e l m) = omega (arith, scan_lt)
    read_some (TakeRead.hits e l x lx held ahead m) = omega (arith, scan_lt)

    -- what the pass sums up of the sub
    abbrev level : ℕ
    level = level_of g (put j) window.bottom

    level_is : level ≡ count_of put window j
    level_is = put_level kind inv.pool window f.head w.order k.read.sees j (omega (arith, index, wide))

    -- ---- a miss: the sub is spent; or it is bare, and below the window's top
    module _ (miss : (window.top ≤ taken j) ⊎ (put j ≡ taken j)) (bare' : ℕ) (under : (bare ≢ 0 → Under put window) → bare' ≢ 0 → Under put window) where
      -- the pass with one sub more
      more : Pass put j window bare scan sum → Pass put on window bare' (suc scan) (add32 sum level)
      more c =
          record {
            clean = subst (λ (x : ℕ). Clean window.width (count_of put window) on (suc scan) (add32 sum x)) (sym level_is)
                (clean_more (count_of put window) j index scan_lt c.clean);
            under = under c.under;
          }

      -- all subs are read, and some were bare
      confirmed : suc scan ≡ window.width → bare' ≢ 0 → window.width ≤ n → Pass put j window bare scan sum
          → TakeConfirm g L (take_now f) put taken (n - 1) on window 0 (add32 sum level)
      confirmed last some m c = TakeConfirm.clean (record { rest = rest_start on_lt (rw last at (more c).clean); left = omega arith }) ((more c).under some)

      -- no sub of a window that every sub is below is spent
      not_spent : window.top ≡ mark_of f → Low (take_now f) taken → window.top ≤ taken j → ⊥
      not_spent e l a = omega (arith, l j (omega (arith, index, take_wide inv.pool k.read.sees e)))

      -- so this is not the one that holds an item within the window
      other : (m : ℕ) → window.top ≡ mark_of f → Low (take_now f) taken → taken m < put m → m ≡ j → ⊥
      other m e l held u = by miss
        where
          by : (window.top ≤ taken j) ⊎ (put j ≡ taken j) → ⊥
          by (inl a) = not_spent e l a
          by (inr a) = let some : taken j < put j = rw u at held in omega arith

      -- which is still ahead
      ahead_still : (m : ℕ) → window.top ≡ mark_of f → Low (take_now f) taken → m < window.width → taken m < put m → ¬ (Visited window.width j scan m)
          → ¬ (Visited window.width on (suc scan) m)
      ahead_still m e l lm held ahead v = by (visited_next window.width index lm v)
        where
          by : (m ≡ j) ⊎ Visited window.width j scan m → ⊥
          by (inl u) = other m e l held u
          by (inr u) = ahead u

      -- and this is not the last sub
      not_last : (m : ℕ) → window.top ≡ mark_of f → Low (take_now f) taken → m < window.width → taken m < put m → ¬ (Visited window.width j scan m)
          → suc scan ≡ window.width → ⊥
      not_last m e l lm held ahead last = ahead_still m e l lm held ahead (rw last (visited_all on_lt lm))

      again : Reads → TakeRead g L (take_now f) put taken (n - 1) on window bare' (suc scan) (add32 sum level)
      again (TakeRead.stale m) = TakeRead.stale (omega (arith, scan_lt))
      again (TakeRead.clean c m) = TakeRead.clean (more c) (omega (arith, scan_lt))
      again (TakeRead.fresh c e m) = TakeRead.fresh (more c) e (omega (arith, scan_lt))
      again (TakeRead.late c l r m) = TakeRead.late (more c) l r (omega (arith, scan_lt))
      again (TakeRead.confirms c e l m) = TakeRead.confirms (more c) e l (omega (arith, scan_lt))
      again (TakeRead.hits e l x lx held ahead m) = TakeRead.hits e l x lx held (ahead_still x e l lx held ahead) (omega (arith, scan_lt))

      -- the last sub is read, and none was bare: to shift
      to_shift : suc scan ≡ window.width → window.top ≤ taken j → Reads → TakeShift g L (take_now f) put taken (n - 1) window
      to_shift last spent (TakeRead.stale m) = TakeShift.stale (omega arith)
      to_shift last spent (TakeRead.clean c m) = TakeShift.stale (omega arith)
      to_shift last spent (TakeRead.fresh c e m) = TakeShift.fresh e (omega arith)
      to_shift last spent (TakeRead.late c l r m) = TakeShift.late l r (omega arith)
      to_shift last spent (TakeRead.confirms c e l m) = absurd (not_spent e l spent)
      to_shift last spent (TakeRead.hits e l x lx held ahead m) = absurd (not_last x e l lx held ahead last)

      -- to confirm
      to_confirm : suc scan ≡ window.width → bare' ≢ 0 → Reads → TakeConfirm g L (take_now f) put taken (n - 1) on window 0 (add32 sum level)
      to_confirm last some (TakeRead.stale m) = TakeConfirm.stale (omega arith)
      to_confirm last some (TakeRead.clean c m) = confirmed last some (omega (arith, wide)) c
      to_confirm last some (TakeRead.fresh c e m) = confirmed last some (omega (arith, wide)) c
      to_confirm last some (TakeRead.late c l r m) = confirmed last some (omega (arith, wide)) c
      to_confirm last some (TakeRead.confirms c e l m) = confirmed last some (omega arith) c
      to_confirm last some (TakeRead.hits e l x lx held ahead m) = absurd (not_last x e l lx held ahead last)

    of : OfQueue g (QueueTakeRead window bare scan sum)
    of = of_now g kind s i (QueueTakeRead window bare scan sum) now

    -- where no sub was bare, this one is spent
    missed : (bare' : ℕ) → (window.top ≤ taken j) ⊎ (put j ≡ taken j) → (bare' ≡ 0 → window.top ≤ taken j)
        → ((bare ≢ 0 → Under put window) → bare' ≢ 0 → Under put window) → Reads
        → Steps (queue_take_miss g (view_in g s i) window bare' scan (add32 sum level))
    missed bare' miss spent under left =
        miss_cases g window.width few (view_in g s i) Steps scan (λ x. QueueTakeRead window bare' x (add32 sum level)) (after_takes window bare' (add32 sum level)) _ scan_lt
        (λ l. queue_on g kind L s i n on (QueueTakeRead window bare' (suc scan) (add32 sum level)) of _ (read_some left) (again miss bare' under left))
        (λ e. cases (λ (p : Phase). Steps (moved_of g (view_in g s i) on p (with_pass (s.slot i) bare' 0 (add32 sum level)))) (eqb bare' 0) _ _
        (λ z. queue_on g kind L s i n on (QueueShift Taking window) of _ (read_some left) (to_shift miss bare' under e (spent (eqb-true _ _ z)) left))
        (λ z. queue_on g kind L s i n on (QueueConfirm window 0 (add32 sum level)) of _ (read_some left) (to_confirm miss bare' under e (eqb-false _ _ z) left)))

    pub take_read : Reads → Steps (queue_take_read g (view_in g s i) window bare scan sum)
    unfolding queue_take_read
    take_read left =
        rw (add32_suc bare (omega (arith, k.read.bare_le, scan_lt, few)))
        (cases Steps (leb window.top (taken j)) _ _
        (λ t. missed bare (inl (leb-true _ _ t)) (λ z. leb-true _ _ t) (λ u. u) left)
        (λ t. cases Steps (eqb (put j) (taken j)) _ _
        (λ u. missed (suc bare) (inr (eqb-true _ _ u)) (λ z. absurd (omega arith))
        (λ v some. (j, index, omega (arith, leb-false window.top (taken j) t, eqb-true (put j) (taken j) u))) left)
        (λ u. queue_on g kind L s i n j (QueueCommit Taking window (taken j)) of _ (read_some left) (TakeCommit.live refl))))
