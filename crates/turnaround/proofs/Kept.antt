-- The machine over a move: its state is the same but for the words of the windows seen, so that every worker is in the phase that it was in, and the
-- invariant goes on holding. What it takes is that no size was ever set, so that all windows are of the pool's size, and that few are live.
use Prim.Native.Nat.{ℕ, suc, ◌+◌, ◌-◌, ◌*◌, ◌^◌, ◌≤◌, ◌<◌}
use mathlib.Core.Path.{◌≡◌, refl, sym, ap, subst, ◌∙◌}
use mathlib.Core.Bool.{Bool, true, false, false≢true}
use native.Mathlib.Nat.{le_refl}
use native.Mathlib.Omega.{arith}
use lib.Dec.{eqb}
use borrow.Author.Tests.{eqb-true}
use Rattle.laws.specs.Choice.{cond, cond_both}
use Rattle.rules.specs.Layout.{bottom_word, width_word}
use Rattle.rules.specs.Limits.{windowed, most_live, Bounds}
use Rattle.rules.specs.Make.{in_edition}
use Rattle.rules.specs.Sequential.{Contents}
use Rattle.rules.specs.Windows.{size_of, span_of}
use Rattle.rules.specs.Worker.{seen_by, queue_phase, stack_phase, phase_of}
use Rattle.rules.specs.Fit.{past_window}
use Rattle.rules.specs.NewWord.{new_word}
use Rattle.turnaround.proofs.Types.{Settings, Putting, Taking, Phase, Idle, Window, QueuePutRead, QueueTakeRead, StackRead, Check, QueueCommit, StackCommit, QueueShift, StackShift, QueueConfirm, StackConfirm, Slot, Span}
use Rattle.rules.proofs.counts.Wraps.{sub32_is}
use Rattle.rules.proofs.machine.Machine.{State, sub_in, phase_in}
use Rattle.rules.proofs.machine.Moved.{slot_moved, moved_in}
use Rattle.rules.proofs.machine.Phases.{WindowIn}
use Rattle.rules.proofs.machine.Good.{Good}
use Rattle.rules.proofs.machine.Turns.{Common}
use Rattle.rules.proofs.machine.Slots.{Blank, phase_from}
use Rattle.rules.proofs.machine.Ways.{SnapAt}
use Rattle.rules.proofs.queue.Inv.{Plain, Sees, Knows, Inv, Grown, knows_grown, base_le, top_few}
use Rattle.turnaround.proofs.Slots.{bottom_given, width_given, stack_given, worker_moved}

-- ---- the window seen, where it is of the pool's size
pub record Own (g : Settings) (window : Span) : Type 0 where
  pub deep : g.depth ≤ window.top
  pub few : window.top < 2 ^ 32
  pub bottom : window.bottom ≡ window.top - g.depth
  pub wide : window.width ≡ g.width

-- whatever the edition, the window seen has the top that the slot has
seen_top : (g : Settings) (o : Slot) → (seen_by g o).top ≡ o.window
unfolding seen_by cond
seen_top g o = go (windowed g) refl
  where
    go : (x : Bool) → windowed g ≡ x → (cond x (record { top = o.window; bottom = o.bottom; width = o.width }) (span_of o.window (size_of g))).top ≡ o.window
    go true e = refl
    go false e = refl

module _ (g : Settings) (b : ℕ) (o : Slot) where
  abbrev h : Settings
  h = in_edition b g

  -- a window of the pool's size by its top
  abbrev span_by : ℕ → Span
  span_by top = record { top = top; bottom = top - g.depth; width = g.width }

  own_by : (window : Span) → Own g window → span_by window.top ≡ window
  own_by window own = let low = sym own.bottom in let wide = sym own.wide in λ u. record { top = window.top; bottom = low u; width = wide u }

  seen_by_law : g.kind ≡ 0 → past_window o.number ≡ true → g.depth ≤ o.window → o.window < 2 ^ 32 → seen_by h (slot_moved g h o) ≡ span_by o.window
  unfolding seen_by cond
  seen_by_law kind past deep few = go (windowed h) refl
    where
      go : (x : Bool) → windowed h ≡ x
          → cond x (record { top = o.window; bottom = cond x (new_word g o bottom_word) 0; width = cond x (new_word g o width_word) 0 }) (span_of o.window (size_of g)) ≡ span_by o.window
      go true e = λ u. record { top = o.window; bottom = bottom_given g o kind past u; width = width_given g o kind past u }
      go false e = λ u. record { top = o.window; bottom = sub32_is o.window g.depth deep few u; width = g.width }

  pub seen_moved : g.kind ≡ 0 → past_window o.number ≡ true → Own g (seen_by g o) → seen_by h (slot_moved g h o) ≡ seen_by g o
  seen_moved kind past own =
      let top = seen_top g o in
      seen_by_law kind past (rw top at own.deep) (rw top at own.few) ∙ ap span_by (sym top) ∙ own_by (seen_by g o) own

  -- ---- the phase
  -- a queue's phase with another window seen
  abbrev with_span : Span → Phase → Phase
  with_span w Idle = Idle
  with_span w (Window side) = Window side
  with_span w (QueuePutRead window scan) = QueuePutRead w scan
  with_span w (QueueTakeRead window bare scan sum) = QueueTakeRead w bare scan sum
  with_span w (StackRead side window version scan sum) = StackRead side window version scan sum
  with_span w (Check side version seen) = Check side version seen
  with_span w (QueueCommit side window seen) = QueueCommit side w seen
  with_span w (StackCommit side seen) = StackCommit side seen
  with_span w (QueueShift side window) = QueueShift side w
  with_span w (StackShift side version scan sum) = StackShift side version scan sum
  with_span w (QueueConfirm window scan sum) = QueueConfirm w scan sum
  with_span w (StackConfirm side scan sum) = StackConfirm side scan sum

  phase_with : queue_phase h (slot_moved g h o) ≡ with_span (seen_by h (slot_moved g h o)) (queue_phase g o)
  unfolding queue_phase
  phase_with =
      cond_both R _ (λ e. refl) (λ e. cond_both R _ (λ e. refl) (λ e. cond_both R _ (λ e. refl)
      (λ e. cond_both R _ (λ e. refl) (λ e. cond_both R _ (λ e. refl) (λ e. cond_both R _ (λ e. refl)
      (λ e. cond_both R _ (λ e. refl) (λ e. cond_both R _ (λ e. refl) (λ e. cond_both R _ (λ e. refl) (λ e. refl)))))))))
    where
      R : Phase → Phase → Type 0
      R x y = x ≡ with_span (seen_by h (slot_moved g h o)) y

  -- the window that it has seen is the slot's
  abbrev Same : Span → Type 0
  Same window = (window ≡ seen_by g o) × (past_window o.number ≡ true)

  same_span : (p : Phase) → g.kind ≡ 0 → WindowIn Same p → WindowIn (Own g) p → with_span (seen_by h (slot_moved g h o)) p ≡ p
  same_span p kind = go p
    where
      at : (window : Span) → Same window → Own g window → seen_by h (slot_moved g h o) ≡ window
      at window (same, past) own = seen_moved kind past (subst (Own g) same own) ∙ sym same

      go : (p : Phase) → WindowIn Same p → WindowIn (Own g) p → with_span (seen_by h (slot_moved g h o)) p ≡ p
      go Idle f own = refl
      go (Window side) f own = refl
      go (QueuePutRead window scan) f own = ap (λ (w : Span). QueuePutRead w scan) (at window f own)
      go (QueueTakeRead window bare scan sum) f own = ap (λ (w : Span). QueueTakeRead w bare scan sum) (at window f own)
      go (StackRead side window version scan sum) f own = refl
      go (Check side version seen) f own = refl
      go (QueueCommit side window seen) f own = ap (λ (w : Span). QueueCommit side w seen) (at window f own)
      go (StackCommit side seen) f own = refl
      go (QueueShift side window) f own = ap (QueueShift side) (at window f own)
      go (StackShift side version scan sum) f own = refl
      go (QueueConfirm window scan sum) f own = ap (λ (w : Span). QueueConfirm w scan sum) (at window f own)
      go (StackConfirm side scan sum) f own = refl

  stack_same : stack_phase (slot_moved g h o) ≡ stack_phase o
  unfolding stack_phase
  stack_same = refl

  pub phase_moved : (g.kind ≡ 0 → WindowIn (Own g) (phase_of g o)) → phase_of h (slot_moved g h o) ≡ phase_of g o
  unfolding phase_of cond
  phase_moved own = go (eqb g.kind 0) refl
    where
      go : (x : Bool) → eqb g.kind 0 ≡ x → phase_of h (slot_moved g h o) ≡ phase_of g o
      go true e =
          let kind = eqb-true g.kind 0 e in
          let now : phase_of g o ≡ queue_phase g o = rw e refl in
          rw e (phase_with ∙ same_span (queue_phase g o) kind (subst (WindowIn Same) now (phase_from g o).1.1) (subst (WindowIn (Own g)) now (own kind)))
      go false e = rw e stack_same

-- ---- what is common to both kinds
module _ (g : Settings) (b : ℕ) (s : State) (bounds : Bounds g) (common : Common g s) where
  slot_blank : (o : Slot) → Blank (in_edition b g) (slot_moved g (in_edition b g) o)
  unfolding cond
  slot_blank o none = go (windowed (in_edition b g)) refl (eqb g.kind 0) refl
    where
      go : (x : Bool) → windowed (in_edition b g) ≡ x → (y : Bool) → eqb g.kind 0 ≡ y
          → (cond x (new_word g o bottom_word) 0 ≡ 0) × (cond x (new_word g o width_word) 0 ≡ 0)
      go false e y f = (refl, refl)
      go true e false f = (stack_given g o bottom_word f, stack_given g o width_word f)
      go true e true f = absurd (false≢true (sym none ∙ (rw (e, f) refl)))

  pub common_moved : Common (in_edition b g) (moved_in g (in_edition b g) s)
  common_moved =
      record {
        slots = λ i. worker_moved g b (s.slot i) bounds (common.slots i);
        blank = λ i. slot_blank (s.slot i);
        steps_few = common.steps_few;
      }

-- ---- the queue
module _ (g : Settings) (b : ℕ) (s : State) (q : Contents) (kind : g.kind ≡ 0) (good : Good (in_edition b g)) (inv : Inv g s q) (plain : s.set ≡ 0) where
  all_own : Plain g s.frame s.next s.first s.puts
  all_own = inv.pool.plain plain

  -- every window seen is of the pool's size
  sees_own : {limit : ℕ} {window : Span} → limit ≤ s.frame.tail → Sees s.frame limit window → Own g window
  sees_own {limit} {window} l k =
      let w = inv.pool.windows in
      let up : s.frame.base (suc k.at) ≡ suc k.at * g.depth = all_own.base_is (suc k.at) (omega (arith, k.at_le)) in
      let low : s.frame.base k.at ≡ k.at * g.depth = all_own.base_is k.at (omega (arith, k.at_le)) in
      record {
        deep = omega (arith, k.top);
        few = omega (arith, k.top, base_le w (suc k.at) (suc s.frame.tail) (omega (arith, k.at_le)) (le_refl _), top_few inv.pool);
        bottom = omega (arith, k.top, k.bottom);
        wide = k.wide ∙ all_own.wide_is k.at (omega (arith, k.at_le));
      }

  put_own : {window : Span} → Sees s.frame s.frame.tail window → Own g window
  put_own k = sees_own (le_refl _) k

  take_own : {window : Span} → Sees s.frame s.frame.head window → Own g window
  take_own k = sees_own inv.pool.windows.order k

  knows_own : (index : ℕ) (p : Phase) → Knows s index p → WindowIn (Own g) p
  knows_own index Idle k = tt
  knows_own index (Window side) k = tt
  knows_own index (QueuePutRead window scan) k = put_own k.sees
  knows_own index (QueueTakeRead window bare scan sum) k = take_own k.read.sees
  knows_own index (StackRead side window version scan sum) k = tt
  knows_own index (Check side version seen) k = tt
  knows_own index (QueueCommit Putting window last) k = put_own k.sees
  knows_own index (QueueCommit Taking window last) k = take_own k.sees
  knows_own index (StackCommit side seen) k = tt
  knows_own index (QueueShift Putting window) k = put_own k.sees
  knows_own index (QueueShift Taking window) k = take_own k.sees
  knows_own index (StackShift side version scan sum) k = tt
  knows_own index (QueueConfirm window scan sum) k = take_own k.sees
  knows_own index (StackConfirm side scan sum) k = tt

  pub queue_phase_moved : (i : ℕ) → phase_in (in_edition b g) (moved_in g (in_edition b g) s) i ≡ phase_in g s i
  queue_phase_moved i = phase_moved g b (s.slot i) (λ e. knows_own (sub_in s i) (phase_in g s i) (inv.knows i))

  up : Grown s (moved_in g (in_edition b g) s)
  up =
      record {
        order = inv.pool.windows.order;
        head = le_refl _;
        tail = le_refl _;
        base = λ k l. refl;
        wide = λ k l. refl;
        top = le_refl _;
        put = λ j. le_refl _;
        taken = λ j. le_refl _;
      }

  pub queue_inv_moved : (windowed (in_edition b g) ≡ true → s.frame.tail < s.frame.head + most_live) → Inv (in_edition b g) (moved_in g (in_edition b g) s) q
  queue_inv_moved few =
      let o = inv.pool in
      let w = o.windows in
      let z = o.size in
      record {
        pool = record {
          top = o.top;
          mark = o.mark;
          windows = record { order = w.order; ground = w.ground; rise = w.rise; deep = w.deep; half = w.half; wide1 = w.wide1; wide_le = w.wide_le; room = w.room };
          subs = o.subs;
          items = o.items;
          size = record { width1 = z.width1; width_most = z.width_most; depth1 = z.depth1; depth64 = z.depth64; depth_half = z.depth_half };
          plain = λ e. record {
            base_is = all_own.base_is;
            wide_is = all_own.wide_is;
            next_wide = all_own.next_wide;
            next_deep = all_own.next_deep;
            total = all_own.total;
          };
          set_most = o.set_most;
          old = λ e. record { not_set = plain; times = good.times; rows_is = good.queue_rows kind e };
          live = few;
          first_few = o.first_few;
          puts_few = o.puts_few;
          steps_few = o.steps_few;
          holds = o.holds;
          count = o.count;
        };
        knows = λ i. subst (Knows (moved_in g (in_edition b g) s) (sub_in s i)) (sym (queue_phase_moved i)) (knows_grown up (sub_in s i) (phase_in g s i) (inv.knows i));
      }

-- ---- the links of workers in confirm
pub snap_moved : (g : Settings) (b : ℕ) (h₀ : ℕ → ℕ) (q₀ : Contents) (h : ℕ → ℕ) (index : ℕ) (p : Phase) → SnapAt g h₀ q₀ h index p → SnapAt (in_edition b g) h₀ q₀ h index p
snap_moved g b h₀ q₀ h index Idle z = z
snap_moved g b h₀ q₀ h index (Window side) z = z
snap_moved g b h₀ q₀ h index (QueuePutRead window scan) z = z
snap_moved g b h₀ q₀ h index (QueueTakeRead window bare scan sum) z = z
snap_moved g b h₀ q₀ h index (StackRead side window version scan sum) z = z
snap_moved g b h₀ q₀ h index (Check side version seen) z = z
snap_moved g b h₀ q₀ h index (QueueCommit side window seen) z = z
snap_moved g b h₀ q₀ h index (StackCommit side seen) z = z
snap_moved g b h₀ q₀ h index (QueueShift side window) z = z
snap_moved g b h₀ q₀ h index (StackShift side version scan sum) z = z
snap_moved g b h₀ q₀ h index (QueueConfirm window scan sum) z = z
snap_moved g b h₀ q₀ h index (StackConfirm Putting scan sum) z = z
snap_moved g b h₀ q₀ h index (StackConfirm Taking scan sum) z = z
