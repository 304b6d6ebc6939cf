-- The steps of a take, but its commit.
--
-- A pass starts at the take window, with no sub read. A sub that it misses is spent, or bare with all taken that was put. With none bare every sub of the
-- window's width is spent, so the take window may move on, and where it is the put window nothing is held. With one bare the take goes to its confirm: if
-- that leaves nothing, nothing was held at its last read (Empty).
use mathlib.Core.Path.{◌≡◌, refl, ap, ◌∙◌, subst, sym}
use mathlib.Core.Logic.{◌≢◌, inl}
use mathlib.Core.List.{[]}
use mathlib.Core.Bool.{Bool, true, false}
use Prim.Native.Nat.{ℕ, suc, ◌+◌, ◌-◌, ◌%◌, ◌≤◌, ◌<◌}
use native.Mathlib.Nat.{le_refl, mod-lt}
use native.Mathlib.Omega.{arith}
use lib.Dec.{ltb, leb, eqb}
use borrow.Author.Tests.{ltb-true, ltb-false, leb-true, leb-false, eqb-true, eqb-false}
use Rattle.laws.specs.Choice.{cond, cases, both, both_true}
use Rattle.laws.specs.Wrap.{add32, sub32}
use Rattle.rules.specs.Limits.{Bounds, windowed}
use Rattle.rules.specs.Windows.{higher, level_of}
use Rattle.rules.specs.Worker.{zero_slot}
use Rattle.rules.specs.Effects.{next_of, moved_of, take_window}
use Rattle.rules.specs.Window.{window_rule}
use Rattle.rules.specs.Read.{queue_take_read, miss_of, after_takes}
use Rattle.rules.specs.Shift.{queue_shift, shift_by, shifted_of}
use Rattle.rules.specs.Confirm.{queue_confirm, confirm_by, confirmed_of, same_top}
use Rattle.rules.specs.Sequential.{taking, Contents}
use Rattle.rules.proofs.Types.{Settings, Size, Taking, Phase, Window, QueueTakeRead, QueueCommit, QueueShift, QueueConfirm, Span, Slot, Effect}
use Rattle.rules.specs.declared.Outcome.TheVariants.{Dropped}
use Rattle.rules.proofs.counts.Sums.{sum_n, sum_ext}
use Rattle.rules.proofs.counts.Visits.{visited_none, visited_all}
use Rattle.rules.proofs.counts.Wraps.{add32_is, add32_suc, next_lt}
use Rattle.rules.proofs.counts.Passes.{summed_start, pass_more, pass_near, pass_few}
use Rattle.rules.proofs.machine.Machine.{Frame, State, top_of, mark_of, sizes_in, sub_in, view_in, phase_in, apply_in, dropped_of}
use Rattle.rules.proofs.machine.Phases.{OfQueue}
use Rattle.rules.proofs.machine.Ways.{SnapAt}
use Rattle.rules.proofs.queue.Inv.{Windows, Sees, Read, TakeReads, TakeShifts, Confirms, count_in, Knows, Inv, same_top_law, base_le, top_few, put_few, first_high}
use Rattle.rules.proofs.queue.Moves.{Stepped, walk, try, stay, lose, drop_window, end_empty, win}
use Rattle.rules.proofs.queue.View.{of_now, window_told, plain, after_size, take_window_is, put_level}
use Rattle.rules.proofs.queue.Drop.{drop}
use Rattle.rules.proofs.queue.Empty.{read_spent, read_bare, nothing_held, link}

module _ (g : Settings) (bounds : Bounds g) (kind : g.kind ≡ 0) (s : State) (q : Contents) (inv : Inv g s q) (i : ℕ) (index : sub_in s i < g.width) where
  abbrev Steps : Effect → Type 0
  Steps e = Stepped g s q i (apply_in g s i e)

  abbrev f : Frame
  f = s.frame

  abbrev w : Windows g f
  w = inv.pool.windows

  abbrev j : ℕ
  j = sub_in s i

  -- what a take's window is like
  wide16 : (window : Span) → Sees f f.head window → window.width ≤ 16
  wide16 window k = omega (arith, k.wide, w.wide_le k.at (omega (arith, k.at_le, w.order)), bounds.width16)

  bottom_few : (window : Span) → Sees f f.head window → window.bottom ≤ 4000000064
  bottom_few window k =
      omega (arith, k.bottom, top_few inv.pool, base_le w k.at (suc f.tail) (omega (arith, k.at_le, w.order)) (le_refl _))

  bottom_lt : (window : Span) → Sees f f.head window → window.bottom < window.top
  bottom_lt window k = omega (arith, k.bottom, k.top, w.rise k.at (suc k.at) (omega arith) (omega (arith, k.at_le, w.order)))

  -- ---- window
  pub take_window_law : phase_in g s i ≡ Window Taking → Steps (window_rule g (view_in g s i) Taking)
  unfolding window_rule
  take_window_law now =
      let k = take_window_is kind inv.pool i in
      let window : Span = take_window (view_in g s i) in
      let wide : 1 ≤ window.width = omega (arith, k.wide, w.wide1 k.at (omega (arith, k.at_le, w.order))) in
      cases Steps (eqb g.kind 0) _ _
      (λ e. walk g kind s q inv i (Window Taking) now (j % window.width) (QueueTakeRead window 0 0 0) (window_told g kind s i Taking) zero_slot
      (record {
        scan_lt = wide;
        read = record {
          sees = k;
          index_lt = mod-lt j wide;
          bare_le = le_refl _;
          sums = summed_start window.width window.bottom (count_in s window.bottom) (j % window.width);
          missed = λ m l v. absurd (visited_none l v);
          spent = λ z m l v. absurd (visited_none l v);
          low = λ n. absurd (n refl);
        };
      }) taking refl refl)
      (λ e. absurd (eqb-false _ _ e kind))

  -- ---- read
  module _ (window : Span) (bare scan sum : ℕ) (now : phase_in g s i ≡ QueueTakeRead window bare scan sum) where
    k : TakeReads s j window bare scan sum
    k = subst (Knows s j) now (inv.knows i)

    scan_few : scan < 16
    scan_few = omega (arith, k.scan_lt, wide16 window k.read.sees)

    of : OfQueue g (QueueTakeRead window bare scan sum)
    of = of_now g kind s i (QueueTakeRead window bare scan sum) now

    abbrev on : ℕ
    on = next_of window.width j

    on_lt : on < window.width
    on_lt = next_lt window.width j (omega (arith, k.read.index_lt))

    -- a miss: on to the next sub; or all are read, and it goes to shift, or to confirm where some were bare
    module _ (bare' sum' : ℕ) (read : Read s on window bare' (suc scan) sum') (kept : Slot) where
      last : window.width ≤ suc scan → Read s on window bare' window.width sum'
      last b = let e : suc scan ≡ window.width = omega (arith, k.scan_lt) in rw e at read

      to_shift : window.width ≤ suc scan → bare' ≡ 0 → Steps (moved_of g (view_in g s i) on (QueueShift Taking window) kept)
      to_shift b z =
          walk g kind s q inv i (QueueTakeRead window bare scan sum) now on (QueueShift Taking window) of kept
          (record { sees = k.read.sees; reached = λ m l. (last b).spent z m l (visited_all on_lt l) }) taking refl refl

      to_confirm : window.width ≤ suc scan → bare' ≢ 0 → Steps (moved_of g (view_in g s i) on (QueueConfirm window 0 sum') kept)
      to_confirm b n =
          try g kind s q inv i (QueueTakeRead window bare scan sum) now on (QueueConfirm window 0 sum') of kept
          (record { sees = k.read.sees; index_lt = on_lt; scan_lt = omega (arith, k.scan_lt) }) taking refl refl
          (link inv.pool on window bare' sum' n (last b))

      take_missed : Steps (miss_of g window.width (view_in g s i) scan (QueueTakeRead window bare' (add32 scan 1) sum') (after_takes window bare' sum') kept)
      unfolding miss_of
      take_missed =
          rw (add32_suc scan (omega (arith, scan_few)))
          (cases Steps (ltb (suc scan) window.width) _ _
          (λ b. walk g kind s q inv i (QueueTakeRead window bare scan sum) now on (QueueTakeRead window bare' (suc scan) sum') of kept
          (record { scan_lt = ltb-true _ _ b; read = read }) taking refl refl)
          (λ b. cases (λ (p : Phase). Steps (moved_of g (view_in g s i) on p kept)) (eqb bare' 0) _ _
          (λ z. to_shift (ltb-false _ _ b) (eqb-true _ _ z))
          (λ z. to_confirm (ltb-false _ _ b) (eqb-false _ _ z))))

    -- what is read of the sub is the higher of its last put row and the window's bottom
    row : level_of g (s.first j) window.bottom ≡ higher (s.first j) window.bottom
    row = put_level kind inv.pool window f.head w.order k.read.sees j index

    read_on : (bare' : ℕ) → Read s on window bare' (suc scan) (add32 sum (count_in s window.bottom j))
        → Read s on window bare' (suc scan) (add32 sum (level_of g (s.first j) window.bottom))
    read_on bare' = subst (λ (n : ℕ). Read s on window bare' (suc scan) (add32 sum n)) (sym row)

    pub take_read : Steps (queue_take_read g (view_in g s i) window bare scan sum)
    unfolding queue_take_read
    take_read =
        cases Steps (leb window.top (s.second j)) _ _
        (λ a. take_missed bare _ (read_on bare (read_spent s j window bare scan sum k.scan_lt k.read (leb-true _ _ a))) _)
        (λ a. cases Steps (eqb (s.first j) (s.second j)) _ _
        (λ b. rw (add32_suc bare (omega (arith, k.read.bare_le, scan_few)))
        (take_missed (suc bare) _ (read_on (suc bare) (read_bare s j window bare scan sum k.scan_lt k.read (bottom_lt window k.read.sees) (leb-false _ _ a) (eqb-true _ _ b))) _))
        (λ b. walk g kind s q inv i (QueueTakeRead window bare scan sum) now j (QueueCommit Taking window (s.second j)) of _
        (record {
          sees = k.read.sees;
          index_lt = k.read.index_lt;
          below = leb-false window.top (s.second j) a;
          there = omega (arith, inv.pool.subs.held j, eqb-false (s.first j) (s.second j) b);
        }) taking refl refl))

  -- ---- shift
  module _ (window : Span) (now : phase_in g s i ≡ QueueShift Taking window) where
    at_shift : TakeShifts s window
    at_shift = subst (Knows s j) now (inv.knows i)

    -- the window seen is the take window, and each sub in its width is spent
    pub reached : mark_of f ≡ window.top → (m : ℕ) → m < f.wide f.head → mark_of f ≤ s.second m
    reached same m l =
        let e : at_shift.sees.at ≡ f.head = same_top_law w at_shift.sees.at f.head at_shift.sees.at_le w.order (omega (arith, at_shift.sees.top)) in
        let wide : window.width ≡ f.wide f.head = rw e at at_shift.sees.wide in
        omega (arith, at_shift.reached m (omega arith))

    goes_on_law : mark_of f ≡ window.top → mark_of f < top_of f → Steps (shifted_of g (view_in g s i) Dropped Taking s.top (add32 s.mark (sizes_in g s).after.depth))
    goes_on_law same low =
        let ne : f.head ≢ f.tail = λ e. let z : mark_of f ≡ top_of f = rw e refl in omega arith in
        let l : suc f.head ≤ f.tail = omega (arith, w.order) in
        let deep : (sizes_in g s).after.depth ≡ f.base (suc (suc f.head)) - f.base (suc f.head) = ap (λ (z : Size). z.depth) (after_size kind inv.pool l) in
        let up = base_le w (suc (suc f.head)) (suc f.tail) (omega arith) (le_refl _) in
        let rise = w.rise (suc f.head) (suc (suc f.head)) (omega arith) (omega arith) in
        let next : add32 s.mark (sizes_in g s).after.depth ≡ mark_of (dropped_of f) =
        add32_is s.mark (sizes_in g s).after.depth (omega (arith, inv.pool.mark, top_few inv.pool)) ∙ omega (arith, inv.pool.mark) in
        drop_window g kind s q inv i (QueueShift Taking window) now (add32 s.mark (sizes_in g s).after.depth) refl
        (drop g s q inv.pool (reached same) (add32 s.mark (sizes_in g s).after.depth) next l)

    -- empty at shift: nothing is held here
    none : mark_of f ≡ window.top → top_of f ≤ mark_of f → q.items ≡ []
    none same high =
        let one : f.head ≡ f.tail = same_top_law w f.head f.tail w.order (le_refl _)
        (omega (arith, base_le w (suc f.head) (suc f.tail) (omega (arith, w.order)) (le_refl _))) in
        nothing_held inv.pool one (λ m l. inl (reached same m l))

    pub take_shift : Steps (queue_shift g (view_in g s i) Taking window)
    unfolding queue_shift shift_by
    take_shift =
        let mark = inv.pool.mark in
        let top = inv.pool.top in
        cases Steps (eqb s.mark window.top) _ _
        (λ a. let same : mark_of f ≡ window.top = omega (arith, mark, eqb-true s.mark window.top a) in
        cases Steps (ltb s.mark s.top) _ _
        (λ b. goes_on_law same (omega (arith, mark, top, ltb-true s.mark s.top b)))
        (λ b. end_empty g kind s q inv i (QueueShift Taking window) now j refl (none same (omega (arith, mark, top, ltb-false s.mark s.top b)))))
        (λ a. walk g kind s q inv i (QueueShift Taking window) now j (Window Taking) tt _ tt taking refl refl)

  -- ---- confirm
  module _ (window : Span) (scan sum : ℕ) (now : phase_in g s i ≡ QueueConfirm window scan sum) where
    c : Confirms s j window scan
    c = subst (Knows s j) now (inv.knows i)

    of_confirm : OfQueue g (QueueConfirm window scan sum)
    of_confirm = of_now g kind s i (QueueConfirm window scan sum) now

    abbrev after : ℕ
    after = next_of window.width j

    after_lt : after < window.width
    after_lt = next_lt window.width j (omega (arith, c.index_lt))

    row_again : level_of g (s.first j) window.bottom ≡ higher (s.first j) window.bottom
    row_again = put_level kind inv.pool window f.head w.order c.sees j index

    abbrev left : ℕ
    left = sub32 sum (level_of g (s.first j) window.bottom)

    abbrev Link : State → Contents → ℕ → ℕ → ℕ → Type 0
    Link s₀ q₀ index' scan' sum' = SnapAt g s₀.first q₀ s.first index' (QueueConfirm window scan' sum')

    one_more : (s₀ : State) (q₀ : Contents) → Link s₀ q₀ j scan sum → Link s₀ q₀ after (suc scan) left
    one_more s₀ q₀ h =
        subst (λ (n : ℕ). Link s₀ q₀ after (suc scan) (sub32 sum n)) (sym row_again)
        (pass_more j scan sum (omega (arith, put_few inv.pool j, bottom_few window c.sees)) c.index_lt c.scan_lt h)

    -- empty at confirm: nothing was held at the last read
    module _ (a : window.width ≤ suc scan) (zero : left ≡ 0) (s₀ : State) (q₀ : Contents) (h : Link s₀ q₀ j scan sum) where
      all : Link s₀ q₀ after window.width left
      all = let e : suc scan ≡ window.width = omega (arith, c.scan_lt) in rw e at (one_more s₀ q₀ h)

      -- where the put window is the one seen no last put row is above its top
      none_new : s.top ≡ window.top → q₀.items ≡ []
      none_new same =
          let deep : window.top ≤ window.bottom + 64 =
          omega (arith, c.sees.top, c.sees.bottom, w.deep c.sees.at (omega (arith, c.sees.at_le, w.order))) in
          pass_near after_lt all 64 (omega (arith, wide16 window c.sees)) (λ m l. omega (arith, inv.pool.top, inv.pool.subs.put_le m, deep)) zero

      -- editions 0 and 1 do not ask: the last put rows are no more in all than the puts
      none_old : windowed g ≡ false → q₀.items ≡ []
      none_old old =
          let o = inv.pool in
          let p = plain kind o old in
          let at_le : c.sees.at ≤ f.tail = omega (arith, c.sees.at_le, w.order) in
          let wide : window.width ≡ g.width = c.sees.wide ∙ p.wide_is c.sees.at at_le in
          let rows : (m : ℕ) → m < window.width → count_in s window.bottom m ≡ s.first m =
          λ m l. omega (arith, c.sees.bottom, first_high o p m (omega arith), base_le w c.sees.at f.tail at_le (omega arith)) in
          let total : sum_n (count_in s window.bottom) window.width ≡ sum_n s.first window.width =
          sum_ext (count_in s window.bottom) s.first window.width rows in
          let same : sum_n s.first window.width ≡ sum_n s.first g.width = ap (sum_n s.first) wide in
          pass_few after_lt all (omega (arith, total, same, p.total, o.puts_few, o.steps_few)) zero

      none_then : same_top g (view_in g s i) window ≡ true → q₀.items ≡ []
      unfolding cond
      none_then t = go (windowed g) refl t
        where
          go : (b : Bool) → windowed g ≡ b → cond b (eqb s.top window.top) true ≡ true → q₀.items ≡ []
          go true e u = none_new (eqb-true _ _ u)
          go false e u = none_old e

    pub take_confirm : Steps (queue_confirm g (view_in g s i) window scan sum)
    unfolding queue_confirm confirm_by confirmed_of
    take_confirm =
        rw (add32_suc scan (omega (arith, c.scan_lt, wide16 window c.sees)))
        (cases Steps (ltb (suc scan) window.width) _ _
        (λ a. stay g kind s q inv i (QueueConfirm window scan sum) now after (QueueConfirm window (suc scan) left) of_confirm _
        (record { sees = c.sees; index_lt = after_lt; scan_lt = ltb-true _ _ a }) taking refl refl one_more)
        (λ a. cases Steps (both (eqb left 0) (same_top g (view_in g s i) window)) _ _
        (λ b. let t = both_true (eqb left 0) (same_top g (view_in g s i) window) b in
        win g kind s q inv i (QueueConfirm window scan sum) now after refl (λ s₀ q₀ h. none_then (ltb-false _ _ a) (eqb-true _ _ t.0) s₀ q₀ h t.1))
        (λ b. lose g kind s q inv i (QueueConfirm window scan sum) now after (Window Taking) tt _ tt taking refl refl)))
