-- What the invariant says of every sum: no count reaches 2^32, and no difference but confirm's passes below 0.
use mathlib.Core.Path.{◌≡◌, sym, ap, ◌∙◌, subst}
use mathlib.Core.Logic.{◌≢◌}
use mathlib.Core.Bool.{true, false}
use Prim.Native.Nat.{ℕ, suc, ◌+◌, ◌-◌, ◌≤◌, ◌<◌}
use native.Mathlib.Nat.{le_refl}
use native.Mathlib.Decide.{dec_lt}
use native.Mathlib.Omega.{arith}
use Rattle.laws.specs.Choice.{cases, both_true}
use Rattle.rules.specs.Answers.{number_of, not_fit}
use Rattle.rules.specs.Limits.{windowed}
use Rattle.rules.specs.Windows.{higher, level_of}
use Rattle.rules.specs.Fit.{SubFits, SizeFits}
use Rattle.rules.specs.Step.{rule_of}
use Rattle.rules.specs.Sequential.{Contents}
use Rattle.rules.specs.Consequences.{NoWrap}
use Rattle.rules.proofs.Types.{Settings, Size, Putting, Taking, Phase, Idle, Window, QueuePutRead, QueueTakeRead, StackRead, Check, QueueCommit, StackCommit, QueueShift, StackShift, QueueConfirm, StackConfirm, Span}
use Rattle.rules.proofs.Cells.{queue_below}
use Rattle.rules.proofs.counts.Sums.{sum_n, sum_ext, sum_gap_at}
use Rattle.rules.proofs.counts.Visits.{visited_here}
use Rattle.rules.proofs.machine.Machine.{Frame, State, top_of, mark_of, size_at, sizes_in, sub_in, view_in, phase_in, apply_in}
use Rattle.rules.proofs.machine.Good.{Good}
use Rattle.rules.proofs.machine.Phases.{WindowIn}
use Rattle.rules.proofs.machine.Slots.{windowed_none}
use Rattle.rules.proofs.machine.Turns.{Common, bottom_in, few_rows, InLive, Framed, Counts, Safe}
use Rattle.rules.proofs.queue.Inv.{Windows, Place, TakeReads, count_in, Knows, Inv, Sees, base_le, window_of, top_few, put_few, first_high}
use Rattle.rules.proofs.queue.View.{plain, take_size, after_size, after_none, next_depth, take_bottom, free_at}
use Rattle.rules.proofs.queue.CommitPut.{bottom_is}
use Rattle.rules.proofs.queue.CommitTake.{level_is, stamped as found, head_size}

module _ {g : Settings} {s : State} {q : Contents} (good : Good g) (kind : g.kind ≡ 0) (inv : Inv g s q) where
  abbrev f : Frame
  f = s.frame

  abbrev w : Windows g f
  w = inv.pool.windows

  -- T is not above P
  mark_le : mark_of f ≤ top_of f
  mark_le = base_le w (suc f.head) (suc f.tail) (omega (arith, w.order)) (le_refl _)

  taken_few : (j : ℕ) → s.second j ≤ 4000000064
  taken_few j = omega (arith, inv.pool.subs.held j, put_few inv.pool j)

  -- the bottom of a window that a worker has seen
  low : (window : Span) (limit : ℕ) → limit ≤ f.tail → Sees f limit window → window.bottom ≤ few_rows
  low window limit l k = omega (arith, k.bottom, top_few inv.pool, base_le w k.at (suc f.tail) (omega (arith, k.at_le)) (le_refl _))

  -- ---- sums and differences
  module _ (common : Common g s) (i : ℕ) where
    index : sub_in s i < g.width
    index = (common.slots i).index

    put_wide : (window : Span) → Sees f f.tail window → window.width ≤ 16
    put_wide window k = omega (arith, k.wide, w.wide_le k.at k.at_le, good.bounds.width16)

    take_wide : (window : Span) → Sees f f.head window → window.width ≤ 16
    take_wide window k = omega (arith, k.wide, w.wide_le k.at (omega (arith, k.at_le, w.order)), good.bounds.width16)

    -- what a take's pass has summed up, with one sub more, is not more than there was put
    sum_few : windowed g ≡ false → (window : Span) (bare scan sum : ℕ) → TakeReads s (sub_in s i) window bare scan sum → sum + s.first (sub_in s i) ≤ s.puts
    sum_few old window bare scan sum k =
        let j : ℕ = sub_in s i in
        let o = inv.pool in
        let r = k.read in
        let at_le : r.sees.at ≤ f.tail = omega (arith, r.sees.at_le, w.order) in
        let p = plain kind o old in
        let wide : window.width ≡ g.width = r.sees.wide ∙ p.wide_is r.sees.at at_le in
        let rows : (m : ℕ) → m < window.width → count_in s window.bottom m ≡ s.first m =
        λ m l. omega (arith, r.sees.bottom, first_high o p m (omega arith), base_le w r.sees.at f.tail at_le (omega arith)) in
        let total : sum_n (count_in s window.bottom) window.width ≡ sum_n s.first window.width =
        sum_ext (count_in s window.bottom) s.first window.width rows in
        let same : sum_n s.first window.width ≡ sum_n s.first g.width = ap (sum_n s.first) wide in
        let reads : sum_n r.sums.reads window.width + count_in s window.bottom j ≤ sum_n (count_in s window.bottom) window.width =
        sum_gap_at r.sums.reads (count_in s window.bottom) window.width j (count_in s window.bottom j) r.index_lt r.sums.low
        (omega (arith, r.sums.unread j r.index_lt (λ v. visited_here k.scan_lt v))) in
        omega (arith, reads, total, same, p.total, r.sums.sum_is, rows j r.index_lt)

    -- a level above a last row
    level_few : (last bottom : ℕ) → last ≤ 4000000064 → bottom ≤ 4000000064 → level_of g last bottom ≤ 4000000064
    unfolding level_of
    level_few last bottom l m = cases (λ (n : ℕ). n ≤ 4000000064) (windowed g) (higher last bottom) last (λ e. omega arith) (λ e. l)

    -- the window after the take window is no deeper than the deepest, and none has depth 0
    after_few : (sizes_in g s).after.depth ≤ 64
    after_few = elim (dec_lt f.head f.tail) [
      | yes y ↦ omega (arith, ap (λ (z : Size). z.depth) (after_size kind inv.pool y), w.deep (suc f.head) y)
      | no n ↦ after_none kind inv.pool good.bounds (omega (arith, w.order))
    ]

    no_wrap : (p : Phase) → Knows s (sub_in s i) p → NoWrap g (view_in g s i) p
    no_wrap Idle k = tt
    no_wrap (Window side) k = tt
    no_wrap (QueuePutRead window scan) k = omega (arith, k.scan_lt, put_wide window k.sees)
    no_wrap (QueueTakeRead window bare scan sum) k =
        let wide = take_wide window k.read.sees in (
          λ old. omega (arith, sum_few old window bare scan sum k, inv.pool.puts_few, inv.pool.steps_few),
          omega (arith, k.read.bare_le, k.scan_lt),
          omega (arith, k.scan_lt),
        )
    no_wrap (StackRead side window version scan sum) k = absurd k
    no_wrap (Check side version seen) k = absurd k
    no_wrap (QueueCommit Putting window seen) k = (
      inv.pool.subs.held (sub_in s i),
      omega (arith, level_few (s.first (sub_in s i)) window.bottom (put_few inv.pool (sub_in s i)) (low window f.tail (le_refl _) k.sees)),
      omega (arith, inv.pool.puts_few, inv.pool.steps_few),
    )
    no_wrap (QueueCommit Taking window seen) k =
        omega (arith, level_few (s.second (sub_in s i)) window.bottom (taken_few (sub_in s i)) (low window f.head w.order k.sees))
    no_wrap (StackCommit side seen) k = absurd k
    no_wrap (QueueShift Putting window) k =
        let top = inv.pool.top in
        let mark = inv.pool.mark in
        let deep : (sizes_in g s).take.depth ≡ f.base (suc f.head) - f.base f.head = ap (λ (z : Size). z.depth) (take_size kind inv.pool) in
        let next = next_depth kind inv.pool in (
          omega (arith, top, top_few inv.pool, inv.pool.size.depth64),
          omega arith,
          omega (arith, take_bottom kind inv.pool i, top, base_le w f.head (suc f.tail) (omega (arith, w.order)) (le_refl _)),
        )
    no_wrap (QueueShift Taking window) k = omega (arith, inv.pool.mark, mark_le, top_few inv.pool, after_few)
    no_wrap (StackShift side version scan sum) k = absurd k
    no_wrap (QueueConfirm window scan sum) k = omega (arith, k.scan_lt, take_wide window k.sees)
    no_wrap (StackConfirm side scan sum) k = absurd k

  -- that no commit is refused is shown with each step (`Stepped`, Moves)
  pub queue_safe : Common g s → ((i : ℕ) → number_of (apply_in g s i (rule_of g (view_in g s i))).answer ≢ not_fit) → Safe g s
  queue_safe common able =
      record {
        puts = omega (arith, inv.pool.puts_few, inv.pool.steps_few);
        top = omega (arith, inv.pool.top, top_few inv.pool);
        mark = omega (arith, inv.pool.mark, mark_le, top_few inv.pool);
        first = λ j l. omega (arith, put_few inv.pool j);
        second = λ j l. omega (arith, taken_few j);
        rule = λ i. no_wrap common i (phase_in g s i) (inv.knows i);
        able = able;
      }

  -- ---- counts
  -- so of each phase
  bottom_few : (index : ℕ) (p : Phase) → Knows s index p → WindowIn (λ window. window.bottom ≤ few_rows) p
  bottom_few index Idle k = tt
  bottom_few index (Window side) k = tt
  bottom_few index (QueuePutRead window scan) k = low window f.tail (le_refl _) k.sees
  bottom_few index (QueueTakeRead window bare scan sum) k = low window f.head w.order k.read.sees
  bottom_few index (StackRead side window version scan sum) k = tt
  bottom_few index (Check side version seen) k = tt
  bottom_few index (QueueCommit Putting window seen) k = low window f.tail (le_refl _) k.sees
  bottom_few index (QueueCommit Taking window seen) k = low window f.head w.order k.sees
  bottom_few index (StackCommit side seen) k = tt
  bottom_few index (QueueShift Putting window) k = low window f.tail (le_refl _) k.sees
  bottom_few index (QueueShift Taking window) k = low window f.head w.order k.sees
  bottom_few index (StackShift side version scan sum) k = tt
  bottom_few index (QueueConfirm window scan sum) k = low window f.head w.order k.sees
  bottom_few index (StackConfirm side scan sum) k = tt

  -- a sub that does not hold nothing has a row above the take window's bottom, and the put window's top is at most R above it
  sub_fits : (j : ℕ) → j < g.width → SubFits g (bottom_in s) (s.first j) (s.second j)
  sub_fits j l =
      let b = inv.pool.subs in
      let level = free_at kind inv.pool j l in
      record {
        queue_order = λ e. b.held j;
        queue_rows = λ e n. omega (arith, b.put_le j, w.room, level);
        queue_level = λ e n. omega (arith, level, held n, above n);
        stack_rows = λ e. absurd (omega arith);
      }
    where
      held : s.first j ≢ s.second j → s.second j < s.first j
      held n = omega (arith, inv.pool.subs.held j)

      above : s.first j ≢ s.second j → f.base f.head < s.first j
      above n = elim (dec_lt (f.base f.head) (s.first j)) [ yes y ↦ y | no z ↦ absurd (omega (arith, held n, inv.pool.subs.low j (omega arith))) ]

  -- the windows of their own sizes
  size_fits : (k : ℕ) → k ≤ f.tail → SizeFits g (size_at f k)
  size_fits k l =
      let up = w.rise k (suc k) (omega arith) (omega arith) in
      record {
        width1 = w.wide1 k l;
        width_most = w.wide_le k l;
        depth1 = omega arith;
        depth64 = omega (arith, w.deep k l);
        depth_half = omega (arith, w.half k l);
      }

  framed : windowed g ≡ true → Framed g s
  framed new =
      let o = inv.pool in
      record {
        fits = record {
          order = w.order;
          live = o.live new;
          top = o.top;
          mark = o.mark;
          size = λ k a l. size_fits k l;
          next = o.size;
          set_most = o.set_most;
        };
        top_few = omega (arith, o.top, top_few o);
        put_le = λ j. omega (arith, o.top, o.subs.put_le j);
        there = λ k j r h a b. o.items.there k j r h.to_tail h.wide h.above h.up_to b;
        below = o.items.below;
        place = λ j r a y. place j r a y (o.items.place j r y);
      }
    where
      -- a stamped row that is not taken is in no window before the take window
      place : (j r : ℕ) → s.second j < r → 1 ≤ (s.item j r).stamp → Place f j r → (k : ℕ) × InLive f k j r
      place j r a y p = (p.at, record { from_head = from; to_tail = p.at_le; wide = p.inside; above = p.above; up_to = p.within })
        where
          from : f.head ≤ p.at
          from = elim (dec_lt p.at f.head) [ yes z ↦ absurd (omega (arith, p.within, inv.pool.subs.spent p.at j z p.inside)) | no n ↦ omega arith ]

  pub queue_counts : Counts g s
  queue_counts =
      let o = inv.pool in
      record {
        sub = sub_fits;
        first_few = λ j l. put_few o j;
        second_few = λ j l. taken_few j;
        bottom_few = λ i. bottom_few (sub_in s i) (phase_in g s i) (inv.knows i);
        stamped = λ none j r l a b. stamped (windowed_none g kind none) j r l (rw (queue_below g kind (s.second j)) at a) b;
        windows = λ has. framed (both_true (windowed g) _ has).0;
        finds = λ has i window seen now same low. (
          subst (λ (n : ℕ). 1 ≤ (s.item (sub_in s i) (suc n)).stamp) (sym (level_is g kind s q inv i window seen now same)) (found g kind s q inv i window seen now same),
          head_size g kind s q inv i window seen now same,
        );
        clears = λ has i window seen now same.
            omega (arith, take_bottom kind o i, bottom_is g kind s q inv i window seen now same, base_le w f.head f.tail w.order (omega arith));
      }
    where
      -- a held row is a place of its sub, for every sub is in every window
      stamped : windowed g ≡ false → (j r : ℕ) → j < g.width → s.second j < r → r ≤ s.first j → 1 ≤ (s.item j r).stamp
      stamped old j r l a b = inv.pool.items.there at.0 j r at.1 (omega (arith, (plain kind inv.pool old).wide_is at.0 at.1)) at.2 at.3 b
        where
          at : (k : ℕ) × (k ≤ f.tail) × (f.base k < r) × (r ≤ f.base (suc k))
          at = window_of w r (omega arith) (omega (arith, inv.pool.subs.put_le j))
