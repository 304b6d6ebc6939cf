-- The steps of a put, but its commit.
--
-- A pass starts at the put window, with no sub read. A sub that it misses has reached the window's top, and stays there; so a put that comes to its shift
-- has seen every sub of the window's width at its top, and the next window may be added. Where it may not, because the rows are used up, every
-- place after the take window holds an item.
use mathlib.Core.Path.{◌≡◌, refl, ap, ◌∙◌, subst, sym}
use mathlib.Core.Bool.{true, Bool, false}
use mathlib.Core.Logic.{◌⊎◌, inl, inr}
use Prim.Native.Nat.{ℕ, suc, ◌+◌, ◌-◌, ◌%◌, ◌≤◌, ◌<◌}
use native.Mathlib.Nat.{le_refl, mod-lt}
use native.Mathlib.Omega.{arith}
use lib.Dec.{ltb, leb, eqb}
use lib.ListN.{length}
use borrow.Author.Tests.{ltb-true, ltb-false, leb-true, eqb-true, eqb-false, leb-false}
use Rattle.rules.proofs.machine.Slots.{windowed_none}
use Rattle.laws.specs.Choice.{cond, cases, both, both_true, both_one}
use Rattle.laws.specs.Wrap.{add32}
use Rattle.rules.specs.Limits.{Bounds, windowed, most_live}
use Rattle.rules.specs.Worker.{zero_slot}
use Rattle.rules.specs.Effects.{next_of, put_window, queue_view}
use Rattle.rules.specs.Window.{window_rule}
use Rattle.rules.specs.Read.{queue_put_read, miss_of}
use Rattle.rules.specs.Shift.{queue_shift, shift_by, shifted_of, may_rise}
use Rattle.rules.specs.Sequential.{Operation, putting, Contents}
use Rattle.rules.proofs.Types.{Settings, Putting, Window, QueuePutRead, QueueCommit, QueueShift, Span, Effect}
use Rattle.rules.specs.declared.Outcome.TheVariants.{Raised}
use Rattle.rules.proofs.counts.Visits.{Visited, visited_none, visited_all, visited_next}
use Rattle.rules.proofs.counts.Wraps.{add32_is, add32_suc, sub32_is, next_lt}
use Rattle.rules.proofs.machine.Machine.{Frame, State, top_of, sizes_in, places_in, sub_in, view_in, phase_in, apply_in}
use Rattle.rules.proofs.figures.Figures.{full_queue}
use Rattle.rules.proofs.machine.Turns.{FullAt}
use Rattle.rules.proofs.machine.Phases.{OfQueue}
use Rattle.rules.proofs.queue.Inv.{Windows, PutReads, PutShifts, Knows, Inv, same_top_law, base_le, top_few}
use Rattle.rules.proofs.queue.Moves.{Stepped, walk, raise_window, end_full}
use Rattle.rules.proofs.queue.View.{of_now, window_told, next_depth, live_is, put_window_is, take_bottom, places_same}
use Rattle.rules.proofs.queue.Raise.{raise}
use Rattle.rules.proofs.queue.Full.{places_held, places_old, places_unset, place_held}

module _ (g : Settings) (bounds : Bounds g) (kind : g.kind ≡ 0) (s : State) (q : Contents) (inv : Inv g s q) (i : ℕ) where
  abbrev Steps : Effect → Type 0
  Steps e = Stepped g s q i (apply_in g s i e)

  abbrev f : Frame
  f = s.frame

  abbrev w : Windows g f
  w = inv.pool.windows

  abbrev operation : Operation
  operation = putting (s.slot i).value

  abbrev j : ℕ
  j = sub_in s i

  -- ---- window
  pub put_window_law : phase_in g s i ≡ Window Putting → Steps (window_rule g (view_in g s i) Putting)
  unfolding window_rule
  put_window_law now =
      let k = put_window_is kind inv.pool i in
      let window : Span = put_window (view_in g s i) in
      let wide : 1 ≤ window.width = omega (arith, k.wide, w.wide1 k.at k.at_le) in
      cases Steps (eqb g.kind 0) _ _
      (λ e. walk g kind s q inv i (Window Putting) now (j % window.width) (QueuePutRead window 0) (window_told g kind s i Putting) zero_slot
      (record { sees = k; index_lt = mod-lt j wide; scan_lt = wide; missed = λ m l v. absurd (visited_none l v) }) operation refl refl)
      (λ e. absurd (eqb-false _ _ e kind))

  -- ---- read
  module _ (window : Span) (scan : ℕ) (now : phase_in g s i ≡ QueuePutRead window scan) where
    k : PutReads s j window scan
    k = subst (Knows s j) now (inv.knows i)

    wide16 : window.width ≤ 16
    wide16 = omega (arith, k.sees.wide, w.wide_le k.sees.at k.sees.at_le, bounds.width16)

    on : next_of window.width j < window.width
    on = next_lt window.width j (omega (arith, k.index_lt))

    -- one sub more has reached the window
    more : window.top ≤ s.first j → (m : ℕ) → m < window.width
        → Visited window.width (next_of window.width j) (suc scan) m → window.top ≤ s.first m
    more h m l v = go (visited_next window.width k.index_lt l v)
      where
        go : ((m ≡ j) ⊎ Visited window.width j scan m) → window.top ≤ s.first m
        go (inl e) = rw e h
        go (inr u) = k.missed m l u

    of : OfQueue g (QueuePutRead window scan)
    of = of_now g kind s i (QueuePutRead window scan) now

    pub put_read : Steps (queue_put_read g (view_in g s i) window scan)
    unfolding queue_put_read miss_of
    put_read =
        cases Steps (ltb (s.first j) window.top) _ _
        (λ a. walk g kind s q inv i (QueuePutRead window scan) now j (QueueCommit Putting window (s.first j)) of _
        (record { sees = k.sees; index_lt = k.index_lt; below = ltb-true _ _ a }) operation refl refl)
        (λ a. rw (add32_suc scan (omega (arith, k.scan_lt, wide16)))
        (cases Steps (ltb (suc scan) window.width) _ _
        (λ b. walk g kind s q inv i (QueuePutRead window scan) now (next_of window.width j) (QueuePutRead window (suc scan)) of _
        (record { sees = k.sees; index_lt = on; scan_lt = ltb-true _ _ b; missed = more (ltb-false _ _ a) }) operation refl refl)
        (λ b. walk g kind s q inv i (QueuePutRead window scan) now (next_of window.width j) (QueueShift Putting window) of _
        (record { sees = k.sees; reached = reached (ltb-false _ _ a) (ltb-false _ _ b) }) operation refl refl)))
      where
        reached : window.top ≤ s.first j → window.width ≤ suc scan → (m : ℕ) → m < window.width → window.top ≤ s.first m
        reached h b m l =
            let e : suc scan ≡ window.width = omega (arith, k.scan_lt) in
            more h m l (rw e (visited_all on l))

  -- ---- shift
  module _ (window : Span) (now : phase_in g s i ≡ QueueShift Putting window) where
    at_shift : PutShifts s window
    at_shift = subst (Knows s j) now (inv.knows i)

    -- the window seen is the put window, and each sub in its width has reached its top
    pub reached : top_of f ≡ window.top → (m : ℕ) → m < f.wide f.tail → top_of f ≤ s.first m
    reached same m l =
        let e : at_shift.sees.at ≡ f.tail = same_top_law w at_shift.sees.at f.tail at_shift.sees.at_le (le_refl _) (omega (arith, at_shift.sees.top)) in
        let wide : window.width ≡ f.wide f.tail = rw e at at_shift.sees.wide in
        omega (arith, at_shift.reached m (omega arith))

    -- where the rows allow it the next window is added
    up : top_of f ≡ window.top → s.top + s.next.depth - f.base f.head ≤ g.rows → (windowed g ≡ true → suc f.tail - f.head < most_live)
        → Steps (shifted_of g (view_in g s i) Raised Putting (s.top + s.next.depth) s.mark)
    up same fits few =
        raise_window g kind s q inv i (QueueShift Putting window) now (s.top + s.next.depth) refl
        (raise g s q inv.pool (s.top + s.next.depth) (omega (arith, inv.pool.top)) (omega arith) (reached same) few)

    -- the words have a pair for it
    pair_for : may_rise g (queue_view (view_in g s i)) ≡ true → windowed g ≡ true → suc f.tail - f.head < most_live
    unfolding cond
    pair_for m e =
        let l : (sizes_in g s).live < most_live = ltb-true (sizes_in g s).live most_live (rw e at m) in
        omega (arith, live_is kind inv.pool e)

    -- else each place after the take window holds an item
    least : top_of f ≡ window.top → places_in g s ≤ length q.items
    least same = rw (places_same kind inv.pool) (places_held inv.pool (reached same))

    -- and where windows have no sizes of their own, or none was set, the live ones take up all rows, or all pairs
    all : top_of f ≡ window.top → (windowed g ≡ false → g.rows < s.top + s.next.depth - f.base f.head)
        → (windowed g ≡ true → (g.rows < s.top + s.next.depth - f.base f.head) ⊎ (most_live ≤ suc f.tail - f.head)) → FullAt g s
    all same full stuck =
        record {
          held = λ has k j r a h. let p = place_held inv.pool (reached same) k j r a h.to_tail h.wide h.above h.up_to in (p.0, p.1);
          own = λ none. let old = windowed_none g kind none in full_queue g (places_in g s) (places_same kind inv.pool ∙ places_old inv.pool old (omega (arith, inv.pool.top, full old)));
          unset = λ has not_set. let one = (both_true (windowed g) (eqb g.kind 0) has).0 in places_same kind inv.pool ∙ places_unset inv.pool not_set bounds.depth1 one (top_told (stuck one));
        }
      where
        top_told : (g.rows < s.top + s.next.depth - f.base f.head) ⊎ (most_live ≤ suc f.tail - f.head)
            → (g.rows < top_of f + s.next.depth - f.base f.head) ⊎ (most_live ≤ suc f.tail - f.head)
        top_told (inl h) = inl (omega (arith, h, inv.pool.top))
        top_told (inr h) = inr h

    -- where editions 0 and 1 answer it, the rows are used up
    used_up : (rows : Bool) → both rows (may_rise g (queue_view (view_in g s i))) ≡ false → windowed g ≡ false → rows ≡ false
    unfolding cond
    used_up rows e old = sym (both_one rows) ∙ (rw old at e)

    -- and where edition 2 does, these or the pairs
    used_either : (rows : ℕ) → both (leb rows g.rows) (may_rise g (queue_view (view_in g s i))) ≡ false → windowed g ≡ true
        → (g.rows < rows) ⊎ (most_live ≤ suc f.tail - f.head)
    unfolding cond
    used_either rows e one = go (leb rows g.rows) refl
      where
        go : (b : Bool) → leb rows g.rows ≡ b → (g.rows < rows) ⊎ (most_live ≤ suc f.tail - f.head)
        go false h = inl (leb-false rows g.rows h)
        go true h =
            let live : ltb (sizes_in g s).live most_live ≡ false = rw (h, one) at e in
            inr (omega (arith, ltb-false (sizes_in g s).live most_live live, live_is kind inv.pool one))

    pub put_shift : Steps (queue_shift g (view_in g s i) Putting window)
    unfolding queue_shift shift_by
    put_shift =
        let few = top_few inv.pool in
        let top = inv.pool.top in
        let low : f.base f.head ≤ top_of f = base_le w f.head (suc f.tail) (omega (arith, w.order)) (le_refl _) in
        let deep = inv.pool.size.depth64 in
        let new : add32 s.top (sizes_in g s).next.depth ≡ s.top + s.next.depth =
        ap (add32 s.top) (next_depth kind inv.pool) ∙ add32_is s.top s.next.depth (omega arith) in
        cases Steps (eqb s.top window.top) _ _
        (λ a. let same : top_of f ≡ window.top = omega (arith, top, eqb-true s.top window.top a) in
        rw new
        (rw (take_bottom kind inv.pool i)
        (rw (sub32_is (s.top + s.next.depth) (f.base f.head) (omega arith) (omega arith))
        (cases Steps (both (leb (s.top + s.next.depth - f.base f.head) g.rows) (may_rise g (queue_view (view_in g s i)))) _ _
        (λ b. let t = both_true (leb (s.top + s.next.depth - f.base f.head) g.rows) (may_rise g (queue_view (view_in g s i))) b in up same (leb-true _ _ t.0) (pair_for t.1))
        (λ b. end_full g kind s q inv i (QueueShift Putting window) now j refl (least same)
        (all same (λ old. leb-false _ _ (used_up (leb (s.top + s.next.depth - f.base f.head) g.rows) b old)) (used_either (s.top + s.next.depth - f.base f.head) b)))))))
        (λ a. walk g kind s q inv i (QueueShift Putting window) now j (Window Putting) tt _ tt operation refl refl)
