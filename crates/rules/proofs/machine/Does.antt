-- What each rule does, read off the rules once: it leaves its worker at its index or the next, with a scan below the width and in
-- a phase of its kind. By how it ends, a put adds the row above to its sub, where a cell is free, a take removes a held row, a shift
-- moves the window, and each leaves the other shared words as they were; any other step leaves all of them. A refusal is a 23 or a
-- 26. So every pool from make has `Common`.
use mathlib.Core.Path.{◌≡◌, refl, sym, ap, subst, ◌∙◌}
use mathlib.Core.Logic.{◌≢◌, ◌⊎◌, inl, inr}
use mathlib.Core.Bool.{Bool, true, false}
use Prim.Native.Nat.{ℕ, suc, ◌+◌, ◌-◌, ◌%◌, ◌≤◌, ◌<◌}
use native.Mathlib.Nat.{le_refl, mod-lt}
use native.Mathlib.Decide.{ℕ_discrete}
use native.Mathlib.Omega.{arith}
use lib.Dec.{ltb, leb, eqb}
use borrow.Author.Tests.{ltb-true, leb-false, eqb-true, eqb-false}
use Rattle.laws.specs.Choice.{cond, cases, both, both_true}
use Rattle.laws.specs.Wrap.{add32, sub32}
use Rattle.rules.specs.Limits.{windowed, most_live, Bounds, step_limit}
use Rattle.rules.specs.Windows.{has_windows, size_of, own_sizes, span_of, higher, level_of}
use Rattle.rules.specs.Fit.{phase_fit, seen_fit, SizeFits}
use Rattle.rules.specs.Held.{rows_below}
use Rattle.rules.specs.Worker.{phase_of, fresh, zero_slot}
use Rattle.rules.specs.Effects.{keep_of, moved_of, finished_of, nothing_for, next_of, with_pass, queue_view, take_window}
use Rattle.rules.specs.Window.{window_rule, window_for, read_from}
use Rattle.rules.specs.Read.{miss_of, queue_put_read, queue_take_miss, queue_take_read, stack_read}
use Rattle.rules.specs.Check.{check_rule}
use Rattle.rules.specs.Commit.{commit_by, queue_put_commit, queue_take_commit, queue_commit, stack_commit}
use Rattle.rules.specs.Shift.{shift_by, shifted_of, new_top, may_rise, queue_shift, stack_shift}
use Rattle.rules.specs.Confirm.{queue_confirm, stack_confirm, confirm_by, confirmed_of}
use Rattle.rules.specs.Step.{rule_by, rule_of}
use Rattle.rules.specs.Run.{Call, begin_put, begin_take, step, set_size}
use Rattle.rules.proofs.Types.{Settings, Size, Sizes, Side, Putting, Taking, Phase, Idle, Window, QueuePutRead, QueueTakeRead, StackRead, Check, QueueCommit, StackCommit, QueueShift, StackShift, QueueConfirm, StackConfirm, Span, Version, Row, Slot, View, Effect, Outcome}
use Rattle.rules.proofs.Cells.{queue_below, stack_below, level_ge}
use Rattle.rules.specs.declared.Outcome.TheVariants.{Refused, Moving, Lost, Shifted, Raised, Dropped, Landed, Removed, Empty, Full}
use Rattle.rules.proofs.Fitness.{WorkerFits}
use Rattle.rules.proofs.counts.Sums.{upd, upd_all}
use Rattle.rules.proofs.counts.Wraps.{add32_suc, sub32_is, next_lt, hop_lt}
use Rattle.rules.proofs.order.Law.{Next}
use Rattle.rules.proofs.machine.Machine.{State, sizes_in, sub_in, view_in, apply_in, apply_in_by, step_in, begin_in, set_size_in, next_in, made_in}
use Rattle.rules.proofs.machine.Phases.{SpanTold, OfQueue, OfStack, WindowIn, scan_in}
use Rattle.rules.proofs.machine.Turns.{Common, few_rows, LiveFits, ItemIn, Counts}
use Rattle.rules.proofs.machine.Slots.{OfKind, phase_from, of_both, InSpan, Blank, has_windows_law, has_none, windowed_none, has_queue, PhaseFits, encode_fits, encode_blank, span_from, Working, encode_busy}
use Rattle.rules.specs.declared.Refusal.TheVariants.{NotFit, WorkerIdle}

-- no item came or went
pub record SameItems (v : View) (e : Effect) : Type 0 where
  pub puts : e.puts ≡ v.puts
  pub first : e.first ≡ v.first
  pub second : e.second ≡ v.second

-- the window is where it was
pub record SameWindow (v : View) (e : Effect) : Type 0 where
  pub top : e.top ≡ v.top
  pub mark : e.mark ≡ v.mark

-- no row is held that was not held
pub record Keeps (g : Settings) (v : View) (e : Effect) : Type 0 where
  pub below : rows_below g v.second ≤ rows_below g e.second
  pub first : e.first ≤ v.first

pub same_keeps : (g : Settings) (v : View) (e : Effect) → SameItems v e → Keeps g v e
same_keeps g v e h = record { below = rw h.second (le_refl _); first = rw h.first (le_refl _) }

-- a row above is held as well, and its cell is free: no held row is so far below it
pub record Lands (g : Settings) (v : View) (e : Effect) (r : Row) : Type 0 where
  pub window : SameWindow v e
  pub below : rows_below g e.second ≡ rows_below g v.second
  pub first : e.first ≡ r.0
  pub above : v.first < r.0
  pub next : has_windows g ≡ false → r.0 ≡ suc v.first
  pub few : r.0 ≤ few_rows + 1
  pub above_queue : g.kind ≡ 0 → level_of g v.second (take_window v).bottom < r.0
  pub free_queue : g.kind ≡ 0 → r.0 ≤ level_of g v.second (take_window v).bottom + g.rows
  pub free_stack : g.kind ≡ 1 → r.0 ≤ g.rows

-- the removed row was held, with an item where a row may be without one
pub record Removes (g : Settings) (v : View) (Item : ℕ → Type 0) (e : Effect) (r : Row) : Type 0 where
  pub window : SameWindow v e
  pub puts : e.puts ≡ v.puts
  pub keeps : Keeps g v e
  pub low : rows_below g v.second < r.0
  pub high : r.0 ≤ v.first
  pub there : has_windows g ≡ true → Item r.0

-- a sub that is fit, and whose counts, and the bottom of the window seen, are so few that one more does not wrap
pub record Counted (g : Settings) (v : View) (Item : ℕ → Type 0) : Type 0 where
  pub order : g.kind ≡ 0 → v.second ≤ v.first
  pub first_few : v.first ≤ few_rows
  pub second_few : v.second ≤ few_rows
  pub bottom_few : WindowIn (λ window. window.bottom ≤ few_rows) v.worker.phase
  pub finds : has_windows g ≡ true → (window : Span) (seen : ℕ) → v.worker.phase ≡ QueueCommit Taking window seen → v.second ≡ seen
      → level_of g v.second window.bottom < v.first → Item (suc (level_of g v.second window.bottom))
  pub clears : has_windows g ≡ true → (window : Span) (seen : ℕ) → v.worker.phase ≡ QueueCommit Putting window seen → v.first ≡ seen
      → (take_window v).bottom ≤ window.bottom

-- the put window goes up by the next depth, where the words have a pair for it, and the take window by that of the one after it
pub record Rises (g : Settings) (v : View) (e : Effect) : Type 0 where
  pub queue : g.kind ≡ 0
  pub items : SameItems v e
  pub mark : e.mark ≡ v.mark
  pub top : e.top ≡ add32 v.top v.sizes.next.depth
  pub pair : windowed g ≡ true → v.sizes.live < most_live

pub record Drops (g : Settings) (v : View) (e : Effect) : Type 0 where
  pub queue : g.kind ≡ 0
  pub items : SameItems v e
  pub top : e.top ≡ v.top
  pub mark : e.mark ≡ add32 v.mark v.sizes.after.depth
  pub below : v.mark < v.top

abbrev pub SharedAfter : Settings → View → (ℕ → Type 0) → Effect → Outcome → Type 0
SharedAfter g v Item e (Refused n) = (n ≡ NotFit) ⊎ (n ≡ WorkerIdle)
SharedAfter g v Item e Moving = SameItems v e × SameWindow v e
SharedAfter g v Item e Lost = SameItems v e × SameWindow v e
SharedAfter g v Item e Shifted = SameItems v e × (g.kind ≡ 1)
SharedAfter g v Item e Raised = Rises g v e
SharedAfter g v Item e Dropped = Drops g v e
SharedAfter g v Item e (Landed value row stamp) = Counted g v Item → Lands g v e row
SharedAfter g v Item e (Removed row) = Counted g v Item → Removes g v Item e row
SharedAfter g v Item e Empty = SameItems v e × SameWindow v e
SharedAfter g v Item e Full = SameItems v e × SameWindow v e

-- a worker that goes on is busy
abbrev pub BusyAfter : Slot → Outcome → Type 0
BusyAfter x (Refused n) = Unit {0}
BusyAfter x Moving = x.number ≢ 0
BusyAfter x Lost = x.number ≢ 0
BusyAfter x Shifted = x.number ≢ 0
BusyAfter x Raised = x.number ≢ 0
BusyAfter x Dropped = x.number ≢ 0
BusyAfter x (Landed value row stamp) = Unit {0}
BusyAfter x (Removed row) = Unit {0}
BusyAfter x Empty = Unit {0}
BusyAfter x Full = Unit {0}

pub record Does (g : Settings) (v : View) (Item : ℕ → Type 0) (e : Effect) : Type 0 where
  pub slot : WorkerFits g e.slot
  pub blank : Blank g e.slot
  pub shared : SharedAfter g v Item e e.outcome
  pub busy : BusyAfter e.slot e.outcome

-- the sizes that a worker reads: the pool's, or within limits
pub record Sized (g : Settings) (sizes : Sizes) : Type 0 where
  pub own : has_windows g ≡ false → sizes ≡ own_sizes g
  pub put : has_windows g ≡ true → SizeFits g sizes.put
  pub take : has_windows g ≡ true → SizeFits g sizes.take

module _ (g : Settings) (b : Bounds g) (v : View) (Item : ℕ → Type 0) (sized : Sized g v.sizes) (same_index : v.worker.index ≡ v.kept.index)
    (fits : WorkerFits g v.kept) (blank : Blank g v.kept) where
  abbrev D : Effect → Type 0
  D e = Does g v Item e

  at : v.worker.index < g.width
  at = rw same_index fits.index

  zero_blank : Blank g zero_slot
  zero_blank none = (refl, refl)

  -- all that is shared as it was
  still : (o : Outcome) (x : Slot) → SameItems v (keep_of v o x) × SameWindow v (keep_of v o x)
  still o x = (record { puts = refl; first = refl; second = refl }, record { top = refl; mark = refl })

  -- ---- the ways in which a rule ends
  moved : (x : ℕ) (p : Phase) (o : Slot) → x < g.width → PhaseFits g p o x → Blank g o → Working p → D (moved_of g v x p o)
  moved x p o l h z w =
      record { slot = encode_fits g v.worker.value x p o l h z; blank = encode_blank g v.worker.value x p o h.kind z; shared = still _ _; busy = encode_busy g v.worker.value x p o w }

  of_window : (side : Side) (o : Slot) (x : ℕ) → o.scan < g.width → PhaseFits g (Window side) o x
  of_window side o x m = record { kind = ((λ k. tt), (λ n. tt)); scan = m; span = λ has. tt }

  again : (x : ℕ) → x < g.width → (side : Side) (o : Slot) → o.scan < g.width → Blank g o → D (moved_of g v x (Window side) o)
  again x l side o m z = moved x (Window side) o l (of_window side o x m) z tt

  rested : (x : ℕ) → x < g.width → WorkerFits g (fresh g 0 x Idle)
  rested x l = encode_fits g 0 x Idle zero_slot l (record { kind = ((λ k. tt), (λ n. tt)); scan = b.width1; span = λ has. tt }) zero_blank

  rested_blank : (x : ℕ) → Blank g (fresh g 0 x Idle)
  rested_blank x = encode_blank g 0 x Idle zero_slot ((λ k. tt), (λ n. tt)) zero_blank

  finished : (side : Side) (x : ℕ) → x < g.width → D (finished_of g v (nothing_for side) x)
  finished Putting x l = record { slot = rested x l; blank = rested_blank x; shared = still _ _; busy = tt }
  finished Taking x l = record { slot = rested x l; blank = rested_blank x; shared = still _ _; busy = tt }

  -- the index after, of so many
  on : (w : ℕ) → 1 ≤ w → w ≤ g.width → next_of w v.worker.index < g.width
  on w l m = omega (arith, next_lt w v.worker.index l)

  miss : (width scan : ℕ) (next after : Phase) (kept : Slot) → 1 ≤ width → width ≤ g.width → Working next → Working after → Blank g kept
      → (add32 scan 1 < width → PhaseFits g next kept (next_of width v.worker.index)) → PhaseFits g after kept (next_of width v.worker.index)
      → D (miss_of g width v scan next after kept)
  unfolding miss_of
  miss width scan next after kept low high w u z l m =
      cases D (ltb (add32 scan 1) width) _ _ (λ e. moved _ next kept (on width low high) (l (ltb-true (add32 scan 1) width e)) z w)
      (λ e. moved _ after kept (on width low high) m z u)

  -- ---- a queue's window
  -- one that a worker of a queue has seen is no wider than the pool, and the index after is in it
  pub record Seen (window : Span) : Type 0 where
    pub told : SpanTold g window
    pub width1 : 1 ≤ window.width
    pub width_most : window.width ≤ g.width

  next_in_law : (window : Span) → Seen window → next_of window.width v.worker.index < window.width
  next_in_law window h = next_lt window.width v.worker.index h.width1

  -- a phase of it, at an index and with a scan
  seen_phase : (p : Phase) (o : Slot) (x : ℕ) (window : Span) → Seen window → g.kind ≡ 0 → OfQueue g p
      → scan_in p o.scan < window.width → (InSpan g window x (scan_in p o.scan) → WindowIn (λ w. InSpan g w x (scan_in p o.scan)) p) → x < window.width
      → PhaseFits g p o x
  seen_phase p o x window h k t l put lx =
      record {
        kind = ((λ e. t), (λ n. absurd (n k)));
        scan = omega (arith, h.width_most);
        span = λ has. put (record { width1 = h.width1; width_most = h.width_most; index = lx; scan = l });
      }

  take_miss : (window : Span) (bare scan sum : ℕ) → g.kind ≡ 0 → Seen window → D (queue_take_miss g v window bare scan sum)
  take_miss window bare scan sum k h =
      let lx = next_in_law window h in
      miss window.width scan _ _ _ h.width1 h.width_most tt (cases Working (eqb bare 0) _ _ (λ e. tt) (λ e. tt)) blank
      (λ l. seen_phase _ _ _ window h k h.told l (λ z. z) lx)
      (cases (λ (p : Phase). PhaseFits g p (with_pass v.kept bare 0 sum) (next_of window.width v.worker.index)) (eqb bare 0) _ _
      (λ e. seen_phase _ _ _ window h k h.told h.width1 (λ z. z) lx) (λ e. seen_phase _ _ _ window h k h.told h.width1 (λ z. z) lx))

  -- either window of a view
  spans : (size : Size) (top : ℕ) → (has_windows g ≡ false → size ≡ size_of g) → (has_windows g ≡ true → SizeFits g size) → g.kind ≡ 0 → Seen (span_of top size)
  spans size top own fit k =
      record {
        told = λ old. ap (span_of top) (sym (own (has_none g old)));
        width1 = low (has_windows g) refl;
        width_most = high (has_windows g) refl;
      }
    where
      low : (t : Bool) → has_windows g ≡ t → 1 ≤ size.width
      low true e = (fit e).width1
      low false e = subst (λ (z : Size). 1 ≤ z.width) (sym (own e)) b.width1

      high : (t : Bool) → has_windows g ≡ t → size.width ≤ g.width
      high true e = (fit e).width_most
      high false e = subst (λ (z : Size). z.width ≤ g.width) (sym (own e)) (le_refl _)

  window_seen : (side : Side) → g.kind ≡ 0 → Seen (window_for (queue_view v) side)
  window_seen Putting k = spans v.sizes.put v.top (λ e. ap (λ (z : Sizes). z.put) (sized.own e)) sized.put k
  window_seen Taking k = spans v.sizes.take v.mark (λ e. ap (λ (z : Sizes). z.take) (sized.own e)) sized.take k

  starts : (side : Side) (window : Span) → g.kind ≡ 0 → Seen window → D (moved_of g v (v.worker.index % window.width) (read_from window side) zero_slot)
  starts Putting window k h =
      let lx = mod-lt v.worker.index {m = window.width} h.width1 in
      moved _ (QueuePutRead window 0) zero_slot (omega (arith, h.width_most)) (seen_phase _ _ _ window h k h.told h.width1 (λ z. z) lx) zero_blank tt
  starts Taking window k h =
      let lx = mod-lt v.worker.index {m = window.width} h.width1 in
      moved _ (QueueTakeRead window 0 0 0) zero_slot (omega (arith, h.width_most)) (seen_phase _ _ _ window h k h.told h.width1 (λ z. z) lx) zero_blank tt

  -- a phase of a stack
  of_stack : (p : Phase) (o : Slot) (x : ℕ) → g.kind ≢ 0 → OfStack p → scan_in p o.scan < g.width → PhaseFits g p o x
  of_stack p o x n t l = record { kind = ((λ k. absurd (n k)), (λ n. t)); scan = l; span = λ has. absurd (n (has_queue g has)) }

  looks : (side : Side) → D (window_rule g v side)
  unfolding window_rule
  looks side =
      cases D (eqb g.kind 0) _ _
      (λ e. let k = eqb-true g.kind 0 e in starts side (window_for (queue_view v) side) k (window_seen side k))
      (λ e. moved _ _ zero_slot at (of_stack _ _ _ (eqb-false _ _ e) tt b.width1) zero_blank tt)

  -- a shift whose outcome says which window words it leaves as they were
  shift_by_law : (side : Side) (same able : Bool) (o : Outcome) (top mark : ℕ) (stuck : Effect) → D stuck
      → (able ≡ true → SharedAfter g v Item (shifted_of g v o side top mark) o)
      → (BusyAfter (shifted_of g v o side top mark).slot Shifted → BusyAfter (shifted_of g v o side top mark).slot o)
      → D (shift_by g v side same able (shifted_of g v o side top mark) stuck)
  unfolding shift_by
  shift_by_law side same able o top mark stuck d shared busy =
      cases D same _ _
      (λ e. cases D able _ _ (λ a. let x = again _ at side _ fits.scan blank in record { slot = x.slot; blank = x.blank; shared = shared a; busy = busy x.busy }) (λ a. d))
      (λ e. again _ at side _ fits.scan blank)

  -- no item comes or goes with a shift
  kept_items : (o : Outcome) (side : Side) (top mark : ℕ) → SameItems v (shifted_of g v o side top mark)
  kept_items o side top mark = record { puts = refl; first = refl; second = refl }

  -- ---- commits
  commit_by_law : (side : Side) (matches able : Bool) (done : Effect) → WorkerFits g done.slot → Blank g done.slot → BusyAfter done.slot done.outcome
      → (matches ≡ true → able ≡ true → SharedAfter g v Item done done.outcome) → D (commit_by g v side matches able done)
  unfolding commit_by
  commit_by_law side matches able done l z w d =
      cases D matches _ _ (λ m. cases D able _ _ (λ e. record { slot = l; blank = z; shared = d m e; busy = w }) (λ e. record { slot = fits; blank = blank; shared = inl refl; busy = tt }))
      (λ m. let x = again _ (hop_lt g v.worker.index b.width1) side v.kept fits.scan blank in record { slot = x.slot; blank = x.blank; shared = still _ _; busy = x.busy })

  -- the row above a level
  level_few : (last bottom : ℕ) → last ≤ few_rows → bottom ≤ few_rows → level_of g last bottom ≤ few_rows
  unfolding level_of
  level_few last bottom l m = cases (λ (n : ℕ). n ≤ few_rows) (windowed g) (higher last bottom) last (λ e. omega arith) (λ e. l)

  -- the row is above the level of the rows that are not held
  over_level : g.kind ≡ 0 → (window : Span) (row : ℕ) → v.second ≤ v.first → v.first < row → (windowed g ≡ true → (take_window v).bottom < row)
      → level_of g v.second (take_window v).bottom < row
  unfolding level_of
  over_level k window row a b c =
      cases (λ (n : ℕ). n < row) (windowed g) (higher v.second (take_window v).bottom) v.second (λ e. let l = c e in omega arith) (λ e. omega arith)

  level_plain : (last bottom : ℕ) → windowed g ≡ false → level_of g last bottom ≡ last
  unfolding level_of cond
  level_plain last bottom e = rw e refl

  level_bottom : (last bottom : ℕ) → windowed g ≡ true → bottom ≤ level_of g last bottom
  unfolding level_of cond
  level_bottom last bottom e = rw e (omega arith)

  put_does : g.kind ≡ 0 → (window : Span) (seen level : ℕ) → v.worker.phase ≡ QueueCommit Putting window seen → level ≡ level_of g v.first window.bottom
      → (Counted g v Item → level ≤ few_rows) → D (queue_put_commit g v seen level)
  unfolding queue_put_commit
  put_does k window seen level now is few = commit_by_law Putting _ _ _ (rested _ at) (rested_blank _) tt (λ m e c.
      let free : level < level_of g v.second (take_window v).bottom + g.rows = ltb-true level (level_of g v.second (take_window v).bottom + g.rows) e in
      let up : add32 level 1 ≡ suc level = add32_suc level (omega (arith, few c)) in
      let high = level_ge g v.first window.bottom in
      record {
        window = record { top = refl; mark = refl };
        below = refl;
        first = refl;
        above = omega arith;
        next = λ none. up ∙ ap suc (is ∙ level_plain v.first window.bottom (windowed_none g k none));
        few = omega (arith, few c);
        above_queue = λ z. over_level k window (add32 level 1) (c.order k) (omega arith)
            (λ a. omega (arith, c.clears (has_windows_law g a k) window seen now (eqb-true v.first seen m), level_bottom v.first window.bottom a));
        free_queue = λ z. omega arith;
        free_stack = λ z. absurd (omega arith);
      })

  take_does : g.kind ≡ 0 → (window : Span) (seen level : ℕ) → v.worker.phase ≡ QueueCommit Taking window seen → level ≡ level_of g v.second window.bottom
      → (Counted g v Item → level ≤ few_rows) → D (queue_take_commit g v seen level)
  unfolding queue_take_commit
  take_does k window seen level now is few = commit_by_law Taking _ _ _ (rested _ at) (rested_blank _) tt (λ m e c.
      let some : level < v.first = ltb-true level v.first e in
      let up : add32 level 1 ≡ suc level = add32_suc level (omega (arith, few c)) in
      let least = level_ge g v.second window.bottom in
      record {
        window = record { top = refl; mark = refl };
        puts = refl;
        keeps = record { below = rw (queue_below g k v.second, queue_below g k (add32 level 1)) (omega arith); first = le_refl _ };
        low = rw (queue_below g k v.second) (omega arith);
        high = omega arith;
        there = λ has. subst Item (ap suc (sym is) ∙ sym up) (c.finds has window seen now (eqb-true _ _ m) (omega arith));
      })

  queue_does : g.kind ≡ 0 → (side : Side) (window : Span) (seen : ℕ) → v.worker.phase ≡ QueueCommit side window seen → D (queue_commit g v side window seen)
  unfolding queue_commit
  queue_does k Putting window seen now =
      put_does k window seen (level_of g v.first window.bottom) now refl
      (λ c. level_few v.first window.bottom c.first_few (bottom_of c now))
    where
      bottom_of : Counted g v Item → v.worker.phase ≡ QueueCommit Putting window seen → window.bottom ≤ few_rows
      bottom_of c now = subst (λ (p : Phase). WindowIn (λ window. window.bottom ≤ few_rows) p) now c.bottom_few
  queue_does k Taking window seen now =
      take_does k window seen (level_of g v.second window.bottom) now refl
      (λ c. level_few v.second window.bottom c.second_few (bottom_of c now))
    where
      bottom_of : Counted g v Item → v.worker.phase ≡ QueueCommit Taking window seen → window.bottom ≤ few_rows
      bottom_of c now = subst (λ (p : Phase). WindowIn (λ window. window.bottom ≤ few_rows) p) now c.bottom_few

  stack_does : g.kind ≡ 1 → (side : Side) (seen : Version) → D (stack_commit g v side seen)
  unfolding stack_commit
  stack_does k Putting seen = commit_by_law Putting _ _ _ (rested _ at) (rested_blank _) tt (λ m e c.
      let free : v.first < g.rows = ltb-true _ _ e in
      let up : add32 v.first 1 ≡ suc v.first = add32_suc v.first (omega (arith, c.first_few)) in
      record {
        window = record { top = refl; mark = refl };
        below = stack_below g k _ ∙ sym (stack_below g k _);
        first = refl;
        above = omega arith;
        next = λ none. up;
        few = omega (arith, c.first_few);
        above_queue = λ z. absurd (omega arith);
        free_queue = λ z. absurd (omega arith);
        free_stack = λ z. omega arith;
      })
  stack_does k Taking seen = commit_by_law Taking _ _ _ (rested _ at) (rested_blank _) tt (λ m e c.
      let some : 0 < v.first = ltb-true _ _ e in
      let less : sub32 v.first 1 ≡ v.first - 1 = sub32_is v.first 1 some (omega (arith, c.first_few)) in
      record {
        window = record { top = refl; mark = refl };
        puts = refl;
        keeps = record { below = rw (stack_below g k v.second, stack_below g k (add32 v.second 1)) (le_refl _); first = omega arith };
        low = rw (stack_below g k v.second) some;
        high = le_refl _;
        there = λ has. absurd (omega (arith, has_queue g has));
      })

  -- ---- each rule
  queue_kind : (g.kind ≢ 0 → ⊥) → g.kind ≡ 0
  queue_kind q = elim (ℕ_discrete g.kind 0) [ yes e ↦ e | no n ↦ absurd (q n) ]

  stack_kind : (g.kind ≡ 0 → ⊥) → g.kind ≡ 1
  stack_kind q = elim (ℕ_discrete g.kind 0) [ yes e ↦ absurd (q e) | no n ↦ omega (arith, b.kind1) ]

  -- a window of the worker's phase, by what its slot says
  seen_window : (window : Span) (x y : ℕ) → g.kind ≡ 0 → SpanTold g window → (has_windows g ≡ true → InSpan g window x y) → x < g.width → y < g.width
      → Seen window × (x < window.width) × (y < window.width)
  seen_window window x y k told span lx ly = go (windowed g) refl
    where
      go : (t : Bool) → windowed g ≡ t → Seen window × (x < window.width) × (y < window.width)
      go true e =
          let h = span (has_windows_law g e k) in
          (record { told = told; width1 = h.width1; width_most = h.width_most }, h.index, h.scan)
      go false e =
          let w : window.width ≡ g.width = sym (ap (λ (z : Span). z.width) (told e)) in
          (record { told = told; width1 = rw w b.width1; width_most = rw w (le_refl _) }, rw w lx, rw w ly)

  confirms : (side : Side) (width scan left : ℕ) (next : Phase) (sure : Bool) → 1 ≤ width → width ≤ g.width → Working next
      → (add32 scan 1 < width → PhaseFits g next v.kept (next_of width v.worker.index)) → D (confirm_by g v side width scan left next sure)
  unfolding confirm_by confirmed_of
  confirms side width scan left next sure low high w l =
      cases D _ _ _ (λ e. moved _ next _ (on width low high) (l (ltb-true (add32 scan 1) width e)) blank w)
      (λ e. cases D _ _ _ (λ e. finished side _ (on width low high)) (λ e. again _ (on width low high) side _ b.width1 blank))

  -- what is known of a phase: it is of the kind, its scan is the slot's, and its window the slot's
  pub record Phased (p : Phase) : Type 0 where
    pub kind : OfKind g p
    pub scan : scan_in p v.kept.scan ≡ v.kept.scan
    pub span : has_windows g ≡ true → WindowIn (λ window. InSpan g window v.worker.index v.kept.scan) p
    pub now : v.worker.phase ≡ p

  rise_few : (room : Bool) → both room (may_rise g (queue_view v)) ≡ true → windowed g ≡ true → v.sizes.live < most_live
  unfolding cond
  rise_few room e a = ltb-true v.sizes.live most_live (rw a at (both_true room (may_rise g (queue_view v)) e).1)

  rule_by_does : (p : Phase) → Phased p → D (rule_by g v p)
  unfolding rule_by queue_put_read queue_take_read stack_read check_rule queue_shift stack_shift queue_confirm stack_confirm
  rule_by_does Idle h = record { slot = fits; blank = blank; shared = inr refl; busy = tt }
  rule_by_does (Window side) h = looks side
  rule_by_does (QueuePutRead window scan) h =
      let k = queue_kind h.kind.1 in
      let s = seen_window window v.worker.index v.kept.scan k (h.kind.0 k) h.span at fits.scan in
      cases D _ _ _ (λ e. moved _ _ _ at (seen_phase _ _ _ window s.0 k s.0.told s.2 (λ z. z) s.1) blank tt)
      (λ e. miss window.width scan _ _ _ s.0.width1 s.0.width_most tt tt blank
      (λ l. seen_phase _ _ _ window s.0 k s.0.told l (λ z. z) (next_in_law window s.0))
      (seen_phase _ _ _ window s.0 k s.0.told s.0.width1 (λ z. z) (next_in_law window s.0)))
  rule_by_does (QueueTakeRead window bare scan sum) h =
      let k = queue_kind h.kind.1 in
      let s = seen_window window v.worker.index v.kept.scan k (h.kind.0 k) h.span at fits.scan in
      cases D _ _ _ (λ e. take_miss window bare scan _ k s.0)
      (λ e. cases D _ _ _ (λ e. take_miss window _ scan _ k s.0)
      (λ e. moved _ _ _ at (seen_phase _ _ _ window s.0 k s.0.told (rw h.scan s.2) (λ z. z) s.1) blank tt))
  rule_by_does (StackRead side window version scan sum) h =
      cases D _ _ _ (λ e. moved _ _ _ at (of_stack _ _ _ h.kind.0 tt (rw h.scan fits.scan)) blank tt)
      (λ e. miss g.width scan _ _ _ b.width1 (le_refl _) tt tt blank (λ l. of_stack _ _ _ h.kind.0 tt l) (of_stack _ _ _ h.kind.0 tt b.width1))
  rule_by_does (Check side version seen) h =
      cases D _ _ _ (λ e. moved _ _ _ at (of_stack _ _ _ h.kind.0 tt fits.scan) blank tt) (λ e. again _ at side _ fits.scan blank)
  rule_by_does (QueueCommit side window seen) h = queue_does (queue_kind h.kind.1) side window seen h.now
  rule_by_does (StackCommit side seen) h = stack_does (stack_kind h.kind.0) side seen
  rule_by_does (QueueShift Putting window) h =
      shift_by_law Putting _ _ Raised _ _ _ (finished Putting _ at)
      (λ e. record { queue = queue_kind h.kind.1; items = kept_items Raised Putting _ _; mark = refl; top = refl; pair = rise_few (leb (sub32 (new_top (queue_view v)) (take_window v).bottom) g.rows) e }) (λ busy. busy)
  rule_by_does (QueueShift Taking window) h =
      shift_by_law Taking _ _ Dropped _ _ _ (finished Taking _ at)
      (λ e. record { queue = queue_kind h.kind.1; items = kept_items Dropped Taking _ _; top = refl; mark = refl; below = ltb-true _ _ e }) (λ busy. busy)
  rule_by_does (StackShift Putting version scan sum) h =
      shift_by_law Putting _ _ Shifted _ _ _ (moved _ _ _ at (of_stack _ _ _ h.kind.0 tt (rw h.scan fits.scan)) blank tt)
      (λ e. (kept_items Shifted Putting _ _, stack_kind h.kind.0)) (λ busy. busy)
  rule_by_does (StackShift Taking version scan sum) h =
      shift_by_law Taking _ _ Shifted _ _ _ (moved _ _ _ at (of_stack _ _ _ h.kind.0 tt (rw h.scan fits.scan)) blank tt)
      (λ e. (kept_items Shifted Taking _ _, stack_kind h.kind.0)) (λ busy. busy)
  rule_by_does (QueueConfirm window scan sum) h =
      let k = queue_kind h.kind.1 in
      let s = seen_window window v.worker.index v.kept.scan k (h.kind.0 k) h.span at fits.scan in
      confirms Taking window.width scan _ _ _ s.0.width1 s.0.width_most tt
      (λ l. seen_phase _ _ _ window s.0 k s.0.told l (λ z. z) (next_in_law window s.0))
  rule_by_does (StackConfirm side scan sum) h = confirms side g.width scan _ _ _ b.width1 (le_refl _) tt (λ l. of_stack _ _ _ h.kind.0 tt l)

  rule_does : v.worker.phase ≡ phase_of g v.kept → D (rule_of g v)
  unfolding rule_of
  rule_does e =
      let t = phase_from g v.kept in
      subst (λ (p : Phase). D (rule_by g v p)) (sym e) (rule_by_does (phase_of g v.kept) (record {
        kind = t.0;
        scan = t.1.0;
        span = λ has. rw same_index (span_from g v.kept fits (phase_of g v.kept) t.1 has);
        now = e;
      }))

-- ---- each call
-- the machine's windows are sized
pub sized_in : (g : Settings) (s : State) → (has_windows g ≡ true → LiveFits g s) → Sized g (sizes_in g s)
unfolding sizes_in cond
sized_in g s framed =
    record {
      own = λ e. rw e refl;
      put = λ e. let h = framed e in rw e (h.size s.frame.tail h.order (le_refl _));
      take = λ e. let h = framed e in rw e (h.size s.frame.head (le_refl _) h.order);
    }

module _ (g : Settings) (b : Bounds g) (s : State) (common : Common g s) (sized : Sized g (sizes_in g s)) where
  pub rule_in : (i : ℕ) → Does g (view_in g s i) (ItemIn g s i) (rule_of g (view_in g s i))
  rule_in i = rule_does g b (view_in g s i) (ItemIn g s i) sized refl (common.slots i) (common.blank i) refl

  pub counted_in : Counts g s → (i : ℕ) → Counted g (view_in g s i) (ItemIn g s i)
  counted_in counts i =
      let lj : sub_in s i < g.width = (common.slots i).index in
      record {
        order = λ k. (counts.sub _ lj).queue_order k;
        first_few = counts.first_few _ lj;
        second_few = counts.second_few _ lj;
        bottom_few = counts.bottom_few i;
        finds = λ has. counts.finds has i;
        clears = λ has. counts.clears has i;
      }

  slots_upd : (i : ℕ) (x : Slot) → WorkerFits g x → (j : ℕ) → WorkerFits g (upd s.slot i x j)
  slots_upd i x l j = upd_all (λ m (y : Slot). WorkerFits g y) s.slot i x j (λ e. l) (λ n. common.slots j)

  blank_upd : (i : ℕ) (x : Slot) → Blank g x → (j : ℕ) → Blank g (upd s.slot i x j)
  blank_upd i x l j = upd_all (λ m (y : Slot). Blank g y) s.slot i x j (λ e. l) (λ n. common.blank j)

  abbrev Kept : Next State → Type 0
  Kept o = Common g o.state

  common_apply : (i : ℕ) → s.steps < step_limit → (e : Effect) → WorkerFits g e.slot → Blank g e.slot → (o : Outcome) → Kept (apply_in_by g s i e o)
  unfolding apply_in_by
  common_apply i few e l z (Refused n) = common
  common_apply i few e l z Moving = record { slots = slots_upd i e.slot l; blank = blank_upd i e.slot z; steps_few = few }
  common_apply i few e l z Lost = record { slots = slots_upd i e.slot l; blank = blank_upd i e.slot z; steps_few = few }
  common_apply i few e l z Shifted = record { slots = slots_upd i e.slot l; blank = blank_upd i e.slot z; steps_few = few }
  common_apply i few e l z Raised = record { slots = slots_upd i e.slot l; blank = blank_upd i e.slot z; steps_few = few }
  common_apply i few e l z Dropped = record { slots = slots_upd i e.slot l; blank = blank_upd i e.slot z; steps_few = few }
  common_apply i few e l z (Landed value row stamp) = record { slots = slots_upd i e.slot l; blank = blank_upd i e.slot z; steps_few = few }
  common_apply i few e l z (Removed row) = record { slots = slots_upd i e.slot l; blank = blank_upd i e.slot z; steps_few = few }
  common_apply i few e l z Empty = record { slots = slots_upd i e.slot l; blank = blank_upd i e.slot z; steps_few = few }
  common_apply i few e l z Full = record { slots = slots_upd i e.slot l; blank = blank_upd i e.slot z; steps_few = few }

  common_step : (i : ℕ) → Kept (step_in g s i)
  unfolding step_in apply_in
  common_step i =
      cases Kept _ _ _ (λ e. common) (λ e. cases Kept _ _ _ (λ e. common) (λ e. cases Kept (leb step_limit s.steps) _ _ (λ e. common)
      (λ e. common_apply i (leb-false _ _ e) (rule_of g (view_in g s i)) (rule_in i).slot (rule_in i).blank _)))

  common_begin : (i : ℕ) (side : Side) (v : ℕ) → Kept (begin_in g s i side v)
  unfolding begin_in
  common_begin i side v =
      cases Kept _ _ _ (λ e. common) (λ e. cases Kept _ _ _ (λ e. cases Kept _ _ _ (λ e. common)
      (λ e. record {
        slots = slots_upd i _ (encode_fits g v (s.slot i).index (Window side) zero_slot (common.slots i).index
            (record { kind = ((λ k. tt), (λ n. tt)); scan = b.width1; span = λ has. tt }) (λ none. (refl, refl)));
        blank = blank_upd i _ (encode_blank g v (s.slot i).index (Window side) zero_slot ((λ k. tt), (λ n. tt)) (λ none. (refl, refl)));
        steps_few = common.steps_few;
      })) (λ e. common))

  common_size : (size : Size) → Kept (set_size_in g s size)
  unfolding set_size_in
  common_size size =
      cases Kept _ _ _ (λ e. cases Kept _ _ _ (λ e. record { slots = common.slots; blank = common.blank; steps_few = common.steps_few }) (λ e. common)) (λ e. common)

  pub common_next : (c : Call) → Common g (next_in g s c).state
  unfolding next_in
  common_next (begin_put i v) = common_begin i Putting v
  common_next (begin_take i) = common_begin i Taking 0
  common_next (step i) = common_step i
  common_next (set_size width depth) = common_size (record { width = width; depth = depth })

pub zero_seen : (g : Settings) (x : ℕ) → seen_fit g (record { number = 0; value = 0; index = x; window = 0; extra = 0; scan = 0; seen = 0; sum = 0; bottom = 0; width = 0 }) ≡ true
unfolding seen_fit cond
zero_seen g x = cases P (windowed g) _ _ (λ a. cases P (eqb g.kind 0) _ _ (λ e. refl) (λ e. refl)) (λ a. refl)
  where
    P : Bool → Type 0
    P b = b ≡ true

pub common_made : (g : Settings) → 1 ≤ g.width → Common g (made_in g)
unfolding made_in phase_fit seen_fit cond
common_made g l =
    record {
      slots = λ i. record { index = mod-lt i l; scan = l; number = of_both g.kind true (λ k. refl); seen = zero_seen g (i % g.width) };
      blank = λ i none. (refl, refl);
      steps_few = omega arith;
    }
