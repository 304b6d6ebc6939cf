-- Each step of a put on a queue ends it or lowers what it has left (QueueLeft).
use mathlib.Core.Path.{◌≡◌, refl, ap, ◌∙◌, subst}
use mathlib.Core.Logic.{◌≢◌}
use Prim.Native.Nat.{ℕ, suc, ◌+◌, ◌-◌, ◌%◌, ◌≤◌, ◌<◌}
use native.Mathlib.Nat.{le_refl}
use native.Mathlib.Omega.{arith}
use lib.Dec.{ltb, eqb}
use borrow.Author.Tests.{ltb-false, eqb-true, eqb-false}
use Rattle.laws.specs.Choice.{cases}
use Rattle.laws.specs.Wrap.{add32}
use Rattle.rules.specs.Windows.{higher, level_of}
use Rattle.rules.specs.Worker.{zero_slot}
use Rattle.rules.specs.Effects.{moved_of, next_of, hop_of, put_window}
use Rattle.rules.specs.Window.{window_rule}
use Rattle.rules.specs.Read.{queue_put_read}
use Rattle.rules.specs.Commit.{queue_commit, queue_put_commit, commit_by, landed_of, row_above, lost_of}
use Rattle.rules.specs.Shift.{queue_shift, shift_by, shifted_of}
use Rattle.rules.specs.Sequential.{Contents}
use Rattle.rules.proofs.Types.{Settings, Putting, Window, QueuePutRead, QueueCommit, QueueShift, Span, Effect}
use Rattle.rules.specs.declared.Outcome.TheVariants.{Raised}
use Rattle.rules.proofs.counts.Sums.{upd, upd_same}
use Rattle.rules.proofs.counts.Wraps.{add32_is, add32_suc}
use Rattle.rules.proofs.order.Law.{Next}
use Rattle.rules.proofs.order.Gives.{final_put}
use Rattle.rules.proofs.machine.Machine.{Frame, State, top_of, sizes_in, sub_in, view_in, phase_in, apply_in, apply_in_by, raised_of, apply_raised, lost_restarts}
use Rattle.rules.proofs.machine.Phases.{OfQueue}
use Rattle.rules.proofs.machine.Good.{Good}
use Rattle.rules.proofs.queue.Inv.{Windows, PutReads, PutCommits, PutShifts, Knows, Inv, top_few, put_few}
use Rattle.rules.proofs.queue.View.{of_now, window_told, next_depth, put_window_is, put_level}
use Rattle.rules.proofs.queue.CommitPut.{put_commit as commit-law}
use Rattle.rules.proofs.progress.Steps.{restarted, shifts_on, Unless, unless_refused, miss_cases}
use Rattle.rules.proofs.progress.QueueSeen.{wide_le, wide16, put_wide, put_bottom, not_filled}
use Rattle.rules.proofs.progress.QueueLeft.{put_now, Low, PutWindow, PutRead, PutCommit, PutShift, queue_left}
use Rattle.rules.proofs.progress.QueueResult.{filled, QueueResult, up, moves, ends, queue_on, rests, queue_nothing}

module _ (g : Settings) (good : Good g) (kind : g.kind ≡ 0) (L : ℕ) (s : State) (q : Contents) (inv : Inv g s q) (i n : ℕ) where
  abbrev Steps : Effect → Type 0
  Steps e = QueueResult g L s i n (apply_in g s i e)

  abbrev f : Frame
  f = s.frame

  abbrev w : Windows g f
  w = inv.pool.windows

  abbrev j : ℕ
  j = sub_in s i

  abbrev put : ℕ → ℕ
  put = s.first

  wide1 : 1 ≤ f.wide f.tail
  wide1 = w.wide1 f.tail (le_refl _)

  bottom_lt : f.base f.tail < top_of f
  bottom_lt = w.rise f.tail (suc f.tail) (omega arith) (le_refl _)

  -- ---- window
  window_some : PutWindow g (put_now f) put n → 1 ≤ n
  window_some (PutWindow.any m) = omega arith
  window_some (PutWindow.low l m) = omega arith

  fresh_pass : (window : Span) → window.width ≤ g.width → window.top ≡ top_of f → PutWindow g (put_now f) put n → PutRead g (put_now f) put (n - 1) window 0
  fresh_pass window l e (PutWindow.any m) = PutRead.fresh e (omega arith)
  fresh_pass window l e (PutWindow.low low m) = PutRead.sure e low (omega arith)

  pub put_window_law : PutWindow g (put_now f) put n → Steps (window_rule g (view_in g s i) Putting)
  unfolding window_rule
  put_window_law left =
      let window : Span = put_window (view_in g s i) in
      cases Steps (eqb g.kind 0) _ _
      (λ e. queue_on g kind L s i n (j % window.width) (QueuePutRead window 0) (window_told g kind s i Putting) zero_slot (window_some left)
      (fresh_pass window (wide_le inv.pool (le_refl _) (put_window_is kind inv.pool i)) inv.pool.top left))
      (λ e. absurd (eqb-false _ _ e kind))

  -- ---- read
  module _ (window : Span) (scan : ℕ) (now : phase_in g s i ≡ QueuePutRead window scan) where
    k : PutReads s j window scan
    k = subst (Knows s j) now (inv.knows i)

    scan_lt : scan < window.width
    scan_lt = k.scan_lt

    abbrev Reads : Type 0
    Reads = PutRead g (put_now f) put n window scan

    read_some : Reads → 1 ≤ n
    read_some (PutRead.stale m) = omega (arith, scan_lt)
    read_some (PutRead.fresh e m) = omega (arith, scan_lt)
    read_some (PutRead.late l m) = omega (arith, scan_lt)
    read_some (PutRead.sure e l m) = m

    -- a sub below the put window is no miss
    no_miss : window.top ≡ top_of f → Low (put_now f) put → window.top ≤ put j → ⊥
    no_miss e l miss = omega (arith, l j (omega (arith, k.index_lt, put_wide inv.pool k.sees e)))

    -- a miss that is not the last, and the last one
    again : window.top ≤ put j → Reads → PutRead g (put_now f) put (n - 1) window (suc scan)
    again miss (PutRead.stale m) = PutRead.stale (omega (arith, scan_lt))
    again miss (PutRead.fresh e m) = PutRead.fresh e (omega (arith, scan_lt))
    again miss (PutRead.late l m) = PutRead.late l (omega (arith, scan_lt))
    again miss (PutRead.sure e l m) = absurd (no_miss e l miss)

    to_shift : suc scan ≡ window.width → window.top ≤ put j → Reads → PutShift g (put_now f) put (n - 1) window
    to_shift last miss (PutRead.stale m) = PutShift.stale (omega arith)
    to_shift last miss (PutRead.fresh e m) = PutShift.fresh e (omega arith)
    to_shift last miss (PutRead.late l m) = PutShift.late l (omega arith)
    to_shift last miss (PutRead.sure e l m) = absurd (no_miss e l miss)

    of : OfQueue g (QueuePutRead window scan)
    of = of_now g kind s i (QueuePutRead window scan) now

    pub put_read : Reads → Steps (queue_put_read g (view_in g s i) window scan)
    unfolding queue_put_read
    put_read left =
        cases Steps (ltb (put j) window.top) _ _
        (λ t. queue_on g kind L s i n j (QueueCommit Putting window (put j)) of _ (read_some left) (PutCommit.live refl))
        (λ t.
        let miss : window.top ≤ put j = ltb-false _ _ t in
        miss_cases g window.width (wide16 inv.pool (le_refl _) k.sees good.bounds) (view_in g s i) Steps scan (QueuePutRead window) (QueueShift Putting window) _ scan_lt
        (λ l. queue_on g kind L s i n (next_of window.width j) (QueuePutRead window (suc scan)) of _ (read_some left) (again miss left))
        (λ e. queue_on g kind L s i n (next_of window.width j) (QueueShift Putting window) of _ (read_some left) (to_shift e miss left)))

  -- ---- commit: a put whose sub is as it was seen lands in the put window; another starts again
  module _ (window : Span) (seen : ℕ) (now : phase_in g s i ≡ QueueCommit Putting window seen) where
    at_commit : PutCommits s j window seen
    at_commit = subst (Knows s j) now (inv.knows i)

    -- the level that a put goes above
    abbrev level : ℕ
    level = level_of g (put j) window.bottom

    module _ (same : put j ≡ seen) where
      top_is : window.top ≡ top_of f
      top_is = let c = at_commit in not_filled inv.pool (le_refl _) c.sees j c.index_lt (omega (arith, c.below))

      inside : j < f.wide f.tail
      inside = omega (arith, at_commit.index_lt, put_wide inv.pool at_commit.sees top_is)

      level_is : level ≡ higher (put j) (f.base f.tail)
      level_is =
          put_level kind inv.pool window f.tail (le_refl _) at_commit.sees j (omega (arith, inside, w.wide_le f.tail (le_refl _)))
          ∙ ap (higher (put j)) (put_bottom inv.pool at_commit.sees top_is)

      fills : f.base f.tail < upd put j (add32 level 1) j
      fills =
          omega (
            arith,
            level_is,
            upd_same put j (add32 level 1),
            add32_suc level (omega (arith, level_is, put_few inv.pool j, top_few inv.pool, bottom_lt)),
          )

      lands : Steps (landed_of g (view_in g s i) (add32 level 1) (s.second j) (row_above level))
      unfolding apply_in apply_in_by
      lands = ends (final_put _ _ _ _) (rests g kind L s i n s.slot j) (filled (j, inside, fills))

    lost : put j ≢ seen → PutCommit g (put_now f) put n j seen → Steps (lost_of g (view_in g s i) Putting)
    lost other (PutCommit.live e) = absurd (other e)
    lost other (PutCommit.stale m) = rw (lost_restarts g s i Putting) (queue_on g kind L s i n (hop_of g j) (Window Putting) tt _ (omega arith) (PutWindow.any (omega arith)))

    abbrev Commits : Effect → Type 0
    Commits = Unless g s i (QueueResult g L s i n)

    pub put_commit : PutCommit g (put_now f) put n j seen → Steps (queue_commit g (view_in g s i) Putting window seen)
    unfolding queue_commit queue_put_commit commit_by
    put_commit left =
        cases Commits (eqb (put j) seen) _ _
        (λ t. cases Commits _ _ _ (λ u able. lands (eqb-true _ _ t)) (λ u. unless_refused g s i (QueueResult g L s i n)))
        (λ t able. lost (eqb-false _ _ t) left)
        (commit-law g kind s q inv i window seen now).able

  -- ---- shift: the window moves, and every sub is below it; or there is no room, which is the answer; or it has moved before
  module _ (window : Span) (now : phase_in g s i ≡ QueueShift Putting window) where
    at_shift : PutShifts s window
    at_shift = subst (Knows s j) now (inv.knows i)

    -- sub 0 is in every window
    first_reached : s.top ≡ window.top → top_of f ≤ put 0
    first_reached same =
        let e : window.top ≡ top_of f = omega (arith, inv.pool.top) in
        omega (arith, wide1, at_shift.reached 0 (omega (arith, wide1, put_wide inv.pool at_shift.sees e)))

    not_low : s.top ≡ window.top → Low (put_now f) put → ⊥
    not_low same l = omega (arith, l 0 wide1, first_reached same)

    shift_some : PutShift g (put_now f) put n window → 3 ≤ n
    shift_some (PutShift.stale m) = omega arith
    shift_some (PutShift.fresh e m) = m
    shift_some (PutShift.late l m) = m

    moved : (top : ℕ) → top_of f < top → s.top ≡ window.top → 3 ≤ n → Steps (shifted_of g (view_in g s i) Raised Putting top s.mark)
    moved top higher same many =
        let is = apply_raised g s i top in
        moves (shifts_on g (queue_left g L) s i n Putting top s.mark f' _ is (omega arith) (PutWindow.low now_low (omega arith)))
        (up top (restarted g s i Putting) (ap (λ (o : Next State). o.state) is) (rw now refl) (not_low same) now_low)
      where
        f' : Frame
        f' = raised_of f s.next.width top

        now_low : Low (put_now f') put
        now_low m l = omega (arith, inv.pool.subs.put_le m, upd_same f.base (suc (suc f.tail)) top)

    restarts : s.top ≢ window.top → PutShift g (put_now f) put n window → Steps (moved_of g (view_in g s i) j (Window Putting) (s.slot i))
    restarts other (PutShift.stale m) = queue_on g kind L s i n j (Window Putting) tt _ (omega arith) (PutWindow.any (omega arith))
    restarts other (PutShift.fresh e m) = absurd (omega (arith, inv.pool.top))
    restarts other (PutShift.late l m) = queue_on g kind L s i n j (Window Putting) tt _ (omega arith) (PutWindow.low l (omega arith))

    full : s.top ≡ window.top → f.base f.tail < put 0
    full same = omega (arith, first_reached same, bottom_lt)

    new_top : add32 s.top (sizes_in g s).next.depth ≡ s.top + s.next.depth
    new_top =
        ap (add32 s.top) (next_depth kind inv.pool)
        ∙ add32_is s.top s.next.depth (omega (arith, inv.pool.top, top_few inv.pool, inv.pool.size.depth64))

    pub put_shift : PutShift g (put_now f) put n window → Steps (queue_shift g (view_in g s i) Putting window)
    unfolding queue_shift shift_by
    put_shift left =
        cases Steps (eqb s.top window.top) _ _
        (λ t. let same = eqb-true s.top window.top t in
        rw new_top
        (cases Steps _ _ _
        (λ u. moved (s.top + s.next.depth) (omega (arith, inv.pool.top, inv.pool.size.depth1)) same (shift_some left))
        (λ u. queue_nothing g kind L s i n Putting j (filled (0, wide1, full same)))))
        (λ t. restarts (eqb-false _ _ t) left)
