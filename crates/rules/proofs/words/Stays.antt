-- A step that answers 0 leaves a fit pool fit, whatever its words hold, but for a queue's window of its own size that moved: it changes the step count,
-- a stack's window and its worker's words, and it leaves the worker with an index and a scan below the width and in a phase of its kind. (A put that
-- lands may leave a sub unfit, where its count wraps; but that is a final answer.) So a dispatcher checks its pool once, and again where P or T moved:
-- a moved window may leave a damaged pool unfit, where P wraps, or where a sub has rows that the new bottom cuts off. Moved or not, the settings are as
-- they were, and the worker is still busy: its words are stored last.
use mathlib.Core.Path.{◌≡◌, refl, sym, ap, ◌∙◌, subst}
use mathlib.Core.Logic.{◌≢◌}
use mathlib.Core.Bool.{Bool, true, false, false≢true}
use mathlib.Core.List.{List}
use Prim.Native.Nat.{ℕ, suc, ◌+◌, ◌-◌, ◌≤◌, ◌<◌}
use native.Mathlib.Decide.{dec_lt}
use native.Mathlib.Omega.{arith}
use lib.ListN.{length, get_or, set, length-set}
use lib.Seq.{get_or-set_other}
use lib.Dec.{ltb, leb, eqb}
use borrow.Author.Tests.{lt-ltb, ltb-true, leb-false, eqb-true}
use Rattle.laws.specs.Choice.{cond, cond_true, cases, all_below_at}
use Rattle.laws.specs.Wrap.{add32}
use Rattle.rules.specs.Answers.{Out, number_of}
use Rattle.rules.specs.Layout.{head_words, steps_at, puts_at, top_at, mark_at, settings_of, worker_words, lost_word, lost_at, worker_at, first_of, second_of, index_at, set_at, windows_at, windows_words}
use Rattle.rules.specs.Limits.{Bounds, step_limit}
use Rattle.rules.specs.Windows.{has_windows, next_size, live_of, nth_size, bottom_of}
use Rattle.rules.specs.Worker.{slot_at, zero_slot}
use Rattle.rules.specs.Held.{item_at}
use Rattle.rules.specs.Effects.{view_of}
use Rattle.rules.specs.Fit.{Fit, phase_fit, windows_fit, checked_of, SubFits, SizeFits, FitPool}
use Rattle.rules.specs.Begin.{out_of_steps}
use Rattle.rules.specs.Apply.{count_lost, put_shifted, put_raised, put_dropped, put_worker, taken_of, apply_by, apply_of}
use Rattle.rules.specs.Step.{rule_of, slot_step, fit_step}
use Rattle.rules.proofs.Types.{Settings, Sizes, Slot, Effect, Outcome}
use Rattle.rules.specs.declared.Outcome.TheVariants.{Refused as Stopped, Moving as Moves, Lost, Shifted, Raised, Dropped, Landed, Removed, Empty as NoItem, Full as NoRoom}
use Rattle.rules.proofs.Fitness.{WorkerFits, fit_pool, fit_head, fit_parts, fit_worker}
use Rattle.rules.proofs.Numbered.{number_high}
use Rattle.rules.proofs.Workers.{worker_within}
use Rattle.rules.proofs.counts.Sums.{upd_all, upd_self}
use Rattle.rules.proofs.machine.Machine.{Frame, State, size_at, sizes_at, sizes_in, sub_in, view_in, framed_in, after_in}
use Rattle.rules.proofs.machine.Turns.{Common, bottom_in, LiveFits, ItemIn}
use Rattle.rules.proofs.machine.Does.{SameItems, SameWindow, Rises, Drops, Does, SharedAfter, BusyAfter, sized_in, rule_in, zero_seen}
use Rattle.rules.proofs.machine.Slots.{of_both, Blank, blank_read, has_none, has_queue}
use Rattle.rules.proofs.words.Says.{Says}
use Rattle.rules.proofs.words.Fit.{sub_anywhere, checked_fit}
use Rattle.rules.proofs.words.Writes.{HeadKept, settings_kept, slot_off, slot_on, slot_read, raised_length, raised_below, raised_top, dropped_length, dropped_below, dropped_mark}
use Rattle.rules.proofs.words.Stores.{counted_says, index_same, view_same, stores_worker, stores_shifted, stores_raised, stores_dropped}

-- P and T are where they were, where a queue's windows have sizes of their own
abbrev pub Standing : Settings → List ℕ → List ℕ → Type 0
Standing g ws vs = has_windows g ≡ true → (get_or vs top_at 0 ≡ get_or ws top_at 0) × (get_or vs mark_at 0 ≡ get_or ws mark_at 0)

-- what a step of worker i that answers 0 leaves, fit or not
record Left (g : Settings) (i : ℕ) (vs : List ℕ) : Type 0 where
  settings : settings_of vs ≡ g
  busy : get_or vs (worker_at g i) 0 ≢ 0

-- ---- stores of a step that leave the settings
pub lost_length : (ws : List ℕ) (g : Settings) (at : ℕ) → length (count_lost ws g at) ≡ length ws
unfolding count_lost
lost_length ws g at = cases (λ (vs : List ℕ). length vs ≡ length ws) (ltb lost_word (worker_words g.edition)) _ _ (λ e. length-set ws _ _) (λ e. refl)

lost_above : (ws : List ℕ) (g : Settings) (at m : ℕ) → m < at → get_or (count_lost ws g at) m 0 ≡ get_or ws m 0
unfolding count_lost
lost_above ws g at m l =
    cases (λ (vs : List ℕ). get_or vs m 0 ≡ get_or ws m 0) (ltb lost_word (worker_words g.edition)) _ _ (λ e. get_or-set_other ws (lost_at at) m _ 0 (λ u. omega arith)) (λ e. refl)

shifted_length : (ws : List ℕ) (e : Effect) → length (put_shifted ws e) ≡ length ws
unfolding put_shifted
shifted_length ws e = length-set (set ws top_at e.top) mark_at _ ∙ length-set ws top_at _

shifted_off : (ws : List ℕ) (e : Effect) (m : ℕ) → m ≢ top_at → m ≢ mark_at → get_or (put_shifted ws e) m 0 ≡ get_or ws m 0
unfolding put_shifted
shifted_off ws e m a b = get_or-set_other (set ws top_at e.top) mark_at m _ 0 b ∙ get_or-set_other ws top_at m _ 0 a

-- a word that some rows are added to, modulo 2^32, is another
other_sum : (x d : ℕ) → 1 ≤ d → d ≤ 64 → add32 x d ≡ x → ⊥
other_sum x d l m e = omega arith

module _ (ws : List ℕ) (g : Settings) (fit : checked_of g.edition ws ≡ Fit g) where
  pool : FitPool g ws
  pool = fit_pool g.edition ws g fit

  bounds : Bounds g
  bounds = pool.bounds

  -- ---- the state that the words say; beyond the last worker all are idle
  abbrev slots : ℕ → Slot
  slots i = cond (ltb i g.workers) (slot_at g ws (worker_at g i)) zero_slot

  -- a queue's windows, numbered from the take window on
  abbrev frame : Frame
  frame = record { base = bottom_of ws g; wide = λ k. (nth_size ws g k).width; head = 0; tail = live_of ws g - 1 }

  abbrev state : State
  state =
      record {
        steps = get_or ws steps_at 0;
        puts = get_or ws puts_at 0;
        top = get_or ws top_at 0;
        mark = get_or ws mark_at 0;
        next = next_size ws g;
        set = get_or ws (set_at g) 0;
        frame = frame;
        first = first_of ws;
        second = second_of ws;
        item = item_at ws g;
        slot = slots;
      }

  slot_is : (i : ℕ) → i < g.workers → slots i ≡ slot_at g ws (worker_at g i)
  slot_is i l = rw (lt-ltb i g.workers l) (cond_true _ _)

  size_of_law : (k : ℕ) → nth_size ws g k ≡ record { width = (nth_size ws g (0 + k)).width; depth = bottom_of ws g (suc (0 + k)) - bottom_of ws g (0 + k) }
  unfolding bottom_of
  size_of_law k =
      let z : 0 + k ≡ k = omega arith in
      let deep : (nth_size ws g k).depth ≡ bottom_of ws g (suc k) - bottom_of ws g k = omega arith in
      rw z (λ u. record { width = (nth_size ws g k).width; depth = deep u })

  blank_words : has_windows g ≡ false → (k : ℕ) → k < windows_words g.edition → get_or ws (windows_at g + k) 0 ≡ 0
  unfolding windows_fit cond
  blank_words none k l = eqb-true _ _ (all_below_at (windows_words g.edition) _ k l (rw none at (fit_parts g.edition ws g fit).windows))

  says : Says g ws state
  says =
      record {
        long = pool.enough;
        settings = pool.settings;
        steps = refl;
        puts = refl;
        top = refl;
        mark = refl;
        first = λ j l. refl;
        second = λ j l. refl;
        slot = λ i l. sym (slot_is i l);
        cell = λ j r l a b y. refl;
        windows = λ has. record {
          next = refl;
          set = refl;
          live = omega (arith, (pool.windows has).live1);
          size = λ k l. size_of_law k;
          none = λ k l m. (pool.windows has).none k (omega arith) m;
        };
        blank = blank_words;
      }

  slot_fits : (i : ℕ) → WorkerFits g (slots i)
  unfolding phase_fit cond
  slot_fits i =
      cases (WorkerFits g) (ltb i g.workers) _ _ (λ e. fit_worker g.edition ws g fit i (ltb-true _ _ e))
      (λ e. record { index = bounds.width1; scan = bounds.width1; number = of_both g.kind true (λ k. refl); seen = zero_seen g 0 })

  slot_blank : (i : ℕ) → Blank g (slots i)
  slot_blank i =
      cases (Blank g) (ltb i g.workers) _ _
      (λ e. blank_read g _ (fit_worker g.edition ws g fit i (ltb-true _ _ e)) (slot_read g ws (worker_at g i))) (λ e none. (refl, refl))

  -- the windows fit
  live : has_windows g ≡ true → LiveFits g state
  unfolding bottom_of
  live has =
      let w = pool.windows has in
      let n : live_of ws g ≡ suc (live_of ws g - 1) = omega (arith, w.live1) in
      let top : get_or ws top_at 0 ≡ bottom_of ws g (suc (live_of ws g - 1)) = sym w.lead ∙ ap (bottom_of ws g) n in
      record {
        order = omega arith;
        live = omega (arith, w.live16);
        top = top;
        mark = omega (arith, w.low);
        size = λ k a l. subst (SizeFits g) (sized k) (w.size k (omega (arith, w.live1)));
        next = w.next;
        set_most = w.set_most;
      }
    where
      sized : (k : ℕ) → nth_size ws g k ≡ record { width = (nth_size ws g k).width; depth = bottom_of ws g (suc k) - bottom_of ws g k }
      sized k = let deep : (nth_size ws g k).depth ≡ bottom_of ws g (suc k) - bottom_of ws g k = omega arith in λ u. record { width = (nth_size ws g k).width; depth = deep u }

  -- ---- a step of worker i
  module _ (i : ℕ) (li : i < g.workers) (few : get_or ws steps_at 0 < step_limit) where
    abbrev e : Effect
    e = rule_of g (view_in g state i)

    common : Common g state
    common = record { slots = slot_fits; blank = slot_blank; steps_few = omega arith }

    lj : sub_in state i < g.width
    lj = (slot_fits i).index

    does : Does g (view_in g state i) (ItemIn g state i) e
    does = rule_in g bounds state common (sized_in g state live) i

    -- nothing that came or went, and a fit slot
    after_common : Common g (after_in state i e)
    after_common =
        record {
          slots = λ j. upd_all (λ m (y : Slot). WorkerFits g y) slots i e.slot j (λ u. does.slot) (λ n. slot_fits j);
          blank = λ j. upd_all (λ m (y : Slot). Blank g y) slots i e.slot j (λ u. does.blank) (λ n. slot_blank j);
          steps_few = few;
        }

    after_subs : SameItems (view_in g state i) e → (j : ℕ) → j < g.width → SubFits g (bottom_in state) ((after_in state i e).first j) ((after_in state i e).second j)
    after_subs same j l =
        rw (same.first, same.second, upd_self (first_of ws) (sub_in state i), upd_self (second_of ws) (sub_in state i)) (pool.sub j l)

    -- a word before the subs that no step counts
    worker_top : (vs : List ℕ) (m : ℕ) → m < head_words → m ≢ steps_at → get_or (put_worker vs g (worker_at g i) e) m 0 ≡ get_or vs m 0
    unfolding put_worker
    worker_top vs m l n = slot_off g _ (worker_at g i) e.slot m (λ k r u. omega arith) ∙ get_or-set_other vs steps_at m _ 0 n

    moved_by : {A : Type 0} {x y : ℕ} → (has_windows g ≡ true → x ≢ y) → (has_windows g ≡ true → x ≡ y) → (has_windows g ≡ false → A) → A
    moved_by {A} other same none = go (has_windows g) refl
      where
        go : (b : Bool) → has_windows g ≡ b → A
        go true e = absurd (other e (same e))
        go false e = none e

    -- with the windows as they were, or where none has a size of its own
    stays : (vs : List ℕ) (f : Frame) → (has_windows g ≡ true → (f ≡ frame) × SameWindow (view_in g state i) e) → SameItems (view_in g state i) e
        → Says g vs (framed_in state i e f) → checked_of g.edition vs ≡ Fit g
    stays vs f unmoved same said =
        checked_fit g (fit_head g.edition ws g fit).0 bounds.kind1 vs (framed_in state i e f) said
        (record { slots = after_common.slots; blank = after_common.blank; steps_few = after_common.steps_few }) live_after (subs_after (has_windows g) refl)
      where
        live_after : has_windows g ≡ true → LiveFits g (framed_in state i e f)
        live_after has =
            let u = unmoved has in
            let h = live has in
            record {
              order = rw u.0 h.order;
              live = rw u.0 h.live;
              top = rw u.0 (u.1.top ∙ h.top);
              mark = rw u.0 (u.1.mark ∙ h.mark);
              size = rw u.0 h.size;
              next = h.next;
              set_most = h.set_most;
            }

        subs_after : (b : Bool) → has_windows g ≡ b → (j : ℕ) → j < g.width → SubFits g (f.base f.head) ((after_in state i e).first j) ((after_in state i e).second j)
        subs_after true has j l = rw (unmoved has).0 (after_subs same j l)
        subs_after false none j l = sub_anywhere g (bottom_in state) (f.base f.head) _ _ none (after_subs same j l)

    -- a queue's window of its own size that moved has another top
    sizes_are : has_windows g ≡ true → sizes_in g state ≡ sizes_at state
    unfolding sizes_in cond
    sizes_are has = rw has refl

    not_raised : has_windows g ≡ true → Rises g (view_in g state i) e → e.top ≢ get_or ws top_at 0
    not_raised has h u =
        let d : (sizes_in g state).next.depth ≡ (next_size ws g).depth = ap (λ (z : Sizes). z.next.depth) (sizes_are has) in
        let w = (pool.windows has).next in
        other_sum (get_or ws top_at 0) (next_size ws g).depth w.depth1 w.depth64 (sym (ap (add32 (get_or ws top_at 0)) d) ∙ sym h.top ∙ u)

    not_dropped : has_windows g ≡ true → Drops g (view_in g state i) e → e.mark ≢ get_or ws mark_at 0
    unfolding cond
    not_dropped has h u =
        let w = live has in
        let some : 0 < live_of ws g - 1 = two_live (dec_lt 0 (live_of ws g - 1)) in
        let d : (sizes_in g state).after.depth ≡ (size_at frame 1).depth = ap (λ (z : Sizes). z.after.depth) (sizes_are has) ∙ (rw (lt-ltb 0 (live_of ws g - 1) some) refl) in
        let size = w.size 1 (omega arith) some in
        other_sum (get_or ws mark_at 0) (size_at frame 1).depth size.depth1 size.depth64 (sym (ap (add32 (get_or ws mark_at 0)) d) ∙ sym h.mark ∙ u)
      where
        two_live : Dec (0 < live_of ws g - 1) → 0 < live_of ws g - 1
        two_live (yes y) = y
        two_live (no n) =
            let one : live_of ws g - 1 ≡ 0 = omega arith in
            let same : bottom_of ws g (suc (live_of ws g - 1)) ≡ bottom_of ws g 1 = ap (λ (x : ℕ). bottom_of ws g (suc x)) one in
            absurd (omega (arith, h.below, (live has).top, (live has).mark, same))

    by_outcome : (o : Outcome) → SharedAfter g (view_in g state i) (ItemIn g state i) e o
        → number_of (apply_by ws g (worker_at g i) (sub_in state i) e o).answer ≡ 0 → Standing g ws (apply_by ws g (worker_at g i) (sub_in state i) e o).words
        → checked_of g.edition (apply_by ws g (worker_at g i) (sub_in state i) e o).words ≡ Fit g
    unfolding apply_by taken_of
    by_outcome (Stopped n) shared z same = absurd (omega (arith, number_high n))
    by_outcome Moves shared z same = stays _ frame (λ has. (refl, shared.1)) shared.0 (stores_worker g ws state says i li lj few e does.blank shared)
    by_outcome Lost shared z same =
        stays _ frame (λ has. (refl, shared.1)) shared.0 (stores_worker g (count_lost ws g (worker_at g i)) state (counted_says g ws state says i li) i li lj few e does.blank shared)
    by_outcome Shifted shared z same =
        stays _ frame (λ has. absurd (omega (arith, has_queue g has, shared.1))) shared.0 (stores_shifted g ws state says i li lj few e does.blank shared.0)
    by_outcome Raised shared z same =
        moved_by (λ has. not_raised has shared) (λ has. sym (raised_word has) ∙ (same has).0)
        (λ none. stays _ _ (λ has. absurd (false≢true (sym none ∙ has))) shared.items
        (stores_raised g bounds ws state says i li lj few e does.blank live shared (λ has. absurd (false≢true (sym none ∙ has))) (λ has. absurd (false≢true (sym none ∙ has)))))
      where
        raised_word : has_windows g ≡ true → get_or (put_worker (put_raised ws g e) g (worker_at g i) e) top_at 0 ≡ e.top
        raised_word has = worker_top (put_raised ws g e) top_at (omega arith) (λ u. omega arith) ∙ raised_top ws g e (omega (arith, pool.enough))
    by_outcome Dropped shared z same =
        moved_by (λ has. not_dropped has shared) (λ has. sym (dropped_word has) ∙ (same has).1)
        (λ none. stays _ _ (λ has. absurd (false≢true (sym none ∙ has))) shared.items
        (stores_dropped g bounds ws state says i li lj few e does.blank live shared (λ has. absurd (false≢true (sym none ∙ has)))))
      where
        dropped_word : has_windows g ≡ true → get_or (put_worker (put_dropped ws g e) g (worker_at g i) e) mark_at 0 ≡ e.mark
        dropped_word has = worker_top (put_dropped ws g e) mark_at (omega arith) (λ u. omega arith) ∙ dropped_mark ws g e (omega (arith, pool.enough))
    by_outcome (Landed value row stamp) shared z same = absurd (omega arith)
    by_outcome (Removed row) shared z same = absurd (omega arith)
    by_outcome NoItem shared z same = absurd (omega arith)
    by_outcome NoRoom shared z same = absurd (omega arith)

    -- ---- the worker's words are stored last
    worker_left : (us : List ℕ) → length us ≡ length ws → HeadKept ws us → e.slot.number ≢ 0 → Left g i (put_worker us g (worker_at g i) e)
    unfolding put_worker slot_at
    worker_left us long head busy =
        let there : worker_at g i + worker_words g.edition ≤ length us = omega (arith, pool.enough, worker_within g i li) in
        let on = slot_on g (set us steps_at (add32 (get_or us steps_at 0) 1)) (worker_at g i) e.slot (simp length-set there) (λ old. does.blank (has_none g old)) in
        record {
          settings = settings_kept ws (put_worker us g (worker_at g i) e) (λ m s. worker_top us m s.below s.steps ∙ head m s) ∙ pool.settings;
          busy = λ z. busy (sym (ap (λ (x : Slot). x.number) on) ∙ z);
        }

    left_by : (o : Outcome) → BusyAfter e.slot o → SharedAfter g (view_in g state i) (ItemIn g state i) e o
        → number_of (apply_by ws g (worker_at g i) (sub_in state i) e o).answer ≡ 0 → Left g i (apply_by ws g (worker_at g i) (sub_in state i) e o).words
    unfolding apply_by taken_of
    left_by (Stopped n) busy shared z = absurd (omega (arith, number_high n))
    left_by Moves busy shared z = worker_left ws refl (λ m s. refl) busy
    left_by Lost busy shared z = worker_left _ (lost_length ws g (worker_at g i)) (λ m s. lost_above ws g (worker_at g i) m (omega (arith, s.below))) busy
    left_by Shifted busy shared z = worker_left _ (shifted_length ws e) (λ m s. shifted_off ws e m s.top s.mark) busy
    left_by Raised busy shared z = worker_left _ (raised_length ws g e) (λ m s. raised_below ws g e m s.top (omega (arith, s.below))) busy
    left_by Dropped busy shared z = worker_left _ (dropped_length ws g e) (λ m s. dropped_below ws g e m s.mark (omega (arith, s.below))) busy
    left_by (Landed value row stamp) busy shared z = absurd (omega arith)
    left_by (Removed row) busy shared z = absurd (omega arith)
    left_by NoItem busy shared z = absurd (omega arith)
    left_by NoRoom busy shared z = absurd (omega arith)

    rule_stays : number_of (apply_of ws g (worker_at g i) (get_or ws (index_at (worker_at g i)) 0) (rule_of g (view_of ws g (worker_at g i)))).answer ≡ 0
        → Standing g ws (apply_of ws g (worker_at g i) (get_or ws (index_at (worker_at g i)) 0) (rule_of g (view_of ws g (worker_at g i)))).words
        → checked_of g.edition (apply_of ws g (worker_at g i) (get_or ws (index_at (worker_at g i)) 0) (rule_of g (view_of ws g (worker_at g i)))).words ≡ Fit g
    unfolding apply_of
    rule_stays = rw (view_same g ws state says i li lj live, index_same g ws state says i li) (by_outcome e.outcome does.shared)

    rule_left : number_of (apply_of ws g (worker_at g i) (get_or ws (index_at (worker_at g i)) 0) (rule_of g (view_of ws g (worker_at g i)))).answer ≡ 0
        → Left g i (apply_of ws g (worker_at g i) (get_or ws (index_at (worker_at g i)) 0) (rule_of g (view_of ws g (worker_at g i)))).words
    unfolding apply_of
    rule_left = rw (view_same g ws state says i li lj live, index_same g ws state says i li) (left_by e.outcome does.busy does.shared)

  pub step_stays : (i : ℕ) → number_of (fit_step ws g i).answer ≡ 0 → Standing g ws (fit_step ws g i).words → checked_of g.edition (fit_step ws g i).words ≡ Fit g
  unfolding fit_step slot_step
  step_stays i =
      cases After (leb g.workers i) _ _ (λ a z same. absurd (omega arith))
      (λ a. cases After (eqb (get_or ws (worker_at g i) 0) 0) _ _ (λ b z same. absurd (omega arith))
      (λ b. cases After (out_of_steps ws) _ _ (λ c z same. absurd (omega arith)) (λ c. rule_stays i (leb-false _ _ a) (leb-false _ _ c))))
    where
      After : Out → Type 0
      After o = number_of o.answer ≡ 0 → Standing g ws o.words → checked_of g.edition o.words ≡ Fit g

  -- wherever P and T are
  step_left : (i : ℕ) → number_of (fit_step ws g i).answer ≡ 0 → Left g i (fit_step ws g i).words
  unfolding fit_step slot_step
  step_left i =
      cases After (leb g.workers i) _ _ (λ a z. absurd (omega arith))
      (λ a. cases After (eqb (get_or ws (worker_at g i) 0) 0) _ _ (λ b z. absurd (omega arith))
      (λ b. cases After (out_of_steps ws) _ _ (λ c z. absurd (omega arith)) (λ c. rule_left i (leb-false _ _ a) (leb-false _ _ c))))
    where
      After : Out → Type 0
      After o = number_of o.answer ≡ 0 → Left g i o.words

  pub step_busy : (i : ℕ) → number_of (fit_step ws g i).answer ≡ 0 → get_or (fit_step ws g i).words (worker_at g i) 0 ≢ 0
  step_busy i z = (step_left i z).busy

  pub step_settings : (i : ℕ) → number_of (fit_step ws g i).answer ≡ 0 → settings_of (fit_step ws g i).words ≡ g
  step_settings i z = (step_left i z).settings
