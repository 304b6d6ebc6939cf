-- A pool that a move leaves is found fit, of the new edition: its windows lead from T up to P, all of the pool's size, or it has none; its subs fit, by what the
-- move asked of them; and its workers have seen windows of the pool's width.
use Prim.Native.Nat.{ℕ, zero, suc, ◌+◌, ◌-◌, ◌*◌, ◌≤◌, ◌<◌}
use mathlib.Core.Path.{◌≡◌, refl, sym, ap, subst, ◌∙◌}
use mathlib.Core.Bool.{Bool, true, false}
use mathlib.Core.List.{List}
use native.Mathlib.Nat.{le_refl}
use native.Mathlib.Decide.{dec_lt}
use native.Mathlib.Omega.{arith}
use lib.ListN.{get_or, length}
use borrow.Author.Tests.{lt-ltb, le-ltb, le-leb, eq-eqb}
use Rattle.laws.specs.Choice.{cond, all, all_below_at}
use Rattle.rules.specs.Layout.{top_at, mark_at, set_at, windows_at, windows_words, worker_at, first_of, second_of, needed}
use Rattle.rules.specs.Limits.{settings_fit, windowed, size_fit, most_live, Bounds}
use Rattle.rules.specs.Make.{in_edition}
use Rattle.rules.specs.Windows.{has_windows, size_of, next_size, live_of, nth_size, bottom_of, level_of}
use Rattle.rules.specs.Worker.{slot_at}
use Rattle.rules.specs.Fit.{Fit, sub_fit, subs_fit, pair_fit, sizes_fit, tops_fit, windows_fit, workers_fit, checked_of, SubFits, SizeFits, FitPool}
use Rattle.turnaround.specs.Move.{leads, subs_fit_in, may_move, own_live, moved_words, MovesOn}
use Rattle.turnaround.proofs.Types.{Settings, Size}
use Rattle.rules.proofs.Workers.{windowed_not}
use Rattle.rules.proofs.Fitness.{WorkerFits, sub_fits, fit_pool, fit_head, fit_worker}
use Rattle.rules.proofs.machine.Slots.{windowed_none}
use Rattle.rules.proofs.words.Fit.{all_below_law, parts_fit, sub_is_fit, sub_anywhere, worker_is_fit, size_is_fit}
use Rattle.rules.proofs.machine.Moved.{slot_moved}
use Rattle.turnaround.proofs.Slots.{worker_moved}
use Rattle.turnaround.proofs.May.{may_on, may_on_subs, may_back, own_times, own_few, leads_apart, settings_moved}
use Rattle.turnaround.proofs.Words.{head_word, moved_long, moved_settings, first_kept, second_kept, moved_slot, moved_blank, moved_next, moved_set, moved_live, moved_size, moved_none}

-- a fit pool that a move takes, with an area that is long enough
pub record Movable (b : ℕ) (from : List ℕ) (g : Settings) (to : List ℕ) : Type 0 where
  pub fit : checked_of g.edition from ≡ Fit g
  pub leads_on : leads g.edition b ≡ true
  pub may : may_move from g (in_edition b g) ≡ true
  pub long : needed (in_edition b g) ≤ length to

-- where no window has a size of its own, no edition is told from another by a sub
sub_old : (g : Settings) (b x y first second : ℕ) → has_windows g ≡ false → has_windows (in_edition b g) ≡ false → SubFits g x first second → SubFits (in_edition b g) y first second
unfolding level_of cond
sub_old g b x y first second one two f =
    record {
      queue_order = f.queue_order;
      queue_rows = λ k n. rw (windowed_none (in_edition b g) k two) (rw (windowed_none g k one) at (f.queue_rows k n));
      queue_level = λ k n. rw (windowed_none (in_edition b g) k two) (rw (windowed_none g k one) at (f.queue_level k n));
      stack_rows = f.stack_rows;
    }

module _ (b : ℕ) (from : List ℕ) (g : Settings) (to : List ℕ) (m : Movable b from g to) where
  abbrev h : Settings
  h = in_edition b g

  abbrev moved : List ℕ
  moved = moved_words from g to h

  pub source_pool : FitPool g from
  source_pool = fit_pool g.edition from g m.fit

  bounds : Bounds g
  bounds = source_pool.bounds

  pub source_long : needed g ≤ length from
  source_long = source_pool.enough

  pub goes_on_law : has_windows h ≡ true → MovesOn from g
  goes_on_law has = may_on from g h m.may has

  pub few_live : has_windows h ≡ true → own_live from g ≤ most_live
  few_live has = own_few from g (goes_on_law has)

  pub limits_moved : settings_fit h ≡ true
  limits_moved = settings_moved from g b m.may (fit_head g.edition from g m.fit).0

  pub was_old : windowed h ≡ true → g.edition < 2
  was_old w = windowed_not g (leads_apart g b m.leads_on w)

  pub mark_kept : get_or moved mark_at 0 ≡ get_or from mark_at 0
  mark_kept = head_word from g to b source_long m.long few_live mark_at (omega arith) (λ u. omega arith)

  pub top_kept : get_or moved top_at 0 ≡ get_or from top_at 0
  top_kept = head_word from g to b source_long m.long few_live top_at (omega arith) (λ u. omega arith)

  -- ---- the windows
  module _ (has : has_windows h ≡ true) where
    on : MovesOn from g
    on = goes_on_law has

    size : (k : ℕ) → k < own_live from g → nth_size moved h k ≡ size_of g
    size k l = moved_size from g to b source_long m.long few_live has k l

    live : live_of moved h ≡ own_live from g
    live = moved_live from g to b source_long m.long few_live has

    depth_is : (k : ℕ) → k < own_live from g → (nth_size moved h k).depth ≡ g.depth
    depth_is k l = ap (λ (z : Size). z.depth) (size k l)

    pub moved_bottom : (k : ℕ) → k ≤ own_live from g → bottom_of moved h k ≡ get_or from mark_at 0 - g.depth + k * g.depth
    unfolding bottom_of
    moved_bottom zero l = omega (arith, mark_kept, depth_is 0 (omega arith))
    moved_bottom (suc k) l = omega (arith, moved_bottom k (omega arith), depth_is k l)

    own_fits : SizeFits h (size_of g)
    own_fits =
        record { width1 = bounds.width1; width_most = le_refl _; depth1 = bounds.depth1; depth64 = bounds.depth64; depth_half = bounds.rows2 }

    fits : (z : Size) → z ≡ size_of g → size_fit h z ≡ true
    fits z e = size_is_fit h z (subst (SizeFits h) (sym e) own_fits)

    pair : (k : ℕ) → k < most_live → pair_fit moved h k ≡ true
    unfolding cond
    pair k l = elim (dec_lt k (own_live from g)) [
      | yes y ↦ rw (live, lt-ltb k (own_live from g) y) (fits (nth_size moved h k) (size k y))
      | no n ↦
          let none = moved_none from g to b source_long m.long few_live has k (omega arith) l in
          rw (live, le-ltb k (own_live from g) (omega arith), ap (λ (z : Size). z.width) none, ap (λ (z : Size). z.depth) none) refl
    ]

    sizes : all (sizes_fit moved h) ≡ true
    sizes =
        rw (
          le-leb 1 (live_of moved h) (omega (arith, live)),
          le-leb (live_of moved h) most_live (omega (arith, live, few_live has)),
          fits (next_size moved h) (moved_next from g to b source_long m.long few_live has),
          all_below_law most_live (pair_fit moved h) pair,
        ) refl

    tops : all (tops_fit moved h) ≡ true
    tops =
        let lead : bottom_of moved h (live_of moved h) ≡ get_or moved top_at 0 =
        ap (bottom_of moved h) live ∙ moved_bottom (own_live from g) (le_refl _)
        ∙ omega (arith, own_times from g on, on.order, on.deep) ∙ sym top_kept in
        rw (
          le-leb (nth_size moved h 0).depth (get_or moved mark_at 0) (omega (arith, mark_kept, depth_is 0 (omega arith), on.deep)),
          eq-eqb (bottom_of moved h (live_of moved h)) (get_or moved top_at 0) lead,
        ) refl

    windows_some : windows_fit moved h ≡ true
    unfolding windows_fit cond
    windows_some =
        rw (has, le-leb (get_or moved (set_at h) 0) 1 (omega (arith, moved_set from g to b source_long m.long few_live has)), sizes, tops) refl

  windows_none : has_windows h ≡ false → windows_fit moved h ≡ true
  unfolding windows_fit cond
  windows_none none =
      rw none
      (all_below_law (windows_words b) _ (λ k l. eq-eqb (get_or moved (windows_at h + k) 0) 0 (moved_blank from g to b source_long m.long few_live none k l)))

  windows_fit_law : windows_fit moved h ≡ true
  windows_fit_law = go (has_windows h) refl
    where
      go : (t : Bool) → has_windows h ≡ t → windows_fit moved h ≡ true
      go true e = windows_some e
      go false e = windows_none e

  -- ---- the subs
  asked : subs_fit_in from h ≡ true → (j : ℕ) → j < g.width → sub_fit h (get_or from mark_at 0 - g.depth) (first_of from j) (second_of from j) ≡ true
  asked e j l = all_below_at g.width (λ j. sub_fit h (get_or from mark_at 0 - g.depth) (first_of from j) (second_of from j)) j l e

  sub_fit_law : (j : ℕ) → j < g.width → sub_fit h (bottom_of moved h 0) (first_of from j) (second_of from j) ≡ true
  sub_fit_law j l = go (has_windows h) refl (has_windows g) refl
    where
      go : (t : Bool) → has_windows h ≡ t → (u : Bool) → has_windows g ≡ u → sub_fit h (bottom_of moved h 0) (first_of from j) (second_of from j) ≡ true
      go true e u f =
          let low : bottom_of moved h 0 ≡ get_or from mark_at 0 - g.depth = omega (arith, moved_bottom e 0 (omega arith)) in
          rw low (asked (may_on_subs from g h m.may e) j l)
      go false e true f =
          sub_is_fit h _ _ _ bounds.kind1
          (sub_anywhere h _ (bottom_of moved h 0) (first_of from j) (second_of from j) e (sub_fits h _ _ _ (asked (may_back from g h m.may e f).subs j l)))
      go false e false f = sub_is_fit h _ _ _ bounds.kind1 (sub_old g b _ (bottom_of moved h 0) (first_of from j) (second_of from j) f e (source_pool.sub j l))

  subs_fit_law : subs_fit moved h ≡ true
  unfolding subs_fit
  subs_fit_law =
      all_below_law g.width _ (λ j l.
      rw (first_kept from g to b source_long m.long few_live j l, second_kept from g to b source_long m.long few_live j l) (sub_fit_law j l))

  -- ---- the workers
  pub slots_moved : (i : ℕ) → i < g.workers → slot_at h moved (worker_at h i) ≡ slot_moved g h (slot_at g from (worker_at g i))
  slots_moved = moved_slot from g to b source_long m.long few_live was_old

  workers_fit_law : workers_fit moved h ≡ true
  unfolding workers_fit
  workers_fit_law =
      all_below_law g.workers _ (λ i l.
      worker_is_fit h (slot_at h moved (worker_at h i))
      (subst (WorkerFits h) (sym (slots_moved i l)) (worker_moved g b (slot_at g from (worker_at g i)) bounds (fit_worker g.edition from g m.fit i l))))

  -- ---- the pool
  pub fit_moved : checked_of b moved ≡ Fit h
  fit_moved =
      parts_fit h moved limits_moved (moved_long from g to b source_long m.long few_live)
      (moved_settings from g to b source_long m.long few_live source_pool.settings)
      (record { windows = windows_fit_law; subs = subs_fit_law; workers = workers_fit_law })
