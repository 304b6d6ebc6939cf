-- Words that say a machine's state with fit slots, subs and windows are checked fit: no call on a pool from make answers 21 or 23.
use mathlib.Core.Path.{◌≡◌, refl, sym, ap, ◌∙◌, subst}
use mathlib.Core.Bool.{Bool, true, false}
use mathlib.Core.List.{List}
use Prim.Native.Nat.{ℕ, zero, suc, ◌+◌, ◌-◌, ◌≤◌, ◌<◌}
use native.Mathlib.Decide.{dec_lt}
use native.Mathlib.Omega.{arith}
use lib.ListN.{length, get_or}
use lib.Dec.{eqb}
use borrow.Author.Tests.{le-ltb, le-leb, lt-ltb, eq-eqb, eqb-true, eqb-false}
use Rattle.laws.specs.Choice.{cond, cases, all, all_below}
use Rattle.rules.specs.Layout.{head_words, top_at, mark_at, worker_at, set_at, windows_at, windows_words, needed, settings_of}
use Rattle.rules.specs.Make.{in_edition}
use Rattle.rules.specs.Limits.{settings_fit, size_fit, most_live}
use Rattle.rules.specs.Windows.{has_windows, next_size, live_of, nth_size, bottom_of, level_of}
use Rattle.rules.specs.Worker.{slot_at}
use Rattle.rules.specs.Fit.{Fit, sub_fit, subs_fit, worker_fit, workers_fit, pair_fit, sizes_fit, tops_fit, windows_fit, body_checked, head_checked, checked_by, checked_of, SubFits, SizeFits}
use Rattle.rules.proofs.Types.{Settings, Size, Slot}
use Rattle.rules.proofs.Fitness.{WorkerFits, FitParts}
use Rattle.rules.proofs.machine.Machine.{State}
use Rattle.rules.proofs.machine.Slots.{windowed_none}
use Rattle.rules.proofs.machine.Turns.{Common, bottom_in, LiveFits}
use Rattle.rules.proofs.words.Says.{Says, WindowsSay, bottoms}
use Rattle.rules.specs.declared.Refusal.TheVariants.{NotFit}

-- a test that holds at each number below the bound
pub all_below_law : (n : ℕ) (p : ℕ → Bool) → ((i : ℕ) → i < n → p i ≡ true) → all_below n p ≡ true
unfolding all_below
all_below_law zero p h = refl
all_below_law (suc n) p h = rw (all_below_law n p (λ i l. h i (omega arith)), h n (omega arith)) refl

-- ---- the check, from its parts
module _ (g : Settings) (ws : List ℕ) (limits : settings_fit g ≡ true) (long : needed g ≤ length ws) (settings : settings_of ws ≡ g) (parts : FitParts g ws) where
  body_fit_law : body_checked ws g ≡ Fit g
  unfolding body_checked cond
  body_fit_law = rw (le-ltb (length ws) (needed g) long, parts.windows, parts.subs, parts.workers) refl

  head_fit : head_checked NotFit g.edition ws g ≡ Fit g
  unfolding head_checked cond
  head_fit = let own : settings_fit (in_edition g.edition g) ≡ true = limits in rw (own, eq-eqb g.edition g.edition refl) body_fit_law

  pub parts_fit : checked_of g.edition ws ≡ Fit g
  unfolding checked_by cond
  parts_fit = rw (le-ltb (length ws) head_words (omega arith), settings) head_fit

-- ---- a sub
pub sub_is_fit : (g : Settings) (bottom first second : ℕ) → g.kind ≤ 1 → SubFits g bottom first second → sub_fit g bottom first second ≡ true
unfolding sub_fit
sub_is_fit g bottom first second kind1 h =
    cases P (eqb g.kind 0) _ _
    (λ e.
    let k : g.kind ≡ 0 = eqb-true _ _ e in
    let level : ℕ = level_of g second bottom in
    cases P (eqb first second) _ _ (λ same. refl)
    (λ other.
    let n = eqb-false first second other in
    let a = h.queue_level k n in
    let b = h.queue_rows k n in
    rw (lt-ltb level first a, le-leb (first - level) g.rows (omega arith)) refl))
    (λ e.
    let n = eqb-false g.kind 0 e in
    le-leb first g.rows (h.stack_rows (omega arith)))
  where
    P : Bool → Type 0
    P b = b ≡ true

-- where windows have no sizes of their own a bottom says nothing
pub sub_anywhere : (g : Settings) (a b first second : ℕ) → has_windows g ≡ false → SubFits g a first second → SubFits g b first second
unfolding level_of cond
sub_anywhere g a b first second none h =
    record {
      queue_order = h.queue_order;
      queue_rows = λ k n. let old = windowed_none g k none in rw old (rw old at (h.queue_rows k n));
      queue_level = λ k n. let old = windowed_none g k none in rw old (rw old at (h.queue_level k n));
      stack_rows = h.stack_rows;
    }

-- ---- a worker
pub worker_is_fit : (g : Settings) (s : Slot) → WorkerFits g s → worker_fit g s ≡ true
unfolding worker_fit
worker_is_fit g s h = rw (h.number, lt-ltb s.index g.width h.index, lt-ltb s.scan g.width h.scan, h.seen) refl

-- ---- a size, and the windows
pub size_is_fit : (g : Settings) (size : Size) → SizeFits g size → size_fit g size ≡ true
unfolding size_fit
size_is_fit g size h =
    rw (
      le-leb 1 size.width h.width1,
      le-leb size.width g.width h.width_most,
      le-leb 1 size.depth h.depth1,
      le-leb size.depth 64 h.depth64,
      le-leb _ g.rows h.depth_half,
    ) refl

module _ (g : Settings) (ws : List ℕ) (s : State) (says : Says g ws s) where
  module _ (has : has_windows g ≡ true) (h : LiveFits g s) where
    abbrev win : WindowsSay g ws s
    win = says.windows has

    sizes_fit_law : all (sizes_fit ws g) ≡ true
    unfolding cond size_fit
    sizes_fit_law =
        let live : live_of ws g ≡ suc s.frame.tail - s.frame.head = win.live in
        rw (
          le-leb 1 (live_of ws g) (omega (arith, h.order)),
          le-leb (live_of ws g) most_live (omega (arith, h.live, h.order)),
          size_is_fit g (next_size ws g) (subst (SizeFits g) (sym win.next) h.next),
          all_below_law most_live (pair_fit ws g) pair,
        ) refl
      where
        pair : (k : ℕ) → k < most_live → pair_fit ws g k ≡ true
        pair k l = elim (dec_lt k (live_of ws g)) [
          | yes y ↦
              let in_live : s.frame.head + k ≤ s.frame.tail = omega (arith, win.live, h.order) in
              rw (lt-ltb k (live_of ws g) y) (size_is_fit g (nth_size ws g k) (subst (SizeFits g) (sym (win.size k in_live)) (h.size (s.frame.head + k) (omega arith) in_live)))
          | no n ↦
              let beyond = win.none k (omega (arith, win.live, h.order)) l in
              rw (le-ltb k (live_of ws g) (omega arith), ap (λ (z : Size). z.width) beyond, ap (λ (z : Size). z.depth) beyond) refl
        ]

    tops_fit_law : all (tops_fit ws g) ≡ true
    tops_fit_law =
        let z : s.frame.head + 0 ≡ s.frame.head = omega arith in
        let deep : (nth_size ws g 0).depth ≡ s.frame.base (suc s.frame.head) - s.frame.base s.frame.head =
        ap (λ (y : Size). y.depth) (win.size 0 (omega (arith, h.order))) ∙ (rw z refl) in
        let end : s.frame.head + live_of ws g ≡ suc s.frame.tail = omega (arith, win.live, h.order) in
        let lead : bottom_of ws g (live_of ws g) ≡ get_or ws top_at 0 =
        bottoms g s h ws says has (live_of ws g) (omega arith) ∙ ap s.frame.base end ∙ sym h.top ∙ sym says.top in
        rw (le-leb (nth_size ws g 0).depth (get_or ws mark_at 0) (omega (arith, says.mark, h.mark)), eq-eqb (bottom_of ws g (live_of ws g)) (get_or ws top_at 0) lead) refl

    windows_fit_law : windows_fit ws g ≡ true
    unfolding windows_fit cond
    windows_fit_law = rw (has, le-leb (get_or ws (set_at g) 0) 1 (omega (arith, win.set, h.set_most)), sizes_fit_law, tops_fit_law) refl

  blank_fit : has_windows g ≡ false → windows_fit ws g ≡ true
  unfolding windows_fit cond
  blank_fit none = rw none (all_below_law (windows_words g.edition) _ (λ k l. eq-eqb (get_or ws (windows_at g + k) 0) 0 (says.blank none k l)))

-- ---- the pool
module _ (g : Settings) (limits : settings_fit g ≡ true) (kind1 : g.kind ≤ 1) (ws : List ℕ) (s : State) (says : Says g ws s) (common : Common g s)
    (live : has_windows g ≡ true → LiveFits g s) (subs : (j : ℕ) → j < g.width → SubFits g (bottom_in s) (s.first j) (s.second j)) where
  windows_said : windows_fit ws g ≡ true
  windows_said = go (has_windows g) refl
    where
      go : (b : Bool) → has_windows g ≡ b → windows_fit ws g ≡ true
      go true e = windows_fit_law g ws s says e (live e)
      go false e = blank_fit g ws s says e

  sub_said : (j : ℕ) → j < g.width → SubFits g (bottom_of ws g 0) (s.first j) (s.second j)
  sub_said j l = go (has_windows g) refl
    where
      go : (b : Bool) → has_windows g ≡ b → SubFits g (bottom_of ws g 0) (s.first j) (s.second j)
      go true e =
          let z : s.frame.head + 0 ≡ s.frame.head = omega arith in
          let same : bottom_of ws g 0 ≡ bottom_in s = bottoms g s (live e) ws says e 0 (omega (arith, (live e).order)) ∙ ap s.frame.base z in
          subst (λ (b : ℕ). SubFits g b (s.first j) (s.second j)) (sym same) (subs j l)
      go false e = sub_anywhere g (bottom_in s) (bottom_of ws g 0) (s.first j) (s.second j) e (subs j l)

  subs_fit_law : subs_fit ws g ≡ true
  unfolding subs_fit
  subs_fit_law =
      all_below_law g.width _ (λ j l. rw (says.first j l, says.second j l) (sub_is_fit g (bottom_of ws g 0) (s.first j) (s.second j) kind1 (sub_said j l)))

  workers_fit_law : workers_fit ws g ≡ true
  unfolding workers_fit
  workers_fit_law = all_below_law g.workers _ (λ i l. worker_is_fit g (slot_at g ws (worker_at g i)) (subst (WorkerFits g) (sym (says.slot i l)) (common.slots i)))

  pub checked_fit : checked_of g.edition ws ≡ Fit g
  checked_fit = parts_fit g ws limits says.long says.settings (record { windows = windows_said; subs = subs_fit_law; workers = workers_fit_law })
