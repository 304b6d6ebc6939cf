-- What the tests of settings and fitness say where they hold: settings within limits have the limits as orders, and a
-- pool that is checked fit has each field of `FitPool`. Each test is read off the choice that it stands in.
use Prim.Native.Nat.{ℕ, ◌+◌, ◌-◌, ◌%◌, ◌<◌, ◌≤◌}
use mathlib.Core.Path.{◌≡◌, refl, sym, subst, ap}
use mathlib.Core.Logic.{◌≢◌}
use mathlib.Core.List.{List}
use mathlib.Core.Bool.{Bool, true, false}
use native.Mathlib.Decide.{ℕ_discrete}
use native.Mathlib.Omega.{arith}
use lib.ListN.{get_or, length}
use lib.Dec.{ltb, leb, eqb}
use borrow.Author.Tests.{ltb-true, ltb-false, lt-ltb, le-ltb, leb-true, eq-eqb, ne_eqb, eqb-true}
use Rattle.laws.specs.Choice.{cond, cases, both_true, all, all_holds, all_below_at}
use Rattle.rules.specs.Answers.{refusal_number, refusal_numbered}
use Rattle.rules.specs.Layout.{head_words, worker_at, set_at, pair_at, needed, settings_of}
use Rattle.rules.specs.Make.{in_edition}
use Rattle.rules.specs.Limits.{limits, queue_limits, settings_fit, windowed, size_limits, size_fit, most_live, Bounds}
use Rattle.rules.specs.Windows.{has_windows, no_size, live_of, nth_size, level_of}
use Rattle.rules.specs.Worker.{slot_at}
use Rattle.rules.specs.Fit.{Checked, Unfit, Fit, sub_fit, subs_fit, phase_fit, past_window, span_limits, seen_fit, worker_limits, worker_fit, workers_fit, no_size_fit, pair_fit, sizes_fit, tops_fit, windows_fit, body_fit, body_checked, head_checked, checked_by, checked_of, refusal_of, SubFits, SizeFits, SpanFits, WindowsFit, FitPool, fitness_of, settings_found}
use Rattle.rules.specs.declared.Settings.{Settings}
use Rattle.rules.specs.declared.Size.{Size}
use Rattle.rules.specs.declared.Slot.{Slot}
use Rattle.rules.proofs.Cells.{level_ge}
use Rattle.rules.specs.declared.Refusal.TheVariants.{NotFit, TooFewWords}
use Rattle.rules.specs.declared.Refusal.{Refusal}
use Rattle.std.specs.Prelude.{Ok, Err}
use Rattle.rules.proofs.Numbered.{number_high, numbered_number}

-- ---- settings
pub settings_bounds : (g : Settings) → settings_fit g ≡ true → Bounds g
unfolding settings_fit
settings_bounds g e =
    let t = all_holds (limits g) (both_true _ _ e).0 in
    record {
      kind1 = leb-true _ _ t.0;
      width1 = leb-true _ _ t.1.0;
      width16 = leb-true _ _ t.1.1.0;
      depth1 = leb-true _ _ t.1.1.1.0;
      depth64 = leb-true _ _ t.1.1.1.1.0;
      shift1 = leb-true _ _ t.1.1.1.1.1.0;
      shift_depth = leb-true _ _ t.1.1.1.1.1.1.0;
      rows2 = leb-true _ _ t.1.1.1.1.1.1.1.0;
      rows1024 = leb-true _ _ t.1.1.1.1.1.1.1.1.0;
      workers1 = leb-true _ _ t.1.1.1.1.1.1.1.1.1.0;
      workers32 = leb-true _ _ t.1.1.1.1.1.1.1.1.1.1.0;
      cells = leb-true _ _ t.1.1.1.1.1.1.1.1.1.1.1.0;
      stride_width = ltb-true _ _ t.1.1.1.1.1.1.1.1.1.1.1.1.0;
    }

-- a queue's shift is its depth, and its rows a multiple of it where windows have no sizes of their own
pub queue_limits_law : (g : Settings) → settings_fit g ≡ true → g.kind ≡ 0 → (g.shift ≡ g.depth) × (windowed g ≡ false → g.rows % g.depth ≡ 0)
unfolding settings_fit cond
queue_limits_law g e k =
    let q : all (queue_limits g) ≡ true = rw (eq-eqb g.kind 0 k) at (both_true (all (limits g)) _ e).1 in
    let t = all_holds (queue_limits g) q in
    (eqb-true _ _ t.0, λ old. eqb-true _ _ (rw old at t.1.0))

-- a size within limits
pub size_fits : (g : Settings) (size : Size) → size_fit g size ≡ true → SizeFits g size
unfolding size_fit
size_fits g size e =
    let t = all_holds (size_limits g size) e in
    record {
      width1 = leb-true _ _ t.0;
      width_most = leb-true _ _ t.1.0;
      depth1 = leb-true _ _ t.1.1.0;
      depth64 = leb-true _ _ t.1.1.1.0;
      depth_half = leb-true _ _ t.1.1.1.1.0;
    }

-- ---- a pool
unfit_fit : (n : Refusal) (g : Settings) → Unfit n ≡ Fit g → ⊥
unfit_fit n g e = let z : ◌≡◌ {A = ℕ} 0 1 = cc in omega arith

-- a test whose failure, or whose success, would have refused
passed_not : (b : Bool) (n : Refusal) (y : Checked) (g : Settings) → cond b (Unfit n) y ≡ Fit g → (b ≡ false) × (y ≡ Fit g)
unfolding cond
passed_not true n y g e = absurd (unfit_fit n g e)
passed_not false n y g e = (refl, e)

passed : (b : Bool) (n : Refusal) (y : Checked) (g : Settings) → cond b y (Unfit n) ≡ Fit g → (b ≡ true) × (y ≡ Fit g)
unfolding cond
passed true n y g e = (refl, e)
passed false n y g e = absurd (unfit_fit n g e)

fit_settings : (g h : Settings) → Fit g ≡ Fit h → g ≡ h
fit_settings g h e = cc

-- a sub: its two last rows are equal, or the one is above the level by 1 to R
pub sub_fits : (g : Settings) (bottom first second : ℕ) → sub_fit g bottom first second ≡ true → SubFits g bottom first second
unfolding sub_fit cond
sub_fits g bottom first second e =
    let level : ℕ = level_of g second bottom in
    let queue : g.kind ≡ 0 → first ≢ second → (ltb level first ≡ true) × (leb (first - level) g.rows ≡ true) =
    λ k n. both_true _ _ (rw (eq-eqb g.kind 0 k, ne_eqb first second n) at e) in
    let stack : 1 ≤ g.kind → leb first g.rows ≡ true =
    λ k. rw (ne_eqb g.kind 0 (λ z. omega arith)) at e in
    record {
      queue_order = λ k. elim (ℕ_discrete first second) [ yes y ↦ omega arith | no n ↦ omega (arith, ltb-true level first (queue k n).0, level_ge g second bottom) ];
      queue_rows = λ k n. let a = ltb-true level first (queue k n).0 in let b = leb-true (first - level) g.rows (queue k n).1 in omega arith;
      queue_level = λ k n. ltb-true _ _ (queue k n).0;
      stack_rows = λ k. leb-true _ _ (stack k);
    }

-- a worker
pub record WorkerFits (g : Settings) (s : Slot) : Type 0 where
  pub number : phase_fit g.kind s.number ≡ true
  pub index : s.index < g.width
  pub scan : s.scan < g.width
  pub seen : seen_fit g s ≡ true

pub worker_fits : (g : Settings) (s : Slot) → worker_fit g s ≡ true → WorkerFits g s
unfolding worker_fit
worker_fits g s e =
    let t = all_holds (worker_limits g s) e in
    record { number = t.0; index = ltb-true _ _ t.1.0; scan = ltb-true _ _ t.1.1.0; seen = t.1.1.1.0 }

-- the window that a queue's worker has seen
pub span_fits : (g : Settings) (s : Slot) → has_windows g ≡ true → past_window s.number ≡ true → seen_fit g s ≡ true → SpanFits g s
unfolding seen_fit cond
span_fits g s has past e =
    let h = both_true (windowed g) _ has in
    let t = all_holds (span_limits g s) (rw (h.0, h.1, past) at e) in
    record { width1 = leb-true _ _ t.0; width_most = leb-true _ _ t.1.0; index = ltb-true _ _ t.1.1.0; scan = ltb-true _ _ t.1.1.1.0 }

pub each_worker : (ws : List ℕ) (g : Settings) (i : ℕ) → i < g.workers → workers_fit ws g ≡ true → WorkerFits g (slot_at g ws (worker_at g i))
unfolding workers_fit
each_worker ws g i l e = worker_fits g _ (all_below_at g.workers _ i l e)

-- a queue's windows
pair_none : (ws : List ℕ) (g : Settings) (k : ℕ) → no_size_fit (nth_size ws g k) ≡ true → nth_size ws g k ≡ no_size
pair_none ws g k e =
    let t = both_true _ _ e in
    λ u. record { width = eqb-true (get_or ws (pair_at g k) 0) 0 t.0 u; depth = eqb-true (get_or ws (pair_at g k + 1) 0) 0 t.1 u }

pub windows_fit_law : (ws : List ℕ) (g : Settings) → has_windows g ≡ true → windows_fit ws g ≡ true → WindowsFit g ws
unfolding windows_fit cond
windows_fit_law ws g has e =
    let t = both_true (leb (get_or ws (set_at g) 0) 1) _ (rw has at e) in
    let u = both_true (all (sizes_fit ws g)) (all (tops_fit ws g)) t.1 in
    let sizes = all_holds (sizes_fit ws g) u.0 in
    let tops = all_holds (tops_fit ws g) u.1 in
    let live = live_of ws g in
    let most = leb-true live most_live sizes.1.0 in
    let pair : (k : ℕ) → k < most_live → pair_fit ws g k ≡ true = λ k l. all_below_at most_live (pair_fit ws g) k l sizes.1.1.1.0 in
    record {
      set_most = leb-true _ _ t.0;
      live1 = leb-true _ _ sizes.0;
      live16 = most;
      next = size_fits g _ sizes.1.1.0;
      size = λ k l. size_fits g _ (rw (lt-ltb k live l) at (pair k (omega arith)));
      none = λ k l m. pair_none ws g k (rw (le-ltb k live l) at (pair k m));
      low = leb-true _ _ tops.0;
      lead = eqb-true _ _ tops.1.0;
    }

body_fit_law : (ws : List ℕ) (h g : Settings) → settings_of ws ≡ h → settings_fit h ≡ true → body_checked ws h ≡ Fit g → FitPool h ws × (h ≡ g)
unfolding body_checked subs_fit slot_at
body_fit_law ws h g s limits e =
    let long = passed_not (ltb (length ws) (needed h)) TooFewWords _ g e in
    let rest = passed (all (body_fit ws h)) NotFit _ g long.1 in
    let t = all_holds (body_fit ws h) rest.0 in
    let worker : (i : ℕ) → i < h.workers → WorkerFits h (slot_at h ws (worker_at h i)) = λ i l. each_worker ws h i l t.1.1.0 in (
      record {
        bounds = settings_bounds h limits;
        enough = ltb-false _ _ long.0;
        settings = s;
        sub = λ j l. sub_fits h _ _ _ (all_below_at h.width _ j l t.1.0);
        index = λ i l. (worker i l).index;
        scan = λ i l. (worker i l).scan;
        span = λ i l has past. span_fits h _ has past (worker i l).seen;
        windows = λ has. windows_fit_law ws h has t.0;
      },
      fit_settings h g rest.1,
    )

-- what is checked fit has passed each test of the head, whatever number another edition would have had
record Passed (ed : ℕ) (ws : List ℕ) (g : Settings) : Type 0 where
  long : ltb (length ws) head_words ≡ false
  asked : settings_fit (in_edition ed (settings_of ws)) ≡ true
  limits : settings_fit (settings_of ws) ≡ true
  edition : eqb (settings_of ws).edition ed ≡ true
  body : body_checked ws (settings_of ws) ≡ Fit g

passed_head : (other : Refusal) (ed : ℕ) (ws : List ℕ) (g : Settings) → checked_by other ed ws ≡ Fit g → Passed ed ws g
unfolding checked_by head_checked
passed_head other ed ws g e =
    let long = passed_not (ltb (length ws) head_words) TooFewWords _ g e in
    let asked = passed (settings_fit (in_edition ed (settings_of ws))) NotFit _ g long.1 in
    let edition = passed (eqb (settings_of ws).edition ed) other _ g asked.1 in
    record {
      long = long.0;
      asked = asked.0;
      limits = subst (λ (x : ℕ). settings_fit (in_edition x (settings_of ws)) ≡ true) (sym (eqb-true _ _ edition.0)) asked.0;
      edition = edition.0;
      body = edition.1;
    }

-- so the check of a move's source finds fit what a call's does
pub fit_with_other : (other other' : Refusal) (ed : ℕ) (ws : List ℕ) (g : Settings) → checked_by other ed ws ≡ Fit g → checked_by other' ed ws ≡ Fit g
unfolding checked_by head_checked cond
fit_with_other other other' ed ws g e = let p = passed_head other ed ws g e in rw (p.long, p.asked, p.edition) p.body

-- a pool that is checked fit
pub fit_pool : (ed : ℕ) (ws : List ℕ) (g : Settings) → checked_of ed ws ≡ Fit g → FitPool g ws
fit_pool ed ws g e =
    let head = passed_head NotFit ed ws g e in
    let p = body_fit_law ws (settings_of ws) g refl head.limits head.body in
    subst (λ (h : Settings). FitPool h ws) p.1 p.0

-- its settings are within limits and it is of the edition asked for, and each worker is in a phase of its kind
pub fit_head : (ed : ℕ) (ws : List ℕ) (g : Settings) → checked_of ed ws ≡ Fit g → (settings_fit g ≡ true) × (g.edition ≡ ed)
fit_head ed ws g e =
    let head = passed_head NotFit ed ws g e in
    subst (λ (x : Settings). (settings_fit x ≡ true) × (x.edition ≡ ed)) (fit_pool ed ws g e).settings (head.limits, eqb-true _ _ head.edition)

-- so it is fit by its own edition
pub fit_own : (ed : ℕ) (ws : List ℕ) (g : Settings) → checked_of ed ws ≡ Fit g → checked_of g.edition ws ≡ Fit g
fit_own ed ws g e = subst (λ (x : ℕ). checked_of x ws ≡ Fit g) (sym (fit_head ed ws g e).1) e

-- the tests behind the settings, each
pub record FitParts (g : Settings) (ws : List ℕ) : Type 0 where
  pub windows : windows_fit ws g ≡ true
  pub subs : subs_fit ws g ≡ true
  pub workers : workers_fit ws g ≡ true

body_parts : (ws : List ℕ) (h g : Settings) → body_checked ws h ≡ Fit g → FitParts h ws × (h ≡ g)
unfolding body_checked
body_parts ws h g e =
    let rest = passed (all (body_fit ws h)) NotFit _ g (passed_not (ltb (length ws) (needed h)) TooFewWords _ g e).1 in
    let t = all_holds (body_fit ws h) rest.0 in
    (record { windows = t.0; subs = t.1.0; workers = t.1.1.0 }, fit_settings h g rest.1)

pub fit_parts : (ed : ℕ) (ws : List ℕ) (g : Settings) → checked_of ed ws ≡ Fit g → FitParts g ws
fit_parts ed ws g e =
    let p = body_parts ws (settings_of ws) g (passed_head NotFit ed ws g e).body in
    subst (λ (h : Settings). FitParts h ws) p.1 p.0

pub fit_worker : (ed : ℕ) (ws : List ℕ) (g : Settings) → checked_of ed ws ≡ Fit g → (i : ℕ) → i < g.workers → WorkerFits g (slot_at g ws (worker_at g i))
fit_worker ed ws g e i l = each_worker ws g i l (fit_parts ed ws g e).workers

pub fit_number : (ed : ℕ) (ws : List ℕ) (g : Settings) → checked_of ed ws ≡ Fit g → (i : ℕ) → i < g.workers → phase_fit g.kind (get_or ws (worker_at g i) 0) ≡ true
unfolding slot_at
fit_number ed ws g e i l = (fit_worker ed ws g e i l).number

-- a refusal's number is not 0, so 0 means that the pool is fit, and any other number is the refusal
Numbered : Settings → Checked → Type 0
Numbered h (Unfit refusal) = 1 ≤ refusal_number refusal
Numbered h (Fit g) = h ≡ g

body_numbered : (ws : List ℕ) (g : Settings) → Numbered g (body_checked ws g)
unfolding body_checked Numbered
body_numbered ws g =
    cases (Numbered g) (ltb (length ws) (needed g)) _ _ (λ e. omega arith)
    (λ e. cases (Numbered g) (all (body_fit ws g)) _ _ (λ f. refl) (λ f. omega arith))

numbered : (other : Refusal) (ed : ℕ) (ws : List ℕ) → Numbered (settings_of ws) (checked_by other ed ws)
unfolding checked_by head_checked Numbered
numbered other ed ws =
    cases (Numbered (settings_of ws)) (ltb (length ws) head_words) _ _ (λ e. omega arith)
    (λ e. cases (Numbered (settings_of ws)) (settings_fit (in_edition ed (settings_of ws))) _ _
    (λ f. cases (Numbered (settings_of ws)) (eqb (settings_of ws).edition ed) _ _ (λ h. body_numbered ws (settings_of ws)) (λ h. omega (arith, number_high other)))
    (λ f. omega arith))

pub refusal_none_by : (other : Refusal) (ed : ℕ) (ws : List ℕ) → refusal_of (checked_by other ed ws) ≡ 0 → checked_by other ed ws ≡ Fit (settings_of ws)
unfolding Numbered
refusal_none_by other ed ws = go (checked_by other ed ws) (numbered other ed ws)
  where
    go : (c : Checked) → Numbered (settings_of ws) c → refusal_of c ≡ 0 → c ≡ Fit (settings_of ws)
    go (Unfit n) h e = absurd (omega (arith, number_high n))
    go (Fit g) h e = rw h refl

pub refusal_none : (ed : ℕ) (ws : List ℕ) → refusal_of (checked_of ed ws) ≡ 0 → checked_of ed ws ≡ Fit (settings_of ws)
refusal_none ed ws = refusal_none_by NotFit ed ws

-- a pool that is not fit, by the number of the refusal
pub refusal_some_by : (c : Checked) → ¬ (refusal_of c ≡ 0) → c ≡ Unfit (refusal_numbered (refusal_of c))
refusal_some_by (Unfit n) h = ap Unfit (sym (numbered_number n))
refusal_some_by (Fit g) h = absurd (h refl)

pub refusal_some : (ed : ℕ) (ws : List ℕ) → ¬ (refusal_of (checked_of ed ws) ≡ 0) → checked_of ed ws ≡ Unfit (refusal_numbered (refusal_of (checked_of ed ws)))
refusal_some ed ws = refusal_some_by (checked_of ed ws)

-- as the code hands it on: nothing of a fit pool, which has the settings that its words hold
pub found_fit : (other : Refusal) (ed : ℕ) (ws : List ℕ) → Ok tt ≡ fitness_of (checked_by other ed ws) → checked_by other ed ws ≡ Fit (settings_of ws)
unfolding Numbered
found_fit other ed ws = go (checked_by other ed ws) (numbered other ed ws)
  where
    go : (c : Checked) → Numbered (settings_of ws) c → Ok tt ≡ fitness_of c → c ≡ Fit (settings_of ws)
    go (Unfit n) h e = let z : ◌≡◌ {A = ℕ} 0 1 = cc in absurd (omega arith)
    go (Fit g) h e = rw h refl

pub found_unfit : (c : Checked) (refusal : Refusal) → Err refusal ≡ fitness_of c → c ≡ Unfit refusal
found_unfit (Unfit n) refusal e = ap Unfit cc
found_unfit (Fit g) refusal e = let z : ◌≡◌ {A = ℕ} 0 1 = cc in absurd (omega arith)

-- or its settings
pub found_settings : (c : Checked) (g : Settings) → Ok g ≡ settings_found c → c ≡ Fit g
found_settings (Unfit n) g e = let z : ◌≡◌ {A = ℕ} 0 1 = cc in absurd (omega arith)
found_settings (Fit h) g e = ap Fit cc

pub found_refusal : (c : Checked) (refusal : Refusal) → Err refusal ≡ settings_found c → c ≡ Unfit refusal
found_refusal (Unfit n) refusal e = ap Unfit cc
found_refusal (Fit g) refusal e = let z : ◌≡◌ {A = ℕ} 0 1 = cc in absurd (omega arith)
