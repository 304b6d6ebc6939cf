-- One pool in two areas stays one: a call finds both fit or gives both the same refusal, reads the same of both, so that it goes by the same rule with
-- the same effect, and stores at the same places. So the answers of a list of calls are the same one by one.
use Prim.Native.Nat.{ℕ, ◌+◌, ◌*◌, ◌<◌}
use mathlib.Core.Path.{◌≡◌, refl, sym, subst, ◌∙◌, ap}
use mathlib.Core.Bool.{false≢true}
use mathlib.Core.List.{List, [], ◌∷◌}
use native.Mathlib.Omega.{arith}
use lib.ListN.{get_or, length}
use lib.Dec.{leb}
use borrow.Author.Tests.{le-ltb, leb-false, eq-eqb}
use Rattle.laws.specs.Choice.{cond, cond_true, cond_both, cond_under}
use Rattle.laws.specs.Wrap.{sub32}
use Rattle.rules.specs.Answers.{Out, refuse}
use Rattle.rules.specs.Layout.{head_words, steps_at, puts_at, top_at, mark_at, first_at, second_at, worker_at, index_at, phase_word, index_word, cell_words, cell_of, cells_at, needed}
use Rattle.rules.specs.Limits.{windowed, Bounds, settings_fit}
use Rattle.rules.specs.Fit.{Checked, Unfit, Fit, body_checked, head_checked, checked_by, checked_of, FitPool}
use Rattle.rules.specs.Begin.{idle_at, out_of_steps, slot_begin, fit_begin, checked_begin}
use Rattle.rules.specs.Worker.{encode, encode_phase}
use Rattle.rules.specs.Resize.{fit_set_size, checked_set_size}
use Rattle.rules.specs.Held.{item_at, held_items}
use Rattle.rules.specs.Apply.{apply_by, apply_of}
use Rattle.rules.specs.Step.{rule_of, slot_step, fit_step, checked_step}
use Rattle.rules.specs.Run.{Call, begin_put, begin_take, step, set_size, call_of, measures_at, event_of, run}
use Rattle.rules.specs.Consequences.{words_after}
use Rattle.rules.specs.Make.{in_edition}
use Rattle.turnaround.specs.Turnaround.{SamePool, SameItems, InStep, Lockstep}
use Rattle.rules.specs.declared.Outcome.TheVariants.{Refused, Moving, Lost, Shifted, Raised, Dropped, Landed, Removed, Empty, Full}
use Rattle.turnaround.proofs.Types.{Settings, Side, Putting, Taking, Effect, Outcome}
use Rattle.rules.proofs.Workers.{low_read}
use Rattle.rules.proofs.Cells.{cell_lt}
use Rattle.rules.proofs.Fitness.{settings_bounds, fit_pool}
use Rattle.rules.proofs.Hops.{hops_same}
use Rattle.strides.proofs.Alike.{Alike, in_other, measures_alike, rule_same, view_same, held_same, taken_same, body_same}
use Rattle.strides.proofs.Checked.{checked_call, call_is, unfit_call}
use Rattle.turnaround.proofs.Stores.{windowed_old, shared, reads, sub_stored, shifted_stored, raised_stored, dropped_stored, slot_stored, worker_stored, landed_stored, counted_stored}
use Rattle.rules.specs.declared.Refusal.TheVariants.{NotFit}
use Rattle.rules.specs.declared.Refusal.{Refusal}

-- ---- what is read
module _ (g : Settings) (e : ℕ) (ws vs : List ℕ) (pool : SamePool g ws (in_edition e g) vs) where
  abbrev h : Settings
  h = in_edition e g

  -- neither has windows with sizes of their own
  none_sized : windowed h ≡ windowed g
  none_sized = windowed_old h pool.old_two ∙ sym (windowed_old g pool.old_one)

  reads_alike : Alike g g.stride e ws vs
  reads_alike =
      record {
        sized = none_sized;
        behind = λ w. absurd (false≢true (sym (windowed_old g pool.old_one) ∙ w));
        puts = reads g e ws vs pool (shared puts_at) (omega arith, λ p s. s.puts);
        top = reads g e ws vs pool (shared top_at) (omega arith, λ p s. s.top);
        mark = reads g e ws vs pool (shared mark_at) (omega arith, λ p s. s.mark);
        first = λ j l. reads g e ws vs pool (shared (first_at j)) (omega arith, λ p s u. omega (arith, s.below));
        second = λ j l. reads g e ws vs pool (shared (second_at j)) (omega arith, λ p s u. omega (arith, s.below));
        word = λ i k l r. pool.worker i k l (low_read g.edition k pool.old_one r);
      }

  item_same : Bounds g → (j r : ℕ) → j < g.width → item_at vs h j r ≡ item_at ws g j r
  item_same bounds j r l =
      let cell = cell_words * (j * g.rows + cell_of g r) in
      let below = cell_lt g j (sub32 r 1) bounds l in
      let value = pool.cell cell (omega arith) in
      let here : (f : ℕ) → cells_at (in_edition f g) + (cell + 1) ≡ cells_at (in_edition f g) + cell + 1 = λ f. omega arith in
      let stamp = rw (here g.edition, here e) at (pool.cell (cell + 1) (omega arith)) in
      λ u. record { value = value u; stamp = stamp u }

  items_alike : Bounds g → held_items vs h ≡ held_items ws g
  items_alike bounds = held_same g g.stride e ws vs reads_alike (item_same bounds) g.width (omega arith)

  pub number_same : (i : ℕ) → i < g.workers → get_or vs (worker_at h i) 0 ≡ get_or ws (worker_at g i) 0
  number_same i li =
      let here : (f : ℕ) → worker_at (in_edition f g) i + 0 ≡ worker_at (in_edition f g) i = λ f. omega arith in
      rw (here g.edition, here e) at (pool.worker i phase_word li (omega arith))

  -- ---- a call on a fit pool
  pub record Both (one two : Out) : Type 0 where
    pub answer : two.answer ≡ one.answer
    pub later : SamePool g one.words h two.words

  refused_both : (n : Refusal) → Both (refuse n ws) (refuse n vs)
  refused_both n = record { answer = refl; later = pool }

  module _ (fit : FitPool g ws) (i : ℕ) (li : i < g.workers) where
    abbrev at : ℕ
    at = worker_at g i

    abbrev to : ℕ
    to = worker_at h i

    apply_both : (j : ℕ) (f : Effect) (o : Outcome) → j < g.width → Both (apply_by ws g at j f o) (apply_by vs h to j f o)
    unfolding apply_by
    apply_both j f (Refused n) l = refused_both n
    apply_both j f Moving l = record { answer = refl; later = worker_stored g e i li f pool }
    apply_both j f Lost l = record { answer = refl; later = worker_stored g e i li f (counted_stored g e i li pool) }
    apply_both j f Shifted l = record { answer = refl; later = worker_stored g e i li f (shifted_stored g e f pool) }
    apply_both j f Raised l = record { answer = refl; later = worker_stored g e i li f (raised_stored g e f pool) }
    apply_both j f Dropped l = record { answer = refl; later = worker_stored g e i li f (dropped_stored g e f pool) }
    apply_both j f (Landed value row stamp) l =
        record { answer = refl; later = worker_stored g e i li f (landed_stored g e fit.bounds j l value row stamp f pool) }
    apply_both j f (Removed row) l =
        record {
          answer = taken_same g g.stride e ws vs reads_alike (item_same fit.bounds) j row l;
          later = worker_stored g e i li f (sub_stored g e j f l pool);
        }
    apply_both j f Empty l = record { answer = refl; later = worker_stored g e i li f pool }
    apply_both j f Full l = record { answer = refl; later = worker_stored g e i li f pool }

    abbrev steps_same : get_or vs steps_at 0 ≡ get_or ws steps_at 0
    steps_same = reads g e ws vs pool (shared steps_at) (omega arith, λ p s. s.steps)

    index_same : get_or vs (index_at to) 0 ≡ get_or ws (index_at at) 0
    index_same = pool.worker i index_word li (omega arith)

    step_both : Both (slot_step ws g at) (slot_step vs h to)
    unfolding slot_step apply_of rule_of
    step_both =
        let low = fit.index i li in
        rw (number_same i li, steps_same, index_same, view_same g g.stride e ws vs reads_alike i li low, rule_same g g.stride e none_sized (hops_same g e) _ _)
        (cond_both Both (idle_at ws at) (λ idle. refused_both _) (λ busy. cond_both Both (out_of_steps ws) (λ spent. refused_both _) (λ left. apply_both _ _ _ low)))

    begin_both : (side : Side) (value : ℕ) → Both (slot_begin ws g at side value) (slot_begin vs h to side value)
    unfolding slot_begin encode encode_phase
    begin_both side value =
        rw (number_same i li, steps_same, index_same)
        (cond_both Both (idle_at ws at)
        (λ idle. cond_both Both (out_of_steps ws) (λ spent. refused_both _) (λ left. record { answer = refl; later = slot_stored g e i li _ pool }))
        (λ busy. refused_both _))

  step_fit : FitPool g ws → (i : ℕ) → Both (fit_step ws g i) (fit_step vs h i)
  unfolding fit_step
  step_fit fit i = cond_both Both (leb g.workers i) (λ many. refused_both _) (λ few. step_both fit i (leb-false _ _ few))

  begin_fit : FitPool g ws → (i : ℕ) (side : Side) (value : ℕ) → Both (fit_begin ws g i side value) (fit_begin vs h i side value)
  unfolding fit_begin
  begin_fit fit i side value = cond_both Both (leb g.workers i) (λ many. refused_both _) (λ few. begin_both fit i (leb-false _ _ few) side value)

  -- a size is refused in both
  size_fit_law : (width depth : ℕ) → Both (fit_set_size ws g (record { width = width; depth = depth })) (fit_set_size vs h (record { width = width; depth = depth }))
  unfolding fit_set_size cond
  size_fit_law width depth = rw (windowed_old h pool.old_two, windowed_old g pool.old_one) (refused_both NotFit)

  fit_both : FitPool g ws → (c : Call) → Both (checked_call ws (Fit g) c) (checked_call vs (Fit h) c)
  unfolding checked_begin checked_step checked_set_size
  fit_both fit (begin_put i v) = begin_fit fit i Putting v
  fit_both fit (begin_take i) = begin_fit fit i Taking 0
  fit_both fit (step i) = step_fit fit i
  fit_both fit (set_size width depth) = size_fit_law width depth

  -- ---- the check: it finds in both what it finds in the one
  abbrev pub found : Checked → Checked
  found = in_other g g.stride e

  body_both : body_checked vs h ≡ found (body_checked ws g)
  body_both =
      body_same g g.stride e ws vs reads_alike (rw (le-ltb (length vs) (needed h) pool.enough_two, le-ltb (length ws) (needed g) pool.enough_one) refl)

  limits_both : settings_fit (in_edition e h) ≡ settings_fit (in_edition g.edition g)
  unfolding settings_fit
  limits_both = rw none_sized refl

  head_both : head_checked NotFit e vs h ≡ found (head_checked NotFit g.edition ws g)
  unfolding head_checked
  head_both =
      rw (
        limits_both,
        body_both,
        eq-eqb e e refl,
        eq-eqb g.edition g.edition refl,
        cond_under found (settings_fit (in_edition g.edition g)) _ _,
        cond_true (found (body_checked ws g)) (Unfit NotFit),
        cond_true (body_checked ws g) (Unfit NotFit),
      )
      refl

  pub checked_both : checked_of e vs ≡ found (checked_of g.edition ws)
  unfolding checked_by cond
  checked_both =
      rw (
        le-ltb (length vs) head_words (omega (arith, pool.enough_two)),
        le-ltb (length ws) head_words (omega (arith, pool.enough_one)),
        pool.settings_one,
        pool.settings_two,
      )
      head_both

  pub call_both : (c : Call) → Both (call_of g.edition ws c) (call_of e vs c)
  call_both c = rw (call_is g.edition ws c, call_is e vs c, checked_both) (go (checked_of g.edition ws) refl)
    where
      go : (k : Checked) → checked_of g.edition ws ≡ k → Both (checked_call ws k c) (checked_call vs (found k) c)
      go (Unfit n) t = rw (unfit_call ws n c, unfit_call vs n c) (refused_both n)
      go (Fit f) t =
          let fit = fit_pool g.edition ws f t in
          let is : f ≡ g = sym fit.settings ∙ pool.settings_one in
          subst (λ (f : Settings). Both (checked_call ws (Fit f) c) (checked_call vs (Fit h) c)) (sym is) (fit_both (subst (λ (f : Settings). FitPool f ws) is fit) c)

-- the same event: what an answer is held to is read off words that both have
pub event_both : (g : Settings) (e : ℕ) (ws vs : List ℕ) (pool : SamePool g ws (in_edition e g) vs) (c : Call)
    → event_of vs c (call_of e vs c).answer ≡ event_of ws c (call_of g.edition ws c).answer
event_both g e ws vs pool c =
    let b = call_both g e ws vs pool c in
    let told = measures_alike g g.stride e ws vs (reads_alike g e ws vs pool) pool.settings_one pool.settings_two c in
    λ u. record { call = c; answer = b.answer u; measures = (ap (measures_at vs c) b.answer ∙ told (call_of g.edition ws c).answer) u }

-- ---- a list of calls
pub in_step : (g : Settings) (e : ℕ) (ws vs : List ℕ) (cs : List Call) → SamePool g ws (in_edition e g) vs → InStep g ws (in_edition e g) vs cs
unfolding run words_after
in_step g e ws vs [] pool =
    record { answers = refl; later = pool }
in_step g e ws vs (c ∷ cs) pool =
    let b = call_both g e ws vs pool c in
    let rest = in_step g e (call_of g.edition ws c).words (call_of e vs c).words cs b.later in
    record { answers = λ u. event_both g e ws vs pool c u ∷ rest.answers u; later = rest.later }

pub lockstep : Lockstep
lockstep g ws h vs cs pool =
    subst (λ (f : Settings). SamePool g ws f vs → InStep g ws f vs cs) (sym pool.same) (in_step g h.edition ws vs cs) pool

pub same_items : SameItems
same_items g ws h vs pool limits =
    subst (λ (f : Settings). SamePool g ws f vs → held_items vs f ≡ held_items ws g) (sym pool.same)
    (λ one. items_alike g h.edition ws vs one (settings_bounds g limits)) pool
