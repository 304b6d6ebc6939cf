-- The words follow the machine: where they say its state, a call answers what the machine answers, and the words that it
-- leaves say the machine's next state. Both go by the same rule of the same view, so only the view and the stores matter.
use mathlib.Core.Path.{◌≡◌, refl, sym, ap, ◌∙◌}
use mathlib.Core.Bool.{Bool, true, false}
use mathlib.Core.List.{List}
use Prim.Native.Nat.{ℕ, suc, ◌+◌, ◌-◌, ◌≤◌, ◌<◌}
use native.Mathlib.Nat.{le_refl}
use native.Mathlib.Decide.{dec_lt}
use native.Mathlib.Omega.{arith}
use lib.ListN.{get_or}
use lib.Dec.{leb, eqb}
use borrow.Author.Tests.{leb-false, eqb-true, eqb-false}
use Rattle.laws.specs.Choice.{cond, cases, both, both_true, cond_both}
use Rattle.laws.specs.Wrap.{add32, sub32}
use Rattle.rules.specs.Answers.{Out, refuse}
use Rattle.rules.specs.Limits.{settings_fit, windowed, size_fit, most_live, Bounds, step_limit}
use Rattle.rules.specs.Layout.{worker_at, index_at}
use Rattle.rules.specs.Windows.{has_windows, higher, level_of}
use Rattle.rules.specs.Worker.{fresh, zero_slot, idle_phase}
use Rattle.rules.specs.Held.{Item, distance_of}
use Rattle.rules.specs.Fit.{Fit, checked_of}
use Rattle.rules.specs.Effects.{view_of, take_window}
use Rattle.rules.specs.Apply.{count_lost, put_item, put_landed, taken_of, apply_by, apply_of}
use Rattle.rules.specs.Begin.{slot_begin, fit_begin, checked_begin, begin_of}
use Rattle.rules.specs.Resize.{fit_set_size, checked_set_size, set_size_of}
use Rattle.rules.specs.Step.{rule_of, slot_step, fit_step, checked_step, step_of}
use Rattle.rules.specs.Run.{Call, begin_put, begin_take, step, set_size, call_of}
use Rattle.rules.proofs.Types.{Settings, Size, Sizes, Side, Putting, Taking, Window, Row, Effect, Outcome}
use Rattle.rules.specs.declared.Outcome.TheVariants.{Refused, Moving, Lost, Shifted, Raised, Dropped, Landed, Removed, Empty, Full}
use Rattle.rules.specs.declared.Answer.TheVariants.{Moving as Moves, Taken}
use Rattle.rules.proofs.order.Law.{Next}
use Rattle.rules.proofs.Fitness.{settings_bounds}
use Rattle.rules.proofs.Cells.{queue_below}
use Rattle.rules.proofs.counts.Wraps.{add32_is, sub32_is}
use Rattle.rules.proofs.machine.Machine.{State, top_of, mark_of, sizes_at, sizes_in, next, sub_in, view_in, below_in, taken_in, apply_in, apply_in_by, step_in, with_slot, begin_in, set_size_in, next_in}
use Rattle.rules.proofs.machine.Slots.{Blank, encode_blank, has_windows_law, has_queue}
use Rattle.rules.proofs.machine.Turns.{Common, LiveFits, ItemIn, Counts}
use Rattle.rules.proofs.machine.Does.{Lands, Rises, Drops, SharedAfter, Sized, sized_in, rule_in, counted_in}
use Rattle.rules.proofs.words.Says.{Says, rises, bases_le, distance_same}
use Rattle.rules.proofs.words.Writes.{SameTop, landed_shared, removed_shared}
use Rattle.rules.proofs.words.Fit.{checked_fit}
use Rattle.rules.proofs.words.After.{after_says}
use Rattle.rules.proofs.words.Stores.{begun_says, counted_says, sized_says, index_same, number_same, view_same, puts_as, top_as, stores, stores_worker, stores_shifted, stores_raised, stores_dropped}
use Rattle.rules.proofs.words.Landed.{Floor, landed_says, landed_cells}
use Rattle.std.specs.Prelude.{Ok, Err}
use Rattle.rules.specs.declared.Refusal.TheVariants.{NoSuchWorker, NotFit, OffSize, StepsSpent, WorkerBusy, WorkerIdle}
use Rattle.rules.specs.declared.Refusal.{Refusal}

pub record Follows (g : Settings) (o : Out) (n : Next State) : Type 0 where
  pub answer : o.answer ≡ n.answer
  pub says : Says g o.words n.state

module _ (g : Settings) (limits : settings_fit g ≡ true) (ws : List ℕ) (s : State) (says : Says g ws s) (common : Common g s) (counts : Counts g s) where
  bounds : Bounds g
  bounds = settings_bounds g limits

  refuses : (n : Refusal) → Follows g (refuse n ws) (next (Err n) s)
  refuses n = record { answer = refl; says = says }

  live : has_windows g ≡ true → LiveFits g s
  live has = (counts.windows has).fits

  sized : Sized g (sizes_in g s)
  sized = sized_in g s live

  sizes_are : has_windows g ≡ true → sizes_in g s ≡ sizes_at s
  unfolding sizes_in cond
  sizes_are has = rw has refl

  -- ---- a step
  module _ (i : ℕ) (li : i < g.workers) where
    take_bottom_is : has_windows g ≡ true → (take_window (view_in g s i)).bottom ≡ s.frame.base s.frame.head
    take_bottom_is has =
        let w = counts.windows has in
        let up = rises g s w.fits s.frame.head (le_refl _) w.fits.order in
        let high = bases_le g s w.fits (suc s.frame.head) (suc s.frame.tail) (omega arith) (omega (arith, w.fits.order)) (le_refl _) in
        let deep : (sizes_in g s).take.depth ≡ s.frame.base (suc s.frame.head) - s.frame.base s.frame.head = ap (λ (z : Sizes). z.take.depth) (sizes_are has) in
        ap (sub32 s.mark) deep ∙ sub32_is s.mark (s.frame.base (suc s.frame.head) - s.frame.base s.frame.head) (omega (arith, w.fits.mark)) (omega (arith, w.fits.mark, w.fits.top, w.top_few))
        ∙ omega (arith, w.fits.mark)

    lj : sub_in s i < g.width
    lj = (common.slots i).index

    -- ---- an effect, by how it ends
    module _ (few : s.steps < step_limit) (e : Effect) (blank : Blank g e.slot) where
      taken_same : (r : ℕ) → below_in g s (sub_in s i) < r → r ≤ s.first (sub_in s i) → (has_windows g ≡ true → 1 ≤ (s.item (sub_in s i) r).stamp)
          → taken_of ws g (sub_in s i) (record { 0 = r }) ≡ taken_in g s (sub_in s i) r
      unfolding taken_of
      taken_same r a b there =
          ap (λ (x : Item). Ok (Taken x.value (sub_in s i) (record { 0 = r }) (record { 0 = x.stamp }) (distance_of ws g (record { 0 = x.stamp })))) (says.cell (sub_in s i) r lj a b there)
          ∙ ap (λ (d : ℕ). Ok (Taken (s.item (sub_in s i) r).value (sub_in s i) (record { 0 = r }) (record { 0 = (s.item (sub_in s i) r).stamp }) d))
          (distance_same g ws s says counts (record { 0 = (s.item (sub_in s i) r).stamp }))

      -- a window moves where the words have its pair, and no top wraps
      pair : Rises g (view_in g s i) e → has_windows g ≡ true → suc s.frame.tail - s.frame.head < most_live
      pair h has = omega (arith, h.pair (both_true (windowed g) _ has).0, ap (λ (z : Sizes). z.live) (sizes_are has))

      top : Rises g (view_in g s i) e → has_windows g ≡ true → e.top ≡ top_of s.frame + s.next.depth
      top h has =
          let w = counts.windows has in
          let next : (sizes_in g s).next.depth ≡ s.next.depth = ap (λ (z : Sizes). z.next.depth) (sizes_are has) in
          h.top ∙ ap (add32 s.top) next ∙ add32_is s.top s.next.depth (omega (arith, w.top_few, w.fits.next.depth64)) ∙ ap (λ (x : ℕ). x + s.next.depth) w.fits.top

      below : Drops g (view_in g s i) e → has_windows g ≡ true → s.frame.head < s.frame.tail
      below h has =
          let w = counts.windows has in
          elim (dec_lt s.frame.head s.frame.tail) [
            | yes y ↦ y
            | no n ↦
                let same : s.frame.head ≡ s.frame.tail = omega (arith, w.fits.order) in
                let tops : mark_of s.frame ≡ top_of s.frame = ap (λ (x : ℕ). s.frame.base (suc x)) same in
                absurd (omega (arith, h.below, w.fits.top, w.fits.mark))
          ]

      -- a held row is above the level
      above_level : g.kind ≡ 0 → (r : ℕ) → s.second (sub_in s i) < r → (has_windows g ≡ true → 1 ≤ (s.item (sub_in s i) r).stamp)
          → level_of g (s.second (sub_in s i)) (take_window (view_in g s i)).bottom < r
      unfolding level_of
      above_level k r a y =
          cases (λ (n : ℕ). n < r) (windowed g) (higher (s.second (sub_in s i)) (take_window (view_in g s i)).bottom) (s.second (sub_in s i))
          (λ t. let l = in_window (has_windows_law g t k) in omega arith) (λ t. a)
        where
          in_window : has_windows g ≡ true → (take_window (view_in g s i)).bottom < r
          in_window has =
              let w = counts.windows has in
              let at = w.place (sub_in s i) r a (y has) in
              let low = bases_le g s w.fits s.frame.head at.0 (le_refl _) at.1.from_head (omega (arith, at.1.to_tail)) in
              omega (arith, take_bottom_is has, at.1.above)

      -- the level above which the rows of the sub are held, for a row that lands
      floor : (row : Row) → Lands g (view_in g s i) e row → Floor g s i row.0
      floor row h = go (eqb g.kind 0) refl
        where
          go : (t : Bool) → eqb g.kind 0 ≡ t → Floor g s i row.0
          go true t =
              let k = eqb-true g.kind 0 t in
              record {
                level = level_of g (s.second (sub_in s i)) (take_window (view_in g s i)).bottom;
                under = h.above_queue k;
                free = h.free_queue k;
                held = λ r a b y. above_level k r (rw (queue_below g k (s.second (sub_in s i))) at a) y;
                only = λ has r y. (counts.windows has).below (sub_in s i) r y;
              }
          go false t =
              let n = eqb-false g.kind 0 t in
              let k : g.kind ≡ 1 = omega (arith, bounds.kind1) in
              record {
                level = 0;
                under = omega (arith, h.above);
                free = omega (arith, h.free_stack k);
                held = λ r a b y. omega arith;
                only = λ has r y. absurd (n (has_queue g has));
              }

      follow_apply : (o : Outcome) → SharedAfter g (view_in g s i) (ItemIn g s i) e o → Follows g (apply_by ws g (worker_at g i) (sub_in s i) e o) (apply_in_by g s i e o)
      unfolding put_landed apply_by apply_in_by
      follow_apply (Refused n) h = record { answer = refl; says = says }
      follow_apply Moving h = record { answer = refl; says = stores_worker g ws s says i li lj few e blank h }
      follow_apply Lost h = record { answer = refl; says = stores_worker g (count_lost ws g (worker_at g i)) s (counted_says g ws s says i li) i li lj few e blank h }
      follow_apply Shifted h = record { answer = refl; says = stores_shifted g ws s says i li lj few e blank h.0 }
      follow_apply Raised h = record { answer = refl; says = stores_raised g bounds ws s says i li lj few e blank live h (pair h) (top h) }
      follow_apply Dropped h = record { answer = refl; says = stores_dropped g bounds ws s says i li lj few e blank live h (below h) }
      follow_apply (Landed value row stamp) lands =
          let h = lands (counted_in g bounds s common sized counts i) in
          let stored = landed_says g ws s says bounds i lj value row stamp e h (floor row h) in
          let top : SameTop (put_item ws g (sub_in s i) value row stamp) (sub_in s i) e =
          (stored.top ∙ sym h.window.top, stored.mark ∙ sym h.window.mark) in
          record {
            answer = refl;
            says = rw (landed_shared _ (sub_in s i) e top) (after_says g _ _ stored i li lj e few blank
                (landed_cells g ws s says bounds i lj value row stamp e h (floor row h)));
          }
      follow_apply (Removed row) removes =
          let h = removes (counted_in g bounds s common sized counts i) in
          record {
            answer = taken_same row.0 h.low h.high (λ has. (h.there has).0);
            says = stores g ws s says i li lj few e blank _
                (removed_shared ws (sub_in s i) e (puts_as g ws s says i li lj few e blank h.puts) (top_as g ws s says i li lj few e blank h.window)) h.keeps;
          }
      follow_apply Empty h = record { answer = refl; says = stores_worker g ws s says i li lj few e blank h }
      follow_apply Full h = record { answer = refl; says = stores_worker g ws s says i li lj few e blank h }

    follow_rule : s.steps < step_limit
        → Follows g (apply_of ws g (worker_at g i) (get_or ws (index_at (worker_at g i)) 0) (rule_of g (view_of ws g (worker_at g i)))) (apply_in g s i (rule_of g (view_in g s i)))
    unfolding apply_of apply_in
    follow_rule few =
        rw (view_same g ws s says i li lj live, index_same g ws s says i li)
        (let does = rule_in g bounds s common sized i in
        follow_apply few (rule_of g (view_in g s i)) does.blank (rule_of g (view_in g s i)).outcome does.shared)

    follow_step : Follows g (slot_step ws g (worker_at g i))
        (cond (eqb (s.slot i).number idle_phase) (next (Err WorkerIdle) s)
        (cond (leb step_limit s.steps) (next (Err StepsSpent) s) (apply_in g s i (rule_of g (view_in g s i)))))
    unfolding slot_step
    follow_step =
        rw (number_same g ws s says i li, says.steps)
        (cond_both (Follows g) (eqb (s.slot i).number idle_phase) (λ a. refuses WorkerIdle)
        (λ a. cond_both (Follows g) (leb step_limit s.steps) (λ b. refuses StepsSpent) (λ b. follow_rule (leb-false _ _ b))))

    -- ---- a begin
    follow_begin : (side : Side) (v : ℕ) → Follows g (slot_begin ws g (worker_at g i) side v)
        (cond (eqb (s.slot i).number idle_phase)
        (cond (leb step_limit s.steps) (next (Err StepsSpent) s) (next (Ok Moves) (with_slot s i (fresh g v (sub_in s i) (Window side)))))
        (next (Err WorkerBusy) s))
    unfolding slot_begin
    follow_begin side v =
        rw (number_same g ws s says i li, says.steps, index_same g ws s says i li)
        (cond_both (Follows g) (eqb (s.slot i).number idle_phase)
        (λ a. cond_both (Follows g) (leb step_limit s.steps) (λ b. refuses StepsSpent) (λ b. record { answer = refl; says = begun_says g ws s says i li _ (encode_blank g v (sub_in s i) (Window side) zero_slot ((λ k. tt), (λ n. tt)) (λ none. (refl, refl))) }))
        (λ a. refuses WorkerBusy))

  -- ---- a call
  checked : checked_of g.edition ws ≡ Fit g
  checked = checked_fit g limits bounds.kind1 ws s says common live counts.sub

  step_follows : (i : ℕ) → Follows g (step_of g.edition ws i) (step_in g s i)
  unfolding step_of checked_step fit_step step_in
  step_follows i = rw checked (cond_both (Follows g) (leb g.workers i) (λ a. refuses NoSuchWorker) (λ a. follow_step i (leb-false _ _ a)))

  begin_follows : (i : ℕ) (side : Side) (v : ℕ) → Follows g (begin_of g.edition ws i side v) (begin_in g s i side v)
  unfolding begin_of checked_begin fit_begin begin_in
  begin_follows i side v = rw checked (cond_both (Follows g) (leb g.workers i) (λ a. refuses NoSuchWorker) (λ a. follow_begin i (leb-false _ _ a) side v))

  size_follows : (size : Size) → Follows g (set_size_of g.edition ws size) (set_size_in g s size)
  unfolding set_size_of checked_set_size fit_set_size set_size_in
  size_follows size =
      rw checked
      (cond_both (Follows g) (windowed g)
      (λ a. cond_both (Follows g) (both (eqb g.kind 0) (size_fit g size))
      (λ t. record { answer = refl; says = sized_says g bounds ws s says (has_windows_law g a (eqb-true _ _ (both_true (eqb g.kind 0) _ t).0)) size })
      (λ t. refuses OffSize))
      (λ a. refuses NotFit))

  pub follows : (c : Call) → Follows g (call_of g.edition ws c) (next_in g s c)
  unfolding call_of next_in
  follows (begin_put i v) = begin_follows i Putting v
  follows (begin_take i) = begin_follows i Taking 0
  follows (step i) = step_follows i
  follows (set_size width depth) = size_follows (record { width = width; depth = depth })
