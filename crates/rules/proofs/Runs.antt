-- Along a run from make, by induction over its calls: the specification's list and the answers so far account for every item, what a
-- take reports and passes over is counted in the words before it, stamps are handed out in order, and every state is safe.
use mathlib.Core.Path.{◌≡◌, refl, sym, ap, ◌∙◌}
use mathlib.Core.Logic.{◌≢◌, inl, inr}
use mathlib.Core.Bool.{Bool, true, false}
use mathlib.Core.List.{List, [], ◌∷◌}
use Prim.Native.Nat.{ℕ, zero, suc, ◌+◌, ◌≤◌, ◌<◌}
use native.Mathlib.Decide.{ℕ_discrete}
use native.Mathlib.Omega.{arith}
use lib.Dec.{leb, eqb}
use borrow.Author.Tests.{leb-true, leb-false, eqb-true}
use lib.ListN.{get_or}
use Rattle.rules.specs.Full.{PlacesHeld, FullMeans, unset_places, UnsetPlaces}
use Rattle.rules.proofs.machine.Slots.{has_queue}
use Rattle.rules.specs.Worker.{slot_at}
use Rattle.rules.specs.Windows.{size_of, has_windows, nth_size, bottom_of}
use Rattle.rules.specs.Layout.{settings_of, set_at, worker_at, second_of}
use Rattle.rules.specs.Measures.{measured, seen_size, places_of, measures_of}
use Rattle.laws.specs.Choice.{cond, cases, both}
use Rattle.rules.specs.Answers.{not_fit, number_of, refusal_number, too_few_words}
use Rattle.rules.specs.Limits.{settings_fit, windowed, size_fit}
use Rattle.rules.specs.Held.{Item, held_items, count_items, is_spacer, passed_over, reported, passed_of, distance_of, rows_below}
use Rattle.rules.specs.Step.{rule_of, step_of}
use Rattle.rules.specs.Sequential.{Contents, bound_by, least_by, least_full}
use Rattle.rules.specs.Run.{Call, begin_put, begin_take, step, set_size, call_of, measures_at, run, at, stamp_in, Event, event_of, nothing}
use Rattle.rules.specs.Statement.{All}
use Rattle.rules.specs.Newer.{exact_rows}
use Rattle.rules.specs.Spacers.{TakenWithin, TakesWithin, NoSpacer}
use Rattle.rules.specs.Consequences.{words_after, item_in, items_in, has_stamp, NoSumWraps, OfEdition, OwnSizes, OwnPlaces}
use Rattle.rules.proofs.Types.{Settings, Size, Putting, Taking, Effect, Outcome, Answered, Slot}
use Rattle.rules.specs.declared.Outcome.TheVariants.{Refused, Moving, Lost, Shifted, Raised, Dropped, Landed, Removed, Empty, Full}
use Rattle.rules.specs.declared.Answer.TheVariants.{Moving as Goes, Put, Taken, Empty as NoItem, Full as NoRoom}
use Rattle.rules.proofs.counts.Sums.{bit, bit_le}
use Rattle.rules.proofs.order.Law.{Next}
use Rattle.rules.proofs.Fitness.{settings_bounds}
use Rattle.rules.proofs.Numbered.{number_high}
use Rattle.rules.proofs.Cells.{count_append, held_order, queue_below}
use Rattle.rules.proofs.machine.Machine.{State, view_in, below_in, apply_in, apply_in_by, set_size_in, next_in, step_in}
use Rattle.rules.proofs.machine.Calls.{Called, refuses, does, step_called, begin_called, Steps}
use Rattle.rules.proofs.counts.Held.{count_none, held_count}
use Rattle.rules.proofs.machine.Turns.{Common, Counts, Safe, Kind, FullAt, ItemIn}
use Rattle.rules.proofs.machine.Does.{SharedAfter, sized_in, rule_in}
use Rattle.rules.proofs.order.Given.{item_of, item_not}
use Rattle.rules.proofs.Transfer.{NoSpacers, Related, next_related, related_after}
use Rattle.rules.proofs.words.Says.{held_same, bottoms}
use Rattle.rules.proofs.words.Stores.{view_same}
use Rattle.rules.proofs.words.Told.{places_said}
use Rattle.std.specs.Prelude.{Ok, Err}

-- a stamp up to the next one is that one, or is up to the last
next_stamp : (c stamp : ℕ) → bit (eqb (suc c) stamp) + bit (leb stamp c) ≤ bit (leb stamp (suc c))
next_stamp c stamp = by (eqb (suc c) stamp) (leb stamp c) (leb stamp (suc c)) refl refl refl
  where
    by : (x y z : Bool) → eqb (suc c) stamp ≡ x → leb stamp c ≡ y → leb stamp (suc c) ≡ z → bit x + bit y ≤ bit z
    by false false z a b d = omega arith
    by true true z a b d = absurd (omega (arith, eqb-true (suc c) stamp a, leb-true stamp c b))
    by true false true a b d = omega arith
    by false true true a b d = omega arith
    by true false false a b d = absurd (omega (arith, eqb-true (suc c) stamp a, leb-false stamp (suc c) d))
    by false true false a b d = absurd (omega (arith, leb-true stamp c b, leb-false stamp (suc c) d))

module _ (g : Settings) (limits : settings_fit g ≡ true) (k : Kind g) where
  abbrev Rel : List ℕ → State → Type 0
  Rel ws s = Related g limits k ws s

  -- ---- no item is lost or invented
  held_listed : {ws : List ℕ} {s : State} (r : Rel ws s) (p : Item → Bool) → count_items p (held_items ws g) ≡ count_items p r.list.items
  held_listed {ws} {s} r p =
      let order : (j : ℕ) → j < g.width → below_in g s j ≤ s.first j =
      λ j l. held_order g _ (s.first j) (s.second j) ((k.counts s r.list r.whole.inv).sub j l) in
      held_same g ws s r.says (k.counts s r.list r.whole.inv) p ∙ sym (held_count (k.holding s r.list r.whole.inv).held order p)

  -- one call more: with so many held in the end
  pub one_accounted : {ws : List ℕ} {s : State} (r : Rel ws s) (c : Call) (es : List Event) (held : ℕ) (p : Item → Bool)
      → held + count_items p (items_in 2 es) ≡ count_items p (next_related g limits k r c).related.list.items + count_items p (items_in 1 es)
      → held + count_items p (items_in 2 (event_of ws c (call_of g.edition ws c).answer ∷ es))
      ≡ count_items p r.list.items + count_items p (items_in 1 (event_of ws c (call_of g.edition ws c).answer ∷ es))
  unfolding items_in
  one_accounted {ws} r c es held p rest =
      omega (
        arith,
        (next_related g limits k r c).changed.counts p,
        count_append p (item_in 1 (call_of g.edition ws c).answer) (items_in 1 es),
        count_append p (item_in 2 (call_of g.edition ws c).answer) (items_in 2 es),
      )

  -- and none
  pub none_accounted : {ws : List ℕ} {s : State} (r : Rel ws s) (p : Item → Bool)
      → count_items p (held_items ws g) + count_items p (items_in 2 []) ≡ count_items p r.list.items + count_items p (items_in 1 [])
  unfolding items_in
  none_accounted r p = omega (arith, held_listed r p, count_none p)

  pub accounted : {ws : List ℕ} {s : State} (r : Rel ws s) (cs : List Call) (p : Item → Bool)
      → count_items p (held_items (words_after g.edition ws cs) g) + count_items p (items_in 2 (run g.edition ws cs))
      ≡ count_items p r.list.items + count_items p (items_in 1 (run g.edition ws cs))
  unfolding words_after run
  accounted r [] p = none_accounted r p
  accounted {ws = ws} r (c ∷ cs) p = one_accounted r c _ _ p (accounted {ws = (call_of g.edition ws c).words} (next_related g limits k r c).related cs p)

  -- ---- both counts of a take are those of the pool just before
  taken_within : {ws : List ℕ} {s : State} (r : Rel ws s) (i : ℕ) → number_of (call_of g.edition ws (step i)).answer ≡ 2
      → TakenWithin (bound_by g (exact_rows g) (measures_at ws (step i) (call_of g.edition ws (step i)).answer).size) g ws (call_of g.edition ws (step i)).answer
  unfolding distance_of passed_of
  taken_within {ws} r i two =
      let stamp = stamp_in (call_of g.edition ws (step i)).answer in
      let t = (next_related g limits k r (step i)).changed.taken two in
      record {
        reports = t.0 ∙ sym (held_listed r (reported g.kind stamp));
        passes = rw (held_listed r (passed_over g.kind stamp)) t.1;
      }

  pub takes_within_after : {ws : List ℕ} {s : State} → Rel ws s → (cs : List Call) → TakesWithin exact_rows g ws cs
  takes_within_after r cs i two = taken_within (related_after g limits k r cs).related i two

  -- ---- what an answer is held to: of a take the pool's size, of a "full" demand 3's number
  take_size : (size : Size) (places : ℕ) (a : Answered) → number_of a ≡ 2 → (measured size places a).size ≡ size
  take_size size places (Ok Goes) e = absurd (omega arith)
  take_size size places (Ok (Put value sub row stamp)) e = absurd (omega arith)
  take_size size places (Ok (Taken value sub row stamp distance)) e = refl
  take_size size places (Ok NoItem) e = absurd (omega arith)
  take_size size places (Ok NoRoom) e = absurd (omega arith)
  take_size size places (Err m) e = absurd (omega (arith, number_high m))

  full_places : (size : Size) (places : ℕ) (a : Answered) → number_of a ≡ 4 → (measured size places a).places ≡ places
  full_places size places (Ok Goes) e = absurd (omega arith)
  full_places size places (Ok (Put value sub row stamp)) e = absurd (omega arith)
  full_places size places (Ok (Taken value sub row stamp distance)) e = absurd (omega arith)
  full_places size places (Ok NoItem) e = absurd (omega arith)
  full_places size places (Ok NoRoom) e = refl
  full_places size places (Err m) e = absurd (omega (arith, number_high m))

  -- what holds of each step's event
  each_step : (P : Event → Type 0) → P nothing → ((ws : List ℕ) (s : State) → Rel ws s → (i : ℕ) → P (event_of ws (step i) (call_of g.edition ws (step i)).answer))
      → {ws : List ℕ} {s : State} → Rel ws s → (cs : List Call) (i f : ℕ) → (at (run g.edition ws cs) f).call ≡ step i → P (at (run g.edition ws cs) f)
  unfolding run
  each_step P none here r [] i f e = none
  each_step P none here r (begin_put j v ∷ cs) i zero e = let z : ◌≡◌ {A = ℕ} 0 1 = cc in absurd (omega arith)
  each_step P none here r (begin_take j ∷ cs) i zero e = let z : ◌≡◌ {A = ℕ} 0 1 = cc in absurd (omega arith)
  each_step P none here r (step j ∷ cs) i zero e = here _ _ r j
  each_step P none here r (set_size width depth ∷ cs) i zero e = let z : ◌≡◌ {A = ℕ} 0 1 = cc in absurd (omega arith)
  each_step P none here {ws = ws} r (c ∷ cs) i (suc f) e = each_step P none here {ws = (call_of g.edition ws c).words} (next_related g limits k r c).related cs i f e

  abbrev OwnSize : Event → Type 0
  OwnSize e = has_windows g ≡ false → number_of e.answer ≡ 2 → e.measures.size ≡ size_of g

  abbrev OwnPlace : Event → Type 0
  OwnPlace e = has_windows g ≡ false → number_of e.answer ≡ 4 → least_by g e.measures.places ≡ least_full g

  own_size_law : (x : Slot) → has_windows g ≡ false → seen_size g x ≡ size_of g
  unfolding seen_size cond
  own_size_law x none = rw none refl

  step_size : (ws : List ℕ) (s : State) → Rel ws s → (i : ℕ) → OwnSize (event_of ws (step i) (call_of g.edition ws (step i)).answer)
  unfolding measures_at measures_of call_of
  step_size ws s r i old two =
      take_size _ (places_of ws (settings_of ws)) (step_of g.edition ws i).answer two
      ∙ ap (λ (h : Settings). seen_size h (slot_at h ws (worker_at h i))) r.says.settings ∙ own_size_law (slot_at g ws (worker_at g i)) old

  full_here : (s : State) (q : Contents) → Common g s → k.Inv s q → (i : ℕ) → number_of (step_in g s i).answer ≡ 4 → FullAt g s
  full_here s q common inv i four = by (step_called g s i)
    where
      by : Called s (Steps g s i) (apply_in g s i (rule_of g (view_in g s i))) (step_in g s i) → FullAt g s
      by (refuses n l unable e) = let m = ap (λ (o : Next State). number_of o.answer) e in absurd (omega (arith, number_high n))
      by (does able e) = k.full s q common inv i (sym (ap (λ (o : Next State). number_of o.answer) e) ∙ four)

  step_places : (ws : List ℕ) (s : State) → Rel ws s → (i : ℕ) → OwnPlace (event_of ws (step i) (call_of g.edition ws (step i)).answer)
  unfolding measures_at measures_of call_of next_in
  step_places ws s r i old four =
      let same : (step_of g.edition ws i).answer ≡ (step_in g s i).answer = (next_related g limits k r (step i)).answer in
      let places = full_places _ (places_of ws (settings_of ws)) (step_of g.edition ws i).answer four in
      ap (least_by g) (places ∙ ap (places_of ws) r.says.settings ∙ places_said g s ws r.says (λ has. ((k.counts s r.list r.whole.inv).windows has).fits))
      ∙ (full_here s r.list r.whole.common r.whole.inv i (ap number_of (sym same) ∙ four)).own old

  -- each place after the take window is held
  places_held_at : {ws : List ℕ} {s : State} (r : Rel ws s) (i : ℕ) → has_windows g ≡ true → number_of (call_of g.edition ws (step i)).answer ≡ 4 → PlacesHeld ws g
  unfolding call_of next_in
  places_held_at {ws} {s} r i has four n j row one l h =
      let counts = k.counts s r.list r.whole.inv in
      let fits = (counts.windows has).fits in
      let win = r.says.windows has in
      let inside : s.frame.head + n ≤ s.frame.tail = omega (arith, win.live, fits.order) in
      let z : s.frame.head + suc n ≡ suc (s.frame.head + n) = omega arith in
      let low : bottom_of ws g n ≡ s.frame.base (s.frame.head + n) = bottoms g s fits ws r.says has n (omega arith) in
      let high : bottom_of ws g (suc n) ≡ s.frame.base (suc (s.frame.head + n)) = bottoms g s fits ws r.says has (suc n) (omega arith) ∙ ap s.frame.base z in
      let wide : (nth_size ws g n).width ≡ s.frame.wide (s.frame.head + n) = ap (λ (x : Size). x.width) (win.size n inside) in
      let lj : j < g.width = omega (arith, h.wide, (fits.size (s.frame.head + n) (omega arith) inside).width_most) in
      let four' : number_of (step_in g s i).answer ≡ 4 = ap number_of (sym (next_related g limits k r (step i)).answer) ∙ four in
      let p = (full_here s r.list r.whole.common r.whole.inv i four').held has (s.frame.head + n) j row (omega arith) (record {
        from_head = omega arith;
        to_tail = inside;
        wide = omega (arith, h.wide);
        above = omega (arith, h.above);
        up_to = omega (arith, h.up_to);
      }) in
      let taken : rows_below g (second_of ws j) ≡ s.second j = queue_below g (has_queue g has) (second_of ws j) ∙ r.says.second j lj in
      record { above = rw taken p.0; up_to = rw (r.says.first j lj) p.1; window = λ has. h }

  -- how many there are, where no size was set
  unset_places_at : {ws : List ℕ} {s : State} (r : Rel ws s) (i : ℕ) → has_windows g ≡ true → get_or ws (set_at g) 0 ≡ 0 → number_of (call_of g.edition ws (step i)).answer ≡ 4
      → places_of ws g ≡ unset_places g
  unfolding call_of next_in
  unset_places_at {ws} {s} r i has unset four =
      let counts = k.counts s r.list r.whole.inv in
      let four' : number_of (step_in g s i).answer ≡ 4 = ap number_of (sym (next_related g limits k r (step i)).answer) ∙ four in
      let p = full_here s r.list r.whole.common r.whole.inv i four' in
      places_said g s ws r.says (λ has. (counts.windows has).fits) ∙ p.unset has (sym (r.says.windows has).set ∙ unset)

  pub unset_after : {ws : List ℕ} {s : State} → Rel ws s → (cs : List Call) → UnsetPlaces g ws cs
  unset_after r cs i has unset four = unset_places_at (related_after g limits k r cs).related i has unset four

  pub full_after : {ws : List ℕ} {s : State} → Rel ws s → (cs : List Call) → FullMeans g ws cs
  full_after r cs i has four = places_held_at (related_after g limits k r cs).related i has four

  pub sizes_at : {ws : List ℕ} {s : State} → Rel ws s → (cs : List Call) → OwnSizes g ws cs
  sizes_at r cs i f old e = each_step OwnSize (λ old e. absurd (omega arith)) step_size r cs i f e old

  pub places_at : {ws : List ℕ} {s : State} → Rel ws s → (cs : List Call) → OwnPlaces g ws cs
  places_at r cs i f old e = each_step OwnPlace (λ old e. absurd (omega arith)) step_places r cs i f e old

  -- where no call begins a put of a spacer, none is held
  pub no_spacers_after : {ws : List ℕ} {s : State} (r : Rel ws s) → NoSpacers g limits k s r.list → (cs : List Call) → All NoSpacer cs
      → count_items is_spacer (held_items (words_after g.edition ws cs) g) ≡ 0
  unfolding words_after
  no_spacers_after r none [] all = held_listed r is_spacer ∙ none.listed
  no_spacers_after {ws = ws} r none (c ∷ cs) all = let n = next_related g limits k r c in no_spacers_after {ws = (call_of g.edition ws c).words} n.related (n.no_spacers all.0 none) cs all.1

  -- ---- a put hands out a stamp above all before
  pub stamped_once : {ws : List ℕ} {s : State} (r : Rel ws s) (cs : List Call) (stamp : ℕ)
      → count_items (has_stamp stamp) (items_in 1 (run g.edition ws cs)) + bit (leb stamp r.list.count) ≤ 1
  unfolding run items_in
  stamped_once r [] stamp = omega (arith, count_none (has_stamp stamp), bit_le (leb stamp r.list.count))
  stamped_once {ws} r (c ∷ cs) stamp =
      let n = next_related g limits k r c in
      let a = (call_of g.edition ws c).answer in
      let ih = stamped_once {ws = (call_of g.edition ws c).words} n.related cs stamp in
      let both = count_append (has_stamp stamp) (item_in 1 a) (items_in 1 (run g.edition (call_of g.edition ws c).words cs)) in
      elim (ℕ_discrete (number_of a) 1) [
        | yes e ↦
            let t = n.changed.put e in
            omega (
              arith,
              ih,
              both,
              item_of 1 a (has_stamp stamp) e,
              next_stamp r.list.count stamp,
              ap (λ (x : ℕ). bit (eqb x stamp)) t.0,
              ap (λ (x : ℕ). bit (leb stamp x)) t.1,
            )
        | no ne ↦
            omega (arith, ih, both, item_not 1 a (has_stamp stamp) ne, ap (λ (x : ℕ). bit (leb stamp x)) (n.changed.other ne))
      ]

  -- ---- every state is safe
  safe_words : {ws : List ℕ} {s : State} → Rel ws s → NoSumWraps g ws
  safe_words {ws} {s} r =
      let says = r.says in
      let safe : Safe g s = k.safe s r.list r.whole.common r.whole.inv in
      let counts : Counts g s = k.counts s r.list r.whole.inv in
      record {
        steps = rw says.steps (omega (arith, r.whole.common.steps_few));
        puts = rw says.puts safe.puts;
        top = rw says.top safe.top;
        mark = rw says.mark safe.mark;
        first = λ j l. rw (says.first j l) (safe.first j l);
        second = λ j l. rw (says.second j l) (safe.second j l);
        rule = λ i l. rw (view_same g ws s says i l (r.whole.common.slots i).index (λ has. (counts.windows has).fits)) (safe.rule i);
      }

  pub safe_after : {ws : List ℕ} {s : State} → Rel ws s → (cs : List Call) → NoSumWraps g (words_after g.edition ws cs)
  safe_after r cs = safe_words (related_after g limits k r cs).related

  -- ---- no call finds the pool unfit
  abbrev Fine : Next State → Type 0
  Fine o = (number_of o.answer ≢ too_few_words) × (number_of o.answer ≢ not_fit)

  not_21 : (s : State) (i : ℕ) (e : Effect) (o : Outcome) → SharedAfter g (view_in g s i) (ItemIn g s i) e o → number_of (apply_in_by g s i e o).answer ≢ too_few_words
  unfolding apply_in_by
  not_21 s i e (Refused n) (inl h) u = let m = ap refusal_number h in omega (arith, m)
  not_21 s i e (Refused n) (inr h) u = let m = ap refusal_number h in omega (arith, m)
  not_21 s i e Moving h u = omega arith
  not_21 s i e Lost h u = omega arith
  not_21 s i e Shifted h u = omega arith
  not_21 s i e Raised h u = omega arith
  not_21 s i e Dropped h u = omega arith
  not_21 s i e (Landed value row stamp) h u = omega arith
  not_21 s i e (Removed row) h u = omega arith
  not_21 s i e Empty h u = omega arith
  not_21 s i e Full h u = omega arith

  fine_rule : (s : State) (q : Contents) → Common g s → k.Inv s q → (i : ℕ) → Fine (apply_in g s i (rule_of g (view_in g s i)))
  unfolding apply_in
  fine_rule s q common inv i = (
    not_21 s i (rule_of g (view_in g s i)) (rule_of g (view_in g s i)).outcome
        (rule_in g (settings_bounds g limits) s common (sized_in g s (λ has. ((k.counts s q inv).windows has).fits)) i).shared,
    (k.safe s q common inv).able i,
  )

  fine_called : {s : State} {Able : Type 0} {made o : Next State} → Called s Able made o → (Able → Fine made) → Fine o
  fine_called (refuses n l unable e) fine = rw e ((λ u. omega arith), (λ u. omega arith))
  fine_called (does able e) fine = rw e (fine able)

  -- a size call of an edition that has it
  fine_size : (s : State) → windowed g ≡ true → (size : Size) → Fine (set_size_in g s size)
  unfolding set_size_in cond
  fine_size s new size = rw new (cases Fine (both (eqb g.kind 0) (size_fit g size)) _ _ (λ e. ((λ u. omega arith), (λ u. omega arith))) (λ e. ((λ u. omega arith), (λ u. omega arith))))

  fine_call : (s : State) (q : Contents) → Common g s → k.Inv s q → (c : Call) → OfEdition g c → Fine (next_in g s c)
  unfolding next_in
  fine_call s q common inv (begin_put i v) of = fine_called (begin_called g s i Putting v) (λ able. ((λ u. omega arith), (λ u. omega arith)))
  fine_call s q common inv (begin_take i) of = fine_called (begin_called g s i Taking 0) (λ able. ((λ u. omega arith), (λ u. omega arith)))
  fine_call s q common inv (step i) of = fine_called (step_called g s i) (λ able. fine_rule s q common inv i)
  fine_call s q common inv (set_size width depth) of = fine_size s of (record { width = width; depth = depth })

  pub fine_at : {ws : List ℕ} {s : State} → Rel ws s → (cs : List Call) (f : ℕ) → OfEdition g (at (run g.edition ws cs) f).call
      → (number_of (at (run g.edition ws cs) f).answer ≢ too_few_words) × (number_of (at (run g.edition ws cs) f).answer ≢ not_fit)
  unfolding run
  fine_at r [] f of = ((λ u. omega arith), (λ u. omega arith))
  fine_at {s = s} r (c ∷ cs) zero of =
      rw (next_related g limits k r c).answer (fine_call s r.list r.whole.common r.whole.inv c of)
  fine_at {ws = ws} r (c ∷ cs) (suc f) of = fine_at {ws = (call_of g.edition ws c).words} (next_related g limits k r c).related cs f of
