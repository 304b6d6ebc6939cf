-- A FILE'S EVENTS, what the quotes of its listing stand on (`known_file`): its calls are a run on its pool, so what holds of every run holds of them.
-- The first word opens and leaves the words lent, the second makes the pool, and none after it does (`Begun`), since a word's place says which kinds may stand
-- there. So the tally's bound is the pool's from that word on, or that of the greatest size set since; and what is no call is answered 0, so it has no distance and no
-- item. A take is within the bound by the size of its window, which is the pool's or one that the run has set (`sizes_known`). That holds of each front part of a
-- file, so a take is within the bound that the tally has just then (`within_fronts`).
use Rattle.std.proofs.Common.{◌≡◌, ℕ, zero, suc, ◌+◌, ◌≤◌, max, Bool, true, eqb, leb, ◌≢◌, Option as Perhaps, Some, None, List, [], ◌∷◌, ◌++◌, length, sym, refl, ap, ◌∙◌, subst, append-nil, arith, eq-eqb, le-leb, leb-true}
use mathlib.Core.Option.{Option, none, some}
use native.Mathlib.Decide.{ℕ_discrete}
use Rattle.laws.specs.Choice.{cond, cases, cond_both, cond_true}
use Rattle.rules.specs.Answers.{number_of, Out, bad_word}
use Rattle.rules.specs.Make.{shipped_from, make_of, shipped}
use Rattle.rules.specs.Statement.{All}
use Rattle.rules.specs.Begin.{slot_begin, fit_begin, checked_begin, begin_of}
use Rattle.rules.specs.Consequences.{words_after, items_in, has_stamp, SetSizes}
use Rattle.rules.specs.Fit.{Checked, Unfit, Fit, head_checked, checked_by, checked_of}
use Rattle.rules.specs.Held.{Item, held_items, held_by, held_of, count_items}
use Rattle.rules.specs.Layout.{worker_words, windows_words}
use Rattle.rules.specs.Limits.{settings_fit}
use Rattle.rules.specs.Resize.{fit_set_size, checked_set_size, set_size_of}
use Rattle.rules.specs.Run.{Call, begin_put, begin_take, step, set_size, call_of, Event, run, at, distance_in}
use Rattle.rules.specs.Sequential.{bound_by, demand3_rows, most_passed}
use Rattle.rules.specs.declared.Settings.{Settings}
use Rattle.rules.specs.declared.Size.{Size}
use Rattle.rules.specs.declared.Refusal.{Refusal}
use Rattle.rules.specs.Answers.{Answered}
use Rattle.rules.specs.declared.Side.{Side}
use Rattle.rules.specs.declared.Side.TheVariants.{Putting, Taking}
use Rattle.rules.specs.declared.Answer.TheVariants.{Moving, Put, Taken, Empty, Full}
use Rattle.rules.proofs.Corollaries.{within_bound, nothing_lost, stamps_once}
use Rattle.sizes.proofs.KnownSizes.{sizes_known}
use Rattle.rules.proofs.BothKinds.{kind_of}
use Rattle.rules.proofs.Transfer.{related_fit, made_related, related_after}
use Rattle.rules.proofs.counts.Held.{count_none, count_all}
use Rattle.rules.proofs.words.Made.{accepted}
use Rattle.runfile.specs.Items.{item_of}
use Rattle.runfile.specs.Faults.{fault_number, fault_of}
use Rattle.runfile.specs.declared.word.Read.{Read}
use Rattle.runfile.specs.declared.word.Read.TheVariants.{Word, Cut, End as NoMore}
use Rattle.runfile.specs.declared.item.Place.TheVariants.{First, Second, Later, Past}
use Rattle.runfile.specs.declared.item.Item.{Item as Saying}
use Rattle.runfile.specs.declared.item.Item.TheVariants.{Open, Make, Says}
use Rattle.runfile.specs.declared.item.Said.TheVariants.{BeginPut, BeginTake, Step, End, SetSize}
use Rattle.runfile.specs.declared.item.Place.{Place}
use Rattle.replay.specs.Replay.{unless, Event as Done, Asked, nothing, making, calling, asked_of, out_of, item_next, word_next, next_of, Happened, Replay, goes_on, next_place, replay_from, replay_of, lent, fault_in}
use Rattle.replay.specs.Files.{pool_in, with_call, events_in, calls_in, words_in, RunsOn, RunsOnPool, FrontOf}
use Rattle.replay.proofs.Files.{files_are_runs}
use Rattle.tally.specs.Tally.{no_tally, bound_in, passed_in, bound_after, tally_after}
use Rattle.tally.specs.Bound.{tally_over, with_size, sizes_set, most_in, bound_of}
use Rattle.tally.specs.declared.Tally.{Tally}
use Rattle.replay.proofs.Begins.{Late, AllLate, Makes, Opens, Begun, front_begins}
use Rattle.std.specs.Prelude.{Ok, Err}

-- ---- the calls among the events
-- what is no call is answered 0
abbrev pub Quiet : Asked → Answered → Type 0
Quiet nothing a = number_of a ≡ 0
Quiet (making g) a = number_of a ≡ 0
Quiet (calling c) a = Unit {0}

abbrev pub AllQuiet : List Happened → Type 0
AllQuiet xs = All (λ (x : Happened). Quiet (asked_of x.event.item) x.event.answer) xs

late_quiet : (xs : List Happened) → AllLate xs → AllQuiet xs
late_quiet [] h = tt
late_quiet (x ∷ xs) h = (by (asked_of x.event.item) h.0, late_quiet xs h.1)
  where
    by : (a : Asked) → Late a x.event.answer → Quiet a x.event.answer
    by nothing q = q
    by (making g) q = absurd q
    by (calling c) q = tt

-- ---- distances
-- only a take has a distance
pub no_distance : (a : Answered) → number_of a ≢ 2 → distance_in a ≡ 0
no_distance (Ok Moving) ne = refl
no_distance (Ok (Put value sub row stamp)) ne = refl
no_distance (Ok (Taken value sub row stamp distance)) ne = absurd (ne refl)
no_distance (Ok Empty) ne = refl
no_distance (Ok Full) ne = refl
no_distance (Err k) ne = refl

-- events none of which has a distance above a number
abbrev pub Close : ℕ → List Happened → Type 0
Close most xs = All (λ (x : Happened). distance_in x.event.answer ≤ most) xs

-- events each within the bound that the tally has after it
abbrev pub Within : Tally → List Happened → Type 0
Within t [] = Unit {0}
Within t (x ∷ xs) = (distance_in x.event.answer ≤ (tally_after t x.event).bound) × Within (tally_after t x.event) xs

-- so have they where none of the calls has
abbrev CloseCalls : ℕ → List Event → Type 0
CloseCalls most es = All (λ (e : Event). distance_in e.answer ≤ most) es

close_more : (most : ℕ) (ws : List ℕ) (a : Answered) (q : Asked) (rest : List Event) → Quiet q a → CloseCalls most (with_call ws q a rest)
    → (distance_in a ≤ most) × CloseCalls most rest
close_more most ws a nothing rest h c = (omega (arith, no_distance a (λ u. omega arith)), c)
close_more most ws a (making g) rest h c = (omega (arith, no_distance a (λ u. omega arith)), c)
close_more most ws a (calling k) rest h c = c

close_all : (most : ℕ) (ws : List ℕ) (xs : List Happened) → AllQuiet xs → CloseCalls most (events_in ws xs) → Close most xs
unfolding events_in
close_all most ws [] h c = tt
close_all most ws (x ∷ xs) h c =
    let t = close_more most ws x.event.answer (asked_of x.event.item) (events_in x.words xs) h.0 c in
    (t.0, close_all most x.words xs h.1 t.1)

-- ---- a run's distances
begin_no_distance : (e : ℕ) (ws : List ℕ) (i : ℕ) (side : Side) (value : ℕ) → distance_in (begin_of e ws i side value).answer ≡ 0
unfolding begin_of checked_begin fit_begin slot_begin
begin_no_distance e ws i side value = by (checked_of e ws)
  where
    None : Out → Type 0
    None o = distance_in o.answer ≡ 0

    by : (c : Checked) → None (checked_begin ws c i side value)
    by (Unfit n) = refl
    by (Fit g) = cases None _ _ _ (λ _. refl) (λ _. cases None _ _ _ (λ _. cases None _ _ _ (λ _. refl) (λ _. refl)) (λ _. refl))

set_no_distance : (e : ℕ) (ws : List ℕ) (size : Size) → distance_in (set_size_of e ws size).answer ≡ 0
unfolding set_size_of checked_set_size fit_set_size
set_no_distance e ws size = by (checked_of e ws)
  where
    None : Out → Type 0
    None o = distance_in o.answer ≡ 0

    by : (c : Checked) → None (checked_set_size ws c size)
    by (Unfit n) = refl
    by (Fit g) = cases None _ _ _ (λ _. cases None _ _ _ (λ _. refl) (λ _. refl)) (λ _. refl)

call_close : (most e : ℕ) (ws : List ℕ) (c : Call) → ((i : ℕ) → c ≡ step i → number_of (call_of e ws c).answer ≡ 2 → distance_in (call_of e ws c).answer ≤ most)
    → distance_in (call_of e ws c).answer ≤ most
unfolding call_of
call_close most e ws (begin_put i v) h = omega (arith, begin_no_distance e ws i Putting v)
call_close most e ws (begin_take i) h = omega (arith, begin_no_distance e ws i Taking 0)
call_close most e ws (step i) h = elim (ℕ_discrete (number_of (call_of e ws (step i)).answer) 2) [
  | yes two ↦ h i refl two
  | no ne ↦ omega (arith, no_distance (call_of e ws (step i)).answer ne)
]
call_close most e ws (set_size width depth) h = omega (arith, set_no_distance e ws (record { width = width; depth = depth }))

run_close : (most e : ℕ) (ws : List ℕ) (cs : List Call)
    → ((i f : ℕ) → (at (run e ws cs) f).call ≡ step i → number_of (at (run e ws cs) f).answer ≡ 2 → distance_in (at (run e ws cs) f).answer ≤ most)
    → CloseCalls most (run e ws cs)
unfolding run
run_close most e ws [] h = tt
run_close most e ws (c ∷ cs) h =
    (call_close most e ws c (λ i. h i 0), run_close most e (call_of e ws c).words cs (λ i f. h i (suc f)))

-- ---- the bound
most_more : (size : Size) (sizes : List Size) → most_in (size ∷ sizes) ≡ max (passed_in size) (most_in sizes)
unfolding most_in
most_more size sizes = refl

-- after the pool's word it is raised by the sizes that are set
bound_late : (bound : ℕ) (item : Saying) (a : Answered) (rest : List Size) → Late (asked_of item) a
    → max (bound_after bound item (number_of a)) (most_in rest) ≡ max bound (most_in (with_size item a rest))
bound_late bound (Open opening) a rest h = refl
bound_late bound (Make g) a rest h = absurd h
bound_late bound (Says (BeginPut worker value)) a rest h = refl
bound_late bound (Says (BeginTake worker)) a rest h = refl
bound_late bound (Says (Step worker)) a rest h = refl
bound_late bound (Says End) a rest h = refl
bound_late bound (Says (SetSize width depth)) a rest h =
    cond_both (λ (n : ℕ) (sizes : List Size). max n (most_in rest) ≡ max bound (most_in sizes)) (eqb (number_of a) 0) (λ _. omega (arith, most_more (record { width = width; depth = depth }) rest)) (λ _. refl)

late_bound : (t : Tally) (xs : List Happened) → AllLate xs → (tally_over t xs).bound ≡ max t.bound (most_in (sizes_set xs))
unfolding tally_over tally_after sizes_set most_in
late_bound t [] h = omega arith
late_bound t (x ∷ xs) h = late_bound (tally_after t x.event) xs h.1 ∙ bound_late t.bound x.event.item x.event.answer (sizes_set xs) h.0

-- events each within the bound of every front part that they stand in
within_fronts : (t : Tally) (xs : List Happened) → ((ys zs : List Happened) → xs ≡ ys ++ zs → Close (tally_over t ys).bound ys) → Within t xs
unfolding tally_over
within_fronts t [] h = tt
within_fronts t (x ∷ xs) h =
    ((h (x ∷ []) xs refl).0, within_fronts (tally_after t x.event) xs (λ ys zs e. (h (x ∷ ys) zs (ap (λ (l : List Happened). x ∷ l) e)).1))

-- ---- the sizes that are set
-- events none of which sets a size whose windows let more than so many pass
abbrev SetsAtMost : ℕ → List Event → Type 0
SetsAtMost most es = (f width depth : ℕ) → (at es f).call ≡ set_size width depth → number_of (at es f).answer ≡ 0 → passed_in (record { width = width; depth = depth }) ≤ most

sets_more : (item : Saying) (a : Answered) (ws : List ℕ) (rest : List Event) (sizes : List Size) → SetsAtMost (most_in sizes) rest
    → SetsAtMost (most_in (with_size item a sizes)) (with_call ws (asked_of item) a rest)
sets_more (Open opening) a ws rest sizes h f width depth e z = h f width depth e z
sets_more (Make g) a ws rest sizes h f width depth e z = h f width depth e z
sets_more (Says (BeginPut worker value)) a ws rest sizes h zero width depth e z = let w : ◌≡◌ {A = ℕ} 0 1 = cc in absurd (omega arith)
sets_more (Says (BeginPut worker value)) a ws rest sizes h (suc f) width depth e z = h f width depth e z
sets_more (Says (BeginTake worker)) a ws rest sizes h zero width depth e z = let w : ◌≡◌ {A = ℕ} 0 1 = cc in absurd (omega arith)
sets_more (Says (BeginTake worker)) a ws rest sizes h (suc f) width depth e z = h f width depth e z
sets_more (Says (Step worker)) a ws rest sizes h zero width depth e z = let w : ◌≡◌ {A = ℕ} 0 1 = cc in absurd (omega arith)
sets_more (Says (Step worker)) a ws rest sizes h (suc f) width depth e z = h f width depth e z
sets_more (Says End) a ws rest sizes h f width depth e z = h f width depth e z
sets_more (Says (SetSize width depth)) a ws rest sizes h zero width' depth' e z =
    let same_width : width ≡ width' = cc in
    let same_depth : depth ≡ depth' = cc in
    rw (eq-eqb (number_of a) 0 z, cond_true (record { width = width; depth = depth } ∷ sizes) sizes, sym same_width, sym same_depth)
    (omega (arith, most_more (record { width = width; depth = depth }) sizes))
sets_more (Says (SetSize width depth)) a ws rest sizes h (suc f) width' depth' e z =
    cases (λ (l : List Size). passed_in (record { width = width'; depth = depth' }) ≤ most_in l) (eqb (number_of a) 0) _ _
    (λ _. omega (arith, most_more (record { width = width; depth = depth }) sizes, h f width' depth' e z)) (λ _. h f width' depth' e z)

sets_all : (ws : List ℕ) (xs : List Happened) → SetsAtMost (most_in (sizes_set xs)) (events_in ws xs)
unfolding events_in sizes_set
sets_all ws [] f width depth e z = let w : ◌≡◌ {A = ℕ} 0 1 = cc in absurd (omega arith)
sets_all ws (x ∷ xs) f width depth e z = sets_more x.event.item x.event.answer ws (events_in x.words xs) (sizes_set xs) (sets_all x.words xs) f width depth e z

-- a file's edition of the settings has their bound
made_bound : (g : Settings) → settings_fit (shipped_from g) ≡ true → bound_in g ≡ most_passed (shipped_from g)
unfolding bound_in cond
made_bound g e = rw e

-- ---- what is held
-- the pool of a run is fit
fit_after : (g : Settings) (cs : List Call) → number_of (make_of lent g).answer ≡ 0
    → checked_of g.edition (words_after g.edition (make_of lent g).words cs) ≡ Fit g
fit_after g cs made =
    let a = accepted lent g made in
    let k = kind_of g a.limits in
    related_fit g a.limits k (related_after g a.limits k (made_related g a.limits k lent a) cs).related

-- the bound by a size is the pool's own in a stack
by_size : (g : Settings) (most : ℕ) (size : Size) → most_passed g ≤ most → passed_in size ≤ most → bound_by g (demand3_rows g) size ≤ most
unfolding most_passed
by_size g most size own sized =
    cond_both (λ (m n : ℕ). m ≤ most → n ≤ most) (eqb g.kind 0) (λ _ _. sized) (λ _ h. h) own

-- a take's window has the pool's size or one that was set, so its distance is within a number that none of these passes
within_most : (g : Settings) (cs : List Call) (most : ℕ) → number_of (make_of lent g).answer ≡ 0 → most_passed g ≤ most
    → SetsAtMost most (run g.edition (make_of lent g).words cs)
    → (i f : ℕ) → (at (run g.edition (make_of lent g).words cs) f).call ≡ step i
    → number_of (at (run g.edition (make_of lent g).words cs) f).answer ≡ 2
    → distance_in (at (run g.edition (make_of lent g).words cs) f).answer ≤ most
unfolding most_passed
within_most g cs most made own sets i f e two =
    let by : Size → ℕ = λ size. bound_by g (demand3_rows g) size in
    let size = (at (run g.edition (make_of lent g).words cs) f).measures.size in
    let set : SetSizes (λ size. leb (by size) most) (run g.edition (make_of lent g).words cs) =
    λ f' width depth e' z. le-leb _ _ (by_size g most (record { width = width; depth = depth }) own (sets f' width depth e' z)) in
    let known : by size ≤ most = leb-true (by size) most (sizes_known lent g cs made (λ size. leb (by size) most) (le-leb _ _ own) set i f e two) in
    omega (arith, known, within_bound lent g cs made i f e two)

fit_held : (e : ℕ) (ws : List ℕ) (g : Settings) → checked_of e ws ≡ Fit g → held_of e ws ≡ length (held_items ws g)
unfolding held_of held_by
fit_held e ws g h = rw h

-- before there is a pool, nothing
none_held : held_of shipped lent ≡ 0
unfolding held_of held_by checked_by head_checked settings_fit worker_words windows_words cond
none_held = refl

-- ---- what is known of a file's events
pub record Known (xs : List Happened) : Type 0 where
  -- what is no call is answered 0
  pub quiet : AllQuiet xs
  -- distances
  pub close : Close (tally_over no_tally xs).bound xs
  pub pool : (g : Settings) → pool_in xs ≡ some g → (tally_over no_tally xs).bound ≡ bound_of g xs
  -- items
  pub held : held_of shipped (words_in lent xs) + length (items_in 2 (events_in lent xs)) ≡ length (items_in 1 (events_in lent xs))
  pub taken : (p : Item → Bool) → count_items p (items_in 2 (events_in lent xs)) ≤ count_items p (items_in 1 (events_in lent xs))
  pub once : (stamp : ℕ) → (count_items (has_stamp stamp) (items_in 1 (events_in lent xs)) ≤ 1) × (count_items (has_stamp stamp) (items_in 2 (events_in lent xs)) ≤ 1)

-- without a pool there is no call
no_items : (n : ℕ) → items_in n [] ≡ []
unfolding items_in
no_items n = refl

known_none : (xs : List Happened) → AllQuiet xs → events_in lent xs ≡ [] → pool_in xs ≡ none → words_in lent xs ≡ lent → Known xs
known_none xs quiet calls pool words =
    let close : (most : ℕ) → Close most xs = λ most. close_all most lent xs quiet (rw calls tt) in
    record {
      quiet = quiet;
      held = rw (calls, words, no_items 1, no_items 2, none_held) refl;
      taken = λ p. rw (calls, no_items 1, no_items 2) (omega arith);
      once = λ stamp. rw (calls, no_items 1, no_items 2) (omega (arith, count_none (has_stamp stamp)), omega (arith, count_none (has_stamp stamp)));
      close = close _;
      pool = λ g e. let z : ◌≡◌ {A = ℕ} 0 1 = cc in absurd (omega arith);
    }

-- with one the calls are a run on it
pool_is : (x y : Happened) (xs : List Happened) → Opens x → (makes : Makes y) → pool_in (x ∷ y ∷ xs) ≡ some (shipped_from makes.settings)
unfolding pool_in
pool_is x y xs opens makes = rw (opens.item, makes.item)

module _ (x y : Happened) (xs : List Happened) (opens : Opens x) (makes : Makes y) (late : AllLate xs)
    (runs : RunsOn (shipped_from makes.settings) (x ∷ y ∷ xs)) where
  abbrev g : Settings
  g = shipped_from makes.settings

  abbrev whole : List Happened
  whole = x ∷ y ∷ xs

  whole_quiet : AllQuiet whole
  whole_quiet = (rw opens.item opens.number, (rw makes.item makes.number, late_quiet xs late))

  whole_close : Close (bound_of g whole) whole
  whole_close =
      close_all (bound_of g whole) lent whole whole_quiet
      (rw runs.answers
      (run_close (bound_of g whole) g.edition (make_of lent g).words (calls_in whole)
      (within_most g (calls_in whole) (bound_of g whole) runs.made (omega arith)
      (λ f width depth e z. let h = sets_all lent whole f width depth (rw runs.answers e) (rw runs.answers z) in omega arith))))

  abbrev opened : Tally
  opened = tally_after (tally_after no_tally x.event) y.event

  opened_bound : opened.bound ≡ most_passed g
  unfolding tally_after
  opened_bound = rw makes.item (made_bound makes.settings (accepted lent g runs.made).limits)

  -- the two opening words set no size
  opened_sizes : sizes_set whole ≡ sizes_set xs
  unfolding sizes_set
  opened_sizes = rw (opens.item, makes.item) refl

  whole_bound : (tally_over no_tally whole).bound ≡ bound_of g whole
  unfolding tally_over
  whole_bound = late_bound opened xs late ∙ rw (opened_bound, opened_sizes) refl

  account : (p : Item → Bool) → count_items p (held_items (words_in lent whole) g) + count_items p (items_in 2 (events_in lent whole)) ≡ count_items p (items_in 1 (events_in lent whole))
  account p = rw (runs.answers, runs.words) (nothing_lost lent g (calls_in whole) runs.made p)

  known_pool : Known whole
  known_pool =
      let held : held_of shipped (words_in lent whole) ≡ length (held_items (words_in lent whole) g) =
      fit_held shipped (words_in lent whole) g (rw runs.words (fit_after g (calls_in whole) runs.made)) in
      record {
        quiet = whole_quiet;
        held = omega (
          arith,
          held,
          account (λ z. true),
          count_all (held_items (words_in lent whole) g),
          count_all (items_in 1 (events_in lent whole)),
          count_all (items_in 2 (events_in lent whole)),
        );
        taken = λ p. omega (arith, account p);
        once = λ stamp. rw runs.answers (stamps_once lent g (calls_in whole) runs.made stamp);
        close = subst (λ (n : ℕ). Close n whole) (sym whole_bound) whole_close;
        pool = λ h e.
            let same : g ≡ h = cc (pool_is x y xs opens makes) in
            subst (λ (k : Settings). (tally_over no_tally whole).bound ≡ bound_of k whole) same whole_bound;
      }

known : (xs : List Happened) → Begun xs → RunsOnPool (pool_in xs) xs → Known xs
unfolding events_in pool_in words_in
known [] b r = known_none [] tt refl refl refl
known (x ∷ []) b r =
    let opens = b.0 in
    known_none (x ∷ []) (rw opens.item opens.number, tt) (rw opens.item) (rw opens.item) opens.words
known (x ∷ y ∷ xs) b r =
    let opens = b.0 in
    let makes = b.1.0 in
    known_pool x y xs opens makes b.1.1 (subst (λ (p : Option Settings). RunsOnPool p (x ∷ y ∷ xs)) (pool_is x y xs opens makes) r)

known_front : (bytes : List ℕ) (xs : List Happened) → FrontOf bytes xs → Known xs
known_front bytes xs front = known xs (front_begins bytes xs front) (files_are_runs bytes xs front)

pub known_file : (bytes : List ℕ) → Known (replay_of bytes).events
known_file bytes = let xs = (replay_of bytes).events in known_front bytes xs ([], sym (append-nil xs))

-- each event is within the bound that the tally has after it
pub all_within : (bytes : List ℕ) → Within no_tally (replay_of bytes).events
all_within bytes = within_fronts no_tally (replay_of bytes).events (λ ys zs e. (known_front bytes ys (zs, e)).close)

-- ---- the fault that ends a file: none has a number above that of a bad word
fault_of_law : (place : Place) (read : Read) → fault_number (fault_of place read) ≤ bad_word
fault_of_law place (Word word) = omega arith
fault_of_law First Cut = omega arith
fault_of_law (Second opening) Cut = omega arith
fault_of_law Later Cut = omega arith
fault_of_law Past Cut = omega arith
fault_of_law First NoMore = omega arith
fault_of_law (Second opening) NoMore = omega arith
fault_of_law Later NoMore = omega arith
fault_of_law Past NoMore = omega arith

make_number_law : (ws : List ℕ) (g : Settings) → number_of (make_of ws g).answer ≤ bad_word
unfolding make_of
make_number_law ws g =
    let Low : Out → Type 0 = λ o. number_of o.answer ≤ bad_word in
    cases Low _ _ _ (λ _. cases Low _ _ _ (λ _. omega arith) (λ _. omega arith)) (λ _. omega arith)

make_fault_law : (g : Settings) (a : Answered) → number_of a ≤ bad_word → fault_number (fault_in (Make g) a) ≤ bad_word
make_fault_law g (Ok a) h = omega arith
make_fault_law g (Err refusal) h = h

fault_in_law : (ws : List ℕ) (item : Saying) → fault_number (fault_in item (out_of ws (asked_of item)).answer) ≤ bad_word
unfolding out_of
fault_in_law ws (Open opening) = omega arith
fault_in_law ws (Make g) = make_fault_law g _ (make_number_law ws (shipped_from g))
fault_in_law ws (Says said) = omega arith

unless_law : (fault : Perhaps Refusal) (e : Done) (position : ℕ) (ws : List ℕ) (rest : Replay) → fault_number fault ≤ bad_word → fault_number rest.end.fault ≤ bad_word
    → fault_number (goes_on position (unless fault e) ws rest).end.fault ≤ bad_word
unless_law None e position ws rest f h = h
unless_law (Some refusal) e position ws rest f h = f

faults_word : (position : ℕ) (ws : List ℕ) (said : Perhaps Saying) (rest : Replay) → fault_number rest.end.fault ≤ bad_word
    → fault_number (goes_on position (word_next ws position said).next (word_next ws position said).words rest).end.fault ≤ bad_word
unfolding word_next item_next
faults_word position ws (Some item) rest h = unless_law (fault_in item (out_of ws (asked_of item)).answer) _ position _ rest (fault_in_law ws item) h
faults_word position ws None rest h = omega arith

pub faults : (place : Place) (position : ℕ) (ws : List ℕ) (reads : List Read) → fault_number (replay_from place position ws reads).end.fault ≤ bad_word
unfolding replay_from next_of
faults place position ws [] = fault_of_law place NoMore
faults place position ws (Cut ∷ reads) = fault_of_law place Cut
faults place position ws (NoMore ∷ reads) = fault_of_law place NoMore
faults place position ws (Word word ∷ reads) =
    let r = word_next ws position (item_of place word) in
    faults_word position ws (item_of place word) _ (faults (next_place r.next) (position + 1) r.words reads)
