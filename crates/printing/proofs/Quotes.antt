-- WHAT IS QUOTED OF A LISTING holds of every run file.
-- No event is above the tally's bound (`all_within`), so each has its line (`lists_all`). The lines with a number are those of the answers with it
-- (`one_line`): they have the items of the run's answers (`items_same`), and the tally counts them (`count_over`, `worst_over`). So what is proved
-- of the items of every run, that none is lost and no stamp is handed out twice, holds of the lines.
use Prim.Native.Nat.{ℕ, ◌+◌, ◌≤◌, max}
use mathlib.Core.List.{List, [], ◌∷◌, ◌++◌, map}
use mathlib.Core.Path.{◌≡◌, refl, sym, ap, ◌∙◌}
use mathlib.Core.Bool.{Bool, false, false≢true}
use native.Mathlib.Nat.{zero-max}
use native.Mathlib.Omega.{arith}
use borrow.Author.Tests.{le-ltb, ne_eqb, eqb-false}
use lib.Dec.{eqb, ltb}
use lib.ListN.{length, length-map, get_or}
use Rattle.laws.specs.Choice.{cond, cases, cond_both, cond_under, cond_false}
use Rattle.rules.specs.Answers.{number_of, fields_of, refusal_number, bad_word}
use Rattle.rules.specs.Make.{shipped}
use Rattle.rules.specs.Statement.{All}
use Rattle.rules.specs.Consequences.{items_in}
use Rattle.rules.specs.Held.{Item, held_of}
use Rattle.rules.specs.Run.{Event, value_in, stamp_in, distance_in}
use Rattle.rules.specs.Answers.{Answered}
use Rattle.rules.specs.declared.Answer.TheVariants.{Moving, Put, Taken, Empty, Full}
use Rattle.runfile.specs.Words.{reads_of}
use Rattle.runfile.specs.declared.item.Place.TheVariants.{First}
use Rattle.replay.specs.Replay.{Asked, nothing, making, calling, asked_of, Happened, replay_of, lent, Ending, Event as Happening}
use Rattle.replay.specs.Files.{with_call, events_in}
use Rattle.replay.proofs.Files.{positions_count}
use Rattle.lines.specs.declared.line.Entry.{Entry}
use Rattle.tally.specs.Tally.{no_tally, count_on, tally_after}
use Rattle.printing.specs.Printings.{worker_in, answer_printed, answer_printed_by, listed_by, listed_end, event_printed_by, end_printed, end_numbered, ends_with}
use Rattle.printing.specs.Print.{print_then, print_from, printed_of}
use Rattle.tally.specs.Bound.{tally_over}
use Rattle.printing.specs.Quotes.{line_if, lines_if, only, listed_if, listed, item_on, items_listed, greatest, last_of, answer_line, end_of, ListsAll, NotOver, NeverOver, DistancesWithin, TakesArePuts, ClosingAddsUp, SummaryCounts}
use Rattle.tally.specs.declared.Tally.{Tally}
use Rattle.printing.specs.declared.printed.Mode.TheVariants.{Listing, Summing}
use Rattle.printing.specs.declared.printed.Printed.{Printed}
use Rattle.printing.specs.declared.printed.Printed.TheVariants.{Nothing, Closing}
use Rattle.tally.proofs.Events.{Quiet, AllQuiet, no_distance, Close, Within, known_file, all_within, faults}
use Rattle.std.specs.Prelude.{Option, Some, None, Ok, Err}
use Rattle.rules.specs.declared.Refusal.{Refusal}
use Rattle.runfile.specs.Faults.{fault_number}

-- ---- the line of an answer
abbrev entry_of : ℕ → ℕ → Answered → Entry
entry_of position worker a =
    record {
      position = position;
      number = number_of a;
      worker = worker;
      value = value_in a;
      sub = get_or (fields_of a) 1 0;
      row = record { 0 = get_or (fields_of a) 2 0 };
      stamp = record { 0 = stamp_in a };
      distance = distance_in a;
    }

-- every answer but 0 has one, with its number
one_line : (among : ℕ → Bool) (position worker : ℕ) (a : Answered) → among 0 ≡ false
    → line_if among (answer_printed position worker a) ≡ cond (among (number_of a)) (entry_of position worker a ∷ []) []
unfolding answer_printed_by cond
one_line among position worker (Ok Moving) none = rw none
one_line among position worker (Ok (Put value sub row stamp)) none = refl
one_line among position worker (Ok (Taken value sub row stamp distance)) none = refl
one_line among position worker (Ok Empty) none = refl
one_line among position worker (Ok Full) none = refl
one_line among position worker (Err k) none = refl

answer_goes : (position worker : ℕ) (a : Answered) → ends_with (answer_printed position worker a) ≡ false
unfolding answer_printed_by
answer_goes position worker (Ok Moving) = refl
answer_goes position worker (Ok (Put value sub row stamp)) = refl
answer_goes position worker (Ok (Taken value sub row stamp distance)) = refl
answer_goes position worker (Ok Empty) = refl
answer_goes position worker (Ok Full) = refl
answer_goes position worker (Err k) = refl

-- ---- the lines of events
abbrev lines_of : (ℕ → Bool) → List Happened → List Entry
lines_of among xs = lines_if among (map answer_line xs)

abbrev entry : Happened → Entry
entry x = entry_of x.event.position (worker_in x.event.item) x.event.answer

lines_more : (among : ℕ → Bool) (x : Happened) (xs : List Happened) → among 0 ≡ false
    → lines_of among (x ∷ xs) ≡ cond (among (number_of x.event.answer)) (entry x ∷ lines_of among xs) (lines_of among xs)
unfolding lines_if
lines_more among x xs none =
    ap (λ (es : List Entry). es ++ lines_of among xs) (one_line among x.event.position (worker_in x.event.item) x.event.answer none)
    ∙ cond_under (λ (es : List Entry). es ++ lines_of among xs) (among (number_of x.event.answer)) (entry x ∷ []) []

no_lines : (among : ℕ → Bool) → lines_of among [] ≡ []
unfolding lines_if
no_lines among = refl

-- the tally counts them
count_over : (count : Tally → ℕ) (among : ℕ → Bool) → ((t : Tally) (e : Happening) → count (tally_after t e) ≡ count_on (count t) (among (number_of e.answer))) → among 0 ≡ false
    → (t : Tally) (xs : List Happened) → count (tally_over t xs) ≡ count t + length (lines_of among xs)
unfolding tally_over
count_over count among on none t [] = rw (no_lines among) (omega arith)
count_over count among on none t (x ∷ xs) =
    let so = among (number_of x.event.answer) in
    let now = count_on (count t) so in
    let more : now + length (lines_of among xs) ≡ count t + length (cond so (entry x ∷ lines_of among xs) (lines_of among xs)) =
    cond_both (λ (k : ℕ) (es : List Entry). count t + k + length (lines_of among xs) ≡ count t + length es) so
    (λ _. omega arith) (λ _. omega arith) in
    rw (lines_more among x xs none) (omega (arith, count_over count among on none (tally_after t x.event) xs, on t x.event))

-- and has their greatest distance
greatest_more : (x : Happened) (xs : List Happened) → greatest (lines_of (only 2) (x ∷ xs)) ≡ max (distance_in x.event.answer) (greatest (lines_of (only 2) xs))
unfolding greatest
greatest_more x xs =
    rw (lines_more (only 2) x xs refl)
    (cases (λ (es : List Entry). greatest es ≡ max (distance_in x.event.answer) (greatest (lines_of (only 2) xs))) (eqb (number_of x.event.answer) 2) _ _
    (λ _. refl)
    (λ e. omega (arith, no_distance x.event.answer (eqb-false _ _ e))))

worst_over : (t : Tally) (xs : List Happened) → (tally_over t xs).worst ≡ max t.worst (greatest (lines_of (only 2) xs))
unfolding tally_over tally_after greatest
worst_over t [] = rw (no_lines (only 2)) (omega arith)
worst_over t (x ∷ xs) = omega (arith, worst_over (tally_after t x.event) xs, greatest_more x xs)

-- ---- distances
lines_close : (most : ℕ) (xs : List Happened) → Close most xs → All (λ (e : Entry). e.distance ≤ most) (lines_of (only 2) xs)
lines_close most [] h = rw (no_lines (only 2)) tt
lines_close most (x ∷ xs) h =
    rw (lines_more (only 2) x xs refl)
    (cases (All (λ (e : Entry). e.distance ≤ most)) (eqb (number_of x.event.answer) 2) _ _
    (λ _. (h.0, lines_close most xs h.1)) (λ _. lines_close most xs h.1))

close_greatest : (most : ℕ) (xs : List Happened) → Close most xs → greatest (lines_of (only 2) xs) ≤ most
unfolding greatest
close_greatest most [] h = rw (no_lines (only 2)) (omega arith)
close_greatest most (x ∷ xs) h = let d = h.0 in omega (arith, greatest_more x xs, close_greatest most xs h.1)

-- what ends a file is printed alone
print_last : (x : Printed) → print_then x [] ≡ x ∷ []
print_last x = cases (λ (l : List Printed). x ∷ l ≡ x ∷ []) (ends_with x) [] [] (λ _. refl) (λ _. refl)

-- they all have their lines
lists_from : (t : Tally) (xs : List Happened) (end : Ending) → Within t xs
    → print_from Listing t xs end ≡ map answer_line xs ++ (end_printed Listing (tally_over t xs) end.position end.fault end.words ∷ [])
unfolding print_from tally_over event_printed_by listed_by cond
lists_from t [] end h = print_last _
lists_from t (x ∷ xs) end h =
    rw (le-ltb (tally_after t x.event).bound (distance_in x.event.answer) h.0, answer_goes x.event.position (worker_in x.event.item) x.event.answer)
    (ap (λ (l : List Printed). answer_line x ∷ l) (lists_from (tally_after t x.event) xs end h.1))

-- while the summary prints nothing of them
sums_from : (t : Tally) (xs : List Happened) (end : Ending)
    → print_from Summing t xs end ≡ map (λ (x : Happened). Nothing) xs ++ (end_printed Summing (tally_over t xs) end.position end.fault end.words ∷ [])
unfolding print_from tally_over event_printed_by cond
sums_from t [] end = print_last _
sums_from t (x ∷ xs) end = ap (λ (l : List Printed). Nothing ∷ l) (sums_from (tally_after t x.event) xs end)

-- ---- what is printed, with its end
last_end : (xs : List Printed) (x : Printed) → last_of (xs ++ (x ∷ [])) ≡ x
unfolding last_of
last_end [] x = refl
last_end (y ∷ []) x = refl
last_end (y ∷ z ∷ zs) x = last_end (z ∷ zs) x

lines_end : (among : ℕ → Bool) (xs : List Printed) (x : Printed) → line_if among x ≡ [] → lines_if among (xs ++ (x ∷ [])) ≡ lines_if among xs
unfolding lines_if
lines_end among [] x e = rw e
lines_end among (y ∷ ys) x e = ap (λ (l : List Entry). line_if among y ++ l) (lines_end among ys x e)

end_no_line : (among : ℕ → Bool) (t : Tally) (position : ℕ) (fault : Option Refusal) (ws : List ℕ) → line_if among (end_printed Listing t position fault ws) ≡ []
unfolding end_numbered listed_end
end_no_line among t position None ws = refl
end_no_line among t position (Some refusal) ws = refl

-- so the lines have the items of the calls' answers
items_more : (n position worker : ℕ) (ws : List ℕ) (a : Answered) (q : Asked) (es : List Entry) (rest : List Event) → 1 ≤ n → Quiet q a → map item_on es ≡ items_in n rest
    → map item_on (cond (eqb (number_of a) n) (entry_of position worker a ∷ es) es) ≡ items_in n (with_call ws q a rest)
unfolding items_in
items_more n position worker ws a nothing es rest l h e = rw (ne_eqb (number_of a) n (λ u. omega arith), cond_false (entry_of position worker a ∷ es) es) e
items_more n position worker ws a (making g) es rest l h e = rw (ne_eqb (number_of a) n (λ u. omega arith), cond_false (entry_of position worker a ∷ es) es) e
items_more n position worker ws a (calling c) es rest l h e =
    cond_both (λ (ls : List Entry) (xs : List Item). map item_on ls ≡ xs ++ items_in n rest) (eqb (number_of a) n)
    (λ _. ap (λ (xs : List Item). record { value = value_in a; stamp = stamp_in a } ∷ xs) e) (λ _. e)

items_same : (n : ℕ) (ws : List ℕ) (xs : List Happened) → 1 ≤ n → AllQuiet xs → map item_on (lines_of (only n) xs) ≡ items_in n (events_in ws xs)
unfolding events_in items_in
items_same n ws [] l h = rw (no_lines (only n))
items_same n ws (x ∷ xs) l h =
    rw (lines_more (only n) x xs (ne_eqb 0 n (λ e. omega arith)))
    (items_more n _ _ ws x.event.answer (asked_of x.event.item) (lines_of (only n) xs) (events_in x.words xs) l h.0 (items_same n x.words xs l h.1))

-- ---- the theorems
pub lists_all : ListsAll
unfolding printed_of
lists_all bytes = let r = replay_of bytes in lists_from no_tally r.events r.end (all_within bytes)

-- the listing's lines are its events'
lines_are : (among : ℕ → Bool) (bytes : List ℕ) → listed_if among bytes ≡ lines_of among (replay_of bytes).events
lines_are among bytes = let r = replay_of bytes in rw (lists_all bytes) (lines_end among (map answer_line r.events) (end_of Listing bytes) (end_no_line among _ _ _ _))

items_are : (n : ℕ) (bytes : List ℕ) → 1 ≤ n → items_listed n bytes ≡ items_in n (events_in lent (replay_of bytes).events)
items_are n bytes l = rw (lines_are (only n) bytes) (items_same n lent (replay_of bytes).events l (known_file bytes).quiet)

pub distances_within : DistancesWithin
distances_within bytes g e =
    let k = known_file bytes in
    rw (lines_are (only 2) bytes, sym (k.pool g e)) (lines_close _ (replay_of bytes).events k.close)

pub takes_are_puts : TakesArePuts
takes_are_puts bytes =
    let k = known_file bytes in
    record {
      put_once = λ stamp. rw (items_are 1 bytes (omega arith)) (k.once stamp).0;
      taken_once = λ stamp. rw (items_are 2 bytes (omega arith)) (k.once stamp).1;
      taken_put = λ p. rw (items_are 1 bytes (omega arith), items_are 2 bytes (omega arith)) (k.taken p);
    }

-- as many lines as items
adds_up : (bytes : List ℕ) → held_of shipped (replay_of bytes).end.words + length (listed 2 bytes) ≡ length (listed 1 bytes)
adds_up bytes =
    let lines : (n : ℕ) → 1 ≤ n → length (listed n bytes) ≡ length (items_in n (events_in lent (replay_of bytes).events)) =
    λ n l. sym (length-map (listed n bytes) item_on) ∙ ap length (items_are n bytes l) in
    rw (positions_count bytes).words (omega (arith, (known_file bytes).held, lines 1 (omega arith), lines 2 (omega arith)))

worst_is : (bytes : List ℕ) → (tally_over no_tally (replay_of bytes).events).worst ≡ greatest (listed 2 bytes)
worst_is bytes = rw (lines_are (only 2) bytes) (worst_over no_tally (replay_of bytes).events ∙ zero-max _)

-- a closing line's two numbers
closing_is : (t : Tally) (position : ℕ) (fault : Option Refusal) (ws : List ℕ) (held worst : ℕ) → end_printed Listing t position fault ws ≡ Closing held worst
    → (held_of shipped ws ≡ held) × (t.worst ≡ worst)
unfolding end_numbered listed_end
closing_is t position None ws held worst e = (cc, cc)
closing_is t position (Some refusal) ws held worst e = let z : ◌≡◌ {A = ℕ} 0 1 = cc in absurd (omega arith)

pub closing_adds_up : ClosingAddsUp
closing_adds_up bytes held worst e =
    let last : end_of Listing bytes ≡ Closing held worst = sym (last_end (map answer_line (replay_of bytes).events) (end_of Listing bytes)) ∙ ap last_of (sym (lists_all bytes)) ∙ e in
    let c = closing_is _ _ _ _ held worst last in
    (omega (arith, c.0, adds_up bytes), sym c.1 ∙ worst_is bytes)

-- ---- no listing stops with a 30
end_not_over : (t : Tally) (position : ℕ) (fault : Option Refusal) (ws : List ℕ) → fault_number fault ≤ bad_word → NotOver (end_printed Listing t position fault ws)
unfolding end_numbered listed_end
end_not_over t position None ws l e u over = let z : ◌≡◌ {A = ℕ} 0 1 = cc in absurd (omega arith)
end_not_over t position (Some refusal) ws l e u over = let same : refusal_number refusal ≡ e.number = cc in omega arith

answers_not_over : (xs : List Happened) (x : Printed) → NotOver x → All NotOver (map answer_line xs ++ (x ∷ []))
answers_not_over [] x h = (h, tt)
answers_not_over (y ∷ ys) x h =
    let goes = answer_goes y.event.position (worker_in y.event.item) y.event.answer in
    ((λ e u. absurd (false≢true (sym goes ∙ ap ends_with u))), answers_not_over ys x h)

pub never_over : NeverOver
unfolding replay_of
never_over bytes =
    rw (lists_all bytes)
    (answers_not_over (replay_of bytes).events (end_of Listing bytes) (end_not_over _ _ _ _ (faults First 0 lent (reads_of bytes))))

-- ---- the summary
pub summary_counts : SummaryCounts
unfolding printed_of end_numbered tally_after
summary_counts bytes =
    let r = replay_of bytes in
    let t = tally_over no_tally r.events in
    let k = known_file bytes in
    let lines : (count : Tally → ℕ) (among : ℕ → Bool) → ((t : Tally) (e : Happening) → count (tally_after t e) ≡ count_on (count t) (among (number_of e.answer))) → among 0 ≡ false
    → count t ≡ count no_tally + length (listed_if among bytes) =
    λ count among on none. rw (lines_are among bytes) (count_over count among on none no_tally r.events) in
    let puts = lines (λ t. t.puts) (only 1) (λ t e. refl) refl in
    let takes = lines (λ t. t.takes) (only 2) (λ t e. refl) refl in (
      _,
      ap last_of (sums_from no_tally r.events r.end) ∙ last_end (map (λ (x : Happened). Nothing) r.events) (end_of Summing bytes),
      record {
        fault = refl;
        puts = omega arith;
        takes = omega arith;
        empties = omega (arith, lines (λ t. t.empties) (only 3) (λ t e. refl) refl);
        fulls = omega (arith, lines (λ t. t.fulls) (only 4) (λ t e. refl) refl);
        refused = omega (arith, lines (λ t. t.refused) (ltb 4) (λ t e. refl) refl);
        held = omega (arith, adds_up bytes);
        worst = worst_is bytes;
        within = rw (worst_is bytes, lines_are (only 2) bytes) (close_greatest _ r.events k.close);
        bound = λ g e. k.pool g e;
      },
    )
