-- FILES ARE RUNS: the calls of a file are a list of calls on a new pool, and their answers are `run`'s (`files_are_runs`); each event stands at its
-- word's position (`positions_count`).
-- A file's words follow each other as `out_of` says (`Chain`), by induction on what the reader yields. The first of them opens, the second makes the pool,
-- and none after it does (`Begins`). What follows each other without a make is a run.
use Rattle.std.proofs.Common.{◌≡◌, ℕ, ◌+◌, Bool, true, false, Option, Some, None, Ok, Err, List, [], ◌∷◌, ◌++◌, map, refl, sym, ap, subst, ◌∙◌, zero-add, arith, eqb, length}
use Rattle.std.proofs.lemmas.Option.{none-some, same_Some}
use mathlib.Core.Option.{none, some}
use Rattle.laws.specs.Choice.{cond, cases}
use Rattle.rules.specs.Answers.{Out, number_of}
use Rattle.rules.specs.Consequences.{words_after}
use Rattle.rules.specs.Limits.{settings_fit}
use Rattle.rules.specs.Make.{shipped, shipped_from, make_of}
use Rattle.rules.specs.Run.{Event, event_of, call_of, run}
use Rattle.rules.specs.Statement.{All}
use Rattle.rules.specs.declared.Settings.{Settings}
use Rattle.rules.specs.declared.Refusal.{Refusal}
use Rattle.rules.specs.Answers.{Answered}
use Rattle.runfile.specs.Words.{reads_of}
use Rattle.runfile.specs.Items.{item_of}
use Rattle.runfile.specs.declared.word.Read.{Read}
use Rattle.runfile.specs.declared.word.Read.TheVariants.{Word, Cut, End as NoMore}
use Rattle.runfile.specs.declared.item.Place.{Place}
use Rattle.runfile.specs.declared.item.Place.TheVariants.{First}
use Rattle.runfile.specs.declared.item.Item.{Item}
use Rattle.runfile.specs.declared.item.Item.TheVariants.{Open, Make, Says}
use Rattle.replay.specs.Replay.{unless, Asked, nothing, making, calling, asked_of, out_of, fault_in, event, item_next, word_next, next_of, Happened, Replay, goes_on, next_place, replay_from, replay_of, lent}
use Rattle.replay.specs.Files.{pool_in, with_call, events_in, calls_in, words_in, RunsOn, RunsOnPool, FilesAreRuns, PositionsCount, RunsGiveFiles}
use Rattle.replay.proofs.Begins.{Late, AllLate, Making, Begun, front_begins}

-- ---- events that follow each other
-- each event's answer and words are what its word asks for, on the words before it; and it stands at its position
abbrev Chain : ℕ → List ℕ → List Happened → Type 0
Chain position ws [] = Unit {0}
Chain position ws (x ∷ xs) =
    (x.event.answer ≡ (out_of ws (asked_of x.event.item)).answer) × (x.words ≡ (out_of ws (asked_of x.event.item)).words)
    × (x.event.position ≡ position) × Chain (position + 1) x.words xs

-- an event is where a word is no fault
chain_on : (ws : List ℕ) (position : ℕ) (item : Item) (fault : Option Refusal) (rest : Replay) (o : Out) → o ≡ out_of ws (asked_of item)
    → Chain (position + 1) o.words rest.events
    → Chain position ws (goes_on position (unless fault (event position item o.answer)) o.words rest).events
chain_on ws position item None rest o e h = (ap (λ (x : Out). x.answer) e, ap (λ (x : Out). x.words) e, refl, h)
chain_on ws position item (Some refusal) rest o e h = tt

chain_word : (position : ℕ) (ws : List ℕ) (said : Option Item) (rest : Replay)
    → Chain (position + 1) (word_next ws position said).words rest.events
    → Chain position ws (goes_on position (word_next ws position said).next (word_next ws position said).words rest).events
unfolding word_next item_next
chain_word position ws (Some item) rest h = chain_on ws position item _ rest (out_of ws (asked_of item)) refl h
chain_word position ws None rest h = tt

chain : (place : Place) (position : ℕ) (ws : List ℕ) (reads : List Read) → Chain position ws (replay_from place position ws reads).events
unfolding replay_from next_of
chain place position ws [] = tt
chain place position ws (Cut ∷ reads) = tt
chain place position ws (NoMore ∷ reads) = tt
chain place position ws (Word word ∷ reads) =
    let r = word_next ws position (item_of place word) in
    chain_word position ws (item_of place word) _ (chain (next_place r.next) (position + 1) r.words reads)

-- so do those of a front part
chain_front : (position : ℕ) (ws : List ℕ) (xs rest : List Happened) → Chain position ws (xs ++ rest) → Chain position ws xs
chain_front position ws [] rest h = tt
chain_front position ws (x ∷ xs) rest h = (h.0, h.1, h.2, chain_front (position + 1) x.words xs rest h.3)

-- ---- a run
-- a word that makes no pool
abbrev NoMake : Asked → Type 0
NoMake nothing = Unit {0}
NoMake (making g) = ⊥
NoMake (calling c) = Unit {0}

abbrev Makeless : List Happened → Type 0
Makeless xs = All (λ (x : Happened). NoMake (asked_of x.event.item)) xs

-- events that are a run from some words
abbrev Runs : List ℕ → List ℕ → List Event → Type 0
Runs ws after es = (es ≡ run shipped ws (map (λ (e : Event). e.call) es)) × (after ≡ words_after shipped ws (map (λ (e : Event). e.call) es))

run_on : (a : Asked) (ws : List ℕ) (answer : Answered) (ws' after : List ℕ) (es : List Event) → answer ≡ (out_of ws a).answer → ws' ≡ (out_of ws a).words → NoMake a
    → Runs ws' after es → Runs ws after (with_call ws a answer es)
unfolding out_of run words_after
run_on nothing ws answer ws' after es e w less h = rw w at h
run_on (making g) ws answer ws' after es e w less h = absurd less
run_on (calling c) ws answer ws' after es e w less h =
    let h' : Runs (call_of shipped ws c).words after es = rw w at h in
    (rw e (ap (λ (l : List Event). event_of ws c (call_of shipped ws c).answer ∷ l) h'.0), h'.1)

-- events that follow each other without a make
chain_runs : (position : ℕ) (ws : List ℕ) (xs : List Happened) → Chain position ws xs → Makeless xs → Runs ws (words_in ws xs) (events_in ws xs)
unfolding events_in words_in run words_after
chain_runs position ws [] h less = (refl, refl)
chain_runs position ws (x ∷ xs) h less =
    run_on (asked_of x.event.item) ws x.event.answer x.words (words_in x.words xs) (events_in x.words xs) h.0 h.1 less.0
    (chain_runs (position + 1) x.words xs h.3 less.1)

-- ---- how a file begins
-- the second word makes the pool, and none after it does
abbrev Made : List Happened → Type 0
Made [] = Unit {0}
Made (y ∷ ys) = (g : Settings) × (asked_of y.event.item ≡ making (shipped_from g)) × (number_of y.event.answer ≡ 0) × Makeless ys

-- the first opens
abbrev Opened : List Happened → Type 0
Opened [] = Unit {0}
Opened (x ∷ xs) = (asked_of x.event.item ≡ nothing) × Made xs

late_makeless : (xs : List Happened) → AllLate xs → Makeless xs
late_makeless [] h = tt
late_makeless (x ∷ xs) h = (by (asked_of x.event.item) h.0, late_makeless xs h.1)
  where
    by : (a : Asked) → Late a x.event.answer → NoMake a
    by nothing q = tt
    by (making g) q = q
    by (calling c) q = tt

making_made : (xs : List Happened) → Making xs → Made xs
making_made [] h = tt
making_made (y ∷ ys) h = (h.0.settings, ap asked_of h.0.item, h.0.number, late_makeless ys h.1)

begun_opened : (xs : List Happened) → Begun xs → Opened xs
begun_opened [] h = tt
begun_opened (x ∷ xs) h = (ap asked_of h.0.item, making_made xs h.1)

-- ---- the theorem
-- the two opening words make no call
opening_events : (x y : Happened) (xs : List Happened) (g : Settings) → asked_of x.event.item ≡ nothing → asked_of y.event.item ≡ making g
    → events_in lent (x ∷ y ∷ xs) ≡ events_in y.words xs
unfolding events_in
opening_events x y xs g ex ey = rw (ex, ey)

opening_pool : (x y : Happened) (xs : List Happened) (g : Settings) → asked_of x.event.item ≡ nothing → asked_of y.event.item ≡ making g
    → pool_in (x ∷ y ∷ xs) ≡ some g
unfolding pool_in
opening_pool x y xs g ex ey = rw (ex, ey)

opening_words : (x y : Happened) (xs : List Happened) → words_in lent (x ∷ y ∷ xs) ≡ words_in y.words xs
unfolding words_in
opening_words x y xs = refl

make_out : (x y : Happened) (g : Settings) → Chain 0 lent (x ∷ y ∷ []) → asked_of x.event.item ≡ nothing → asked_of y.event.item ≡ making g
    → (y.event.answer ≡ (make_of lent g).answer) × (y.words ≡ (make_of lent g).words)
unfolding out_of
make_out x y g h ex ey =
    let same : x.words ≡ lent = rw ex at h.1 in
    (rw (ey, same) at h.3.0, rw (ey, same) at h.3.1)

opened_runs : (x y : Happened) (xs : List Happened) (h : Chain 0 lent (x ∷ y ∷ xs)) (o : Opened (x ∷ y ∷ xs)) → RunsOn (shipped_from o.1.0) (x ∷ y ∷ xs)
opened_runs x y xs h o =
    let g = shipped_from o.1.0 in
    let m = make_out x y g (h.0, h.1, h.2, (h.3.0, h.3.1, h.3.2, tt)) o.0 o.1.1 in
    let r : Runs (make_of lent g).words (words_in (make_of lent g).words xs) (events_in (make_of lent g).words xs) = rw m.1 at (chain_runs 2 y.words xs h.3.3 o.1.3) in
    let same = opening_events x y xs g o.0 o.1.1 in
    record {
      made = rw m.0 at o.1.2;
      answers = rw (same, m.1) r.0;
      words = rw same (opening_words x y xs ∙ (rw m.1 r.1));
    }

-- before them there is neither a pool nor a call
none_yet : events_in lent [] ≡ []
unfolding events_in
none_yet = refl

events_alone : (x : Happened) → asked_of x.event.item ≡ nothing → events_in lent (x ∷ []) ≡ []
unfolding events_in
events_alone x e = rw e

pool_alone : (x : Happened) → asked_of x.event.item ≡ nothing → pool_in (x ∷ []) ≡ none
unfolding pool_in
pool_alone x e = rw e

begun : (xs : List Happened) → Chain 0 lent xs → Opened xs → RunsOnPool (pool_in xs) xs
unfolding pool_in
begun [] h o = none_yet
begun (x ∷ []) h o = subst (λ p. RunsOnPool p (x ∷ [])) (sym (pool_alone x o.0)) (events_alone x o.0)
begun (x ∷ y ∷ xs) h o = subst (λ p. RunsOnPool p (x ∷ y ∷ xs)) (sym (opening_pool x y xs _ o.0 o.1.1)) (opened_runs x y xs h o)

pub files_are_runs : FilesAreRuns
unfolding replay_of
files_are_runs bytes xs (rest, e) =
    begun xs (chain_front 0 lent xs rest (subst (Chain 0 lent) e (chain First 0 lent (reads_of bytes))))
    (begun_opened xs (front_begins bytes xs (rest, e)))

-- what holds of every run holds of every file
pub runs_give_files : RunsGiveFiles
runs_give_files P all bytes xs front g pool =
    let r : RunsOn g xs = subst (λ p. RunsOnPool p xs) pool (files_are_runs bytes xs front) in
    all lent g (calls_in xs) r.made

-- ---- positions
position_at : (position : ℕ) (ws : List ℕ) (xs : List Happened) (x : Happened) (rest : List Happened) → Chain position ws (xs ++ (x ∷ rest)) → x.event.position ≡ position + length xs
position_at position ws [] x rest h = omega (arith, h.2)
position_at position ws (y ∷ xs) x rest h = let p = position_at (position + 1) y.words xs x rest h.3 in omega arith

-- where the events end
pub record EndsAt (at : ℕ) (ws : List ℕ) (r : Replay) : Type 0 where
  pub after : r.end.position ≡ at + length r.events
  pub last : r.end.words ≡ words_in ws r.events

-- a fault leaves the words: a make that is refused too
make_kept : (ws : List ℕ) (g : Settings) (refusal : Refusal) → (make_of ws g).answer ≡ Err refusal → (make_of ws g).words ≡ ws
unfolding make_of
make_kept ws g refusal = cases Kept (settings_fit g) _ _ (λ _. cases Kept _ _ _ (λ _ _. refl) (λ _ e. let z : ◌≡◌ {A = ℕ} 0 1 = cc in absurd (omega arith))) (λ _ _. refl)
  where
    Kept : Out → Type 0
    Kept o = o.answer ≡ Err refusal → o.words ≡ ws

make_refused : (g : Settings) (a : Answered) (refusal : Refusal) → fault_in (Make g) a ≡ Some refusal → a ≡ Err refusal
make_refused g (Ok a) refusal e = absurd (none-some refusal e)
make_refused g (Err k) refusal e = rw (same_Some k refusal e) refl

fault_kept : (ws : List ℕ) (item : Item) (refusal : Refusal) → fault_in item (out_of ws (asked_of item)).answer ≡ Some refusal → (out_of ws (asked_of item)).words ≡ ws
unfolding out_of
fault_kept ws (Open opening) refusal e = refl
fault_kept ws (Make g) refusal e = make_kept ws (shipped_from g) refusal (make_refused g _ refusal e)
fault_kept ws (Says said) refusal e = absurd (none-some refusal e)

ending_on : (fault : Option Refusal) (at : ℕ) (ws : List ℕ) (item : Item) (a : Answered) (ws' : List ℕ) (rest : Replay)
    → ((refusal : Refusal) → fault ≡ Some refusal → ws' ≡ ws) → EndsAt (at + 1) ws' rest → EndsAt at ws (goes_on at (unless fault (event at item a)) ws' rest)
unfolding words_in
ending_on None at ws item a ws' rest kept h = let p = h.after in record { after = omega arith; last = h.last }
ending_on (Some refusal) at ws item a ws' rest kept h = record { after = omega arith; last = kept refusal refl }

ending_word : (at : ℕ) (ws : List ℕ) (said : Option Item) (rest : Replay) → EndsAt (at + 1) (word_next ws at said).words rest
    → EndsAt at ws (goes_on at (word_next ws at said).next (word_next ws at said).words rest)
unfolding word_next item_next words_in
ending_word at ws (Some item) rest h = let o = out_of ws (asked_of item) in ending_on _ at ws item o.answer o.words rest (fault_kept ws item) h
ending_word at ws None rest h = record { after = omega arith; last = refl }

ending : (place : Place) (at : ℕ) (ws : List ℕ) (reads : List Read) → EndsAt at ws (replay_from place at ws reads)
unfolding replay_from next_of words_in
ending place at ws [] = record { after = omega arith; last = refl }
ending place at ws (Cut ∷ reads) = record { after = omega arith; last = refl }
ending place at ws (NoMore ∷ reads) = record { after = omega arith; last = refl }
ending place at ws (Word word ∷ reads) =
    let r = word_next ws at (item_of place word) in
    ending_word at ws (item_of place word) _ (ending (next_place r.next) (at + 1) r.words reads)

pub positions_count : PositionsCount
unfolding replay_of
positions_count bytes =
    let end = ending First 0 lent (reads_of bytes) in
    record {
      each = λ xs x rest e. simp zero-add at (position_at 0 lent xs x rest (subst (Chain 0 lent) e (chain First 0 lent (reads_of bytes))));
      end = simp zero-add at end.after;
      words = end.last;
    }
