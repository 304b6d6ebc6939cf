-- HOW A FILE BEGINS: its first word opens and leaves the words lent, its second makes the pool, and none after it does (`file_begins`), since a word's place says
-- which kinds may stand there. So does each front part of it (`front_begins`).
use Rattle.std.proofs.Common.{◌≡◌, ℕ, ◌+◌, Option, Some, None, Ok, Err, ◌⊎◌, inl, inr, List, [], ◌∷◌, ◌++◌, refl, subst}
use Rattle.std.specs.Option.{option_map}
use Rattle.laws.specs.Choice.{cond, cases}
use Rattle.rules.specs.Answers.{Out, number_of}
use Rattle.rules.specs.Make.{shipped_from, make_of}
use Rattle.rules.specs.declared.Answer.TheVariants.{Moving}
use Rattle.rules.specs.declared.Refusal.{Refusal}
use Rattle.rules.specs.Statement.{All}
use Rattle.rules.specs.declared.Settings.{Settings}
use Rattle.rules.specs.Answers.{Answered}
use Rattle.runfile.specs.Words.{reads_of}
use Rattle.runfile.specs.Items.{first_of, second_of, size_of, later_of, item_of}
use Rattle.runfile.specs.declared.word.Read.{Read}
use Rattle.runfile.specs.declared.word.Read.TheVariants.{Word, Cut, End as NoMore}
use Rattle.runfile.specs.declared.item.Opening.{Opening}
use Rattle.runfile.specs.declared.item.Place.TheVariants.{First, Second, Later, Past}
use Rattle.runfile.specs.declared.item.Item.{Item as Saying}
use Rattle.runfile.specs.declared.item.Item.TheVariants.{Open, Make, Says}
use Rattle.runfile.specs.declared.item.Said.{Said}
use Rattle.runfile.specs.declared.item.Said.TheVariants.{BeginPut, BeginTake, Step, End, SetSize}
use Rattle.replay.specs.Replay.{Asked, nothing, making, calling, asked_of, out_of, answered, item_next, word_next, next_of, Happened, goes_on, next_place, replay_from, replay_of, lent, Next}
use Rattle.replay.specs.Files.{FrontOf}

-- after the pool is made: a call, or a word that asks for nothing, which is answered 0
abbrev pub Late : Asked → Answered → Type 0
Late nothing a = number_of a ≡ 0
Late (making g) a = ⊥
Late (calling c) a = Unit {0}

abbrev pub AllLate : List Happened → Type 0
AllLate xs = All (λ (x : Happened). Late (asked_of x.event.item) x.event.answer) xs

-- the word that makes it, and those after it
pub record Makes (x : Happened) : Type 0 where
  pub settings : Settings
  pub item : x.event.item ≡ Make settings
  pub number : number_of x.event.answer ≡ 0

abbrev pub Making : List Happened → Type 0
Making [] = Unit {0}
Making (x ∷ xs) = Makes x × AllLate xs

-- the first word, and those after it
pub record Opens (x : Happened) : Type 0 where
  pub opening : Opening
  pub item : x.event.item ≡ Open opening
  pub number : number_of x.event.answer ≡ 0
  pub words : x.words ≡ lent

abbrev pub Begun : List Happened → Type 0
Begun [] = Unit {0}
Begun (x ∷ xs) = Opens x × Making xs

-- what a word does, and the rest of the file from the place after it
abbrev onward : ℕ → List ℕ → List Read → Option Saying → List Happened
onward position ws reads said =
    let r = word_next ws position said in
    (goes_on position r.next r.words (replay_from (next_place r.next) (position + 1) r.words reads)).events

-- a make is answered 0 or refused
pub make_answer : (ws : List ℕ) (g : Settings) → ((make_of ws g).answer ≡ Ok Moving) ⊎ ((refusal : Refusal) × ((make_of ws g).answer ≡ Err refusal))
unfolding make_of
make_answer ws g = cases Answers _ _ _ (λ _. cases Answers _ _ _ (λ _. inr (_, refl)) (λ _. inl refl)) (λ _. inr (_, refl))
  where
    Answers : Out → Type 0
    Answers o = (o.answer ≡ Ok Moving) ⊎ ((refusal : Refusal) × (o.answer ≡ Err refusal))

-- after the end word nothing happens
past_none : (position : ℕ) (ws : List ℕ) (reads : List Read) → (replay_from Past position ws reads).events ≡ []
unfolding replay_from next_of word_next item_of
past_none position ws [] = refl
past_none position ws (Cut ∷ reads) = refl
past_none position ws (NoMore ∷ reads) = refl
past_none position ws (Word word ∷ reads) = refl

module _ (position : ℕ) (ws : List ℕ) (reads : List Read) where
  -- a word that is a fault
  bad_none : (P : List Happened → Type 0) → P [] → P (onward position ws reads None)
  unfolding word_next
  bad_none P h = h

  end_late : AllLate (onward position ws reads (Some (Says End)))
  unfolding word_next item_next out_of
  end_late = (refl, rw (past_none (position + 1) ws reads) tt)

  module _ (rest : (ws' : List ℕ) → AllLate (replay_from Later (position + 1) ws' reads).events) where
    -- a call
    put_late : (worker value : ℕ) → AllLate (onward position ws reads (Some (Says (BeginPut worker value))))
    unfolding word_next item_next out_of
    put_late worker value = (tt, rest _)

    take_late : (worker : ℕ) → AllLate (onward position ws reads (Some (Says (BeginTake worker))))
    unfolding word_next item_next out_of
    take_late worker = (tt, rest _)

    step_late : (worker : ℕ) → AllLate (onward position ws reads (Some (Says (Step worker))))
    unfolding word_next item_next out_of
    step_late worker = (tt, rest _)

    size_late : (width depth : ℕ) → AllLate (onward position ws reads (Some (Says (SetSize width depth))))
    unfolding word_next item_next out_of
    size_late width depth = (tt, rest _)

    word_late : (word : ℕ) → AllLate (onward position ws reads (option_map Says (later_of word)))
    unfolding later_of size_of
    word_late word =
        let P : Option Said → Type 0 = λ said. AllLate (onward position ws reads (option_map Says said)) in
        let bad : P None = bad_none AllLate tt in
        cases P _ _ _ (λ _. put_late _ _)
        (λ _. cases P _ _ _ (λ _. cases P _ _ _ (λ _. take_late _) (λ _. bad))
        (λ _. cases P _ _ _ (λ _. cases P _ _ _ (λ _. step_late _) (λ _. bad))
        (λ _. cases P _ _ _ (λ _. cases P _ _ _ (λ _. end_late) (λ _. bad))
        (λ _. cases P _ _ _ (λ _. cases P _ _ _ (λ _. size_late _ _) (λ _. bad)) (λ _. bad)))))

later_late : (position : ℕ) (ws : List ℕ) (reads : List Read) → AllLate (replay_from Later position ws reads).events
unfolding replay_from next_of item_of
later_late position ws [] = tt
later_late position ws (Cut ∷ reads) = tt
later_late position ws (NoMore ∷ reads) = tt
later_late position ws (Word word ∷ reads) = word_late position ws reads (λ ws'. later_late (position + 1) ws' reads) word

module _ (position : ℕ) (ws : List ℕ) (reads : List Read) where
  -- a make that is refused is the file's fault
  make_making : (g : Settings) → Making (onward position ws reads (Some (Make g)))
  unfolding word_next item_next out_of
  make_making g = by (make_of ws (shipped_from g)) (make_answer ws (shipped_from g))
    where
      by : (o : Out) → (o.answer ≡ Ok Moving) ⊎ ((refusal : Refusal) × (o.answer ≡ Err refusal))
          → (let next = answered position (Make g) o.answer in Making (goes_on position next o.words (replay_from (next_place next) (position + 1) o.words reads)).events)
      by o (inl e) = rw e (record { settings = g; item = refl; number = refl }, later_late (position + 1) o.words reads)
      by o (inr (refusal, e)) = rw e tt

  word_making : (opening : Opening) (word : ℕ) → Making (onward position ws reads (option_map Make (second_of opening word)))
  unfolding second_of
  word_making opening word =
      let P : Option Settings → Type 0 = λ g. Making (onward position ws reads (option_map Make g)) in
      let bad : P None = bad_none position ws reads Making tt in
      cases P _ _ _ (λ _. cases P _ _ _ (λ _. make_making _) (λ _. bad)) (λ _. bad)

second_making : (opening : Opening) (position : ℕ) (ws : List ℕ) (reads : List Read) → Making (replay_from (Second opening) position ws reads).events
unfolding replay_from next_of item_of
second_making opening position ws [] = tt
second_making opening position ws (Cut ∷ reads) = tt
second_making opening position ws (NoMore ∷ reads) = tt
second_making opening position ws (Word word ∷ reads) = word_making position ws reads opening word

open_begun : (position : ℕ) (reads : List Read) (opening : Opening) → Begun (onward position lent reads (Some (Open opening)))
unfolding word_next item_next out_of
open_begun position reads opening = (record { opening = opening; item = refl; number = refl; words = refl }, second_making opening (position + 1) lent reads)

word_begun : (position : ℕ) (reads : List Read) (word : ℕ) → Begun (onward position lent reads (option_map Open (first_of word)))
unfolding first_of
word_begun position reads word =
    let P : Option Opening → Type 0 = λ opening. Begun (onward position lent reads (option_map Open opening)) in
    let bad : P None = bad_none position lent reads Begun tt in
    cases P _ _ _ (λ _. cases P _ _ _ (λ _. open_begun position reads _) (λ _. bad)) (λ _. bad)

first_begun : (position : ℕ) (reads : List Read) → Begun (replay_from First position lent reads).events
unfolding replay_from next_of item_of
first_begun position [] = tt
first_begun position (Cut ∷ reads) = tt
first_begun position (NoMore ∷ reads) = tt
first_begun position (Word word ∷ reads) = word_begun position reads word

file_begins : (bytes : List ℕ) → Begun (replay_of bytes).events
unfolding replay_of
file_begins bytes = first_begun _ (reads_of bytes)

-- a front part is a file's beginning as well
late_front : (xs rest : List Happened) → AllLate (xs ++ rest) → AllLate xs
late_front [] rest h = tt
late_front (x ∷ xs) rest h = (h.0, late_front xs rest h.1)

making_front : (xs rest : List Happened) → Making (xs ++ rest) → Making xs
making_front [] rest h = tt
making_front (x ∷ xs) rest h = (h.0, late_front xs rest h.1)

begun_front : (xs rest : List Happened) → Begun (xs ++ rest) → Begun xs
begun_front [] rest h = tt
begun_front (x ∷ xs) rest h = (h.0, making_front xs rest h.1)

pub front_begins : (bytes : List ℕ) (xs : List Happened) → FrontOf bytes xs → Begun xs
front_begins bytes xs (rest, e) = begun_front xs rest (subst Begun e (file_begins bytes))
