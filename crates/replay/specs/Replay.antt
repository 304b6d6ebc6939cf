-- THE REPLAY of a run file, from its bytes to its events: for each word its position, what it says, the call that it makes and the answer; the
-- pool's words after it; and the fault that ends the file.
-- What the programs print are printings of it.
use Rattle.std.specs.Prelude.{ℕ, ◌+◌, List, [], ◌∷◌, replicate, Option, Some, None, Ok, Err}
use Rattle.rules.specs.Answers.{Out, out}
use Rattle.rules.specs.Layout.{most_words}
use Rattle.rules.specs.Make.{shipped, shipped_from, make_of}
use Rattle.rules.specs.Run.{Call, begin_put, begin_take, step, set_size, call_of}
use Rattle.rules.specs.declared.Settings.{Settings}
use Rattle.rules.specs.Answers.{Answered}
use Rattle.rules.specs.declared.Answer.TheVariants.{Moving}
use Rattle.rules.specs.declared.Refusal.{Refusal}
use Rattle.rules.specs.declared.Refusal.TheVariants.{BadWord}
use Rattle.runfile.specs.Words.{reads_of}
use Rattle.runfile.specs.Items.{item_of}
use Rattle.runfile.specs.Faults.{fault_of}
use Rattle.runfile.specs.declared.word.Read.{Read}
use Rattle.runfile.specs.declared.word.Read.TheVariants.{Word, Cut, End as NoMore}
use Rattle.runfile.specs.declared.item.Place.{Place}
use Rattle.runfile.specs.declared.item.Place.TheVariants.{First, Second, Later, Past}
use Rattle.runfile.specs.declared.item.Item.{Item}
use Rattle.runfile.specs.declared.item.Item.TheVariants.{Open, Make, Says}
use Rattle.runfile.specs.declared.item.Said.TheVariants.{BeginPut, BeginTake, Step, End, SetSize}

-- ---- what a word asks for
-- nothing, that the pool be made, or a call of demand 3's list
pub data Asked : Type 0 where
  nothing : Asked
  making : Settings → Asked
  calling : Call → Asked

abbrev pub asked_of : Item → Asked
asked_of (Open opening) = nothing
asked_of (Make g) = making (shipped_from g)
asked_of (Says (BeginPut worker value)) = calling (begin_put worker value)
asked_of (Says (BeginTake worker)) = calling (begin_take worker)
asked_of (Says (Step worker)) = calling (step worker)
asked_of (Says End) = nothing
asked_of (Says (SetSize width depth)) = calling (set_size width depth)

-- what is answered, and the pool's words afterwards
unfoldable pub out_of : List ℕ → Asked → Out
out_of ws nothing = out (Ok Moving) ws
out_of ws (making g) = make_of ws g
out_of ws (calling c) = call_of shipped ws c

-- ---- what a word is followed by
-- the place of the next word. It may hang on the answer: a word may stand only after a call that was not refused
abbrev pub place_after : Item → Answered → Place
place_after (Open opening) a = Second opening
place_after (Make g) a = Later
place_after (Says (BeginPut worker value)) a = Later
place_after (Says (BeginTake worker)) a = Later
place_after (Says (Step worker)) a = Later
place_after (Says End) a = Past
place_after (Says (SetSize width depth)) a = Later

-- the fault that a word is: a pool that is not made, since "the lister stops after 22"
abbrev pub fault_in : Item → Answered → Option Refusal
fault_in (Open opening) a = None
fault_in (Make g) (Ok a) = None
fault_in (Make g) (Err refusal) = Some refusal
fault_in (Says said) a = None

-- ---- one word
-- what a word did: its position, what it says, and the answer to the call that it makes, `Moving` where it makes none
pub record Event : Type 0 where
  pub position : ℕ
  pub item : Item
  pub answer : Answered

-- how the file goes on: with an event, or it ends, by a fault or by none
pub data Next : Type 0 where
  goes : Event → Next
  ends : Option Refusal → Next

-- that, and the pool's words
pub record Replayed : Type 0 where
  pub next : Next
  pub words : List ℕ

abbrev pub replayed : Next → List ℕ → Replayed
replayed n ws = record { next = n; words = ws }

abbrev pub event : ℕ → Item → Answered → Event
event position item a = record { position = position; item = item; answer = a }

-- an event, unless its word is a fault
abbrev pub unless : Option Refusal → Event → Next
unless None e = goes e
unless (Some refusal) e = ends (Some refusal)

-- an item that was answered
abbrev pub answered : ℕ → Item → Answered → Next
answered position item a = unless (fault_in item a) (event position item a)

unfoldable pub item_next : List ℕ → ℕ → Item → Replayed
item_next ws position item =
    replayed (answered position item (out_of ws (asked_of item)).answer) (out_of ws (asked_of item)).words

-- a word that says nothing is a fault too: "a kind out of place, a nonzero spare bit, bytes after the end"
unfoldable pub word_next : List ℕ → ℕ → Option Item → Replayed
word_next ws position (Some item) = item_next ws position item
word_next ws position None = replayed (ends (Some BadWord)) ws

-- what stands at a position, in its place
unfoldable pub next_of : List ℕ → Place → ℕ → Read → Replayed
next_of ws place position (Word word) = word_next ws position (item_of place word)
next_of ws place position Cut = replayed (ends (fault_of place Cut)) ws
next_of ws place position NoMore = replayed (ends (fault_of place NoMore)) ws

-- ---- all words
-- an event, and the pool's words after it
pub record Happened : Type 0 where
  pub event : Event
  pub words : List ℕ

-- where a file ends: the position of the fault that ends it, or after its last word; the fault, if there is one; the pool's words then
pub record Ending : Type 0 where
  pub position : ℕ
  pub fault : Option Refusal
  pub words : List ℕ

pub record Replay : Type 0 where
  pub events : List Happened
  pub end : Ending

-- a word and the pool's words after it, before the rest of the file
abbrev pub goes_on : ℕ → Next → List ℕ → Replay → Replay
goes_on position (goes e) ws rest =
    record { events = record { event = e; words = ws } ∷ rest.events; end = rest.end }
goes_on position (ends fault) ws rest = record { events = []; end = record { position = position; fault = fault; words = ws } }

-- the place after it; after the end it does not matter
abbrev pub next_place : Next → Place
next_place (goes e) = place_after e.item e.answer
next_place (ends fault) = Past

-- what is left of a file, from a place and a position on
unfoldable pub replay_from : Place → ℕ → List ℕ → List Read → Replay
replay_from place position ws [] = record { events = []; end = record { position = position; fault = fault_of place NoMore; words = ws } }
replay_from place position ws (read ∷ reads) =
    let r = next_of ws place position read in
    goes_on position r.next r.words (replay_from (next_place r.next) (position + 1) r.words reads)

-- before the first word: enough words for the largest pool, so that make never answers 21
abbrev pub lent : List ℕ
lent = replicate (most_words shipped) 0

unfoldable pub replay_of : List ℕ → Replay
replay_of bytes = replay_from First 0 lent (reads_of bytes)
