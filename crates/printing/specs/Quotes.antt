-- WHAT IS QUOTED OF A LISTING, the statements. They hold of every run file, whatever its bytes, and are over its lines alone, as a planner reads them.
use Rattle.std.specs.Prelude.{ℕ, ◌+◌, ◌≤◌, max, Bool, List, [], ◌∷◌, ◌++◌, map, ◌≢◌, ◌≡◌, eqb, ltb, length, option_map}
use Rattle.std.proofs.Math.Option.{some}
use Rattle.laws.specs.Choice.{cond}
use Rattle.rules.specs.Answers.{refusal_number, over_bound}
use Rattle.rules.specs.Consequences.{has_stamp}
use Rattle.rules.specs.Held.{Item, count_items}
use Rattle.rules.specs.Statement.{All}
use Rattle.rules.specs.declared.Settings.{Settings}
use Rattle.replay.specs.Files.{pool_in}
use Rattle.replay.specs.Replay.{Happened, replay_of}
use Rattle.lines.specs.declared.line.Entry.{Entry}
use Rattle.lines.specs.declared.summary.Summary.{Summary}
use Rattle.tally.specs.Tally.{no_tally}
use Rattle.tally.specs.Bound.{tally_over, bound_of}
use Rattle.printing.specs.Printings.{worker_in, answer_printed, end_printed}
use Rattle.printing.specs.Print.{printed_of}
use Rattle.printing.specs.declared.printed.Mode.{Mode}
use Rattle.printing.specs.declared.printed.Mode.TheVariants.{Listing, Summing}
use Rattle.printing.specs.declared.printed.Printed.{Printed}
use Rattle.printing.specs.declared.printed.Printed.TheVariants.{Nothing, Line, Last, Closing, Totals}

-- ---- the lines of a listing
-- those whose number is one of some
abbrev pub line_if : (ℕ → Bool) → Printed → List Entry
line_if among Nothing = []
line_if among (Line e) = cond (among e.number) (e ∷ []) []
line_if among (Last e) = []
line_if among (Closing held worst) = []
line_if among (Totals s) = []

unfoldable pub lines_if : (ℕ → Bool) → List Printed → List Entry
lines_if among [] = []
lines_if among (x ∷ xs) = line_if among x ++ lines_if among xs

abbrev pub listed_if : (ℕ → Bool) → List ℕ → List Entry
listed_if among bytes = lines_if among (printed_of Listing bytes)

-- one number: 1 put, 2 taken, 3 empty, 4 full
abbrev pub only : ℕ → ℕ → Bool
only n k = eqb k n

abbrev pub listed : ℕ → List ℕ → List Entry
listed n bytes = listed_if (only n) bytes

-- or a refusal's: any above 4
abbrev pub refusals_listed : List ℕ → List Entry
refusals_listed bytes = listed_if (ltb 4) bytes

-- the item of a line, its value and stamp
abbrev pub item_on : Entry → Item
item_on e = record { value = e.value; stamp = e.stamp.0 }

abbrev pub items_listed : ℕ → List ℕ → List Item
items_listed n bytes = map item_on (listed n bytes)

-- the greatest distance on some lines; 0 on none
unfoldable pub greatest : List Entry → ℕ
greatest [] = 0
greatest (e ∷ es) = max e.distance (greatest es)

-- what is printed last
unfoldable pub last_of : List Printed → Printed
last_of [] = Nothing
last_of (x ∷ []) = x
last_of (x ∷ y ∷ ys) = last_of (y ∷ ys)

-- ---- every answer is listed: the answers to all of a file's words, in order, and then its end
abbrev pub answer_line : Happened → Printed
answer_line x = answer_printed x.event.position (worker_in x.event.item) x.event.answer

abbrev pub end_of : Mode → List ℕ → Printed
end_of m bytes =
    let r = replay_of bytes in
    end_printed m (tally_over no_tally r.events) r.end.position r.end.fault r.end.words

abbrev pub ListsAll : Type 0
ListsAll = (bytes : List ℕ) → printed_of Listing bytes ≡ map answer_line (replay_of bytes).events ++ (end_of Listing bytes ∷ [])

-- so no listing stops with a 30
abbrev pub NotOver : Printed → Type 0
NotOver x = (e : Entry) → x ≡ Last e → e.number ≢ over_bound

abbrev pub NeverOver : Type 0
NeverOver = (bytes : List ℕ) → All NotOver (printed_of Listing bytes)

-- ---- "each distance listed is within the bound": of the file's pool, or of a size that the file has set, whichever is the greatest
abbrev pub DistancesWithin : Type 0
DistancesWithin =
    (bytes : List ℕ) (g : Settings) → pool_in (replay_of bytes).events ≡ some g
    → All (λ (e : Entry). e.distance ≤ bound_of g (replay_of bytes).events) (listed 2 bytes)

-- ---- "a listing's takes are distinct stamps of its puts"
pub record TakesOfPuts (bytes : List ℕ) : Type 0 where
  -- no stamp is on two lines of puts, or of takes
  pub put_once : (stamp : ℕ) → count_items (has_stamp stamp) (items_listed 1 bytes) ≤ 1
  pub taken_once : (stamp : ℕ) → count_items (has_stamp stamp) (items_listed 2 bytes) ≤ 1
  -- whatever is asked of an item, of its value and its stamp, it is so of as many puts as takes, or more
  pub taken_put : (p : Item → Bool) → count_items p (items_listed 2 bytes) ≤ count_items p (items_listed 1 bytes)

abbrev pub TakesArePuts : Type 0
TakesArePuts = (bytes : List ℕ) → TakesOfPuts bytes

-- ---- "held is puts less takes", and worst is the greatest distance listed, of a listing that "ends with held H worst D"
abbrev pub ClosingAddsUp : Type 0
ClosingAddsUp =
    (bytes : List ℕ) (held worst : ℕ) → last_of (printed_of Listing bytes) ≡ Closing held worst
    → (held + length (listed 2 bytes) ≡ length (listed 1 bytes)) × (worst ≡ greatest (listed 2 bytes))

-- ---- the summary has the same numbers, of a file that ends in a fault too: it counts the lines of the listing, and names the fault by its number
pub record Counts (bytes : List ℕ) (s : Summary ℕ) : Type 0 where
  pub fault : s.fault ≡ option_map refusal_number (replay_of bytes).end.fault
  pub puts : s.puts ≡ length (listed 1 bytes)
  pub takes : s.takes ≡ length (listed 2 bytes)
  pub empties : s.empties ≡ length (listed 3 bytes)
  pub fulls : s.fulls ≡ length (listed 4 bytes)
  pub refused : s.refused ≡ length (refusals_listed bytes)
  pub held : s.held + s.takes ≡ s.puts
  pub worst : s.worst ≡ greatest (listed 2 bytes)
  pub within : s.worst ≤ s.bound
  pub bound : (g : Settings) → pool_in (replay_of bytes).events ≡ some g → s.bound ≡ bound_of g (replay_of bytes).events

abbrev pub SummaryCounts : Type 0
SummaryCounts = (bytes : List ℕ) → (s : Summary ℕ) × (last_of (printed_of Summing bytes) ≡ Totals s) × Counts bytes s
