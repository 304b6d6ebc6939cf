-- THE PRINTINGS of a replay: what each program prints of an event, and of the end of the file. A new program is a case of `Mode` with its lines here.
use Rattle.std.specs.Prelude.{ℕ, Bool, true, false, List, [], ltb, get_or, Option, Some, None, option_map, Result, Ok, Err}
use Rattle.laws.specs.Choice.{cond}
use Rattle.rules.specs.Answers.{refusal_number, over_bound}
use Rattle.rules.specs.Held.{held_of}
use Rattle.rules.specs.Layout.{steps_at}
use Rattle.rules.specs.Make.{shipped}
use Rattle.rules.specs.Run.{distance_by}
use Rattle.rules.specs.declared.Row.{Row}
use Rattle.rules.specs.declared.Stamp.{Stamp}
use Rattle.rules.specs.Answers.{Answered}
use Rattle.rules.specs.declared.Answer.{Answer}
use Rattle.rules.specs.declared.Answer.TheVariants.{Moving, Put, Taken, Empty, Full}
use Rattle.rules.specs.declared.Refusal.{Refusal}
use Rattle.runfile.specs.declared.item.Item.{Item}
use Rattle.runfile.specs.declared.item.Item.TheVariants.{Open, Make, Says}
use Rattle.runfile.specs.declared.item.Said.TheVariants.{BeginPut, BeginTake, Step, End, SetSize}
use Rattle.replay.specs.Replay.{Event}
use Rattle.lines.specs.Lines.{line_of, numbers_of, closing_of}
use Rattle.lines.specs.Summary.{summary_text}
use Rattle.lines.specs.declared.line.Entry.{Entry}
use Rattle.printing.specs.Lost.{lost_of}
use Rattle.tally.specs.declared.Tally.{Tally}
use Rattle.printing.specs.declared.printed.Mode.{Mode}
use Rattle.printing.specs.declared.printed.Mode.TheVariants.{Listing, Summing}
use Rattle.printing.specs.declared.printed.Printed.{Printed}
use Rattle.printing.specs.declared.printed.Printed.TheVariants.{Nothing, Line, Last, Closing, Totals}

-- ---- the lister: "for each answer 1 to 4 and each refusal it prints word position, number, worker, value, sub, row, stamp, distance"
-- a size word names no worker: it is "refused and listed with worker 0"
abbrev pub worker_in : Item → ℕ
worker_in (Open opening) = 0
worker_in (Make g) = 0
worker_in (Says (BeginPut worker value)) = worker
worker_in (Says (BeginTake worker)) = worker
worker_in (Says (Step worker)) = worker
worker_in (Says End) = 0
worker_in (Says (SetSize width depth)) = 0

-- the entry of an item that was put or taken
abbrev pub item_entry : ℕ → ℕ → ℕ → ℕ → ℕ → Row → Stamp → ℕ → Entry
item_entry position number worker value sub row stamp distance =
    record { position = position; number = number; worker = worker; value = value; sub = sub; row = row; stamp = stamp; distance = distance }

-- an entry whose last five fields are 0
abbrev pub plain : ℕ → ℕ → ℕ → Entry
plain position number worker = item_entry position number worker 0 0 (record { 0 = 0 }) (record { 0 = 0 }) 0

-- the answer 0 has no line; that of a refusal has the number of what stands for it
unfoldable pub answer_printed_by : {R : Type 0} → (R → ℕ) → ℕ → ℕ → Result Answer R → Printed
answer_printed_by number position worker (Ok Moving) = Nothing
answer_printed_by number position worker (Ok (Put value sub row stamp)) = Line (item_entry position 1 worker value sub row stamp 0)
answer_printed_by number position worker (Ok (Taken value sub row stamp distance)) = Line (item_entry position 2 worker value sub row stamp distance)
answer_printed_by number position worker (Ok Empty) = Line (plain position 3 worker)
answer_printed_by number position worker (Ok Full) = Line (plain position 4 worker)
answer_printed_by number position worker (Err refusal) = Line (plain position (number refusal) worker)

abbrev pub answer_printed : ℕ → ℕ → Answered → Printed
answer_printed position worker a = answer_printed_by refusal_number position worker a

-- "A 30 is printed in place of that take's answer, its last five fields 0", and the lister stops after it
unfoldable pub listed_by : {R : Type 0} → (R → ℕ) → ℕ → ℕ → Item → Result Answer R → Printed
listed_by number bound position item a =
    cond (ltb bound (distance_by a))
    (Last (plain position over_bound (worker_in item)))
    (answer_printed_by number position (worker_in item) a)

-- "The lister stops after 22, 28, 29, 30, else ends with held H worst D": a fault's line, by its number, its worker 0, or the closing line
unfoldable pub listed_end : Tally → ℕ → Option ℕ → List ℕ → Printed
listed_end t position None ws = Closing (held_of shipped ws) t.worst
listed_end t position (Some number) ws = Last (plain position number 0)

-- ---- the summary: a few lines, at the end alone
abbrev pub summary_end : Tally → ℕ → Option ℕ → List ℕ → Printed
summary_end t position fault ws =
    Totals
    record {
      fault = fault;
      words = position;
      puts = t.puts;
      takes = t.takes;
      empties = t.empties;
      fulls = t.fulls;
      refused = t.refused;
      held = held_of shipped ws;
      worst = t.worst;
      bound = t.bound;
      lost = lost_of shipped ws;
      steps = get_or ws steps_at 0;
    }

-- ---- every program
-- what is printed of the answer to an item, with a tally that has counted it
unfoldable pub event_printed_by : {R : Type 0} → (R → ℕ) → Mode → Tally → ℕ → Item → Result Answer R → Printed
event_printed_by number Listing t position item a = listed_by number t.bound position item a
event_printed_by number Summing t position item a = Nothing

-- of an event
abbrev pub event_printed : Mode → Tally → Event → Printed
event_printed m t e = event_printed_by refusal_number m t e.position e.item e.answer

-- the number of a fault, if there is one
abbrev pub numbered : {R : Type 0} → (R → ℕ) → Option R → Option ℕ
numbered number fault = option_map number fault

-- and of the end of a file: the position where it ends, the fault's number, if there is one, and the pool's words
unfoldable pub end_numbered : Mode → Tally → ℕ → Option ℕ → List ℕ → Printed
end_numbered Listing t position fault ws = listed_end t position fault ws
end_numbered Summing t position fault ws = summary_end t position fault ws

abbrev pub end_printed : Mode → Tally → ℕ → Option Refusal → List ℕ → Printed
end_printed m t position fault ws = end_numbered m t position (numbered refusal_number fault) ws

-- whether a program stops after it
abbrev pub ends_with : Printed → Bool
ends_with Nothing = false
ends_with (Line e) = false
ends_with (Last e) = true
ends_with (Closing held worst) = true
ends_with (Totals s) = true

abbrev pub printed_text : Printed → List ℕ
printed_text Nothing = []
printed_text (Line e) = line_of (numbers_of e)
printed_text (Last e) = line_of (numbers_of e)
printed_text (Closing held worst) = closing_of held worst
printed_text (Totals s) = summary_text (λ n. n) s
