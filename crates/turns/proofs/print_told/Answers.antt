-- `turns::print_told` meets its contract: of the first two words nothing is counted or printed; any other event is counted, and then printed. Assumes nothing.
use Rattle.std.proofs.Common.{◌≡◌, ℕ, ◌+◌, ◌%◌, ◌^◌, max, List, refl, arith, le-ltb}
use Rattle.laws.specs.Choice.{cond}
use Rattle.rules.specs.declared.Answer.TheVariants.{Moving}
use Rattle.runfile.specs.declared.item.Item.{Item}
use Rattle.replay.specs.Replay.{event, goes, place_after}
use Rattle.tally.specs.Tally.{with_bound, bound_after, tallied, counted_by}
use Rattle.printing.specs.Printings.{answer_printed_by, listed_by, event_printed, event_printed_by}
use Rattle.turns.specs.Turn.{turn_by}
use Rattle.printing.specs.declared.printed.Mode.{Mode}
use Rattle.printing.specs.declared.printed.Mode.TheVariants.{Listing, Summing}
use Rattle.printing.specs.declared.printed.Printed.TheVariants.{Nothing}
use Rattle.tally.specs.declared.Tally.{Tally}
use Rattle.turns.specs.declared.Printer.{Printer}
use Rattle.turns.proofs.print_told.Goals as goal
use Rattle.std.specs.Prelude.{Ok}

-- the answer 0 counts nothing
moving_tally : (t : Tally) (position : ℕ) (item : Item) → tallied t (event position item (Ok Moving)) ≡ with_bound t (bound_after t.bound item 0)
unfolding tallied cond
moving_tally t position item = let worst : max t.worst 0 ≡ t.worst = omega arith in rw worst refl

-- and has no line
moving_quiet : (m : Mode) (t : Tally) (position : ℕ) (item : Item) → event_printed m t (event position item (Ok Moving)) ≡ Nothing
unfolding event_printed_by listed_by answer_printed_by cond
moving_quiet Listing t position item = rw (le-ltb t.bound 0 (omega arith)) refl
moving_quiet Summing t position item = refl

head_turned : (m : Mode) (ws : List ℕ) (p : Printer) (position : ℕ) (item : Item)
    → turn_by m ws p (goes (event position item (Ok Moving)))
    ≡ record {
      printer = record { place = place_after item (Ok Moving); position = (p.position + 1) % 2 ^ 64; tally = with_bound p.tally (bound_after p.tally.bound item 0) };
      printed = Nothing;
    }
unfolding turn_by
head_turned m ws p position item = rw (moving_quiet m (tallied p.tally (event position item (Ok Moving))) position item, moving_tally p.tally position item) refl

pub returns-in-Opens : goal.returns-in-Opens
returns-in-Opens c = λ ws. simp (c.in-Opens.is, head_turned)

pub returns-in-Makes : goal.returns-in-Makes
returns-in-Makes c = λ ws. simp (c.bound_in.ensures, c.in-Makes.is, head_turned)

pub returns-in-Does : goal.returns-in-Does
unfolding turn_by tallied counted_by
returns-in-Does c = λ ws. simp (c.print_event.ensures, c.count-tally.ensures, c.place_after.ensures c.in-Does.d.answer, c.in-Does.is)

pub returns-in-Ends : goal.returns-in-Ends
unfolding turn_by
returns-in-Ends c = λ ws. simp c.in-Ends.is
