-- `printing::printed::print_event` meets its contract: each program has an arm of its own. Assumes nothing.
use Rattle.std.proofs.Common.{◌∙◌}
use Rattle.printing.specs.Printings.{event_printed_by}
use Rattle.printing.proofs.printed.print_event.Goals as goal

pub returns-in-Listing : goal.returns-in-Listing
unfolding event_printed_by
returns-in-Listing g c = λ end. c.listed.ensures end ∙ simp c.in-Listing.is

pub returns-in-Summing : goal.returns-in-Summing
unfolding event_printed_by
returns-in-Summing g c = λ end. simp c.in-Summing.is
