-- WHAT A PROGRAM PRINTS of a run file: the printings of its events, in order, and of its end. From the bytes of a file to the bytes printed.
use Rattle.std.specs.Prelude.{ℕ, List, [], ◌∷◌, ◌++◌}
use Rattle.laws.specs.Choice.{cond}
use Rattle.replay.specs.Replay.{Happened, Ending, replay_of}
use Rattle.tally.specs.Tally.{no_tally, tally_after}
use Rattle.printing.specs.Printings.{event_printed, end_printed, ends_with, printed_text}
use Rattle.tally.specs.declared.Tally.{Tally}
use Rattle.printing.specs.declared.printed.Mode.{Mode}
use Rattle.printing.specs.declared.printed.Mode.TheVariants.{Listing, Summing}
use Rattle.printing.specs.declared.printed.Printed.{Printed}

-- what is printed, and what comes after it unless the program stops there
abbrev pub print_then : Printed → List Printed → List Printed
print_then x rest = x ∷ cond (ends_with x) [] rest

-- of the events that are left, and of the end of the file
unfoldable pub print_from : Mode → Tally → List Happened → Ending → List Printed
print_from m t [] end = print_then (end_printed m t end.position end.fault end.words) []
print_from m t (x ∷ xs) end =
    let t' = tally_after t x.event in
    print_then (event_printed m t' x.event) (print_from m t' xs end)

unfoldable pub printed_of : Mode → List ℕ → List Printed
printed_of m bytes = print_from m no_tally (replay_of bytes).events (replay_of bytes).end

-- as text
unfoldable pub text_of : List Printed → List ℕ
text_of [] = []
text_of (x ∷ xs) = printed_text x ++ text_of xs

unfoldable pub print_of : Mode → List ℕ → List ℕ
print_of m bytes = text_of (printed_of m bytes)

-- THE LISTING of a run file, and its summary
abbrev pub listing_of : List ℕ → List ℕ
listing_of bytes = print_of Listing bytes

abbrev pub summary_of : List ℕ → List ℕ
summary_of bytes = print_of Summing bytes
