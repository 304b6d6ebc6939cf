-- K5 by hand: what the workers' cards say after a run; runs in editions 0 and 1, of which the first has no cards and needs a word less for each worker; and what the check says of
-- the number in word 11.
use Rattle.std.specs.Prelude.{ℕ, zero, suc, List, [], ◌∷◌, ◌++◌, map, ◌≡◌, get_or, set, replicate, take as cut}
use Rattle.rules.specs.Layout.{edition_at}
use Rattle.rules.specs.Fit.{checked_of, refusal_of}
use Rattle.rules.specs.Make.{shipped, settings_from, in_edition, make_of}
use Rattle.rules.specs.Collisions.{card_of}
use Rattle.rules.specs.Consequences.{words_after}
use Rattle.runs.specs.Rows.{Row, start_of, Holds}
use Rattle.runs.specs.Table.{two_puts, two_lines}
use Rattle.runs.specs.Strides.{queue_puts, stack_puts, stack_takes}
use Rattle.runs.specs.Notation.{queue, makes, runs, steps, take, taken}

-- a row, and the cards of its workers by number
pub record Cards : Type 0 where
  pub row : Row
  pub says : List ℕ

abbrev cards : Row → List ℕ → Cards
cards r says = record { row = r; says = says }

-- the cards of the workers below n, in the words after the run
abbrev cards_below : Row → ℕ → List ℕ
cards_below r zero = []
cards_below r (suc i) = cards_below r i ++ (card_of r.settings (words_after r.settings.edition (start_of r) r.calls) i ∷ [])

abbrev pub cards_of : Row → List ℕ
cards_of r = cards_below r r.settings.workers

pub record Says (x : Cards) : Type 0 where
  pub holds : Holds x.row
  pub cards : cards_of x.row ≡ x.says

-- ---- runs with failed commits: a starred one, those of runs/specs/Strides with stride 0, and one more
-- the starred one goes on: of two takes, both at commit, the second fails too
abbrev then_takes : Row
then_takes =
    runs (queue 1 1 2 2) (two_puts ++ take 0 2 ++ take 1 2 ++ steps 0 1 ++ steps 1 7)
    (two_lines ++ (taken 0 3 5 0 1 1 0 ∷ taken 1 9 6 0 2 2 0 ∷ []))

unfoldable pub carded : List Cards
carded =
    -- worker 1's card "survives the final answer"
    cards (runs (queue 1 1 2 2) two_puts two_lines) (0 ∷ 1 ∷ []) ∷
    -- and "survives begin"
    cards then_takes (0 ∷ 2 ∷ []) ∷
    cards (queue_puts 0 1) (0 ∷ 0 ∷ 0 ∷ 1 ∷ []) ∷
    cards (stack_puts 0 2) (0 ∷ 0 ∷ 0 ∷ 0 ∷ 1 ∷ []) ∷
    cards (stack_takes 0 (taken 4 8 9 2 1 3 0)) (0 ∷ 0 ∷ 0 ∷ 0 ∷ 1 ∷ []) ∷ []

-- ---- the same calls have the same lines
abbrev row_in : ℕ → Row → Row
row_in e r = runs (in_edition e r.settings) r.calls r.lines

unfoldable pub edition_zero : List Row
edition_zero =
    -- paper 01's own first run: 48 words, and 47 gives 21
    makes (in_edition 0 (queue 2 1 4 2)) 48 0 ∷
    makes (in_edition 0 (queue 2 1 4 2)) 47 21 ∷
    map (λ (x : Cards). row_in 0 x.row) carded

-- K5's: 50 words, and 49 gives 21
unfoldable pub edition_one : List Row
edition_one =
    makes (in_edition 1 (queue 2 1 4 2)) 50 0 ∷
    makes (in_edition 1 (queue 2 1 4 2)) 49 21 ∷
    map (λ (x : Cards). row_in 1 x.row) carded

-- ---- "Word 11 becomes the edition" (K5); "Edition 2, made by make and then the only fit one" (K8)
-- the words of a make, as its caller names the settings of the first run by hand, with all that are needed lent
abbrev made : List ℕ
made = (make_of (replicate 90 0) (settings_from 0 2 1 1 4 2 0)).words

-- what the check of the shipped calls comes to where a number stands in word 11
abbrev checked_with : ℕ → List ℕ → ℕ
checked_with edition ws = refusal_of (checked_of shipped (set ws edition_at edition))

abbrev pub EditionsByHand : Type 0
EditionsByHand =
    (get_or made edition_at 0 ≡ 2)
    × (checked_with 2 made ≡ 0)
    × (checked_with 0 made ≡ 23)
    × (checked_with 1 made ≡ 23)
    × (checked_with 3 made ≡ 23)
    × (checked_with 4294967295 made ≡ 23)
    -- one word short, and with the first 12 alone: 23 comes before the needed words' 21; 11 are too few for either
    × (checked_with 2 (cut 89 made) ≡ 21)
    × (checked_with 1 (cut 89 made) ≡ 23)
    × (checked_with 2 (cut 12 made) ≡ 21)
    × (checked_with 1 (cut 12 made) ≡ 23)
    × (checked_with 1 (cut 11 made) ≡ 21)
    -- nor is it fit for the calls of editions 0 and 1
    × (refusal_of (checked_of 0 made) ≡ 23)
    × (refusal_of (checked_of 1 made) ≡ 23)
