-- Paper 02, K8: "full means that just before the chosen step every place in the windows after the take window holds an item in the pool." A put that is
-- answered "full" is placed at the step that answers it, a shift of the put window that may not move; so it is of the words just before that step. What
-- the one-at-a-time list is fed with a 4, "how many those places are", is `places_of` (specs/Measures): of these windows the widths times the depths.
use Rattle.std.specs.Prelude.{ℕ, ◌-◌, ◌*◌, ◌/◌, ◌≤◌, ◌<◌, ◌≡◌, true, List, get_or}
use Rattle.rules.specs.Answers.{number_of}
use Rattle.rules.specs.Layout.{set_at}
use Rattle.rules.specs.Limits.{most_live}
use Rattle.rules.specs.Windows.{has_windows, live_of, lower}
use Rattle.rules.specs.Measures.{places_of}
use Rattle.rules.specs.Run.{Call}
use Rattle.rules.specs.Consequences.{words_after}
use Rattle.rules.specs.Spacers.{answer_after}
use Rattle.rules.specs.HeldRows.{InWindow, HeldRow}
use Rattle.rules.specs.declared.Settings.{Settings}

-- a place: row `row` of sub j in the live window k, of those after the take window, which is window 0. It is held: above the rows taken of its sub, and
-- up to the rows put
abbrev pub PlacesHeld : List ℕ → Settings → Type 0
PlacesHeld ws g = (k j row : ℕ) → 1 ≤ k → k < live_of ws g → InWindow ws g k j row → HeldRow ws g k j row

-- every list of calls from a new pool, and then a step of worker i that answers 4
abbrev pub FullMeans : Settings → List ℕ → List Call → Type 0
FullMeans g ws cs = (i : ℕ) → has_windows g ≡ true → number_of (answer_after g.edition ws cs i) ≡ 4 → PlacesHeld (words_after g.edition ws cs) g

-- as long as no size was set, these places are those of all windows but one, of as many as R has room for and 16 at the most: w d (min(16, floor(R / d)) - 1), which
-- is paper 01's w (R - d) where R is a multiple of d and at most 16 d
abbrev pub unset_places : Settings → ℕ
unset_places g = g.width * (g.depth * (lower most_live (g.rows / g.depth) - 1))

abbrev pub UnsetPlaces : Settings → List ℕ → List Call → Type 0
UnsetPlaces g ws cs =
    (i : ℕ) → has_windows g ≡ true → get_or (words_after g.edition ws cs) (set_at g) 0 ≡ 0 → number_of (answer_after g.edition ws cs i) ≡ 4
    → places_of (words_after g.edition ws cs) g ≡ unset_places g
