-- Every row of the tables holds, and its cards are as it says: by the tests, as in the proofs of runs.
use mathlib.Core.Path.{◌≡◌, refl}
use mathlib.Core.Bool.{true}
use lib.Dec.{eqb}
use borrow.Author.Tests.{eqb-true}
use Rattle.laws.specs.Choice.{cond, all_below, all_holds, Holds as Passed}
use Rattle.rules.specs.Layout.{worker_words, windows_words}
use Rattle.rules.specs.Limits.{windowed, settings_fit, size_fit}
use Rattle.rules.specs.Windows.{level_of, bottom_of}
use Rattle.rules.specs.Worker.{slot_at}
use Rattle.rules.specs.Fit.{sub_fit, subs_fit, phase_fit, seen_fit, worker_fit, workers_fit, windows_fit, body_checked, head_checked, checked_by}
use Rattle.rules.specs.Make.{zeroed, indexed, made_words, make_of}
use Rattle.rules.specs.Statement.{All}
use Rattle.rules.specs.Consequences.{words_after}
use Rattle.runs.specs.Rows.{AllHold}
use Rattle.card_runs.specs.Cards.{Cards, Says, carded, edition_zero, edition_one, EditionsByHand}
use Rattle.runs.specs.Tests.{every, holds}
use Rattle.card_runs.specs.Tests.{says}
use Rattle.runs.proofs.Claims.{list_right, all_from_tests, row_holds}
use Rattle.runs.proofs.Computing.{computing}

-- ---- the tests give the claim
cards_say : (x : Cards) → Passed (says x) → Says x
cards_say x t = record { holds = row_holds x.row (all_holds (holds x.row) t.0); cards = list_right eqb eqb-true _ _ t.1.0 }

-- ---- the tables
tables_pass : (every says carded ≡ true) × (every holds edition_zero ≡ true) × (every holds edition_one ≡ true)
unfolding carded edition_zero edition_one words_after computing
tables_pass = (refl, refl, refl)

pub card_runs_hold : All Says carded × AllHold edition_zero × AllHold edition_one
card_runs_hold = (
  all_from_tests says cards_say carded tables_pass.0,
  all_from_tests holds row_holds edition_zero tables_pass.1,
  all_from_tests holds row_holds edition_one tables_pass.2,
)

-- ---- editions
pub editions_by_hand : EditionsByHand
unfolding make_of made_words zeroed indexed worker_words windows_words windowed settings_fit size_fit bottom_of head_checked checked_by body_checked windows_fit subs_fit sub_fit level_of workers_fit worker_fit slot_at seen_fit phase_fit all_below cond
editions_by_hand = (refl, refl, refl, refl, refl, refl, refl, refl, refl, refl, refl, refl, refl)
