-- Every row of the tables holds, by what is in Claims; and the facts by hand that are no runs.
use mathlib.Core.Path.{◌≡◌, refl}
use mathlib.Core.Bool.{true}
use Rattle.laws.specs.Choice.{cond, all_below}
use Rattle.rules.specs.Layout.{worker_words, windows_words}
use Rattle.rules.specs.Limits.{windowed, settings_fit, size_fit}
use Rattle.rules.specs.Windows.{level_of, bottom_of}
use Rattle.rules.specs.Worker.{slot_at}
use Rattle.rules.specs.Fit.{sub_fit, subs_fit, phase_fit, seen_fit, worker_fit, workers_fit, windows_fit, body_checked, head_checked, checked_by}
use Rattle.ring.specs.Segments.{segments_from, segments_above, up_from}
use Rattle.runs.specs.Rows.{AllHold}
use Rattle.runs.specs.Table.{table}
use Rattle.runs.specs.HeldCells.{SegmentsByHand}
use Rattle.runs.specs.Strides.{strides}
use Rattle.rules.specs.NewWord.{new_word}
use Rattle.turnaround.specs.Move.{may_move, windows_moved, cleared, own_pairs, worker_moved, workers_moved, head_moved, cells_moved, moved_words, fit_move, checked_move, move_of}
use Rattle.runs.specs.Moves.{MovesByHand, WideMovesByHand}
use Rattle.runs.specs.Tests.{every, holds}
use Rattle.runs.proofs.Claims.{all_from_tests, row_holds}
use Rattle.runs.proofs.Computing.{computing}

-- ---- the tables
tables_pass : (every holds table ≡ true) × (every holds strides ≡ true)
unfolding table strides computing
tables_pass = (refl, refl)

pub runs_hold : AllHold table × AllHold strides
runs_hold = (
  all_from_tests holds row_holds table tables_pass.0,
  all_from_tests holds row_holds strides tables_pass.1,
)

-- ---- a sub's segments
pub segments_by_hand : SegmentsByHand
unfolding segments_above segments_from up_from cond
segments_by_hand = (
  (refl, refl),
  (refl, refl),
  (refl, refl),
  (refl, refl),
  (refl, refl),
  (refl, refl),
  (refl, refl),
  (refl, refl),
  (refl, refl),
  (refl, refl),
)

-- ---- moves
pub moves_by_hand : MovesByHand
unfolding move_of checked_move may_move fit_move moved_words new_word windows_moved cleared own_pairs head_moved workers_moved worker_moved cells_moved worker_words windows_words windowed settings_fit head_checked checked_by body_checked windows_fit subs_fit sub_fit level_of workers_fit worker_fit slot_at seen_fit phase_fit all_below cond
moves_by_hand = (refl, refl, refl, refl, refl, refl, refl, refl, refl, refl, refl, refl, refl, refl, refl, refl, refl, refl, refl, refl, refl, refl, refl)

pub wide_moves_by_hand : WideMovesByHand
unfolding move_of checked_move may_move fit_move moved_words new_word windows_moved cleared own_pairs head_moved workers_moved worker_moved cells_moved worker_words windows_words windowed settings_fit head_checked checked_by body_checked size_fit bottom_of windows_fit subs_fit sub_fit level_of workers_fit worker_fit slot_at seen_fit phase_fit all_below cond
wide_moves_by_hand = (refl, refl, refl, refl, refl, refl, refl, refl, refl, refl, refl, refl, refl, refl, refl, refl, refl, refl, refl, refl, refl, refl, refl, refl, refl, refl, refl, refl, refl, refl, refl, refl, refl, refl, refl)
