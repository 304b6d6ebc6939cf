-- What the runs of all tables are computed by, named once for the proofs that compute them.
use Rattle.laws.specs.Choice.{cond, all_below}
use Rattle.rules.specs.Layout.{worker_words, windows_words}
use Rattle.rules.specs.Limits.{windowed, settings_fit, size_fit}
use Rattle.rules.specs.Windows.{sizes_of, level_of, bottom_of}
use Rattle.rules.specs.Worker.{slot_at, put_slot, seen_by, queue_phase, stack_phase, phase_of, encode, encode_phase}
use Rattle.rules.specs.Fit.{sub_fit, subs_fit, phase_fit, seen_fit, worker_fit, workers_fit, windows_fit, body_checked, head_checked, checked_by}
use Rattle.rules.specs.Make.{zeroed, indexed, made_words, make_of}
use Rattle.rules.specs.Begin.{slot_begin, fit_begin, checked_begin, begin_of}
use Rattle.rules.specs.Effects.{view_of, next_of, hop_of}
use Rattle.rules.specs.Window.{window_rule}
use Rattle.rules.specs.Read.{miss_of, queue_put_read, queue_take_read, stack_read}
use Rattle.rules.specs.Check.{check_rule}
use Rattle.rules.specs.Commit.{commit_by, queue_put_commit, queue_take_commit, queue_commit, stack_commit}
use Rattle.rules.specs.Shift.{shift_by, queue_shift, stack_shift}
use Rattle.rules.specs.Confirm.{confirmed_of, confirm_by, queue_confirm, stack_confirm}
use Rattle.rules.specs.Held.{band_count, band_of, items_above, held_bands, held_sub, held_below, count_items, passed_of, distance_of}
use Rattle.rules.specs.Apply.{put_item, put_sub, put_landed, put_shifted, put_raised, put_dropped, count_lost, put_worker, taken_of, apply_by, apply_of, pair_added, words_down, pair_gone}
use Rattle.rules.specs.Step.{rule_by, rule_of, slot_step, fit_step, checked_step, step_of}
use Rattle.rules.specs.Resize.{put_size, fit_set_size, checked_set_size, set_size_of}
use Rattle.rules.specs.Run.{call_of, run}
use Rattle.runs.specs.Rows.{make_number, lines_of, events_of, run_of}

-- where this unfolds, all that a run is computed by does
unfoldable pub computing : Unit {0}
unfolding events_of run_of lines_of make_number windowed settings_fit size_fit worker_words windows_words sizes_of bottom_of level_of seen_by run call_of cond all_below slot_at put_slot queue_phase stack_phase phase_of encode encode_phase sub_fit subs_fit phase_fit seen_fit worker_fit workers_fit windows_fit body_checked head_checked checked_by zeroed indexed made_words make_of slot_begin fit_begin checked_begin begin_of view_of next_of hop_of window_rule miss_of queue_put_read queue_take_read stack_read check_rule commit_by queue_put_commit queue_take_commit queue_commit stack_commit shift_by queue_shift stack_shift confirmed_of confirm_by queue_confirm stack_confirm band_count band_of items_above held_bands held_sub held_below count_items passed_of distance_of put_item put_sub put_landed put_shifted pair_added put_raised words_down pair_gone put_dropped count_lost put_worker taken_of apply_by apply_of rule_by rule_of slot_step fit_step checked_step step_of put_size fit_set_size checked_set_size set_size_of
computing = tt
