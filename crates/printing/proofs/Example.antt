-- Paper 01's example: the lines of its file, computed from the definitions, and the listing.
use mathlib.Core.List.{List, [], ◌∷◌}
use mathlib.Core.Path.{◌≡◌, refl, ap}
use Prim.Native.Nat.{ℕ, ◌/◌, ◌%◌}
use Rattle.laws.specs.Choice.{cond, all_below}
use Rattle.rules.specs.Apply.{put_item, put_sub, put_landed, put_shifted, put_raised, put_dropped, count_lost, put_worker, taken_of, apply_by, apply_of}
use Rattle.rules.specs.Begin.{slot_begin, fit_begin, checked_begin, begin_of}
use Rattle.rules.specs.Check.{check_rule}
use Rattle.rules.specs.Commit.{commit_by, queue_put_commit, queue_take_commit, queue_commit, stack_commit}
use Rattle.rules.specs.Confirm.{confirmed_of, confirm_by, queue_confirm, stack_confirm}
use Rattle.rules.specs.Effects.{view_of, next_of, hop_of}
use Rattle.rules.specs.Fit.{sub_fit, subs_fit, phase_fit, seen_fit, worker_fit, workers_fit, windows_fit, body_checked, head_checked, checked_by}
use Rattle.rules.specs.Held.{band_count, band_of, items_above, held_bands, held_sub, held_below, count_items, distance_of, held_by, held_of}
use Rattle.rules.specs.Layout.{worker_words, windows_words}
use Rattle.rules.specs.Limits.{windowed, settings_fit, size_fit}
use Rattle.rules.specs.Make.{zeroed, indexed, made_words, make_of}
use Rattle.rules.specs.Read.{miss_of, queue_put_read, queue_take_read, stack_read}
use Rattle.rules.specs.Sequential.{most_passed}
use Rattle.rules.specs.Shift.{shift_by, queue_shift, stack_shift}
use Rattle.rules.specs.Step.{rule_by, rule_of, slot_step, fit_step, checked_step, step_of}
use Rattle.rules.specs.Window.{window_rule}
use Rattle.rules.specs.Windows.{sizes_of, bottom_of, level_of}
use Rattle.rules.specs.Worker.{slot_at, put_slot, seen_by, queue_phase, stack_phase, phase_of, encode_phase, encode}
use Rattle.runfile.specs.Items.{first_of, second_of, later_of, item_of}
use Rattle.runfile.specs.Words.{reads_of, read_at}
use Rattle.lines.specs.Lines.{digits_of, decimal, line_of, closing_of}
use Rattle.rules.specs.Run.{call_of}
use Rattle.replay.specs.Replay.{out_of, item_next, word_next, next_of as nextEvent, replay_from, replay_of}
use Rattle.tally.specs.Tally.{bound_in, tally_after}
use Rattle.printing.specs.Printings.{item_entry, answer_printed_by, listed_by, listed_end, event_printed_by, end_numbered}
use Rattle.printing.specs.Print.{print_from, printed_of, text_of, print_of, listing_of}
use Rattle.printing.specs.declared.printed.Mode.TheVariants.{Listing}
use Rattle.printing.specs.declared.printed.Printed.{Printed}
use Rattle.printing.specs.declared.printed.Printed.TheVariants.{Nothing, Line, Closing}

-- words, each stored low byte first
stored : List ℕ → List ℕ
stored [] = []
stored (w ∷ ws) = w % 256 ∷ w / 256 % 256 ∷ w / 65536 % 256 ∷ w / 16777216 ∷ stored ws

file : List ℕ
file =
    stored
    (0x10001021 ∷ 0x20000802 ∷ 0x30000007 ∷ 0x50000000 ∷ 0x50000000 ∷ 0x50000000 ∷ 0x40000000 ∷ 0x50000000 ∷ 0x50000000 ∷ 0x50000000 ∷ 0x60000000 ∷ [])

put_line : Printed
put_line = Line (item_entry 5 1 0 7 0 (record { 0 = 1 }) (record { 0 = 1 }) 0)

take_line : Printed
take_line = Line (item_entry 9 2 0 7 0 (record { 0 = 1 }) (record { 0 = 1 }) 0)

-- of the words that are answered 0 nothing is printed
lines_are : printed_of Listing file
    ≡ Nothing ∷ Nothing ∷ Nothing ∷ Nothing ∷ Nothing ∷ put_line ∷ Nothing ∷ Nothing ∷ Nothing ∷ take_line ∷ Nothing ∷ Closing 0 0 ∷ []
unfolding stored file queue_put_commit queue_take_commit seen_fit worker_fit windows_fit band_count band_of held_bands windows_words windowed size_fit sizes_of bottom_of level_of seen_by hop_of cond all_below put_item put_sub put_landed put_shifted put_raised put_dropped count_lost put_worker taken_of apply_by apply_of slot_begin fit_begin checked_begin begin_of check_rule commit_by queue_commit stack_commit confirmed_of confirm_by queue_confirm stack_confirm view_of next_of sub_fit subs_fit phase_fit workers_fit body_checked head_checked checked_by items_above held_sub held_below count_items distance_of settings_fit zeroed indexed made_words make_of miss_of queue_put_read queue_take_read stack_read shift_by queue_shift stack_shift rule_by rule_of slot_step fit_step checked_step step_of window_rule slot_at put_slot queue_phase stack_phase phase_of encode_phase encode first_of second_of later_of item_of reads_of read_at most_passed bound_in tally_after held_by held_of worker_words call_of out_of item_next word_next nextEvent replay_from replay_of answer_printed_by listed_by listed_end event_printed_by end_numbered print_from printed_of put_line take_line
lines_are = refl

-- "5 1 0 7 0 1 1 0", "9 2 0 7 0 1 1 0", "held 0 worst 0", a newline after each
printed : List ℕ
printed =
    53 ∷ 32 ∷ 49 ∷ 32 ∷ 48 ∷ 32 ∷ 55 ∷ 32 ∷ 48 ∷ 32 ∷ 49 ∷ 32 ∷ 49 ∷ 32 ∷ 48 ∷ 10 ∷
    57 ∷ 32 ∷ 50 ∷ 32 ∷ 48 ∷ 32 ∷ 55 ∷ 32 ∷ 48 ∷ 32 ∷ 49 ∷ 32 ∷ 49 ∷ 32 ∷ 48 ∷ 10 ∷
    104 ∷ 101 ∷ 108 ∷ 100 ∷ 32 ∷ 48 ∷ 32 ∷ 119 ∷ 111 ∷ 114 ∷ 115 ∷ 116 ∷ 32 ∷ 48 ∷ 10 ∷ []

listing_is : listing_of file ≡ printed
unfolding printed print_of text_of put_line take_line line_of decimal digits_of closing_of cond
listing_is = ap text_of lines_are
