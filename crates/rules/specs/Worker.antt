-- "Phases": a worker's words, and the worker that they hold.
use Rattle.std.specs.Prelude.{ℕ, ◌+◌, List, [], ◌∷◌, get_or, eqb}
use Rattle.std.proofs.lemmas.List.Edits.{sets}
use Rattle.laws.specs.Choice.{cond}
use Rattle.rules.specs.Layout.{phase_at, value_at, index_at, window_at, extra_at, scan_at, seen_at, sum_at, bottom_at, seen_width_at}
use Rattle.rules.specs.Limits.{windowed}
use Rattle.rules.specs.Windows.{size_of, span_of}
use Rattle.rules.specs.declared.Settings.{Settings}
use Rattle.rules.specs.declared.Side.{Side}
use Rattle.rules.specs.declared.Side.TheVariants.{Putting, Taking}
use Rattle.rules.specs.declared.Phase.{Phase}
use Rattle.rules.specs.declared.Phase.TheVariants.{Idle, Window, QueuePutRead, QueueTakeRead, StackRead, Check, QueueCommit, StackCommit, QueueShift, StackShift, QueueConfirm, StackConfirm}
use Rattle.rules.specs.declared.Span.{Span}
use Rattle.rules.specs.declared.Version.{Version}
use Rattle.rules.specs.declared.Worker.{Worker}
use Rattle.rules.specs.declared.Slot.{Slot}

-- ---- the phases' numbers
-- "0 idle; put 1 window, 2 read, 3 check, 4 commit, 5 shift, 6 confirm"
abbrev pub idle_phase : ℕ
idle_phase = 0

abbrev pub window_phase : ℕ
window_phase = 1

abbrev pub read_phase : ℕ
read_phase = 2

abbrev pub check_phase : ℕ
check_phase = 3

abbrev pub commit_phase : ℕ
commit_phase = 4

abbrev pub shift_phase : ℕ
shift_phase = 5

abbrev pub confirm_phase : ℕ
confirm_phase = 6

-- "take 9 to 14 in that order": a put's and 8
abbrev pub side_base : Side → ℕ
side_base Putting = 0
side_base Taking = 8

abbrev pub number_for : Side → ℕ → ℕ
number_for side phase = side_base side + phase

-- ---- a worker's words
-- the words of a worker from `at` on, but for its failed commits; those that the edition does not have are 0
unfoldable pub slot_at : Settings → List ℕ → ℕ → Slot
slot_at g ws at =
    record {
      number = get_or ws (phase_at at) 0;
      value = get_or ws (value_at at) 0;
      index = get_or ws (index_at at) 0;
      window = get_or ws (window_at at) 0;
      extra = get_or ws (extra_at at) 0;
      scan = get_or ws (scan_at at) 0;
      seen = get_or ws (seen_at at) 0;
      sum = get_or ws (sum_at at) 0;
      bottom = cond (windowed g) (get_or ws (bottom_at at) 0) 0;
      width = cond (windowed g) (get_or ws (seen_width_at at) 0) 0;
    }

-- in the order of their places
abbrev pub words_of : Slot → List ℕ
words_of s = s.number ∷ s.value ∷ s.index ∷ s.window ∷ s.extra ∷ s.scan ∷ s.seen ∷ s.sum ∷ []

-- behind the failed commits
abbrev pub seen_words : Slot → List ℕ
seen_words s = s.bottom ∷ s.width ∷ []

unfoldable pub put_slot : Settings → List ℕ → ℕ → Slot → List ℕ
put_slot g ws at s = cond (windowed g) (sets (sets ws at (words_of s)) (bottom_at at) (seen_words s)) (sets ws at (words_of s))

-- ---- the worker that they hold
abbrev version : ℕ → Version
version x = record { 0 = x }

-- the window that a queue's worker has seen: in editions 0 and 1 by its top
unfoldable pub seen_by : Settings → Slot → Span
seen_by g s = cond (windowed g) (record { top = s.window; bottom = s.bottom; width = s.width }) (span_of s.window (size_of g))

-- the phase that a queue's worker is in; a queue has no 3, 6 or 11
unfoldable pub queue_phase : Settings → Slot → Phase
queue_phase g s =
    cond (eqb s.number (number_for Putting window_phase)) (Window Putting)
    (cond (eqb s.number (number_for Putting read_phase)) (QueuePutRead (seen_by g s) s.scan)
    (cond (eqb s.number (number_for Putting commit_phase)) (QueueCommit Putting (seen_by g s) s.seen)
    (cond (eqb s.number (number_for Putting shift_phase)) (QueueShift Putting (seen_by g s))
    (cond (eqb s.number (number_for Taking window_phase)) (Window Taking)
    (cond (eqb s.number (number_for Taking read_phase)) (QueueTakeRead (seen_by g s) s.extra s.scan s.sum)
    (cond (eqb s.number (number_for Taking commit_phase)) (QueueCommit Taking (seen_by g s) s.seen)
    (cond (eqb s.number (number_for Taking shift_phase)) (QueueShift Taking (seen_by g s))
    (cond (eqb s.number (number_for Taking confirm_phase)) (QueueConfirm (seen_by g s) s.scan s.sum)
    Idle))))))))

-- the phase that a stack's worker is in
unfoldable pub stack_phase : Slot → Phase
stack_phase s =
    cond (eqb s.number (number_for Putting window_phase)) (Window Putting)
    (cond (eqb s.number (number_for Putting read_phase)) (StackRead Putting s.window (version s.extra) s.scan s.sum)
    (cond (eqb s.number (number_for Putting check_phase)) (Check Putting (version s.extra) (version s.seen))
    (cond (eqb s.number (number_for Putting commit_phase)) (StackCommit Putting (version s.seen))
    (cond (eqb s.number (number_for Putting shift_phase)) (StackShift Putting (version s.extra) s.scan s.sum)
    (cond (eqb s.number (number_for Putting confirm_phase)) (StackConfirm Putting s.scan s.sum)
    (cond (eqb s.number (number_for Taking window_phase)) (Window Taking)
    (cond (eqb s.number (number_for Taking read_phase)) (StackRead Taking s.window (version s.extra) s.scan s.sum)
    (cond (eqb s.number (number_for Taking check_phase)) (Check Taking (version s.extra) (version s.seen))
    (cond (eqb s.number (number_for Taking commit_phase)) (StackCommit Taking (version s.seen))
    (cond (eqb s.number (number_for Taking shift_phase)) (StackShift Taking (version s.extra) s.scan s.sum)
    (cond (eqb s.number (number_for Taking confirm_phase)) (StackConfirm Taking s.scan s.sum)
    Idle)))))))))))

unfoldable pub phase_of : Settings → Slot → Phase
phase_of g s = cond (eqb g.kind 0) (queue_phase g s) (stack_phase s)

abbrev pub decode : Settings → Slot → Worker
decode g s = record { value = s.value; index = s.index; phase = phase_of g s }

-- ---- the words of a worker: those that its phase does not hold are as in `o`
-- the bottom and the width of a window seen, where the edition has words for them
abbrev pub kept : Settings → ℕ → ℕ
kept g x = cond (windowed g) x 0

unfoldable pub encode_phase : Settings → Phase → ℕ → ℕ → Slot → Slot
encode_phase g Idle v x o = record { number = idle_phase; value = v; index = x; window = o.window; extra = o.extra; scan = o.scan; seen = o.seen; sum = o.sum; bottom = o.bottom; width = o.width }
encode_phase g (Window side) v x o = record { number = number_for side window_phase; value = v; index = x; window = o.window; extra = o.extra; scan = o.scan; seen = o.seen; sum = o.sum; bottom = o.bottom; width = o.width }
encode_phase g (QueuePutRead window scan) v x o = record { number = number_for Putting read_phase; value = v; index = x; window = window.top; extra = o.extra; scan = scan; seen = o.seen; sum = o.sum; bottom = kept g window.bottom; width = kept g window.width }
encode_phase g (QueueTakeRead window bare scan sum) v x o = record { number = number_for Taking read_phase; value = v; index = x; window = window.top; extra = bare; scan = scan; seen = o.seen; sum = sum; bottom = kept g window.bottom; width = kept g window.width }
encode_phase g (StackRead side window version scan sum) v x o = record { number = number_for side read_phase; value = v; index = x; window = window; extra = version.0; scan = scan; seen = o.seen; sum = sum; bottom = o.bottom; width = o.width }
encode_phase g (Check side version seen) v x o = record { number = number_for side check_phase; value = v; index = x; window = o.window; extra = version.0; scan = o.scan; seen = seen.0; sum = o.sum; bottom = o.bottom; width = o.width }
encode_phase g (QueueCommit side window seen) v x o = record { number = number_for side commit_phase; value = v; index = x; window = window.top; extra = o.extra; scan = o.scan; seen = seen; sum = o.sum; bottom = kept g window.bottom; width = kept g window.width }
encode_phase g (StackCommit side seen) v x o = record { number = number_for side commit_phase; value = v; index = x; window = o.window; extra = o.extra; scan = o.scan; seen = seen.0; sum = o.sum; bottom = o.bottom; width = o.width }
encode_phase g (QueueShift side window) v x o = record { number = number_for side shift_phase; value = v; index = x; window = window.top; extra = o.extra; scan = o.scan; seen = o.seen; sum = o.sum; bottom = kept g window.bottom; width = kept g window.width }
encode_phase g (StackShift side version scan sum) v x o = record { number = number_for side shift_phase; value = v; index = x; window = o.window; extra = version.0; scan = scan; seen = o.seen; sum = sum; bottom = o.bottom; width = o.width }
encode_phase g (QueueConfirm window scan sum) v x o = record { number = number_for Taking confirm_phase; value = v; index = x; window = window.top; extra = o.extra; scan = scan; seen = o.seen; sum = sum; bottom = kept g window.bottom; width = kept g window.width }
encode_phase g (StackConfirm side scan sum) v x o = record { number = number_for side confirm_phase; value = v; index = x; window = o.window; extra = o.extra; scan = scan; seen = o.seen; sum = sum; bottom = o.bottom; width = o.width }

unfoldable pub encode : Settings → Worker → Slot → Slot
encode g k o = encode_phase g k.phase k.value k.index o

abbrev pub zero_slot : Slot
zero_slot = record { number = 0; value = 0; index = 0; window = 0; extra = 0; scan = 0; seen = 0; sum = 0; bottom = 0; width = 0 }

-- a worker whose other words are zero: one that has just begun, that has looked at the window, or that is idle again
abbrev pub fresh : Settings → ℕ → ℕ → Phase → Slot
fresh g value index phase = encode g (record { value = value; index = index; phase = phase }) zero_slot
