-- What an effect does to the words, and what it answers. A step not refused adds 1 to the step count.
use Rattle.std.specs.Prelude.{ℕ, zero, suc, ◌+◌, ◌-◌, ◌*◌, List, get_or, set, ltb, Ok}
use Rattle.laws.specs.Choice.{cond}
use Rattle.laws.specs.Wrap.{add32}
use Rattle.rules.specs.Answers.{Out, out, refuse}
use Rattle.rules.specs.Layout.{steps_at, puts_at, top_at, mark_at, first_at, second_at, worker_words, lost_word, lost_at, cell_at, stamp_at, live_at, pair_words, pairs_at, pair_at}
use Rattle.rules.specs.Limits.{windowed, most_live}
use Rattle.rules.specs.Windows.{live_of, next_size}
use Rattle.rules.specs.Worker.{put_slot}
use Rattle.rules.specs.Held.{item_at, distance_of}
use Rattle.rules.specs.declared.Settings.{Settings}
use Rattle.rules.specs.declared.Row.{Row}
use Rattle.rules.specs.declared.Stamp.{Stamp}
use Rattle.rules.specs.declared.Effect.{Effect}
use Rattle.rules.specs.declared.Outcome.{Outcome}
use Rattle.rules.specs.declared.Outcome.TheVariants.{Refused as Stays, Moving as Moves, Lost, Shifted, Raised, Dropped, Landed, Removed, Empty as NoItem, Full as NoRoom}
use Rattle.rules.specs.Answers.{Answered}
use Rattle.rules.specs.declared.Answer.TheVariants.{Moving, Put, Taken, Empty, Full}

-- an item in the cell of its row
unfoldable pub put_item : List ℕ → Settings → ℕ → ℕ → Row → Stamp → List ℕ
put_item ws g j value row stamp = set (set ws (cell_at g j row.0) value) (stamp_at (cell_at g j row.0)) stamp.0

-- the two words of sub j
unfoldable pub put_sub : List ℕ → ℕ → Effect → List ℕ
put_sub ws j e = set (set ws (first_at j) e.first) (second_at j) e.second

-- the item, the count of puts, and sub j
unfoldable pub put_landed : List ℕ → Settings → ℕ → ℕ → Row → Stamp → Effect → List ℕ
put_landed ws g j value row stamp e = put_sub (set (put_item ws g j value row stamp) puts_at e.puts) j e

-- the two words of a stack's window
unfoldable pub put_shifted : List ℕ → Effect → List ℕ
put_shifted ws e = set (set ws top_at e.top) mark_at e.mark

-- a queue's put window: from edition 2 on "a call sets the size of put windows from the next one on", and its pair is the last
unfoldable pub pair_added : List ℕ → Settings → List ℕ
pair_added ws g =
    set (set (set ws (pair_at g (live_of ws g)) (next_size ws g).width) (pair_at g (live_of ws g) + 1) (next_size ws g).depth) (live_at g) (live_of ws g + 1)

unfoldable pub put_raised : List ℕ → Settings → Effect → List ℕ
put_raised ws g e = set (cond (windowed g) (pair_added ws g) ws) top_at e.top

-- and its take window, whose pair goes: each word of the pairs is the one a pair behind it, and the last pair is zero
unfoldable pub words_down : List ℕ → ℕ → ℕ → List ℕ
words_down ws at zero = ws
words_down ws at (suc k) = set (words_down ws at k) (at + k) (get_or ws (at + k + pair_words) 0)

unfoldable pub pair_gone : List ℕ → Settings → List ℕ
pair_gone ws g =
    set (set (set (words_down ws (pairs_at g) (pair_words * (most_live - 1))) (pair_at g (most_live - 1)) 0) (pair_at g (most_live - 1) + 1) 0)
    (live_at g) (live_of ws g - 1)

unfoldable pub put_dropped : List ℕ → Settings → Effect → List ℕ
put_dropped ws g e = set (cond (windowed g) (pair_gone ws g) ws) mark_at e.mark

-- one failed commit more, "modulo 2^32", in the editions that count them
unfoldable pub count_lost : List ℕ → Settings → ℕ → List ℕ
count_lost ws g at = cond (ltb lost_word (worker_words g.edition)) (set ws (lost_at at) (add32 (get_or ws (lost_at at) 0) 1)) ws

-- the worker's words, and the step counted
unfoldable pub put_worker : List ℕ → Settings → ℕ → Effect → List ℕ
put_worker ws g at e = put_slot g (set ws steps_at (add32 (get_or ws steps_at 0) 1)) at e.slot

-- the stamp in the cell of a row
abbrev pub stamp_in_cell : List ℕ → Settings → ℕ → Row → Stamp
stamp_in_cell ws g j row = record { 0 = (item_at ws g j row.0).stamp }

-- 2: the row's item, and the distance just before
unfoldable pub taken_of : List ℕ → Settings → ℕ → Row → Answered
taken_of ws g j row =
    Ok (Taken (item_at ws g j row.0).value j row (stamp_in_cell ws g j row) (distance_of ws g (stamp_in_cell ws g j row)))

unfoldable pub apply_by : List ℕ → Settings → ℕ → ℕ → Effect → Outcome → Out
apply_by ws g at j e (Stays n) = refuse n ws
apply_by ws g at j e Moves = out (Ok Moving) (put_worker ws g at e)
apply_by ws g at j e Lost = out (Ok Moving) (put_worker (count_lost ws g at) g at e)
apply_by ws g at j e Shifted = out (Ok Moving) (put_worker (put_shifted ws e) g at e)
apply_by ws g at j e Raised = out (Ok Moving) (put_worker (put_raised ws g e) g at e)
apply_by ws g at j e Dropped = out (Ok Moving) (put_worker (put_dropped ws g e) g at e)
apply_by ws g at j e (Landed value row stamp) = out (Ok (Put value j row stamp)) (put_worker (put_landed ws g j value row stamp e) g at e)
apply_by ws g at j e (Removed row) = out (taken_of ws g j row) (put_worker (put_sub ws j e) g at e)
apply_by ws g at j e NoItem = out (Ok Empty) (put_worker ws g at e)
apply_by ws g at j e NoRoom = out (Ok Full) (put_worker ws g at e)

-- an effect of the worker whose words start at `at` and whose sub is j
unfoldable pub apply_of : List ℕ → Settings → ℕ → ℕ → Effect → Out
apply_of ws g at j e = apply_by ws g at j e e.outcome
