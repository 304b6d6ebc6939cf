-- "Read", of the sub at the index. The sum grows by items put (queue take; from edition 2 on "a take's read and confirm sum the higher of a sub's last put
-- row and the seen window's bottom") or by the version (stack), hit or miss.
use Rattle.std.specs.Prelude.{ℕ, Bool, ltb, leb, eqb}
use Rattle.laws.specs.Choice.{cond}
use Rattle.laws.specs.Wrap.{add32, sub32}
use Rattle.rules.specs.Windows.{level_of}
use Rattle.rules.specs.Effects.{moved_of, next_of, with_pass, last_put, last_taken, items_held, sub_version}
use Rattle.rules.specs.declared.Settings.{Settings}
use Rattle.rules.specs.declared.Side.{Side}
use Rattle.rules.specs.declared.Side.TheVariants.{Putting, Taking}
use Rattle.rules.specs.declared.Phase.{Phase}
use Rattle.rules.specs.declared.Phase.TheVariants.{QueuePutRead, QueueTakeRead, StackRead, Check, QueueCommit, QueueShift, StackShift, QueueConfirm}
use Rattle.rules.specs.declared.Span.{Span}
use Rattle.rules.specs.declared.Version.{Version}
use Rattle.rules.specs.declared.Slot.{Slot}
use Rattle.rules.specs.declared.View.{View}
use Rattle.rules.specs.declared.Effect.{Effect}

-- a hit stays at its sub
abbrev pub hit_of : Settings → View → Phase → Slot → Effect
hit_of g v phase kept = moved_of g v v.worker.index phase kept

-- a miss takes the next index of a width and adds 1 to scan, with the read phase `again`; at so many misses it goes on to `after`
unfoldable pub miss_of : Settings → ℕ → View → ℕ → Phase → Phase → Slot → Effect
miss_of g width v scan again after kept =
    cond (ltb (add32 scan 1) width)
    (moved_of g v (next_of width v.worker.index) again kept)
    (moved_of g v (next_of width v.worker.index) after kept)

-- queue put: hit if items put < seen window; seen becomes items put
unfoldable pub queue_put_read : Settings → View → Span → ℕ → Effect
queue_put_read g v window scan =
    cond (ltb (last_put v) window.top)
    (hit_of g v (QueueCommit Putting window (last_put v)) v.kept)
    (miss_of g window.width v scan (QueuePutRead window (add32 scan 1)) (QueueShift Putting window) (with_pass v.kept v.kept.extra 0 v.kept.sum))

-- all subs missed: to shift, or to confirm if some were bare
abbrev pub after_takes : Span → ℕ → ℕ → Phase
after_takes window bare sum = cond (eqb bare 0) (QueueShift Taking window) (QueueConfirm window 0 sum)

abbrev pub queue_take_miss : Settings → View → Span → ℕ → ℕ → ℕ → Effect
queue_take_miss g v window bare scan sum =
    miss_of g window.width v scan (QueueTakeRead window bare (add32 scan 1) sum) (after_takes window bare sum) (with_pass v.kept bare 0 sum)

-- what a take's pass sums up of each sub
abbrev pub rows_put : Settings → View → Span → ℕ
rows_put g v window = level_of g (last_put v) window.bottom

-- queue take: spent if items taken >= seen window; else bare if put = taken, and extra grows by 1; else a hit, and seen becomes items taken
unfoldable pub queue_take_read : Settings → View → Span → ℕ → ℕ → ℕ → Effect
queue_take_read g v window bare scan sum =
    cond (leb window.top (last_taken v))
    (queue_take_miss g v window bare scan (add32 sum (rows_put g v window)))
    (cond (eqb (last_put v) (last_taken v))
    (queue_take_miss g v window (add32 bare 1) scan (add32 sum (rows_put g v window)))
    (hit_of g v (QueueCommit Taking window (last_taken v)) (with_pass v.kept bare scan (add32 sum (rows_put g v window)))))

-- stack put: hit if held < seen window; stack take: hit if held > seen window - d
abbrev pub stack_hit : Settings → View → Side → ℕ → Bool
stack_hit g v Putting window = ltb (items_held v) window
stack_hit g v Taking window = ltb (sub32 window g.depth) (items_held v)

-- seen becomes the version
unfoldable pub stack_read : Settings → View → Side → ℕ → Version → ℕ → ℕ → Effect
stack_read g v side window version scan sum =
    cond (stack_hit g v side window)
    (hit_of g v (Check side version (sub_version v)) (with_pass v.kept version.0 scan (add32 sum (sub_version v).0)))
    (miss_of g g.width v scan
    (StackRead side window version (add32 scan 1) (add32 sum (sub_version v).0))
    (StackShift side version 0 (add32 sum (sub_version v).0))
    v.kept)
