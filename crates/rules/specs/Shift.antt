-- "Shift": if the window (queue) or its version (stack) isn't the seen one, restart. Else the window moves and the
-- worker restarts; where the window cannot move, a queue gives its final answer and a stack goes to confirm.
use Rattle.std.specs.Prelude.{ℕ, Bool, true, ltb, leb, eqb}
use Rattle.laws.specs.Choice.{cond, both}
use Rattle.laws.specs.Wrap.{add32, sub32}
use Rattle.rules.specs.Limits.{windowed, most_live}
use Rattle.rules.specs.Worker.{encode}
use Rattle.rules.specs.Effects.{worker_of, moved_of, restart_of, finished_of, nothing_for, queue_view, stack_window, window_version}
use Rattle.rules.specs.declared.Settings.{Settings}
use Rattle.rules.specs.declared.Side.{Side}
use Rattle.rules.specs.declared.Side.TheVariants.{Putting, Taking}
use Rattle.rules.specs.declared.Phase.TheVariants.{Window, StackConfirm}
use Rattle.rules.specs.declared.Span.{Span}
use Rattle.rules.specs.declared.Version.{Version}
use Rattle.rules.specs.declared.View.{View}
use Rattle.rules.specs.declared.QueueView.{QueueView}
use Rattle.rules.specs.declared.Effect.{Effect}
use Rattle.rules.specs.declared.Outcome.{Outcome}
use Rattle.rules.specs.declared.Outcome.TheVariants.{Shifted, Raised, Dropped}

-- a restart with the window words moved
abbrev pub shifted_of : Settings → View → Outcome → Side → ℕ → ℕ → Effect
shifted_of g v outcome side top mark =
    record {
      outcome = outcome;
      slot = encode g (worker_of v v.worker.index (Window side)) v.kept;
      top = top;
      mark = mark;
      puts = v.puts;
      first = v.first;
      second = v.second;
    }

-- a window that is the seen one moves where it can, with what stands for a window that cannot
unfoldable pub shift_by : Settings → View → Side → Bool → Bool → Effect → Effect → Effect
shift_by g v side same able moved stuck = cond same (cond able moved stuck) (restart_of g v v.worker.index side)

-- the top of the next put window
abbrev pub new_top : QueueView → ℕ
new_top q = add32 q.put.top q.next

-- "and fewer than 16 live windows"; editions 0 and 1 do not count them
abbrev pub may_rise : Settings → QueueView → Bool
may_rise g q = cond (windowed g) (ltb q.live most_live) true

-- put: if P + 2d - T <= R then P grows by d, else 4: "a put shift needs new top minus the take window's bottom at most R", where in editions 0 and 1 the
-- new top is P + d and that bottom T - d
abbrev pub queue_put_shift : Settings → View → QueueView → Span → Effect
queue_put_shift g v q window =
    shift_by g v Putting (eqb q.put.top window.top) (both (leb (sub32 (new_top q) q.take.bottom) g.rows) (may_rise g q))
    (shifted_of g v Raised Putting (new_top q) v.mark)
    (finished_of g v (nothing_for Putting) v.worker.index)

-- take: if T < P then T grows by d, the depth of the next window, else 3
abbrev pub queue_take_shift : Settings → View → QueueView → Span → Effect
queue_take_shift g v q window =
    shift_by g v Taking (eqb q.take.top window.top) (ltb q.take.top q.put.top)
    (shifted_of g v Dropped Taking v.top (add32 q.take.top q.after))
    (finished_of g v (nothing_for Taking) v.worker.index)

unfoldable pub queue_shift : Settings → View → Side → Span → Effect
queue_shift g v Putting window = queue_put_shift g v (queue_view v) window
queue_shift g v Taking window = queue_take_shift g v (queue_view v) window

-- put: if G + s <= R then G grows by s; take: if G > d then G falls by s; the version grows. Else confirm
unfoldable pub stack_shift : Settings → View → Side → Version → ℕ → ℕ → Effect
stack_shift g v Putting version scan sum =
    shift_by g v Putting (eqb (window_version v).0 version.0) (leb (add32 (stack_window v) g.shift) g.rows)
    (shifted_of g v Shifted Putting (add32 (stack_window v) g.shift) (add32 (window_version v).0 1))
    (moved_of g v v.worker.index (StackConfirm Putting scan sum) v.kept)
stack_shift g v Taking version scan sum =
    shift_by g v Taking (eqb (window_version v).0 version.0) (ltb g.depth (stack_window v))
    (shifted_of g v Shifted Taking (sub32 (stack_window v) g.shift) (add32 (window_version v).0 1))
    (moved_of g v v.worker.index (StackConfirm Taking scan sum) v.kept)
