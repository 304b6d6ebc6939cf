-- "Window": the seen window becomes P, T or G; extra becomes G's version (stack) or 0; scan, seen and sum become 0; on to read. From edition 2 on the seen
-- window's bottom and width are stored with its top.
use Rattle.std.specs.Prelude.{◌%◌, eqb}
use Rattle.laws.specs.Choice.{cond}
use Rattle.rules.specs.Worker.{zero_slot}
use Rattle.rules.specs.Effects.{moved_of, queue_view, stack_window, window_version}
use Rattle.rules.specs.declared.Settings.{Settings}
use Rattle.rules.specs.declared.Side.{Side}
use Rattle.rules.specs.declared.Side.TheVariants.{Putting, Taking}
use Rattle.rules.specs.declared.Phase.{Phase}
use Rattle.rules.specs.declared.Phase.TheVariants.{QueuePutRead, QueueTakeRead, StackRead}
use Rattle.rules.specs.declared.Span.{Span}
use Rattle.rules.specs.declared.View.{View}
use Rattle.rules.specs.declared.QueueView.{QueueView}
use Rattle.rules.specs.declared.Effect.{Effect}

-- the put window or the take window
abbrev pub window_for : QueueView → Side → Span
window_for q Putting = q.put
window_for q Taking = q.take

abbrev pub read_from : Span → Side → Phase
read_from window Putting = QueuePutRead window 0
read_from window Taking = QueueTakeRead window 0 0 0

-- "a worker whose index lies beyond it starts at index mod that width"
abbrev pub queue_seen : Settings → View → Side → Span → Effect
queue_seen g v side window = moved_of g v (v.worker.index % window.width) (read_from window side) zero_slot

abbrev pub stack_seen : Settings → View → Side → Effect
stack_seen g v side = moved_of g v v.worker.index (StackRead side (stack_window v) (window_version v) 0 0) zero_slot

unfoldable pub window_rule : Settings → View → Side → Effect
window_rule g v side = cond (eqb g.kind 0) (queue_seen g v side (window_for (queue_view v) side)) (stack_seen g v side)
