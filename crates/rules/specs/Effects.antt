-- "One step": what a worker reads, and the ways in which a step can end. No rule knows a word's place.
use Rattle.std.specs.Prelude.{ℕ, ◌+◌, ◌%◌, List, get_or, eqb}
use Rattle.laws.specs.Choice.{cond}
use Rattle.rules.specs.Layout.{puts_at, top_at, mark_at, index_at, first_of, second_of}
use Rattle.rules.specs.Windows.{sizes_of, span_of}
use Rattle.rules.specs.Worker.{slot_at, decode, encode, fresh}
use Rattle.rules.specs.declared.Refusal.{Refusal}
use Rattle.rules.specs.declared.Settings.{Settings}
use Rattle.rules.specs.declared.Side.{Side}
use Rattle.rules.specs.declared.Side.TheVariants.{Putting, Taking}
use Rattle.rules.specs.declared.Phase.{Phase}
use Rattle.rules.specs.declared.Phase.TheVariants.{Idle, Window}
use Rattle.rules.specs.declared.Span.{Span}
use Rattle.rules.specs.declared.Version.{Version}
use Rattle.rules.specs.declared.Worker.{Worker}
use Rattle.rules.specs.declared.Slot.{Slot}
use Rattle.rules.specs.declared.View.{View}
use Rattle.rules.specs.declared.QueueView.{QueueView}
use Rattle.rules.specs.declared.StackView.{StackView}
use Rattle.rules.specs.declared.Effect.{Effect}
use Rattle.rules.specs.declared.Outcome.{Outcome}
use Rattle.rules.specs.declared.Outcome.TheVariants.{Refused, Moving, Empty, Full}

-- what the worker whose words start at `at` reads
unfoldable pub view_of : List ℕ → Settings → ℕ → View
view_of ws g at =
    record {
      top = get_or ws top_at 0;
      mark = get_or ws mark_at 0;
      sizes = sizes_of ws g;
      puts = get_or ws puts_at 0;
      first = first_of ws (get_or ws (index_at at) 0);
      second = second_of ws (get_or ws (index_at at) 0);
      worker = decode g (slot_at g ws at);
      kept = slot_at g ws at;
    }

-- ---- the words of a view, by their names in the paper
-- the put window, whose top is P
abbrev pub put_window : View → Span
put_window v = span_of v.top v.sizes.put

-- the take window, whose top is T
abbrev pub take_window : View → Span
take_window v = span_of v.mark v.sizes.take

-- items put, and items taken; from edition 2 on "per-sub counts become last rows"
abbrev pub last_put : View → ℕ
last_put v = v.first

abbrev pub last_taken : View → ℕ
last_taken v = v.second

-- G
abbrev pub stack_window : View → ℕ
stack_window v = v.top

abbrev pub window_version : View → Version
window_version v = record { 0 = v.mark }

abbrev pub items_held : View → ℕ
items_held v = v.first

abbrev pub sub_version : View → Version
sub_version v = record { 0 = v.second }

-- as a rule of either kind reads them
abbrev pub queue_view : View → QueueView
queue_view v =
    record {
      put = put_window v;
      take = take_window v;
      next = v.sizes.next.depth;
      after = v.sizes.after.depth;
      live = v.sizes.live;
      last_put = last_put v;
      last_taken = last_taken v;
    }

abbrev pub stack_view : View → StackView
stack_view v = record { window = stack_window v; version = window_version v; items_held = items_held v; sub_version = sub_version v }

-- ---- indices
-- "Next" is index + 1 mod w; "that width is w in a step's rules" where a window has one of its own
unfoldable pub next_of : ℕ → ℕ → ℕ
next_of w x = (x + 1) % w

-- how far a worker moves on that lost a commit: "0 stands for 1"
abbrev pub stride_of : Settings → ℕ
stride_of g = cond (eqb g.stride 0) 1 g.stride

-- where it goes: "the index moves on by the stride instead of by 1"; "the hop after a failed commit is mod the pool's w"
unfoldable pub hop_of : Settings → ℕ → ℕ
hop_of g x = (x + stride_of g) % g.width

-- ---- how a step ends
-- all that is shared stays
abbrev pub keep_of : View → Outcome → Slot → Effect
keep_of v outcome slot =
    record {
      outcome = outcome;
      slot = slot;
      top = v.top;
      mark = v.mark;
      puts = v.puts;
      first = v.first;
      second = v.second;
    }

abbrev pub refused_of : View → Refusal → Effect
refused_of v refusal = keep_of v (Refused refusal) v.kept

-- the worker at an index in a phase
abbrev pub worker_of : View → ℕ → Phase → Worker
worker_of v index phase = record { value = v.worker.value; index = index; phase = phase }

-- it goes on so; its words that the phase does not hold are as in `kept`
abbrev pub moved_of : Settings → View → ℕ → Phase → Slot → Effect
moved_of g v index phase kept = keep_of v Moving (encode g (worker_of v index phase) kept)

-- "Restart" is the window phase, the worker's other words kept
abbrev pub restart_of : Settings → View → ℕ → Side → Effect
restart_of g v index side = moved_of g v index (Window side) v.kept

-- a final answer: the worker is idle, all its words zero but the index
abbrev pub finished_of : Settings → View → Outcome → ℕ → Effect
finished_of g v outcome index = keep_of v outcome (fresh g 0 index Idle)

-- the answer of a pass that found no place: 4 for a put, 3 for a take
abbrev pub nothing_for : Side → Outcome
nothing_for Putting = Full
nothing_for Taking = Empty

-- the worker's words with another extra, scan and sum
abbrev pub with_pass : Slot → ℕ → ℕ → ℕ → Slot
with_pass o extra scan sum =
    record {
      number = o.number;
      value = o.value;
      index = o.index;
      window = o.window;
      extra = extra;
      scan = scan;
      seen = o.seen;
      sum = sum;
      bottom = o.bottom;
      width = o.width;
    }
