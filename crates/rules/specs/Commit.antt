-- "Commit": where the count or version differs from seen, a hop by the stride and a restart, counted on the worker's card; else a put stores value and new
-- stamp in the row above, and a take takes the oldest (queue) or top (stack) row. Counts change by one, and a stack's
-- version grows by one. From edition 2 on a queue's row is the one above the higher of its last row and the seen window's bottom, and becomes its last. A commit that matches with no free cell or no item is refused.
use Rattle.std.specs.Prelude.{ℕ, ◌+◌, Bool, ltb, eqb}
use Rattle.laws.specs.Choice.{cond}
use Rattle.laws.specs.Wrap.{add32, sub32}
use Rattle.rules.specs.Worker.{fresh}
use Rattle.rules.specs.Windows.{level_of}
use Rattle.rules.specs.Effects.{keep_of, refused_of, restart_of, hop_of, take_window, last_put, last_taken, items_held, sub_version}
use Rattle.rules.specs.declared.Settings.{Settings}
use Rattle.rules.specs.declared.Side.{Side}
use Rattle.rules.specs.declared.Side.TheVariants.{Putting, Taking}
use Rattle.rules.specs.declared.Phase.TheVariants.{Idle}
use Rattle.rules.specs.declared.Row.{Row}
use Rattle.rules.specs.declared.Span.{Span}
use Rattle.rules.specs.declared.Stamp.{Stamp}
use Rattle.rules.specs.declared.Version.{Version}
use Rattle.rules.specs.declared.View.{View}
use Rattle.rules.specs.declared.Effect.{Effect}
use Rattle.rules.specs.declared.Outcome.TheVariants.{Lost, Landed, Removed}
use Rattle.rules.specs.declared.Refusal.TheVariants.{NotFit}

-- the stamp of an item that lands: "the number of the put"
abbrev pub stamp_next : View → Stamp
stamp_next v = record { 0 = add32 v.puts 1 }

-- the row above so many
abbrev pub row_above : ℕ → Row
row_above count = record { 0 = add32 count 1 }

-- an item lands in a row, and puts made is one more; the sub's words are then `first` and `second`
abbrev pub landed_of : Settings → View → ℕ → ℕ → Row → Effect
landed_of g v first second row =
    record {
      outcome = Landed v.worker.value row (stamp_next v);
      slot = fresh g 0 v.worker.index Idle;
      top = v.top;
      mark = v.mark;
      puts = add32 v.puts 1;
      first = first;
      second = second;
    }

-- the item of a row is taken
abbrev pub removed_of : Settings → View → ℕ → ℕ → Row → Effect
removed_of g v first second row =
    record {
      outcome = Removed row;
      slot = fresh g 0 v.worker.index Idle;
      top = v.top;
      mark = v.mark;
      puts = v.puts;
      first = first;
      second = second;
    }

-- a commit that failed: a hop by the stride and a restart, and it is counted
abbrev pub lost_of : Settings → View → Side → Effect
lost_of g v side = keep_of v Lost (restart_of g v (hop_of g v.worker.index) side).slot

-- what a commit does that matches, if it is able to, and one that does not
unfoldable pub commit_by : Settings → View → Side → Bool → Bool → Effect → Effect
commit_by g v side matches able done =
    cond matches (cond able done (refused_of v NotFit)) (lost_of g v side)

-- a put into the row above a level; "a commit has no free cell if its row passes the higher of last taken row and take window's bottom by more than R"
unfoldable pub queue_put_commit : Settings → View → ℕ → ℕ → Effect
queue_put_commit g v seen level =
    commit_by g v Putting (eqb (last_put v) seen) (ltb level (level_of g (last_taken v) (take_window v).bottom + g.rows))
    (landed_of g v (add32 level 1) (last_taken v) (row_above level))

-- a take from the row above a level; "and no item if it passes the last put row"
unfoldable pub queue_take_commit : Settings → View → ℕ → ℕ → Effect
queue_take_commit g v seen level =
    commit_by g v Taking (eqb (last_taken v) seen) (ltb level (last_put v)) (removed_of g v (last_put v) (add32 level 1) (row_above level))

unfoldable pub queue_commit : Settings → View → Side → Span → ℕ → Effect
queue_commit g v Putting window seen = queue_put_commit g v seen (level_of g (last_put v) window.bottom)
queue_commit g v Taking window seen = queue_take_commit g v seen (level_of g (last_taken v) window.bottom)

unfoldable pub stack_commit : Settings → View → Side → Version → Effect
stack_commit g v Putting seen =
    commit_by g v Putting (eqb (sub_version v).0 seen.0) (ltb (items_held v) g.rows)
    (landed_of g v (add32 (items_held v) 1) (add32 (sub_version v).0 1) (row_above (items_held v)))
stack_commit g v Taking seen =
    commit_by g v Taking (eqb (sub_version v).0 seen.0) (ltb 0 (items_held v))
    (removed_of g v (sub32 (items_held v) 1) (add32 (sub_version v).0 1) (record { 0 = items_held v }))
