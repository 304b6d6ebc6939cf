-- Paper 02, K6 and K8, what a move (crates/turnaround) gives a worker that has fewer words than the edition it is moved to. It stands here since the runs of
-- every theorem may have moves among their calls.
use Rattle.std.specs.Prelude.{ℕ, ◌-◌, eqb}
use Rattle.laws.specs.Choice.{cond, both}
use Rattle.rules.specs.Layout.{bottom_word, width_word}
use Rattle.rules.specs.Fit.{past_window}
use Rattle.rules.specs.declared.Settings.{Settings}
use Rattle.rules.specs.declared.Slot.{Slot}

-- a new word k of a worker: "the seen window of a worker past its window phase get[s] the pool's sizes, .. other new words are zero"
unfoldable pub new_word : Settings → Slot → ℕ → ℕ
new_word g s k =
    cond (both (eqb g.kind 0) (past_window s.number)) (cond (eqb k bottom_word) (s.window - g.depth) (cond (eqb k width_word) g.width 0)) 0
