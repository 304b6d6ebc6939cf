-- When a dispatcher checks its pool again: where a step has moved one of a queue's windows on, which its top tells.
use Rattle.std.specs.Prelude.{ℕ, Bool, not, ◌||◌, List, eqb, get_or}
use Rattle.laws.specs.Choice.{both}
use Rattle.rules.specs.Layout.{top_at, mark_at}
use Rattle.rules.specs.declared.Settings.{Settings}

abbrev pub window_moved : List ℕ → Settings → ℕ → ℕ → Bool
window_moved ws g top mark = both (eqb g.kind 0) (not (eqb (get_or ws top_at 0) top) || not (eqb (get_or ws mark_at 0) mark))
