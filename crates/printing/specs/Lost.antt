-- The failed commits of a pool's workers, all together; of words that are no fit pool none.
use Rattle.std.specs.Prelude.{ℕ, zero, suc, ◌+◌, List, get_or}
use Rattle.rules.specs.Layout.{worker_at, lost_at}
use Rattle.rules.specs.Fit.{Checked, Unfit, Fit, checked_of}
use Rattle.rules.specs.declared.Settings.{Settings}

-- of the first n workers
unfoldable pub lost_below : List ℕ → Settings → ℕ → ℕ
lost_below ws g zero = 0
lost_below ws g (suc i) = lost_below ws g i + get_or ws (lost_at (worker_at g i)) 0

unfoldable pub lost_by : List ℕ → Checked → ℕ
lost_by ws (Unfit n) = 0
lost_by ws (Fit g) = lost_below ws g g.workers

unfoldable pub lost_of : ℕ → List ℕ → ℕ
lost_of e ws = lost_by ws (checked_of e ws)
