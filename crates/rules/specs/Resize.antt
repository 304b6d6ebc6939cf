-- "A call sets the size of put windows from the next one on; until then the size is the pool's" (paper 02, K8). It is no step: it counts none, and a pool
-- that has spent its steps takes it.
use Rattle.std.specs.Prelude.{ℕ, List, set, eqb, Ok}
use Rattle.laws.specs.Choice.{cond, both}
use Rattle.rules.specs.Answers.{Out, out, refuse}
use Rattle.rules.specs.Layout.{next_width_at, next_depth_at, set_at}
use Rattle.rules.specs.Limits.{windowed, size_fit}
use Rattle.rules.specs.Fit.{Checked, Unfit, Fit, checked_of}
use Rattle.rules.specs.declared.Settings.{Settings}
use Rattle.rules.specs.declared.Size.{Size}
use Rattle.rules.specs.declared.Answer.TheVariants.{Moving}
use Rattle.rules.specs.declared.Refusal.TheVariants.{NotFit, OffSize}

-- "next width, next depth, 1 once a size was set"
unfoldable pub put_size : List ℕ → Settings → Size → List ℕ
put_size ws g size = set (set (set ws (next_width_at g) size.width) (next_depth_at g) size.depth) (set_at g) 1

-- "it refuses a next size off limits, or one for a pile, with 32 after fitness"; editions 0 and 1 have no sizes: a pool of theirs is not fit for it
unfoldable pub fit_set_size : List ℕ → Settings → Size → Out
fit_set_size ws g size =
    cond (windowed g) (cond (both (eqb g.kind 0) (size_fit g size)) (out (Ok Moving) (put_size ws g size)) (refuse OffSize ws)) (refuse NotFit ws)

unfoldable pub checked_set_size : List ℕ → Checked → Size → Out
checked_set_size ws (Unfit n) size = refuse n ws
checked_set_size ws (Fit g) size = fit_set_size ws g size

unfoldable pub set_size_of : ℕ → List ℕ → Size → Out
set_size_of e ws size = checked_set_size ws (checked_of e ws) size
