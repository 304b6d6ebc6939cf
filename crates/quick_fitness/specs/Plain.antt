-- What a quick look holds the subs to: the bottom that a queue's take window has if it has the pool's depth. Where no call set a size, it has.
use Rattle.std.specs.Prelude.{ℕ, ◌-◌, Bool, List, ◌==◌, slice_index}
use Rattle.laws.specs.Choice.{cond, all_below}
use Rattle.rules.specs.Fit.{sub_fit}
use Rattle.rules.specs.Layout.{mark_at, first_of, second_of}
use Rattle.rules.specs.declared.Settings.{Settings}

-- that bottom: T minus the pool's depth in a queue, 0 in a stack
unfoldable pub plain_bottom : List ℕ → Settings → ℕ
plain_bottom ws g = cond (g.kind == 0) (slice_index ws mark_at - g.depth) 0

-- whether each sub is fit, held to a bottom
abbrev pub subs_fit_above : List ℕ → Settings → ℕ → Bool
subs_fit_above ws g bottom = all_below g.width (λ j. sub_fit g bottom (first_of ws j) (second_of ws j))
