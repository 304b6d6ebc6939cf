-- `bands::reach::window_band` meets its contract: its test is that of `band_within`.
use Rattle.std.proofs.Common.{◌∙◌, lt-ltb, le-ltb}
use Rattle.laws.specs.Choice.{cond}
use Rattle.bands.proofs.Extremes.{max_is_higher, min_is_lower}
use Rattle.bands.proofs.reach.window_band.Goals as goal

pub returns-then-j-size : goal.returns-then-j-size
unfolding cond
returns-then-j-size c =
    rw (lt-ltb _ _ c.if-j-size.true) (rw (c.max.ensures ∙ max_is_higher _ _, c.min.ensures ∙ min_is_lower _ _) at c.between.ensures)

pub returns : goal.returns
unfolding cond
returns c = rw (le-ltb _ _ c.if-j-size.false) c.default.ensures
