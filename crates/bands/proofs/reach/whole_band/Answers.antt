-- `bands::reach::whole_band` meets its contract: the kind picks the same branch of `whole_band`.
use Rattle.std.proofs.Common.{◌∙◌, eq-eqb, ne_eqb}
use Rattle.laws.specs.Choice.{cond}
use Rattle.bands.proofs.Extremes.{max_is_higher, min_is_lower}
use Rattle.bands.proofs.reach.whole_band.Goals as goal

pub returns-then-g-eq0 : goal.returns-then-g-eq0
unfolding cond
returns-then-g-eq0 c =
    rw (eq-eqb _ _ c.if-g-eq0.true) (rw (c.max.ensures ∙ max_is_higher _ _, c.min.ensures ∙ min_is_lower _ _) at c.between.ensures)

pub returns : goal.returns
unfolding cond
returns c = rw (ne_eqb _ _ c.if-g-eq0.false) c.between-2.ensures
