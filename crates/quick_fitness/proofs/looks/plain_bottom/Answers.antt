-- `quick_fitness::looks::plain_bottom` meets its contract: T minus the depth, and where that would be below 0 or in a stack, 0.
use Rattle.quick_fitness.specs.Plain.{plain_bottom}
use Rattle.laws.specs.Choice.{cond}
use Rattle.std.proofs.Common.{refl, eq-eqb, ne_eqb}
use Rattle.quick_fitness.proofs.looks.plain_bottom.Goals as goal

pub returns-then-g-eq0 : goal.returns-then-g-eq0
unfolding plain_bottom cond
returns-then-g-eq0 c = rw (eq-eqb _ _ c.if-g-eq0.true) c.saturating_sub.ensures

pub returns-else-g-eq0 : goal.returns-else-g-eq0
unfolding plain_bottom cond
returns-else-g-eq0 c = rw (ne_eqb _ _ c.if-g-eq0.false) refl
