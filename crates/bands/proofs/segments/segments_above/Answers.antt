-- `bands::segments::segments_above` meets its contract: the tests are the definition's.
use Rattle.std.proofs.Common.{◌∙◌, eq-eqb, rules}
use Rattle.laws.specs.Choice.{cond}
use Rattle.laws.specs.Tests.{tests}
use Rattle.ring.specs.Segments.{segments_from, segments_above}
use Rattle.bands.proofs.segments.segments_above.Goals as goal

pub returns-then-held-eq0 : goal.returns-then-held-eq0
unfolding segments_above segments_from cond
returns-then-held-eq0 c = rw (eq-eqb _ _ c.if-held-eq0.true) (let e = c.default.ensures in search rules)

pub returns-then-held-room : goal.returns-then-held-room
unfolding segments_above segments_from cond
returns-then-held-room c = c.only.ensures ∙ rw (← c.cell_above-start.ensures) (search tests)

pub returns : goal.returns
unfolding segments_above segments_from cond
returns c = rw (← c.cell_above-start.ensures) (search tests)
