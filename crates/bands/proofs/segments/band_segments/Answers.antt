-- `bands::segments::band_segments` meets its contract: a stack's band is one segment from the first cell on.
use Rattle.ring.specs.Segments.{segments_above}
use Rattle.ring.proofs.Ring.{segments_from_first}
use Rattle.rules.proofs.Cells.{rows_pos}
use Rattle.std.proofs.Common.{arith, ◌≡◌, sym, ap, ◌∙◌, ℕ}
use Rattle.bands.proofs.segments.band_segments.Goals as goal

pub returns : goal.returns
returns c =
    let n = c.if-g-eq0.false in
    let first : c.args.band.below ≡ 0 = c.requires.first_cells (omega arith) in
    c.only.ensures
    ∙ sym (segments_from_first c.args.g.rows c.args.band.rows (rows_pos c.args.g c.requires.bounds) c.requires.few_rows)
    ∙ ap (λ (t : ℕ). segments_above c.args.g.rows t c.args.band.rows) (sym first)
