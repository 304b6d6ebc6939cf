-- `held::reported::whole_reported` meets its contract: the whole band of the sub is all that it holds, and lies in the segments that are gone through.
use Rattle.std.proofs.Common.{◌∙◌}
use Rattle.bands.proofs.Counts.{whole_read}
use Rattle.held.proofs.reported.whole_reported.Goals as goal

pub band_reported-requires-clause-few_rows : goal.band_reported-requires-clause-few_rows
band_reported-requires-clause-few_rows c =
    let read = whole_read c.args.words.now c.args.g c.requires.fit_pool (λ i. (c.type_inv.words i).fits) c.args.r c.requires.together c.args.j c.requires.in_all c.sub_of.ensures.0 c.sub_of.ensures.1 c.whole_band.ensures in
    read.few

pub band_reported-requires-clause-first_cells : goal.band_reported-requires-clause-first_cells
band_reported-requires-clause-first_cells c =
    let read = whole_read c.args.words.now c.args.g c.requires.fit_pool (λ i. (c.type_inv.words i).fits) c.args.r c.requires.together c.args.j c.requires.in_all c.sub_of.ensures.0 c.sub_of.ensures.1 c.whole_band.ensures in
    read.first_cells

pub band_reported-requires-clause-tells_cell : goal.band_reported-requires-clause-tells_cell
band_reported-requires-clause-tells_cell c =
    let read = whole_read c.args.words.now c.args.g c.requires.fit_pool (λ i. (c.type_inv.words i).fits) c.args.r c.requires.together c.args.j c.requires.in_all c.sub_of.ensures.0 c.sub_of.ensures.1 c.whole_band.ensures in
    read.tells

pub returns : goal.returns
returns c =
    let read = whole_read c.args.words.now c.args.g c.requires.fit_pool (λ i. (c.type_inv.words i).fits) c.args.r c.requires.together c.args.j c.requires.in_all c.sub_of.ensures.0 c.sub_of.ensures.1 c.whole_band.ensures in
    (c.band_reported.ensures.0 ∙ read.counted _, c.band_reported.ensures.1)
