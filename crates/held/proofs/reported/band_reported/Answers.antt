-- `held::reported::band_reported` meets its contract: the kind that stands in the call is the pool's.
use Rattle.bands.proofs.Rows.{band_within_ring}
use Rattle.held.proofs.reported.band_reported.Goals as goal

pub segments_reported-requires-clause-within : goal.segments_reported-requires-clause-within
segments_reported-requires-clause-within c = band_within_ring c.args.g c.requires.fit_pool.bounds _ _ c.requires.few_rows c.band_segments-held.ensures

pub segments_reported-requires-2-clause-within : goal.segments_reported-requires-2-clause-within
segments_reported-requires-2-clause-within c = band_within_ring c.args.g c.requires.fit_pool.bounds _ _ c.requires.few_rows c.band_segments-held.ensures
