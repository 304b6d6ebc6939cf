-- `setup::size::fit_set_size` meets its contract: the words needed have room for the windows'.
use Rattle.std.proofs.Common.{arith}
use Rattle.rules.proofs.Workers.{windows_some}
use Rattle.setup.proofs.size.fit_set_size.Goals as goal

pub put_size-requires-clause-g_in_bounds : goal.put_size-requires-clause-g_in_bounds
put_size-requires-clause-g_in_bounds c = omega (arith, c.requires.fit_pool.enough, windows_some c.args.g.edition (omega (arith, c.requires.edition_shipped)))
