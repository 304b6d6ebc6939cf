-- `setup::size::put_size` meets its contract: the three stores, one after the other, are those of the definition. Assumes nothing.
use native.Mathlib.Nat.{add-zero}
use Rattle.rules.specs.Resize.{put_size}
use Rattle.setup.proofs.size.put_size.Goals as goal

pub returns : goal.returns
unfolding put_size
returns c = simp (add-zero, c.windows_at-at.ensures)
