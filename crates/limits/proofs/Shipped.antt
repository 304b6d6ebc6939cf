-- The shipped edition has windows with sizes of their own.
use Rattle.std.proofs.Common.{◌≡◌, refl, true}
use Rattle.rules.specs.Limits.{windowed}
use Rattle.rules.specs.Make.{shipped}
use Rattle.rules.specs.declared.Settings.{Settings}

pub shipped_windowed : (g : Settings) → g.edition ≡ shipped → windowed g ≡ true
unfolding windowed
shipped_windowed g e = rw e refl
