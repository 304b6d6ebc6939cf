-- The order is built once, with the closest bound that there is on what a take passes over. K14's and demand 3's follow (Relaxed).
use mathlib.Core.List.{List}
use Rattle.rules.specs.Measures.{Measures}
use Rattle.rules.specs.Sequential.{Operation, Contents}
use Rattle.rules.specs.Run.{Event}
use Rattle.rules.specs.Statement.{GivesWithin, Done, AcceptedWithin, OneAtATimeWithin}
use Rattle.rules.specs.Newer.{exact_rows}
use Rattle.rules.proofs.Types.{Settings, Answered}

abbrev pub Gives : Settings → Contents → Operation → Answered → Measures → Contents → Type 0
Gives g q o a m after = GivesWithin (exact_rows g) g q o a m after

abbrev pub Accepted : Settings → Contents → List Done → Type 0
Accepted g q os = AcceptedWithin (exact_rows g) g q os

abbrev pub OneAtATime : Settings → List Event → Type 0
OneAtATime g es = OneAtATimeWithin (exact_rows g) g es
