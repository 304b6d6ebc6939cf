-- "Check" (stack): if the window's version equals extra, commit; else restart.
use Rattle.std.specs.Prelude.{eqb}
use Rattle.laws.specs.Choice.{cond}
use Rattle.rules.specs.Effects.{moved_of, restart_of, window_version}
use Rattle.rules.specs.declared.Settings.{Settings}
use Rattle.rules.specs.declared.Side.{Side}
use Rattle.rules.specs.declared.Phase.TheVariants.{StackCommit}
use Rattle.rules.specs.declared.Version.{Version}
use Rattle.rules.specs.declared.View.{View}
use Rattle.rules.specs.declared.Effect.{Effect}

unfoldable pub check_rule : Settings → View → Side → Version → Version → Effect
check_rule g v side version seen =
    cond (eqb (window_version v).0 version.0)
    (moved_of g v v.worker.index (StackCommit side seen) v.kept)
    (restart_of g v v.worker.index side)
