-- `shared_fitness::subs::lowest` meets its contract: windows that fit have a take window whose bottom is not below 0.
use Rattle.rules.proofs.Workers.{windowed_is, windows_some}
use Rattle.rules.proofs.Fitness.{windows_fit_law}
use Rattle.laws.specs.Choice.{cond, both_true}
use Rattle.std.proofs.Common.{sym, refl, ◌∙◌, arith}
use Rattle.shared_fitness.proofs.subs.lowest.Goals as goal

pub take_bottom-requires-clause-most_live_in_bounds : goal.take_bottom-requires-clause-most_live_in_bounds
take_bottom-requires-clause-most_live_in_bounds c =
    let has = sym c.has_windows.ensures ∙ c.if-has_windows.true in (omega (arith, c.requires.g_in_bounds.0, windows_some _ (windowed_is c.args.g (both_true _ _ has).0)), (windows_fit_law c.args.words.now c.args.g has c.requires.g_in_bounds.1).low)

pub returns-then-has_windows : goal.returns-then-has_windows
unfolding cond
returns-then-has_windows c = c.take_bottom.ensures ∙ rw (sym c.has_windows.ensures ∙ c.if-has_windows.true) refl

pub returns-else-has_windows : goal.returns-else-has_windows
unfolding cond
returns-else-has_windows c = rw (sym c.has_windows.ensures ∙ c.if-has_windows.false) refl
