-- `quick_fitness::looks::plain_windows` meets its contract: the kind picks the same branch of `windows_fit`, and in a stack there is no bottom to hold a sub
-- to.
use Rattle.limits.proofs.Shipped.{shipped_windowed}
use Rattle.shared_fitness.proofs.Stacks.{stack_windows}
use Rattle.rules.proofs.Workers.{windowed_is, windows_some}
use Rattle.quick_fitness.specs.Plain.{plain_bottom}
use Rattle.laws.specs.Choice.{cond}
use Rattle.std.proofs.Common.{sym, refl, ◌∙◌, arith, eq-eqb, ne_eqb}
use Rattle.quick_fitness.proofs.looks.plain_windows.Goals as goal

pub plain_sizes-requires-clause-at_windows : goal.plain_sizes-requires-clause-at_windows
plain_sizes-requires-clause-at_windows c = (c.windows_at-at.ensures, omega (arith, c.requires.g_in_bounds.0, windows_some _ (windowed_is c.args.g (shipped_windowed c.args.g c.requires.g_in_bounds.1))))

pub returns-then-g-eq0 : goal.returns-then-g-eq0
unfolding cond
returns-then-g-eq0 c =
    λ e. ((c.plain_sizes.ensures e).0, (c.plain_sizes.ensures e).1 ∙ rw (shipped_windowed c.args.g c.requires.g_in_bounds.1, eq-eqb _ _ c.if-g-eq0.true) refl)

pub zeros-requires : goal.zeros-requires
zeros-requires c =
    omega (arith, c.requires.g_in_bounds.0, windows_some _ (windowed_is c.args.g (shipped_windowed c.args.g c.requires.g_in_bounds.1)), c.windows_at-at.ensures)

pub returns-else-g-eq0 : goal.returns-else-g-eq0
unfolding plain_bottom cond
returns-else-g-eq0 c =
    let new = shipped_windowed c.args.g c.requires.g_in_bounds.1 in
    let stack = ne_eqb _ _ c.if-g-eq0.false in
    λ e. (
      sym (stack_windows c.args.words.now c.args.g c.windows_at-at.ensures new stack) ∙ sym c.zeros.ensures ∙ e,
      rw (new, stack) refl,
    )
