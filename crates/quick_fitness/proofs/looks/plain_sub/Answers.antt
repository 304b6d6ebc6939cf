-- `quick_fitness::looks::plain_sub` meets its contract: a queue's sub that is not below the bottom is held to its own last taken row, which a wrapped
-- difference tells.
use Rattle.quick_fitness.proofs.Plain.{sub_plain}
use Rattle.rules.specs.Fit.{sub_fit}
use Rattle.laws.specs.Choice.{cond}
use Rattle.std.proofs.Common.{rules, ne_eqb}
use Rattle.quick_fitness.proofs.looks.plain_sub.Goals as goal

pub returns-then-bottom-sub : goal.returns-then-bottom-sub
returns-then-bottom-sub c =
    let sub = c.sub_of-sub.ensures in
    λ e.
    sub_plain c.args.g c.args.bottom _ _ c.if-g-eq0.true (rw sub.1 at c.if-bottom-sub.true) (search rules) (search rules) (search rules) (simp (c.from.ensures, c.from-then-bottom-sub.ensures, c.from-then-bottom-sub-2.ensures, sub.0, sub.1) at e)

pub returns-else-g-eq0 : goal.returns-else-g-eq0
unfolding sub_fit cond
returns-else-g-eq0 c = λ e. rw (ne_eqb _ _ c.if-g-eq0.false) (rw c.sub_of.ensures.0 at e)
