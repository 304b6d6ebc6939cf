-- `shared_fitness::subs::sub_fit` meets its contract: the kind picks the same branch of `sub_fit`.
use Rattle.rules.specs.Fit.{sub_fit}
use Rattle.laws.specs.Choice.{cond}
use Rattle.std.proofs.Common.{◌∙◌, eq-eqb, ne_eqb}
use Rattle.shared_fitness.proofs.subs.sub_fit.Goals as goal

pub returns-then-g-eq0 : goal.returns-then-g-eq0
unfolding sub_fit cond
returns-then-g-eq0 c = rw (eq-eqb _ _ c.if-g-eq0.true) (c.queue_fit.ensures ∙ simp (c.sub_of-sub.ensures.0, c.sub_of-sub.ensures.1))

pub returns-else-g-eq0 : goal.returns-else-g-eq0
unfolding sub_fit cond
returns-else-g-eq0 c = rw (ne_eqb _ _ c.if-g-eq0.false) (simp c.sub_of.ensures.0)
