-- `worker_fitness::stack_unseen` meets its contract: the edition and the kind pick the same branch of the choice.
use Rattle.laws.specs.Looks.{and_both}
use Rattle.rules.proofs.Workers.{windowed_is, words_two}
use Rattle.rules.specs.Worker.{slot_at}
use Rattle.laws.specs.Choice.{cond}
use Rattle.laws.specs.Tests.{tests}
use Rattle.std.proofs.Common.{refl, ◌∙◌, ne_eqb}
use Rattle.std.proofs.Common.{sym, arith}
use Rattle.worker_fitness.proofs.stack_unseen.Goals as goal

pub bounds-words-at : goal.bounds-words-at
bounds-words-at c =
    let has = sym c.is_windowed.ensures ∙ c.if-not-is_windowed.false in
    omega (arith, words_two _ (windowed_is c.args.g has), c.requires)

pub bounds-words-at-2 : goal.bounds-words-at-2
bounds-words-at-2 c =
    let has = sym c.is_windowed.ensures ∙ c.if-not-is_windowed.false in
    omega (arith, words_two _ (windowed_is c.args.g has), c.requires)

pub returns-then-not-is_windowed : goal.returns-then-not-is_windowed
unfolding cond
returns-then-not-is_windowed c = grind (arith, tests)

pub returns : goal.returns
unfolding slot_at cond
returns c =
    let has = sym c.is_windowed.ensures ∙ c.if-not-is_windowed.false in
    simp and_both (rw (has, ne_eqb _ _ c.if-g-eq0.false) refl)
