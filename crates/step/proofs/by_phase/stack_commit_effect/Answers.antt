-- `step::by_phase::stack_commit_effect` meets its contract: the phase is the one that the number stands for, and the view has what its rule asks for.
use mathlib.Core.Path.{◌∙◌}
use Rattle.rules.specs.Step.{rule_by}
use Rattle.step.proofs.Asked.{effect_is}
use Rattle.step.proofs.Numbers.{stack_commit_is}
use Rattle.step.proofs.by_phase.stack_commit_effect.Goals as goal

pub returns : goal.returns
unfolding rule_by
returns c =
    let w = c.args in
    c.stack_commit.ensures ∙ simp (c.view_in-v.ensures, c.no_sizes.ensures) (effect_is w.words.now w.g w.kept _ (stack_commit_is w.g w.kept c.requires.kind_value.0 w.side c.requires.kind_value.1))
