-- `step::by_phase::queue_commit_effect` meets its contract: the phase is the one that the number stands for, and the view has what its rule asks for.
use mathlib.Core.Path.{◌∙◌}
use Rattle.rules.specs.Step.{rule_by}
use Rattle.step.proofs.Asked.{effect_is}
use Rattle.step.proofs.Numbers.{queue_commit_is}
use Rattle.step.proofs.by_phase.queue_commit_effect.Goals as goal

pub returns : goal.returns
unfolding rule_by
returns c =
    let w = c.args in
    c.queue_commit.ensures ∙ simp (c.view_in-v.ensures, c.commit_sizes-sizes.ensures, c.seen_by-window.ensures) (effect_is w.words.now w.g w.kept _ (queue_commit_is w.g w.kept c.requires.kind_value.0 w.side c.requires.kind_value.1))
