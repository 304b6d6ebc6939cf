-- `step::by_phase::look_effect` meets its contract: the phase is the one that the number stands for, and the view has what its rule asks for.
use mathlib.Core.Path.{◌∙◌}
use Rattle.rules.specs.Step.{rule_by}
use Rattle.step.proofs.Asked.{effect_is}
use Rattle.step.proofs.Numbers.{window_is}
use Rattle.step.proofs.Seen.{inside_as}
use Rattle.step.proofs.by_phase.look_effect.Goals as goal

pub window-requires : goal.window-requires
window-requires c =
    let w = c.args in
    rw (c.view_in-v.ensures, c.look_sizes-sizes.ensures) (inside_as w.words.now w.g w.kept c.requires.loaded _ (window_is w.g w.kept w.side c.requires.number_value))

pub returns : goal.returns
unfolding rule_by
returns c =
    let w = c.args in
    c.window.ensures ∙ simp (c.view_in-v.ensures, c.look_sizes-sizes.ensures) (effect_is w.words.now w.g w.kept _ (window_is w.g w.kept w.side c.requires.number_value))
