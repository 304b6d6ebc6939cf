-- `step::by_phase::take_read_effect` meets its contract: the phase is the one that the number stands for, and the view has what its rule asks for.
use mathlib.Core.Path.{ap, ◌∙◌}
use Rattle.rules.specs.Step.{rule_by}
use Rattle.rules.specs.declared.View.{View}
use Rattle.step.proofs.Asked.{effect_is}
use Rattle.step.proofs.Numbers.{take_read_is}
use Rattle.step.proofs.Seen.{inside_as}
use Rattle.step.proofs.by_phase.take_read_effect.Goals as goal

pub queue_take_read-requires : goal.queue_take_read-requires
queue_take_read-requires c =
    let w = c.args in
    rw (ap (λ (v : View). v.worker.index) c.view_in-v.ensures, c.seen_by-window.ensures) (inside_as w.words.now w.g w.kept c.requires.loaded _ (take_read_is w.g w.kept c.requires.kind_value.0 c.requires.kind_value.1))

pub returns : goal.returns
unfolding rule_by
returns c =
    let w = c.args in
    c.queue_take_read.ensures ∙ simp (c.view_in-v.ensures, c.no_sizes.ensures, c.seen_by-window.ensures) (effect_is w.words.now w.g w.kept _ (take_read_is w.g w.kept c.requires.kind_value.0 c.requires.kind_value.1))
