-- `step::by_phase::late` meets its contract: the view has all that a late phase's rule asks for, and its effect is one that may be written.
use mathlib.Core.Path.{ap, sym, subst, ◌∙◌}
use Rattle.phases.specs.Inside.{InWindow}
use Rattle.rules.specs.Effects.{view_of}
use Rattle.rules.specs.Step.{rule_of}
use Rattle.rules.specs.Worker.{slot_at}
use Rattle.rules.specs.declared.View.{View}
use Rattle.step_views.specs.ByPhase.{rule_step}
use Rattle.step.proofs.Asked.{rule_asked}
use Rattle.step.proofs.Moves.{rule_allowed}
use Rattle.step.proofs.Seen.{loaded, view_inside}
use Rattle.step.proofs.by_phase.late.Goals as goal

pub rule-e-requires-clause-index_lt_width : goal.rule-e-requires-clause-index_lt_width
unfolding view_of slot_at
rule-e-requires-clause-index_lt_width c =
    let w = c.args in
    let ready = c.requires.ready in
    let inside = view_inside w.words.now w.g (slot_at w.g w.words.now w.at) (loaded w.words.now w.g w.at ready) in rw (ap (λ (v : View). v.worker.index) c.view-v.ensures) ready.index

pub rule-e-requires-clause-inside : goal.rule-e-requires-clause-inside
unfolding view_of slot_at
rule-e-requires-clause-inside c =
    let w = c.args in
    let ready = c.requires.ready in
    let inside = view_inside w.words.now w.g (slot_at w.g w.words.now w.at) (loaded w.words.now w.g w.at ready) in subst (λ (x : View). InWindow x x.worker.phase) (sym c.view-v.ensures) inside

pub rule-e-requires-clause-late : goal.rule-e-requires-clause-late
unfolding view_of slot_at
rule-e-requires-clause-late c =
    let w = c.args in
    let ready = c.requires.ready in
    let inside = view_inside w.words.now w.g (slot_at w.g w.words.now w.at) (loaded w.words.now w.g w.at ready) in rw (ap (λ (v : View). v.worker.phase) c.view-v.ensures) c.requires.late

pub apply-requires-clause-allowed : goal.apply-requires-clause-allowed
apply-requires-clause-allowed c =
    let w = c.args in
    let e = c.rule-e.ensures ∙ ap (rule_of w.g) c.view-v.ensures ∙ rule_asked w.g (view_of w.words.now w.g w.at) in rw e (rule_allowed w.words.now w.g w.at c.requires.ready.fit c.requires.late)

pub returns : goal.returns
unfolding rule_step
returns c =
    let w = c.args in
    c.apply.ensures
    ∙ simp (c.rule-e.ensures, c.view-v.ensures, rule_asked w.g (view_of w.words.now w.g w.at), c.index_of-j.ensures)
