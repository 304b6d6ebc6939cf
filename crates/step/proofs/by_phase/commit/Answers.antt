-- `step::by_phase::commit` meets its contract: its effect is one that a commit has, written as `apply_of` says.
use mathlib.Core.Path.{ap, ◌∙◌}
use Rattle.rules.specs.Effects.{view_of}
use Rattle.rules.specs.Worker.{slot_at}
use Rattle.rules.specs.declared.Slot.{Slot}
use Rattle.step_views.specs.ByPhase.{rule_step}
use Rattle.step.proofs.Moves.{commit_effect}
use Rattle.step.proofs.Seen.{loaded}
use Rattle.step.proofs.by_phase.commit.Goals as goal

pub commit_effect-e-requires-clause-loaded : goal.commit_effect-e-requires-clause-loaded
unfolding slot_at
commit_effect-e-requires-clause-loaded c =
    let w = c.args in rw c.load-kept.ensures (loaded w.words.now w.g w.at c.requires.ready)

pub commit_effect-e-requires-clause-number_value : goal.commit_effect-e-requires-clause-number_value
unfolding slot_at
commit_effect-e-requires-clause-number_value c =
    let w = c.args in rw c.load-kept.ensures c.requires.at_value

pub apply_commit-requires-clause-j_lt_width : goal.apply_commit-requires-clause-j_lt_width
unfolding slot_at
apply_commit-requires-clause-j_lt_width c =
    let w = c.args in
    let load = c.load-kept.ensures in
    let commits = commit_effect w.words.now w.g (slot_at w.g w.words.now w.at) w.side c.requires.at_value in (rw (ap (λ (k : Slot). k.index) load) c.requires.ready.index, rw (c.commit_effect-e.ensures, load) commits)

pub returns : goal.returns
unfolding rule_step view_of slot_at
returns c = c.apply_commit.ensures ∙ simp (c.commit_effect-e.ensures, c.load-kept.ensures)
