-- `step::by_phase::read` meets its contract: its effect moves the worker alone.
use Rattle.rules.specs.Worker.{slot_at}
use Rattle.step.proofs.Moves.{read_effect, moving_step}
use Rattle.step.proofs.Seen.{loaded}
use Rattle.step.proofs.by_phase.read.Goals as goal

pub read_effect-e-requires-clause-loaded : goal.read_effect-e-requires-clause-loaded
unfolding slot_at
read_effect-e-requires-clause-loaded c =
    let w = c.args in rw c.load-kept.ensures (loaded w.words.now w.g w.at c.requires.ready)

pub read_effect-e-requires-clause-number_value : goal.read_effect-e-requires-clause-number_value
unfolding slot_at
read_effect-e-requires-clause-number_value c =
    let w = c.args in rw c.load-kept.ensures c.requires.at_value

pub returns : goal.returns
unfolding slot_at
returns c =
    let w = c.args in
    let moving = read_effect w.words.now w.g (slot_at w.g w.words.now w.at) w.side c.requires.at_value in
    simp (c.put_worker.ensures, c.read_effect-e.ensures, c.load-kept.ensures) (moving_step w.words.now w.g w.at moving)
