-- `worker_fitness::worker_fit` meets its contract: its tests, over one width, are the list's.
use Rattle.worker_fitness.proofs.Seen.{worker_by_width}
use Rattle.laws.specs.Looks.{and_both}
use Rattle.rules.specs.Worker.{slot_at}
use Rattle.worker_fitness.proofs.worker_fit.Goals as goal

pub returns : goal.returns
unfolding slot_at
returns c =
    let a = c.args in
    simp (and_both) (rw (c.phase_fit.ensures, c.width_of-width.ensures, c.stack_unseen.ensures) (worker_by_width a.g (slot_at a.g a.words.now a.at)))
