use Rattle.buffers.proofs.Keeping.{flush_keeps}
use Rattle.buffers.proofs.run.Run.with_room.Goals as goal

pub returns-clause-keeps : goal.returns-clause-keeps
returns-clause-keeps g c = λ m piece ws. flush_keeps c.args.self c.flush.result c.args.out.now c.flush.ensures.run c.requires.1 m piece ws
