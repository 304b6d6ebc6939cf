use Rattle.std.proofs.Common.{arith}
use Rattle.mover.proofs.Reading.{read_more}
use Rattle.mover.proofs.read_all.Goals as goal

pub loop-end-preserved : goal.loop-end-preserved
loop-end-preserved g c =
    let l = c.loop-end in
    let r = c.in_ok-n.ensures in
    (omega (arith, r.fits, c.read_behind.auto.area), read_more _ _ _ l.end c.in_ok-n.n l.src c.read_behind.new.area r.before l.invariant.1 r.bytes.0)
