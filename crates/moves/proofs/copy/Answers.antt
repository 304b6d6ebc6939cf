-- `moves::copy` meets its contract: the loop's invariant is that the first k words are copied, and that the target has as many words as were lent.
use Rattle.std.proofs.Common.{◌≡◌, ◌+◌, ◌-◌, length, drop, get_or, sym, arith, add-one, length-set, length-drop}
use Rattle.std.proofs.Math.Seq.{paste-suc, get_or-drop}
use Rattle.moves.proofs.copy.Goals as goal

pub loop-k-preserved : goal.loop-k-preserved
loop-k-preserved c =
    let l = c.loop-k in
    let a = c.args in
    let words = drop a.at a.from.now in
    let most : length words ≡ length a.from.now - a.at = length-drop a.at a.from.now in
    let word : get_or a.from.now (a.at + l.k) 0 ≡ get_or words l.k 0 = sym (get_or-drop a.at a.from.now l.k 0) in (
      simp length-set l.invariant.0,
      rw word (rw (add-one l.k, l.invariant.1) (paste-suc a.to.now a.start words l.k 0 (omega arith) (omega arith))),
    )
