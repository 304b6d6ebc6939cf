-- `dispatcher::stopped` meets its contract: nobody is busy, or the count has run out, or the next step is refused.
use Rattle.std.proofs.Common.{sym, ◌<◌, arith}
use Rattle.rounds.proofs.Turns.{turns_none, turns_out, turns_refused}
use Rattle.dispatcher.proofs.stopped.Goals as goal

pub returns-in-None : goal.returns-in-None
returns-in-None c = let a = c.args in sym (turns_none a.words.now a.g a.i a.left (sym c.in-None.ensures))

pub returns-then-left-eq0 : goal.returns-then-left-eq0
returns-then-left-eq0 c = let a = c.args in sym (turns_out a.words.now a.g a.i _ a.left c.if-left-eq0.true (sym c.in-Some.ensures))

pub returns-else-left-eq0 : goal.returns-else-left-eq0
returns-else-left-eq0 c =
    let a = c.args in
    let left = c.if-left-eq0.false in
    let some : 0 < a.left = omega arith in
    sym (turns_refused a.words.now a.g a.i _ a.left a.refusal some (sym c.in-Some.ensures) c.requires.unfit)
