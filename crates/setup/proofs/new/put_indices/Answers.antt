-- `setup::new::put_indices` meets its contract: the loop's invariant is that the workers passed have their index.
use Rattle.std.proofs.Common.{sym, ◌∙◌, rules}
use Rattle.rules.proofs.Workers.{worker_lent}
use Rattle.rules.proofs.Making.{indexed_more, indexed_none}
use Rattle.setup.proofs.new.put_indices.Goals as goal

pub loop-i-init : goal.loop-i-init
loop-i-init c = sym (indexed_none _ _)

pub put_index-requires : goal.put_index-requires
put_index-requires c =
    let l = c.loop-i in
    search (rules, worker_lent c.args.g c.args.words.now l.i c.loop-i-test.true c.requires.g_in_bounds)

pub loop-i-preserved : goal.loop-i-preserved
loop-i-preserved c =
    let l = c.loop-i in
    let a = c.args in
    rw (← c.worker_at.ensures, ← l.invariant) c.put_index.ensures ∙ sym (indexed_more a.words.now a.g l.i)
