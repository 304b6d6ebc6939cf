-- `held::total::fit_items` meets its contract: so many items are held by the subs gone through; the second loop goes through those that lie outside a window.
use Rattle.std.proofs.Common.{sym, arith, rules}
use Rattle.bands.proofs.Counts.{held_none, held_more, whole_read}
use Rattle.held.proofs.total.fit_items.Goals as goal

pub loop-j-init : goal.loop-j-init
loop-j-init c = record { few = search rules; counted = sym (held_none _ _) }

pub overflow_add-n : goal.overflow_add-n
overflow_add-n c =
    let read = whole_read c.args.words.now c.args.g c.requires (λ i. (c.type_inv.words i).fits) c.reach_of-r.result c.reach_of-r.ensures c.loop-j.j c.loop-j-test.true c.sub_of.ensures.0 c.sub_of.ensures.1 c.whole_band-n.ensures in
    omega (arith, read.few, c.loop-j.invariant.few, c.reach_of-r.ensures.most, c.requires.bounds.width16, c.requires.bounds.rows1024)

pub loop-j-preserved : goal.loop-j-preserved
loop-j-preserved c =
    let read = whole_read c.args.words.now c.args.g c.requires (λ i. (c.type_inv.words i).fits) c.reach_of-r.result c.reach_of-r.ensures c.loop-j.j c.loop-j-test.true c.sub_of.ensures.0 c.sub_of.ensures.1 c.whole_band-n.ensures in
    let l = c.loop-j in
    record {
      few = omega (arith, l.invariant.few, read.few, c.requires.bounds.rows1024);
      counted = omega (arith, l.invariant.counted, read.many, held_more c.args.words.now c.args.g l.j);
    }

pub loop-j-2-preserved : goal.loop-j-2-preserved
loop-j-2-preserved c =
    let l = c.loop-j-2 in
    record {
      few = omega (arith, l.invariant.few, c.windows_held-n.ensures.1);
      counted = omega (arith, l.invariant.counted, c.windows_held-n.ensures.0, held_more c.args.words.now c.args.g l.j);
    }
