-- `held::reported::distance` meets its contract: both loops' invariant is the count over the subs gone through; the second goes through those that lie outside a window.
use Rattle.std.proofs.Common.{◌≡◌, sym, arith, rules}
use Rattle.ring.proofs.Walk.{subs_more, subs_none}
use Rattle.ring.specs.Segments.{walked_distance}
use Rattle.rules.specs.Held.{reported}
use Rattle.held.proofs.reported.distance.Goals as goal

pub loop-j-init : goal.loop-j-init
loop-j-init c = record { few = search rules; counted = sym (subs_none _ _ _) }

pub loop-j-preserved : goal.loop-j-preserved
loop-j-preserved c =
    let l = c.loop-j in
    let a = c.args in
    record {
      few = omega (arith, l.invariant.few, c.whole_reported-n.ensures.1);
      counted = omega (arith, l.invariant.counted, c.whole_reported-n.ensures.0, subs_more (reported a.g.kind a.s.0) a.words.now a.g l.j);
    }

pub loop-j-2-preserved : goal.loop-j-2-preserved
loop-j-2-preserved c =
    let l = c.loop-j-2 in
    let a = c.args in
    record {
      few = omega (arith, l.invariant.few, c.windows_reported-n.ensures.1);
      counted = omega (arith, l.invariant.counted, c.windows_reported-n.ensures.0, subs_more (reported a.g.kind a.s.0) a.words.now a.g l.j);
    }

pub returns : goal.returns
unfolding walked_distance
returns c =
    let l = c.loop-j-2 in
    let all : l.j ≡ c.args.g.width = omega (arith, c.reach_of-r.ensures.most) in
    rw all at l.invariant.counted
