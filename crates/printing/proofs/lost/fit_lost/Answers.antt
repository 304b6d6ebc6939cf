-- `printing::lost::fit_lost` meets its contract: so many are those of the workers below i, each a word. Assumes nothing.
use Rattle.std.proofs.Common.{refl, rules, arith}
use Rattle.rules.specs.Layout.{worker_words}
use Rattle.rules.proofs.Workers.{word_within}
use Rattle.printing.specs.Lost.{lost_below}
use Rattle.printing.proofs.lost.fit_lost.Goals as goal

pub loop-i-init : goal.loop-i-init
unfolding lost_below
loop-i-init c = record { fits = search rules; sum = refl }

pub lost_of-requires : goal.lost_of-requires
unfolding worker_words
lost_of-requires c =
    let p = c.requires in
    rw c.worker_at.ensures (word_within c.args.g c.loop-i.i 8 _ c.loop-i-test.true (rw p.shipped_edition (omega arith)) p.fit_pool.enough)

pub loop-i-preserved : goal.loop-i-preserved
unfolding lost_below
loop-i-preserved c = record { fits = search rules; sum = grind (arith, c.worker_at.ensures, c.lost_of.ensures, c.from-n.ensures, c.loop-i.invariant.sum) }
