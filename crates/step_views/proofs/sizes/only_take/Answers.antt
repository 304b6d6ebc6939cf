-- `step_views::sizes::only_take` meets its contract: what its calls ensure, each in its place.
use Rattle.std.proofs.Common.{◌≡◌, true, rules}
use Rattle.std.proofs.iter.Serving.{serving}
use Rattle.rules.specs.Windows.{has_windows, nth_size}
use Rattle.step_views.proofs.Pairs.{take_is, pairs_there, own_or_is}
use Rattle.step_views.proofs.sizes.only_take.Goals as goal

pub own_or-requires : goal.own_or-requires
own_or-requires c = λ has. let there = pairs_there _ c.args.g c.requires has in grind serving

pub returns : goal.returns
returns c =
    let own : has_windows c.args.g ≡ true → c.own_or.result ≡ nth_size c.args.words.now c.args.g 0 = λ has. let h = c.own_or.ensures.of_windows has in search rules in
    let size = own_or_is c.args.g own c.own_or.ensures.of_pool in
    simp (c.no_sizes.ensures, size, c.size_of.ensures, take_is)
