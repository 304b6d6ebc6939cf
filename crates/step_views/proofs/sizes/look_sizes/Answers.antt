-- `step_views::sizes::look_sizes` meets its contract: a put's window is the last of the live ones, of which there is one or more, with a pair for each.
use Rattle.std.proofs.Common.{◌≡◌, ◌-◌, true, arith, rules}
use Rattle.std.proofs.iter.Serving.{serving}
use Rattle.rules.specs.Windows.{has_windows, live_of, nth_size}
use Rattle.step_views.proofs.Pairs.{put_is, pairs_there, own_or_is}
use Rattle.step_views.proofs.sizes.look_sizes.Goals as goal

pub own_or-requires : goal.own_or-requires
own_or-requires c = λ has.
    let there = pairs_there _ c.args.g c.requires has in
    let windows = c.requires.windows has in
    grind (serving, arith)

pub returns-in-Putting : goal.returns-in-Putting
returns-in-Putting c =
    let own : has_windows c.args.g ≡ true → c.own_or.result ≡ nth_size c.args.words.now c.args.g (live_of c.args.words.now c.args.g - 1) = λ has.
    let h = c.own_or.ensures.of_windows has in search rules in
    let size = own_or_is c.args.g own c.own_or.ensures.of_pool in
    simp (c.in-Putting.is, c.no_sizes.ensures, size, c.size_of.ensures, put_is)
