-- `step_views::sizes::shift_sizes` meets its contract: each side has its clause.
use Rattle.std.proofs.Common.{◌≡◌, true, rules}
use Rattle.std.proofs.iter.Serving.{serving}
use Rattle.rules.specs.Windows.{has_windows, live_of, next_size, nth_size}
use Rattle.step_views.proofs.Pairs.{take_is, after_is, next_is, live_is, pairs_there, own_or_is}
use Rattle.step_views.proofs.sizes.shift_sizes.Goals as goal

pub own_or-requires : goal.own_or-requires
own_or-requires c = λ has. let there = pairs_there _ c.args.g c.requires has in grind serving

pub own_or-requires-in-Putting : goal.own_or-requires-in-Putting
own_or-requires-in-Putting c = λ has. let there = pairs_there _ c.args.g c.requires has in grind serving

pub own_or-requires-in-Putting-2 : goal.own_or-requires-in-Putting-2
own_or-requires-in-Putting-2 c = λ has. let there = pairs_there _ c.args.g c.requires has in grind serving

pub own_or-requires-in-Taking : goal.own_or-requires-in-Taking
own_or-requires-in-Taking c = λ has. let there = pairs_there _ c.args.g c.requires has in grind serving

pub returns-in-Putting : goal.returns-in-Putting
returns-in-Putting c =
    let take : has_windows c.args.g ≡ true → c.own_or.result ≡ nth_size c.args.words.now c.args.g 0 = λ has. let h = c.own_or.ensures.of_windows has in search rules in
    let next : has_windows c.args.g ≡ true → c.own_or-in-Putting.result ≡ next_size c.args.words.now c.args.g = λ has. let h = c.own_or-in-Putting.ensures.of_windows has in search rules in
    let live : has_windows c.args.g ≡ true → c.own_or-in-Putting-2.result ≡ live_of c.args.words.now c.args.g = λ has. let h = c.own_or-in-Putting-2.ensures.of_windows has in search rules in
    let takes = own_or_is c.args.g take c.own_or.ensures.of_pool in
    let comes = own_or_is c.args.g next c.own_or-in-Putting.ensures.of_pool in
    let lives = own_or_is c.args.g live c.own_or-in-Putting-2.ensures.of_pool in
    simp (c.in-Putting.is, c.no_sizes.ensures, takes, c.size_of.ensures, take_is, comes, c.size_of-in-Putting.ensures, next_is, lives, live_is)

pub returns-in-Taking : goal.returns-in-Taking
returns-in-Taking c =
    let after : has_windows c.args.g ≡ true → c.own_or-in-Taking.result ≡ nth_size c.args.words.now c.args.g 1 = λ has. let h = c.own_or-in-Taking.ensures.of_windows has in search rules in
    let comes = own_or_is c.args.g after c.own_or-in-Taking.ensures.of_pool in
    simp (c.in-Taking.is, c.no_sizes-in-Taking.ensures, comes, c.size_of-in-Taking.ensures, after_is)
