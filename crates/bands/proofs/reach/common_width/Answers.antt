-- `bands::reach::common_width` meets its contract: the sum so far is that of the widths of the pairs gone through; where it is that of so many windows of the pool's width, each has it.
use Rattle.std.proofs.Common.{◌≡◌, ℕ, ◌*◌, ◌≤◌, sym, ap, ◌∙◌, arith, rules}
use Rattle.rules.specs.Limits.{most_live}
use Rattle.rules.specs.declared.Size.{Size}
use Rattle.bands.proofs.Bottoms.{pairs_there}
use Rattle.bands.proofs.Widths.{widths_none, widths_more, pair_width, same_width}
use Rattle.bands.proofs.reach.common_width.Goals as goal

pub loop-k-init : goal.loop-k-init
loop-k-init c = record { small = search rules; widths = sym (widths_none _ _) }

pub nth_size-sum-requires-clause-most_live_in_bounds : goal.nth_size-sum-requires-clause-most_live_in_bounds
nth_size-sum-requires-clause-most_live_in_bounds c = (pairs_there c.args.words.now c.args.g c.requires.fit_pool c.requires.windows, c.loop-k-test.true)

pub loop-k-preserved : goal.loop-k-preserved
loop-k-preserved c =
    let l = c.loop-k in
    let a = c.args in
    let width = ap (λ (x : Size). x.width) c.nth_size-sum.ensures in
    let few : c.nth_size-sum.result.width ≤ 16 =
    omega (arith, width, pair_width a.words.now a.g c.requires.fit_pool c.requires.windows l.k c.loop-k-test.true, c.requires.fit_pool.bounds.width16) in
    record {
      small = omega (arith, l.invariant.small, few);
      widths = omega (arith, l.invariant.widths, width, widths_more a.words.now a.g l.k);
    }

pub live_of-requires-clause-most_live_in_bounds : goal.live_of-requires-clause-most_live_in_bounds
live_of-requires-clause-most_live_in_bounds c = pairs_there c.args.words.now c.args.g c.requires.fit_pool c.requires.windows

pub returns-then-sum-live_of : goal.returns-then-sum-live_of
returns-then-sum-live_of c =
    let l = c.loop-k in
    let all : l.k ≡ most_live = omega arith in
    let sum = rw all at l.invariant.widths in
    let live = ap (λ (n : ℕ). n * c.args.g.width) c.live_of.ensures in
    (omega arith, same_width c.args.words.now c.args.g c.requires.fit_pool c.requires.windows (sym sum ∙ c.if-sum-live_of.true ∙ live))
