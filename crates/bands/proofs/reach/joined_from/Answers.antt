-- `bands::reach::joined_from` meets its contract: the sub lies in each window gone through, and the top so far is the bottom of the next.
use Rattle.std.proofs.Common.{◌+◌, ◌^◌, ◌<◌, ap, arith}
use Rattle.rules.specs.Layout.{top_at}
use Rattle.rules.specs.Limits.{most_live}
use Rattle.rules.specs.declared.Size.{Size}
use Rattle.bands.proofs.Bottoms.{bottom_after, top_small, pairs_there}
use Rattle.std.proofs.Math.Decide.{ℕ_discrete}
use Rattle.bands.proofs.reach.joined_from.Goals as goal

pub nth_size-size-requires-clause-most_live_in_bounds : goal.nth_size-size-requires-clause-most_live_in_bounds
nth_size-size-requires-clause-most_live_in_bounds c =
    let few : c.loop-k.k < most_live = omega (arith, c.requires.all_live, (c.requires.fit_pool.windows c.requires.windows).live16) in
    (pairs_there c.args.words.now c.args.g c.requires.fit_pool c.requires.windows, few)

pub overflow_add-top : goal.overflow_add-top
overflow_add-top c =
    let l = c.loop-k in
    let window_top : l.top + c.nth_size-size.result.depth < 2 ^ 32 =
    top_small c.args.words.now c.args.g c.requires.fit_pool c.requires.windows (c.type_inv.words top_at).fits l.k (omega (arith, c.requires.all_live)) l.invariant.top c.nth_size-size.ensures in
    record { fits = window_top }

pub loop-k-preserved : goal.loop-k-preserved
loop-k-preserved c =
    let l = c.loop-k in
    let a = c.args in
    let size = c.nth_size-size.ensures in
    record {
      top = omega (arith, l.invariant.top, ap (λ (x : Size). x.depth) size, bottom_after a.words.now a.g l.k);
      inside = λ i on h. elim (ℕ_discrete i l.k) [
        | yes y ↦ rw y (omega (arith, ap (λ (x : Size). x.width) size, c.if-size-j.false))
        | no n ↦ l.invariant.inside i on (omega arith)
      ];
    }
