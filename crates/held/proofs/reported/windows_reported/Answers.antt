-- `held::reported::windows_reported` meets its contract: the count so far is over the windows gone through, and the bottom so far is that of the next. Those that join have one
-- band; one that the sub does not lie in has none, and from the last put row on there is nothing.
use Rattle.std.proofs.Common.{◌≡◌, ◌≤◌, ◌<◌, sym, ap, ◌∙◌, arith}
use Rattle.rules.specs.Held.{count_items, reported}
use Rattle.rules.specs.Layout.{top_at, first_of}
use Rattle.rules.specs.Limits.{most_live}
use Rattle.rules.specs.Windows.{live_of}
use Rattle.rules.specs.declared.Size.{Size}
use Rattle.bands.proofs.Bottoms.{bottom_after, top_small, pairs_there}
use Rattle.bands.proofs.Counts.{joined_read, live_counted, none_counted, rest_counted}
use Rattle.bands.proofs.JoinedBands.{lowest_in, outside_none}
use Rattle.bands.proofs.Rows.{band_within_ring}
use Rattle.bands.proofs.Whole.{lowest_is}
use Rattle.held.proofs.reported.windows_reported.Goals as goal

pub returns-then-sub-max : goal.returns-then-sub-max
returns-then-sub-max c =
    let a = c.args in
    let sub = c.sub_of-sub.ensures in
    let p = reported a.g.kind a.s.0 in
    let low = lowest_is a.words.now a.g a.r c.requires.together c.requires.windows in
    let none : first_of a.words.now a.j ≤ lowest_in a.words.now a.g a.j 0 = omega (arith, c.if-sub-max.true, c.max.ensures, sub.0, sub.1, low) in
    (sym (rest_counted c.args.words.now c.args.g c.requires.fit_pool (λ i. (c.type_inv.words i).fits) c.requires.windows c.args.j c.requires.sub_in p 0 (omega arith) none ∙ none_counted c.args.words.now c.args.g c.requires.fit_pool (λ i. (c.type_inv.words i).fits) c.requires.windows c.args.j c.requires.sub_in p), omega arith)

pub live_of-live-requires-clause-most_live_in_bounds : goal.live_of-live-requires-clause-most_live_in_bounds
live_of-live-requires-clause-most_live_in_bounds c = pairs_there c.args.words.now c.args.g c.requires.fit_pool c.requires.windows

pub loop-k-init : goal.loop-k-init
loop-k-init c = record {
  within = omega arith;
  bottom = lowest_is c.args.words.now c.args.g c.args.r c.requires.together c.requires.windows;
  few = omega arith;
  counted = sym (none_counted c.args.words.now c.args.g c.requires.fit_pool (λ i. (c.type_inv.words i).fits) c.requires.windows c.args.j c.requires.sub_in (reported c.args.g.kind c.args.s.0));
}

pub band_segments-held-requires-clause-few_rows : goal.band_segments-held-requires-clause-few_rows
band_segments-held-requires-clause-few_rows c =
    let read = joined_read c.args.words.now c.args.g c.requires.fit_pool (λ i. (c.type_inv.words i).fits) c.requires.windows c.args.r c.requires.together c.args.j c.requires.sub_in c.joined_from-on.ensures c.sub_of-sub.ensures.0 c.sub_of-sub.ensures.1 c.loop-k.invariant.bottom c.max-in-loop-k.ensures c.min.ensures c.between-band.ensures in
    read.few

pub band_segments-held-requires-clause-tells_cell : goal.band_segments-held-requires-clause-tells_cell
band_segments-held-requires-clause-tells_cell c =
    let read = joined_read c.args.words.now c.args.g c.requires.fit_pool (λ i. (c.type_inv.words i).fits) c.requires.windows c.args.r c.requires.together c.args.j c.requires.sub_in c.joined_from-on.ensures c.sub_of-sub.ensures.0 c.sub_of-sub.ensures.1 c.loop-k.invariant.bottom c.max-in-loop-k.ensures c.min.ensures c.between-band.ensures in
    read.tells

pub segments_reported-n-requires-clause-within : goal.segments_reported-n-requires-clause-within
segments_reported-n-requires-clause-within c =
    let read = joined_read c.args.words.now c.args.g c.requires.fit_pool (λ i. (c.type_inv.words i).fits) c.requires.windows c.args.r c.requires.together c.args.j c.requires.sub_in c.joined_from-on.ensures c.sub_of-sub.ensures.0 c.sub_of-sub.ensures.1 c.loop-k.invariant.bottom c.max-in-loop-k.ensures c.min.ensures c.between-band.ensures in
    band_within_ring c.args.g c.requires.fit_pool.bounds _ _ read.few c.band_segments-held.ensures

pub returns-then-sub-on : goal.returns-then-sub-on
returns-then-sub-on c =
    let read = joined_read c.args.words.now c.args.g c.requires.fit_pool (λ i. (c.type_inv.words i).fits) c.requires.windows c.args.r c.requires.together c.args.j c.requires.sub_in c.joined_from-on.ensures c.sub_of-sub.ensures.0 c.sub_of-sub.ensures.1 c.loop-k.invariant.bottom c.max-in-loop-k.ensures c.min.ensures c.between-band.ensures in
    let l = c.loop-k in
    let on = c.joined_from-on in
    let none : first_of c.args.words.now c.args.j ≤ lowest_in c.args.words.now c.args.g c.args.j on.result.end = omega (arith, c.if-sub-on.true, c.sub_of-sub.ensures.0, on.ensures.up_to) in
    let p = reported c.args.g.kind c.args.s.0 in (
      read.counted c.args.s.0 l.invariant.counted c.band_segments-held.ensures c.segments_reported-n.ensures.0
          ∙ sym (rest_counted c.args.words.now c.args.g c.requires.fit_pool (λ i. (c.type_inv.words i).fits) c.requires.windows c.args.j c.requires.sub_in p on.result.end on.ensures.last none),
      omega (arith, l.invariant.few, c.segments_reported-n.ensures.1, c.loop-k-test.true, c.live_of-live.ensures, (c.requires.fit_pool.windows c.requires.windows).live16),
    )

pub nth_size-bottom-requires-clause-most_live_in_bounds : goal.nth_size-bottom-requires-clause-most_live_in_bounds
nth_size-bottom-requires-clause-most_live_in_bounds c =
    let few : c.joined_from-on.result.end < most_live = omega (arith, c.if-k-live.true, c.live_of-live.ensures, (c.requires.fit_pool.windows c.requires.windows).live16) in
    (pairs_there c.args.words.now c.args.g c.requires.fit_pool c.requires.windows, few)

pub overflow_add-bottom : goal.overflow_add-bottom
overflow_add-bottom c =
    let on = c.joined_from-on in
    let live : on.result.end < live_of c.args.words.now c.args.g = omega (arith, c.if-k-live.true, c.live_of-live.ensures) in
    record { fits = top_small c.args.words.now c.args.g c.requires.fit_pool c.requires.windows (c.type_inv.words top_at).fits on.result.end live on.ensures.up_to c.nth_size-bottom.ensures }

pub loop-k-preserved-then-k-live : goal.loop-k-preserved-then-k-live
loop-k-preserved-then-k-live c =
    let read = joined_read c.args.words.now c.args.g c.requires.fit_pool (λ i. (c.type_inv.words i).fits) c.requires.windows c.args.r c.requires.together c.args.j c.requires.sub_in c.joined_from-on.ensures c.sub_of-sub.ensures.0 c.sub_of-sub.ensures.1 c.loop-k.invariant.bottom c.max-in-loop-k.ensures c.min.ensures c.between-band.ensures in
    let l = c.loop-k in
    let on = c.joined_from-on in
    let live : on.result.end < live_of c.args.words.now c.args.g = omega (arith, c.if-k-live.true, c.live_of-live.ensures) in
    let outside = outside_none c.args.words.now c.args.g c.args.j c.requires.windows on.result.end (on.ensures.outside live) in
    record {
      within = omega (arith, c.if-k-live.true);
      bottom = omega (arith, on.ensures.up_to, ap (λ (x : Size). x.depth) c.nth_size-bottom.ensures, bottom_after c.args.words.now c.args.g on.result.end);
      few = omega (arith, l.invariant.few, c.segments_reported-n.ensures.1, on.ensures.on);
      counted = read.counted c.args.s.0 l.invariant.counted c.band_segments-held.ensures c.segments_reported-n.ensures.0
          ∙ sym (ap (count_items (reported c.args.g.kind c.args.s.0)) outside);
    }

pub loop-k-preserved : goal.loop-k-preserved
loop-k-preserved c =
    let read = joined_read c.args.words.now c.args.g c.requires.fit_pool (λ i. (c.type_inv.words i).fits) c.requires.windows c.args.r c.requires.together c.args.j c.requires.sub_in c.joined_from-on.ensures c.sub_of-sub.ensures.0 c.sub_of-sub.ensures.1 c.loop-k.invariant.bottom c.max-in-loop-k.ensures c.min.ensures c.between-band.ensures in
    let l = c.loop-k in
    let on = c.joined_from-on in
    record {
      within = omega (arith, on.ensures.last, c.live_of-live.ensures);
      bottom = on.ensures.up_to;
      few = omega (arith, l.invariant.few, c.segments_reported-n.ensures.1, c.if-k-live.false, c.loop-k-test.true);
      counted = read.counted c.args.s.0 l.invariant.counted c.band_segments-held.ensures c.segments_reported-n.ensures.0;
    }

pub returns : goal.returns
returns c =
    let l = c.loop-k in
    let all : l.k ≡ live_of c.args.words.now c.args.g = omega (arith, c.loop-k-test.false, l.invariant.within, c.live_of-live.ensures) in (
      (rw all at l.invariant.counted) ∙ sym (live_counted c.args.words.now c.args.g c.requires.fit_pool (λ i. (c.type_inv.words i).fits) c.requires.windows c.args.j c.requires.sub_in (reported c.args.g.kind c.args.s.0)),
      omega (arith, l.invariant.few, all, (c.requires.fit_pool.windows c.requires.windows).live16),
    )
