-- `held::total::windows_held` meets its contract: the count so far is of the rows of the bands gone through, and the bottom so far is that of the next window.
use Rattle.std.proofs.Common.{◌≡◌, ℕ, ◌^◌, ◌≤◌, ◌<◌, List, true, sym, ap, ◌∙◌, arith, rules, get_or}
use Rattle.rules.specs.Fit.{FitPool}
use Rattle.rules.specs.Held.{Band, band_count, band_of, held_sub}
use Rattle.rules.specs.Layout.{top_at, first_of, second_of}
use Rattle.rules.specs.Limits.{most_live}
use Rattle.rules.specs.Windows.{has_windows, live_of, nth_size, bottom_of}
use Rattle.rules.specs.declared.Settings.{Settings}
use Rattle.rules.specs.declared.Size.{Size}
use Rattle.bands.specs.Together.{band_within}
use Rattle.bands.proofs.Bottoms.{bottom_after, top_small, pairs_there}
use Rattle.bands.proofs.Counts.{live_bands, band_read, live_few, rows_none, rows_more}
use Rattle.held.proofs.total.windows_held.Goals as goal

-- a live window's band as it is read has the rows of the definition's, at most R
band_rows : (ws : List ℕ) (g : Settings) → FitPool g ws → ((i : ℕ) → get_or ws i 0 < 2 ^ 32) → has_windows g ≡ true → (j k : ℕ) → j < g.width → k < live_of ws g
    → {first second bottom rows : ℕ} {size : Size} → first ≡ first_of ws j → second ≡ second_of ws j → bottom ≡ bottom_of ws g k → size ≡ nth_size ws g k
    → rows ≡ (band_within j first second bottom size).rows → (rows ≡ (band_of ws g j k).rows) × (rows ≤ g.rows)
band_rows ws g fit words has j k wide live a b d e h =
    let is = h ∙ ap (λ (x : Band). x.rows) (band_read ws g has j k a b d e) in
    (is, rw is (live_few ws g fit words has j k wide live))

pub live_of-k-end-requires-clause-most_live_in_bounds : goal.live_of-k-end-requires-clause-most_live_in_bounds
live_of-k-end-requires-clause-most_live_in_bounds c = pairs_there c.args.words.now c.args.g c.requires.fit_pool c.requires.windows

pub take_bottom-bottom-requires-clause-most_live_in_bounds : goal.take_bottom-bottom-requires-clause-most_live_in_bounds
take_bottom-bottom-requires-clause-most_live_in_bounds c =
    (pairs_there c.args.words.now c.args.g c.requires.fit_pool c.requires.windows, (c.requires.fit_pool.windows c.requires.windows).low)

pub loop-k-init : goal.loop-k-init
loop-k-init c = record { bottom = c.take_bottom-bottom.ensures; few = search rules; counted = sym (rows_none c.args.words.now c.args.g c.args.j) }

pub nth_size-size-requires-clause-most_live_in_bounds : goal.nth_size-size-requires-clause-most_live_in_bounds
nth_size-size-requires-clause-most_live_in_bounds c =
    let few : c.loop-k.k < most_live = omega (arith, c.loop-k-test.true, c.live_of-k-end.ensures, (c.requires.fit_pool.windows c.requires.windows).live16) in
    (pairs_there c.args.words.now c.args.g c.requires.fit_pool c.requires.windows, few)

pub window_band-n-requires : goal.window_band-n-requires
window_band-n-requires c =
    let live : c.loop-k.k < live_of c.args.words.now c.args.g = omega (arith, c.loop-k-test.true, c.live_of-k-end.ensures) in
    top_small c.args.words.now c.args.g c.requires.fit_pool c.requires.windows (c.type_inv.words top_at).fits c.loop-k.k live c.loop-k.invariant.bottom c.nth_size-size.ensures

pub overflow_add-n : goal.overflow_add-n
overflow_add-n c =
    let live : c.loop-k.k < live_of c.args.words.now c.args.g = omega (arith, c.loop-k-test.true, c.live_of-k-end.ensures) in
    let read = band_rows c.args.words.now c.args.g c.requires.fit_pool (λ i. (c.type_inv.words i).fits) c.requires.windows c.args.j c.loop-k.k c.requires.sub_in live c.sub_of-sub.ensures.0 c.sub_of-sub.ensures.1 c.loop-k.invariant.bottom c.nth_size-size.ensures c.window_band-n.ensures.1 in
    omega (arith, c.loop-k.invariant.few, read.1, c.requires.fit_pool.bounds.rows1024, live, (c.requires.fit_pool.windows c.requires.windows).live16)

pub overflow_add-bottom : goal.overflow_add-bottom
overflow_add-bottom c =
    let live : c.loop-k.k < live_of c.args.words.now c.args.g = omega (arith, c.loop-k-test.true, c.live_of-k-end.ensures) in
    record { fits = top_small c.args.words.now c.args.g c.requires.fit_pool c.requires.windows (c.type_inv.words top_at).fits c.loop-k.k live c.loop-k.invariant.bottom c.nth_size-size.ensures }

pub loop-k-preserved : goal.loop-k-preserved
loop-k-preserved c =
    let live : c.loop-k.k < live_of c.args.words.now c.args.g = omega (arith, c.loop-k-test.true, c.live_of-k-end.ensures) in
    let read = band_rows c.args.words.now c.args.g c.requires.fit_pool (λ i. (c.type_inv.words i).fits) c.requires.windows c.args.j c.loop-k.k c.requires.sub_in live c.sub_of-sub.ensures.0 c.sub_of-sub.ensures.1 c.loop-k.invariant.bottom c.nth_size-size.ensures c.window_band-n.ensures.1 in
    let l = c.loop-k in
    let a = c.args in
    record {
      bottom = omega (arith, l.invariant.bottom, ap (λ (x : Size). x.depth) c.nth_size-size.ensures, bottom_after a.words.now a.g l.k);
      few = omega (arith, l.invariant.few, read.1, c.requires.fit_pool.bounds.rows1024);
      counted = omega (arith, l.invariant.counted, read.0, rows_more a.words.now a.g a.j l.k);
    }

pub returns : goal.returns
unfolding held_sub
returns c =
    let l = c.loop-k in
    let all : l.k ≡ band_count c.args.words.now c.args.g = omega (arith, c.live_of-k-end.ensures, live_bands c.args.words.now c.args.g c.requires.windows) in
    (rw all at l.invariant.counted, omega (arith, l.invariant.few, c.live_of-k-end.ensures, (c.requires.fit_pool.windows c.requires.windows).live16))
