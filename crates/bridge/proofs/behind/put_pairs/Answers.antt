-- `bridge::behind::put_pairs` meets its contract: the loop's invariant is that the first k live windows have the pool's size.
use Rattle.std.proofs.Common.{◌≡◌, ℕ, ◌+◌, ◌*◌, List, refl, ◌∙◌, add-one, arith}
use Rattle.std.proofs.Math.ListN.{set}
use Rattle.rules.specs.Layout.{pairs_at, pair_words}
use Rattle.turnaround.specs.Move.{own_pairs}
use Rattle.rules.specs.declared.Settings.{Settings}
use Rattle.bridge.proofs.behind.put_pairs.Goals as goal

-- one pair more
more : (ws : List ℕ) (h : Settings) (k at : ℕ) → at ≡ pairs_at h → set (set (own_pairs ws h k) (at + pair_words * k) h.width) (at + pair_words * k + 1) h.depth ≡ own_pairs ws h (k + 1)
unfolding own_pairs
more ws h k at e = rw (e, add-one k, add-one (pairs_at h + pair_words * k)) refl

pub loop-k-init : goal.loop-k-init
unfolding own_pairs
loop-k-init c = record { place = omega (arith, c.windows_at-at.ensures); put = refl }

pub loop-k-preserved : goal.loop-k-preserved
loop-k-preserved c =
    let l = c.loop-k in
    let a = c.args in
    record { place = l.invariant.place; put = c.put_pair.ensures ∙ (rw l.invariant.put (more a.to.now a.h l.k _ l.invariant.place)) }
