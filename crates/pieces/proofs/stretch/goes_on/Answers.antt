-- `pieces::stretch::goes_on` meets its contract: a sum that saturates is above the length of every output. Assumes nothing.
use Rattle.std.proofs.Common.{◌≡◌, ℕ, ◌+◌, ◌-◌, ◌^◌, ◌<◌, Bool, true, false, not, leb, min, length, refl, arith}
use borrow.Author.Tests.{leb-true, leb-false, le-leb, lt-leb}
use Rattle.laws.specs.Choice.{cond}
use Rattle.pieces.specs.Stretch.{turn_bytes, goes_on}
use Rattle.pieces.proofs.stretch.goes_on.Goals as goal

fits_same : (sum used room : ℕ) (fits : Bool) → leb (used + turn_bytes) room ≡ fits → sum ≡ min (used + turn_bytes) (2 ^ 64 - 1) → room < 2 ^ 63 → leb sum room ≡ fits
fits_same sum used room true e s r = le-leb _ _ (omega (arith, leb-true _ _ e))
fits_same sum used room false e s r = lt-leb _ _ (omega (arith, leb-false _ _ e))

goes_so : (complete : Bool) (fits : Bool) → not complete ≡ true → fits ≡ cond complete false fits
unfolding cond
goes_so true fits e = cc
goes_so false fits e = refl

stays_so : (complete : Bool) (fits : Bool) → not complete ≡ false → not complete ≡ cond complete false fits
unfolding cond
stays_so true fits e = refl
stays_so false fits e = cc

pub returns-then-not-s : goal.returns-then-not-s
unfolding goes_on
returns-then-not-s c =
    let s = c.args.s in
    rw (fits_same c.saturating_add.result s.used (length c.args.out.now) (leb (s.used + turn_bytes) (length c.args.out.now)) refl c.saturating_add.ensures (omega arith))
    (goes_so s.complete _ c.if-not-s.true)

pub returns-else-not-s : goal.returns-else-not-s
unfolding goes_on
returns-else-not-s c = stays_so c.args.s.complete _ c.if-not-s.false
