-- A depth is at most half of R where twice the depth is at most R.
use Rattle.std.proofs.Common.{◌≡◌, ℕ, ◌*◌, ◌/◌, Bool, true, false, leb, le-leb, leb-true, leb-false, refl, arith}
use Rattle.std.proofs.lemmas.Bool.{lt-leb}

pub half : (d r : ℕ) → leb d (r / 2) ≡ leb (2 * d) r
half d r = go (leb (2 * d) r) refl
  where
    go : (b : Bool) → leb (2 * d) r ≡ b → leb d (r / 2) ≡ b
    go true e = le-leb d (r / 2) (omega (arith, leb-true (2 * d) r e))
    go false e = lt-leb d (r / 2) (omega (arith, leb-false (2 * d) r e))
