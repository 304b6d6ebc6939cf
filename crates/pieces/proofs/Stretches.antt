-- A stretch, turn by turn: one that goes on is the rest of it after its next turn, and one that doesn't is as it stands.
use Prim.Native.Nat.{ℕ, zero, suc, ◌+◌, ◌-◌, ◌<◌, ◌≤◌}
use mathlib.Core.Bool.{Bool, true, false, false≢true}
use mathlib.Core.List.{List}
use mathlib.Core.Path.{◌≡◌, refl, ap}
use native.Mathlib.Omega.{arith}
use borrow.Author.Tests.{leb-true, le-leb}
use lib.Dec.{leb}
use lib.ListN.{length}
use Rattle.laws.specs.Choice.{cond, cases}
use Rattle.pieces.specs.Stretch.{Stretched, stretch_turn, turn_bytes, goes_on, stretch_from}
use Rattle.printing.specs.declared.printed.Mode.{Mode}
use Rattle.pieces.specs.declared.stretch.Stretch.{Stretch}

-- one that goes on has room for a turn
pub goes_room : (s : Stretch) (room : ℕ) → goes_on s room ≡ true → s.used + turn_bytes ≤ room
unfolding goes_on cond
goes_room s room = go s.complete
  where
    go : (b : Bool) → cond b false (leb (s.used + turn_bytes) room) ≡ true → s.used + turn_bytes ≤ room
    go true e = absurd (false≢true e)
    go false e = leb-true _ _ e

pub goes_incomplete : (s : Stretch) (room : ℕ) → goes_on s room ≡ true → s.complete ≡ false
unfolding goes_on cond
goes_incomplete s room = go s.complete
  where
    go : (b : Bool) → cond b false (leb (s.used + turn_bytes) room) ≡ true → b ≡ false
    go true e = absurd (false≢true e)
    go false e = refl

pub stretch_on : (m : Mode) (turns : ℕ) (src : List ℕ) (s next : Stretched) → s.stretch.at < turns → goes_on s.stretch (length s.out) ≡ true → next ≡ stretch_turn m src s
    → stretch_from m (turns - next.stretch.at) src next ≡ stretch_from m (turns - s.stretch.at) src s
unfolding stretch_turn stretch_from cond
stretch_on m turns src s next more goes e =
    let at : next.stretch.at ≡ s.stretch.at + 1 = ap (λ (x : Stretched). x.stretch.at) e in
    let left : turns - s.stretch.at ≡ suc (turns - next.stretch.at) = omega arith in
    rw (left, goes) (ap (stretch_from m (turns - next.stretch.at) src) e)

pub stretch_off : (m : Mode) (n : ℕ) (src : List ℕ) (s : Stretched) → goes_on s.stretch (length s.out) ≡ false → stretch_from m n src s ≡ s
unfolding stretch_from cond
stretch_off m zero src s e = refl
stretch_off m (suc n) src s e = rw e

-- ---- how far a stretch comes
-- not past its turns
pub stretch_most : (m : Mode) (n : ℕ) (src : List ℕ) (s : Stretched) → (stretch_from m n src s).stretch.at ≤ s.stretch.at + n
unfolding stretch_from stretch_turn
stretch_most m zero src s = omega arith
stretch_most m (suc n) src s =
    cases (λ (r : Stretched). r.stretch.at ≤ s.stretch.at + suc n) (goes_on s.stretch (length s.out)) _ _
    (λ _. omega (arith, stretch_most m n src (stretch_turn m src s))) (λ _. omega arith)

stretch_least : (m : Mode) (n : ℕ) (src : List ℕ) (s : Stretched) → s.stretch.at ≤ (stretch_from m n src s).stretch.at
unfolding stretch_from stretch_turn
stretch_least m zero src s = omega arith
stretch_least m (suc n) src s =
    cases (λ (r : Stretched). s.stretch.at ≤ r.stretch.at) (goes_on s.stretch (length s.out)) _ _
    (λ _. omega (arith, stretch_least m n src (stretch_turn m src s))) (λ _. omega arith)

-- and one that goes on comes further
pub stretch_more : (m : Mode) (n : ℕ) (src : List ℕ) (s : Stretched) → 0 < n → goes_on s.stretch (length s.out) ≡ true → s.stretch.at < (stretch_from m n src s).stretch.at
unfolding stretch_from stretch_turn cond
stretch_more m zero src s more goes = absurd (omega arith)
stretch_more m (suc n) src s more goes = rw goes (omega (arith, stretch_least m n src (stretch_turn m src s)))

-- one with room goes on unless it is complete
pub room_goes : (s : Stretch) (room : ℕ) → s.complete ≡ false → s.used + turn_bytes ≤ room → goes_on s room ≡ true
unfolding goes_on cond
room_goes s room e h = rw e (le-leb _ _ h)
