-- How many newer items a take passes over. Let lo = d + l * s at the take, of row r. Then l * s < r, and every other sub holds at
-- most lo + s items. A newer item in row n was put in a corridor of foot c * s: c * s < n, and r ≤ d + s + c * s. So
-- l * s < d + s + c * s, and with F = floor((d - 1) / s) the corridor rose by at most F + 1 shifts: l ≤ c + 1 + F. No newer item
-- lies in the rows up to (l - 1 - F) * s, and at most lo + s - (l - 1 - F) * s = d + 2s + F * s rows of each other sub are newer,
-- and none of its own. And lo + s is a window's height and at most R, so no sub holds more items than the highest window there is.
use mathlib.Core.Path.{◌≡◌, ap, ◌∙◌}
use mathlib.Core.Logic.{◌⊎◌, inl, inr}
use mathlib.Core.Bool.{Bool, false, ◌&&◌}
use Prim.Native.Nat.{ℕ, suc, ◌+◌, ◌-◌, ◌*◌, ◌≤◌, ◌<◌}
use native.Mathlib.Nat.{le_of_eq, eq-or-lt_of_le, le_refl}
use native.Mathlib.Decide.{dec_le}
use native.Mathlib.Omega.{arith}
use borrow.Author.Tests.{le-ltb}
use Rattle.laws.specs.Choice.{cond_false}
use Rattle.rules.specs.Held.{Item, passed_over}
use Rattle.rules.specs.Sequential.{Contents, bound_by, passed_by, reported_by}
use Rattle.rules.specs.Newer.{exact_rows}
use Rattle.rules.proofs.Types.{Settings, Size}
use Rattle.rules.proofs.Cells.{stack_below}
use Rattle.rules.proofs.counts.Sums.{sum_n, up_to_law, up_to_none, rows_more, rows_flat, sum_zero, sum_within_but, times_pred}
use Rattle.rules.proofs.counts.Wraps.{multiple_lt}
use Rattle.rules.proofs.machine.Machine.{State, below_in, count_in, distance_in}
use Rattle.rules.proofs.counts.Held.{real, fails_row, held_count}
use Rattle.rules.proofs.machine.Good.{Good}
use Rattle.rules.proofs.machine.Turns.{distance_held}
use Rattle.rules.proofs.stack.Inv.{Ghost, Pool}
use Rattle.rules.proofs.figures.Figures.{times, times_high, below_highest, bound_stack}

-- no row of a stack lies below those held
below_le : (g : Settings) → g.kind ≡ 1 → (s : State) (m : ℕ) → below_in g s m ≤ s.first m
below_le g kind s m = rw (stack_below g kind (s.second m)) (omega arith)

-- the machine's distance is that of the list
pub distance_is : (g : Settings) → g.kind ≡ 1 → {s : State} {q : Contents} {ghost : Ghost} → Pool g s q ghost → (stamp : ℕ)
    → distance_in g s stamp ≡ reported_by g q stamp
distance_is g kind {s} {q} o stamp = distance_held g s q stamp (λ m l. below_le g kind s m) o.holding.held

-- and so is what is passed over, sub by sub
pub passed_is : (g : Settings) → g.kind ≡ 1 → {s : State} {q : Contents} {ghost : Ghost} → Pool g s q ghost → (stamp : ℕ)
    → passed_by g q stamp ≡ sum_n (count_in g s (passed_over g.kind stamp)) g.width
passed_is g kind {s} o stamp = held_count o.holding.held (λ m l. below_le g kind s m) (passed_over g.kind stamp)

-- no row from 1 to c passes a test
no_row : (p : ℕ → Bool) (c : ℕ) → ((n : ℕ) → 1 ≤ n → n ≤ c → p n ≡ false) → up_to_law p c ≡ 0
no_row p c none = rows_flat p 0 c (omega arith) (λ n a b. none n a b) ∙ up_to_none p

-- the top row of a sub from which one item may be taken
module _ (g : Settings) (good : Good g) (kind : g.kind ≡ 1) {s : State} {q : Contents} {ghost : Ghost} (o : Pool g s q ghost)
    (j : ℕ) (lj : j < g.width) (fits : ghost.lo < s.first j + g.depth) where
  abbrev r : ℕ
  r = s.first j

  row_there : 1 ≤ r
  row_there = omega (arith, o.window.depth_lo)

  abbrev it : Item
  it = s.item j r

  -- row n of sub m is newer
  abbrev newer : ℕ → ℕ → Bool
  newer m n = real (s.item m n) && passed_over g.kind it.stamp (s.item m n)

  not_newer : (m n : ℕ) → (s.item m n).stamp ≤ it.stamp → newer m n ≡ false
  not_newer m n l = fails_row (passed_over g.kind it.stamp) (s.item m n) (rw kind (cond_false _ _ ∙ le-ltb _ _ l))

  -- the corridor's foot
  abbrev l : ℕ
  l = o.window.lo_shifts

  -- the rows up to this one are older, in every sub
  abbrev old : ℕ
  old = l * g.shift - (g.shift + g.shift * times g)

  -- a corridor with row n, and with row r under its top, rose by at most 1 + F shifts
  rose : (c n : ℕ) → c * g.shift < n → r ≤ g.depth + c * g.shift + g.shift → n ≤ old → ⊥
  rose c n a b m =
      let top : l * g.shift < r = omega (arith, o.window.lo_is) in
      let split : (c + suc (times g)) * g.shift ≡ c * g.shift + (g.shift + g.shift * times g) = omega arith in
      omega (
        arith,
        multiple_lt (c + suc (times g)) l g.shift (omega arith),
        times_high g good.bounds.shift1,
        good.bounds.depth1,
      )

  older : (m n : ℕ) → m < g.width → 1 ≤ n → n ≤ old → n ≤ s.first m → newer m n ≡ false
  older m n l a b c = not_newer m n (go (dec_le (s.item m n).stamp it.stamp))
    where
      go : Dec ((s.item m n).stamp ≤ it.stamp) → (s.item m n).stamp ≤ it.stamp
      go (yes y) = y
      go (no y) = let p = o.pairs.near j m r n lj l row_there (le_refl _) a c (omega arith) in absurd (rose p.0 n p.1 p.2 b)

  within : (m : ℕ) → m < g.width → up_to_law (newer m) (s.first m) ≤ exact_rows g
  within m l = go (dec_le (s.first m) old)
    where
      go : Dec (s.first m ≤ old) → up_to_law (newer m) (s.first m) ≤ exact_rows g
      go (yes y) = omega (arith, no_row (newer m) (s.first m) (λ n a b. older m n l a (omega arith) b))
      go (no y) =
          omega (
            arith,
            no_row (newer m) old (λ n a b. older m n l a b (omega arith)),
            (rows_more (newer m) old (s.first m) (omega arith)).1,
            (rows_more (newer m) 0 (s.first m) (omega arith)).1,
            up_to_none (newer m),
            o.corridor.high m l,
            o.window.lo_is,
            below_highest g (suc o.window.lo_shifts) good.bounds.shift1 (omega (arith, o.window.lo_is, o.window.lo_rows)),
          )

  none_own : up_to_law (newer j) r ≡ 0
  none_own = no_row (newer j) r (λ n a b. not_newer j n (at_most n a (eq-or-lt_of_le b)))
    where
      at_most : (n : ℕ) → 1 ≤ n → ((n ≡ r) ⊎ (n < r)) → (s.item j n).stamp ≤ it.stamp
      at_most n a (inl y) = le_of_eq (ap (λ (m : ℕ). (s.item j m).stamp) y)
      at_most n a (inr y) = omega (arith, o.stamps.rise j n r lj a y (le_refl _))

  -- whatever the size that a take is held to: a stack's bound does not go by it
  pub newer_few : (size : Size) → passed_by g q it.stamp ≤ bound_by g (exact_rows g) size
  newer_few size =
      rw (bound_stack g _ size kind) (omega (
        arith,
        passed_is g kind o it.stamp,
        times_pred g.width (exact_rows g) good.bounds.width1,
        sum_zero g.width,
        sum_within_but (count_in g s (passed_over g.kind it.stamp)) (λ m. 0) g.width (exact_rows g) j lj
            (λ m l. omega (arith, within m l)) (omega (arith, none_own)),
      ))
