-- The figures of specs/Newer from the closest to the highest: the exact one is the smaller of the thesis' and the highest window, and
-- with F = floor((d - 1) / s), s * F is at most d - 1, so the thesis' is at most K14's, which is below demand 3's.
use mathlib.Core.Path.{◌≡◌, refl, sym, ap, ◌∙◌}
use mathlib.Core.Bool.{Bool, true, false}
use Prim.Native.Nat.{ℕ, ◌+◌, ◌-◌, ◌*◌, ◌/◌, ◌≤◌, ◌<◌}
use native.Mathlib.Nat.{le_refl, mul-le-mul_left, mod-lt, div-add-mod'}
use native.Mathlib.Omega.{arith}
use lib.Dec.{eqb}
use borrow.Author.Tests.{eqb-true, eqb-false}
use Rattle.laws.specs.Choice.{cond, cases}
use Rattle.rules.specs.Sequential.{bound_by, least_by, least_full, demand3_rows}
use Rattle.rules.specs.Newer.{k14_rows, thesis_rows, highest_window, exact_rows}
use Rattle.rules.proofs.Types.{Settings, Size}
use Rattle.rules.proofs.counts.Wraps.{multiple_le}

-- how often s goes into d - 1: s * F ≤ d - 1 < s * F + s
abbrev pub times : Settings → ℕ
times g = (g.depth - 1) / g.shift

pub times_low : (g : Settings) → g.shift * times g ≤ g.depth - 1
times_low g = omega (arith, div-add-mod' (g.depth - 1) g.shift)

pub times_high : (g : Settings) → 1 ≤ g.shift → g.depth - 1 < g.shift * times g + g.shift
times_high g l = omega (arith, div-add-mod' (g.depth - 1) g.shift, mod-lt (g.depth - 1) l)

-- ---- the highest window: one of k shifts that R has room for is not above it, and R has room for it
pub below_highest : (g : Settings) (k : ℕ) → 1 ≤ g.shift → g.depth + k * g.shift ≤ g.rows → g.depth + k * g.shift ≤ highest_window g
below_highest g k l m =
    let q : ℕ = (g.rows - g.depth) / g.shift in
    let whole = div-add-mod' (g.rows - g.depth) g.shift in
    let rest = mod-lt (g.rows - g.depth) l in
    omega (arith, multiple_le k q g.shift (omega arith))

pub highest_rows : (g : Settings) → g.depth ≤ g.rows → highest_window g ≤ g.rows
highest_rows g l = omega (arith, div-add-mod' (g.rows - g.depth) g.shift)

-- ---- from closest to highest; a queue's is the same in all of them
cond_le : (b : Bool) (x y z : ℕ) → y ≤ z → cond b x y ≤ cond b x z
unfolding cond
cond_le true x y z l = le_refl _
cond_le false x y z l = l

pub bound_le : (g : Settings) (a b : ℕ) (size : Size) → a ≤ b → bound_by g a size ≤ bound_by g b size
bound_le g a b size l = cond_le (eqb g.kind 0) _ _ _ (mul-le-mul_left (g.width - 1) l)

pub exact_thesis : (g : Settings) → exact_rows g ≤ thesis_rows g
exact_thesis g = omega arith

pub thesis_k14 : (g : Settings) → 1 ≤ g.depth → thesis_rows g ≤ k14_rows g
thesis_k14 g l = omega (arith, times_low g)

pub k14_most : (g : Settings) → k14_rows g ≤ demand3_rows g
k14_most g = omega arith

pub exact_most : (g : Settings) → 1 ≤ g.depth → exact_rows g ≤ demand3_rows g
exact_most g l = omega (arith, exact_thesis g, thesis_k14 g l, k14_most g)

-- ---- of either kind
pub bound_stack : (g : Settings) (each : ℕ) (size : Size) → g.kind ≡ 1 → bound_by g each size ≡ (g.width - 1) * each
bound_stack g each size kind =
    cases (λ (n : ℕ). n ≡ (g.width - 1) * each) (eqb g.kind 0) _ _ (λ y. absurd (omega (arith, eqb-true g.kind 0 y))) (λ n. refl)

pub bound_queue : (g : Settings) (each : ℕ) (size : Size) → g.kind ≡ 0 → bound_by g each size ≡ (size.width - 1) * size.depth
bound_queue g each size kind =
    cases (λ (n : ℕ). n ≡ (size.width - 1) * size.depth) (eqb g.kind 0) _ _ (λ y. refl) (λ n. absurd (eqb-false _ _ n kind))

pub least_stack : (g : Settings) (places : ℕ) → g.kind ≡ 1 → least_by g places ≡ g.width * (g.rows - g.shift + 1)
least_stack g places kind =
    cases (λ (n : ℕ). n ≡ g.width * (g.rows - g.shift + 1)) (eqb g.kind 0) _ _ (λ y. absurd (omega (arith, eqb-true g.kind 0 y))) (λ n. refl)

pub least_queue : (g : Settings) (places : ℕ) → g.kind ≡ 0 → least_by g places ≡ places
least_queue g places kind = cases (λ (n : ℕ). n ≡ places) (eqb g.kind 0) _ _ (λ y. refl) (λ n. absurd (eqb-false _ _ n kind))

-- the fewest held at "full", with as many places after the take window as windows of the pool's size have
pub full_stack : (g : Settings) (places : ℕ) → g.kind ≡ 1 → least_by g places ≡ least_full g
unfolding least_full
full_stack g places kind = least_stack g places kind ∙ sym (least_stack g _ kind)

pub full_queue : (g : Settings) (places : ℕ) → places ≡ g.width * (g.rows - g.depth) → least_by g places ≡ least_full g
unfolding least_full
full_queue g places e = ap (least_by g) e
