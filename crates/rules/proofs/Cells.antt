-- The cells of a sub are among the pool's; counts over items; and the rows that a sub holds, by kind.
use Prim.Native.Nat.{ℕ, suc, ◌+◌, ◌*◌, ◌-◌, ◌%◌, ◌≤◌, ◌<◌}
use mathlib.Core.Path.{◌≡◌, refl}
use mathlib.Core.List.{List, [], ◌∷◌, ◌++◌}
use mathlib.Core.Bool.{Bool, true, false}
use native.Mathlib.Nat.{mod-lt, mul-le-mul_right, suc-mul}
use native.Mathlib.Decide.{ℕ_discrete}
use native.Mathlib.Omega.{arith}
use lib.Dec.{eqb}
use borrow.Author.Tests.{eqb-true, eqb-false}
use Rattle.laws.specs.Choice.{cond, cases, cond_true, cond_false, both_one}
use Rattle.rules.specs.Limits.{windowed, Bounds}
use Rattle.rules.specs.Windows.{has_windows, higher, lower, level_of}
use Rattle.rules.specs.Fit.{SubFits}
use Rattle.rules.specs.Held.{Item, rows_below, sub_band, count_items}
use Rattle.rules.specs.declared.Settings.{Settings}

-- ---- cells
pub rows_pos : (g : Settings) → Bounds g → 1 ≤ g.rows
rows_pos g b = omega (arith, b.rows2, b.depth1)

pub sub_cells_le : (g : Settings) (j : ℕ) → j < g.width → j * g.rows + g.rows ≤ g.width * g.rows
sub_cells_le g j h = omega (arith, mul-le-mul_right {m = suc j} {n = g.width} g.rows h, suc-mul j g.rows)

pub cell_lt : (g : Settings) (j x : ℕ) → Bounds g → j < g.width → j * g.rows + x % g.rows < g.width * g.rows
cell_lt g j x b h = omega (arith, mod-lt x {m = g.rows} (rows_pos g b), sub_cells_le g j h)

-- ---- counts
pub count_append : (p : Item → Bool) (xs ys : List Item) → count_items p (xs ++ ys) ≡ count_items p xs + count_items p ys
unfolding count_items
count_append p [] ys = omega arith
count_append p (x ∷ xs) ys = omega (arith, count_append p xs ys)

-- ---- the held rows of a sub
-- the rows below the held ones are at most the rows put
pub held_order : (g : Settings) (bottom first second : ℕ) → SubFits g bottom first second → rows_below g second ≤ first
held_order g bottom first second f =
    cases (λ (n : ℕ). n ≤ first) (eqb g.kind 0) second 0 (λ e. f.queue_order (eqb-true _ _ e)) (λ e. omega arith)

-- where a queue's windows have no sizes of their own, a sub holds what lies between, and that is at most R
pub band_fits : (g : Settings) (bottom first second : ℕ) → has_windows g ≡ false → SubFits g bottom first second → (sub_band g first second).rows ≤ g.rows
unfolding cond level_of
band_fits g bottom first second old f = go (eqb g.kind 0) refl
  where
    go : (b : Bool) → eqb g.kind 0 ≡ b → first - cond b second 0 ≤ g.rows
    go true e =
        let queue = eqb-true g.kind 0 e in
        let plain : windowed g ≡ false = rw (e, both_one (windowed g)) at old in
        elim (ℕ_discrete first second) [
          | yes y ↦ omega arith
          | no n ↦ let most : first ≤ second + g.rows = rw plain at (f.queue_rows queue n) in omega arith
        ]
    go false e = let k = eqb-false g.kind 0 e in omega (arith, f.stack_rows (omega arith))

-- ---- the rows between two
pub higher_left : (a b : ℕ) → a ≤ higher a b
higher_left a b = omega arith

pub higher_right : (a b : ℕ) → b ≤ higher a b
higher_right a b = omega arith

pub higher_above : (a b : ℕ) → b ≤ a → higher a b ≡ a
higher_above a b l = omega arith

pub higher_below : (a b : ℕ) → a ≤ b → higher a b ≡ b
higher_below a b l = omega arith

-- a level is not below the last row
pub level_ge : (g : Settings) (last bottom : ℕ) → last ≤ level_of g last bottom
unfolding level_of
level_ge g last bottom = cases (λ (n : ℕ). last ≤ n) (windowed g) (higher last bottom) last (λ e. higher_left last bottom) (λ e. omega arith)

pub lower_left : (a b : ℕ) → lower a b ≤ a
lower_left a b = omega arith

pub lower_right : (a b : ℕ) → lower a b ≤ b
lower_right a b = omega arith

-- ---- by kind
pub queue_below : (g : Settings) → g.kind ≡ 0 → (x : ℕ) → rows_below g x ≡ x
queue_below g k x = rw k (cond_true x 0)

pub stack_below : (g : Settings) → g.kind ≡ 1 → (x : ℕ) → rows_below g x ≡ 0
stack_below g k x = rw k (cond_false x 0)
