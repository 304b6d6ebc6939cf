-- What a stack's worker that steps alone has left, in numbers, for either side. n is how many steps it makes at most before the one that
-- gives its final answer.
--
-- A pass that ends in a shift takes w + 2 steps, its window's and its shift's among them. `Near k` says of the pool that after at most k
-- shifts of its own the worker's pass ends otherwise; from that pass' window step on `base` steps are enough, and from a read that hits
-- on `hit` steps.
use mathlib.Core.Path.{◌≡◌}
use Prim.Native.Nat.{ℕ, zero, suc, ◌+◌, ◌-◌, ◌≤◌, ◌<◌}
use native.Mathlib.Nat.{le_refl}
use native.Mathlib.Omega.{arith}

-- before the final step, from a window step on, with k shifts to come
abbrev pub due : ℕ → ℕ → ℕ → ℕ
due w base zero = base
due w base (suc k) = w + 2 + due w base k

pub base_due : (w base k : ℕ) → base ≤ due w base k
base_due w base zero = le_refl _
base_due w base (suc k) = omega (arith, base_due w base k)

module _ (w base : ℕ) (Near : ℕ → Type 0) (n : ℕ) where
  pub record AtWindow : Type 0 where
    pub shifts : ℕ
    pub near : Near shifts
    pub left : due w base shifts ≤ n

  -- with `scan` subs of the pass read
  pub record AtRead (hit scan : ℕ) : Type 0 where
    pub shifts : ℕ
    pub near : Near shifts
    pub left : due w base shifts ≤ n + scan + 1
    pub able : hit ≤ n

  -- with `shifts` more to come after this one
  pub record AtShift : Type 0 where
    pub shifts : ℕ
    pub near : Near (suc shifts)
    pub left : due w base shifts < n

module _ {w base hit : ℕ} {Near : ℕ → Type 0} {n : ℕ} where
  pub window_left : hit < base → AtWindow w base Near n → hit < n
  window_left l a = omega (arith, a.left, base_due w base a.shifts)

  pub window_read : hit < base → AtWindow w base Near n → AtRead w base Near (n - 1) hit 0
  window_read l a =
      let many : hit < n = window_left l a in
      record { shifts = a.shifts; near = a.near; left = omega (arith, a.left); able = omega arith }

  module _ {scan : ℕ} (a : AtRead w base Near n hit scan) where
    -- a miss, not the last: a shift is to come
    pub read_again : hit < base → (Near 0 → ⊥) → suc scan < w → AtRead w base Near (n - 1) hit (suc scan)
    read_again l more m =
        let many : hit < n = enough a.shifts a.near a.left in
        record { shifts = a.shifts; near = a.near; left = omega (arith, a.left); able = omega arith }
      where
        enough : (k : ℕ) → Near k → due w base k ≤ n + scan + 1 → hit < n
        enough zero near left = absurd (more near)
        enough (suc k) near left = omega (arith, base_due w base k)

    -- the last miss: to shift
    pub read_shift : (Near 0 → ⊥) → suc scan ≡ w → AtShift w base Near (n - 1)
    read_shift more e = by a.shifts a.near a.left
      where
        by : (k : ℕ) → Near k → due w base k ≤ n + scan + 1 → AtShift w base Near (n - 1)
        by zero near left = absurd (more near)
        by (suc k) near left = record { shifts = k; near = near; left = omega arith }

module _ {w base : ℕ} {Near : ℕ → Type 0} {n : ℕ} (a : AtShift w base Near n) where
  -- the window moves, and the pool is nearer by one shift
  pub shift_window : {Near' : ℕ → Type 0} → ((k : ℕ) → Near (suc k) → Near' k) → AtWindow w base Near' (n - 1)
  shift_window nearer =
      record { shifts = a.shifts; near = nearer a.shifts a.near; left = omega (arith, a.left) }

  -- the window cannot move: to confirm
  pub shift_confirm : w ≤ suc base → w ≤ n
  shift_confirm l = omega (arith, a.left, base_due w base a.shifts)

  pub shift_left : 1 ≤ n
  shift_left = omega (arith, a.left)
