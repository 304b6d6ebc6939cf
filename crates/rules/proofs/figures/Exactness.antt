-- Which figure is the exact one. The thesis' rows are a window's height, d + (2 + F) * s with F = floor((d - 1) / s): so R has room for
-- them just where they are not above the highest window, and then they are the smaller of the two. K14's rows are the thesis' just where
-- s divides d - 1. The framework paper's are a window's height as well, two shifts above d; a third one is the thesis' where s < d.
use mathlib.Core.Path.{◌≡◌, ap}
use Prim.Native.Nat.{ℕ, ◌+◌, ◌-◌, ◌*◌, ◌/◌, ◌%◌, ◌≤◌, ◌<◌}
use native.Mathlib.Nat.{mul-le-mul_left, div-add-mod'}
use native.Mathlib.Decide.{dec_le}
use native.Mathlib.Omega.{arith}
use Rattle.rules.specs.Limits.{Bounds}
use Rattle.rules.specs.Windows.{size_of}
use Rattle.rules.specs.Sequential.{bound_by}
use Rattle.rules.specs.Newer.{k14_rows, framework_rows, thesis_rows, highest_window, exact_rows, k14_bound, framework_bound, thesis_bound, exact_bound, ThesisExact, K14Exact, FrameworkLow}
use Rattle.rules.proofs.Types.{Settings}
use Rattle.rules.proofs.Fitness.{settings_bounds}
use Rattle.rules.proofs.counts.Wraps.{multiple_lt}
use Rattle.rules.proofs.figures.Figures.{times, times_low, times_high, below_highest, highest_rows, bound_le, bound_stack}

-- with another sub, fewer rows make a lower figure, and a figure that is not higher has no more rows
module _ (g : Settings) (kind : g.kind ≡ 1) (w : 2 ≤ g.width) where
  fewer_lt : (a b : ℕ) → a < b → bound_by g a (size_of g) < bound_by g b (size_of g)
  fewer_lt a b l =
      let more : a + 1 ≤ b = omega arith in
      omega (arith, bound_stack g a (size_of g) kind, bound_stack g b (size_of g) kind, mul-le-mul_left (g.width - 1) more)

  rows_le : (a b : ℕ) → bound_by g a (size_of g) ≤ bound_by g b (size_of g) → a ≤ b
  rows_le a b l = go (dec_le a b)
    where
      go : Dec (a ≤ b) → a ≤ b
      go (yes y) = y
      go (no n) = absurd (omega (arith, fewer_lt b a (omega arith)))

  rows_lt : (a b : ℕ) → bound_by g a (size_of g) < bound_by g b (size_of g) → a < b
  rows_lt a b l = go (dec_le b a)
    where
      go : Dec (b ≤ a) → a < b
      go (yes y) = absurd (omega (arith, bound_le g b a (size_of g) y))
      go (no n) = omega arith

-- ---- which figure is the exact one
module _ (g : Settings) (bounds : Bounds g) where
  -- R has room for the thesis' rows just where the highest window is not below them
  room_highest : thesis_rows g ≤ g.rows → thesis_rows g ≤ highest_window g
  room_highest room =
      let height : thesis_rows g ≡ g.depth + (2 + times g) * g.shift = omega arith in
      omega (arith, below_highest g (2 + times g) bounds.shift1 (omega arith))

  highest_room : thesis_rows g ≤ exact_rows g → thesis_rows g ≤ g.rows
  highest_room l = omega (arith, highest_rows g (omega (arith, bounds.rows2)))

  -- s divides d - 1 just where K14's rows are the thesis'
  divides_rows : (g.depth - 1) % g.shift ≡ 0 → thesis_rows g ≡ k14_rows g
  divides_rows none = omega (arith, div-add-mod' (g.depth - 1) g.shift, bounds.depth1)

  rows_divide : k14_rows g ≤ thesis_rows g → (g.depth - 1) % g.shift ≡ 0
  rows_divide l = omega (arith, div-add-mod' (g.depth - 1) g.shift, bounds.depth1)

  -- three shifts fit under the thesis' rows where the shift is below the depth, and two alone where it is not
  three_thesis : g.shift < g.depth → g.depth + 3 * g.shift ≤ thesis_rows g
  three_thesis l = go (dec_le 1 (times g))
    where
      go : Dec (1 ≤ times g) → g.depth + 3 * g.shift ≤ thesis_rows g
      go (yes y) = omega (arith, mul-le-mul_left g.shift y)
      go (no n) = let z : times g ≡ 0 = omega arith in absurd (omega (arith, rw z at (times_high g bounds.shift1)))

  below_depth : framework_rows g < thesis_rows g → g.shift < g.depth
  below_depth l = go (dec_le 1 (times g))
    where
      go : Dec (1 ≤ times g) → g.shift < g.depth
      go (yes y) = omega (arith, mul-le-mul_left g.shift y, times_low g, bounds.depth1)
      go (no n) = let z : g.shift * times g ≡ 0 = (let y : times g ≡ 0 = omega arith in rw y (omega arith)) in absurd (omega arith)

  -- R has room for three shifts just where the highest window is above the framework paper's two
  highest_three : framework_rows g < highest_window g → g.depth + 3 * g.shift ≤ g.rows
  highest_three l =
      let q : ℕ = (g.rows - g.depth) / g.shift in
      omega (arith, multiple_lt 2 q g.shift (omega arith), highest_rows g (omega (arith, bounds.rows2)))

pub thesis_exact : ThesisExact
unfolding exact_bound thesis_bound
thesis_exact g limits kind w =
    let bounds = settings_bounds g limits in (
      λ e. highest_room g bounds (rows_le g kind w (thesis_rows g) (exact_rows g) (omega arith)),
      λ room.
          let least : exact_rows g ≡ thesis_rows g = omega (arith, room_highest g bounds room) in
          ap (λ (n : ℕ). bound_by g n (size_of g)) least,
    )

pub k14_exact : K14Exact
unfolding exact_bound k14_bound
k14_exact g limits kind w =
    let bounds = settings_bounds g limits in (
      λ e.
          let all : k14_rows g ≤ exact_rows g = rows_le g kind w (k14_rows g) (exact_rows g) (omega arith) in
          (rows_divide g bounds (omega arith), highest_room g bounds (omega (arith, times_low g))),
      λ h.
          let least : exact_rows g ≡ k14_rows g = omega (arith, divides_rows g bounds h.0, room_highest g bounds h.1) in
          ap (λ (n : ℕ). bound_by g n (size_of g)) least,
    )

pub framework_low : FrameworkLow
unfolding exact_bound framework_bound
framework_low g limits kind w =
    let bounds = settings_bounds g limits in (
      λ l.
          let less : framework_rows g < exact_rows g = rows_lt g kind w (framework_rows g) (exact_rows g) l in
          (below_depth g bounds (omega arith), highest_three g bounds (omega arith)),
      λ h.
          fewer_lt g kind w (framework_rows g) (exact_rows g)
          (omega (arith, three_thesis g bounds h.0, below_highest g 3 bounds.shift1 h.1, bounds.shift1)),
    )
