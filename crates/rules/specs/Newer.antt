-- K14: "Show for our pile, from make, that a take passes over at most (2 × depth + 2 × shift - 1) × (width - 1) newer items, in all
-- orders of steps." The statement; then the exact figure, which no take exceeds; and how K14's figure, and those that 001 and
-- 003 print, stand to it. That a run of every stack with two workers reaches it is crates/reached.
use Rattle.std.specs.Prelude.{ℕ, ◌+◌, ◌-◌, ◌*◌, ◌/◌, ◌%◌, ◌≤◌, ◌<◌, min, ◌≡◌, true}
use Rattle.rules.specs.Limits.{settings_fit}
use Rattle.rules.specs.Windows.{size_of}
use Rattle.rules.specs.Sequential.{bound_by}
use Rattle.rules.specs.Statement.{Demand3Within}
use Rattle.rules.specs.declared.Settings.{Settings}

-- ---- the figures, as newer items of each other sub; a queue keeps its own in all of them
-- K14's, one row less than demand 3 allows
abbrev pub k14_rows : Settings → ℕ
k14_rows g = 2 * g.depth + 2 * g.shift - 1

-- the framework paper's, source 001
abbrev pub framework_rows : Settings → ℕ
framework_rows g = 2 * g.shift + g.depth

-- the thesis', source 003, Theorem 6: d + 2s + s * floor((d - 1) / s)
abbrev pub thesis_rows : Settings → ℕ
thesis_rows g = g.depth + 2 * g.shift + g.shift * ((g.depth - 1) / g.shift)

-- the highest window there can be: d and as many shifts as R has room for
abbrev pub highest_window : Settings → ℕ
highest_window g = g.depth + g.shift * ((g.rows - g.depth) / g.shift)

-- the exact one: no sub is filled above the highest window
abbrev pub exact_rows : Settings → ℕ
exact_rows g = min (thesis_rows g) (highest_window g)

unfoldable pub k14_bound : Settings → ℕ
k14_bound g = bound_by g (k14_rows g) (size_of g)

unfoldable pub framework_bound : Settings → ℕ
framework_bound g = bound_by g (framework_rows g) (size_of g)

unfoldable pub thesis_bound : Settings → ℕ
thesis_bound g = bound_by g (thesis_rows g) (size_of g)

unfoldable pub exact_bound : Settings → ℕ
exact_bound g = bound_by g (exact_rows g) (size_of g)

-- ---- no more: demand 3's statement, with each figure in place of demand 3's own
abbrev pub K14 : Type 0
K14 = Demand3Within k14_rows

abbrev pub Thesis : Type 0
Thesis = Demand3Within thesis_rows

abbrev pub Exact : Type 0
Exact = Demand3Within exact_rows

-- ---- which figure is the exact one, of stacks with another sub to pass over
abbrev pub JustWhere : Type 0 → Type 0 → Type 0
JustWhere A B = (A → B) × (B → A)

abbrev pub OfStacks : (Settings → Type 0) → Type 0
OfStacks P = (g : Settings) → settings_fit g ≡ true → g.kind ≡ 1 → 2 ≤ g.width → P g

-- the thesis' is the exact one just where R has room for it
abbrev pub ThesisExact : Type 0
ThesisExact = OfStacks (λ g. JustWhere (exact_bound g ≡ thesis_bound g) (thesis_rows g ≤ g.rows))

-- K14's is, just where s divides d - 1 besides
abbrev pub K14Exact : Type 0
K14Exact = OfStacks (λ g. JustWhere (exact_bound g ≡ k14_bound g) (((g.depth - 1) % g.shift ≡ 0) × (thesis_rows g ≤ g.rows)))

-- the framework paper's is too low just where the shift is below the depth and R has room for three shifts
abbrev pub FrameworkLow : Type 0
FrameworkLow = OfStacks (λ g. JustWhere (framework_bound g < exact_bound g) ((g.shift < g.depth) × (g.depth + 3 * g.shift ≤ g.rows)))
