-- A queue's windows: "Each window has its own width (up to the pool's w) and depth, a bottom row, and a top of bottom plus depth" (paper 02, K8). In
-- editions 0 and 1 every window has the pool's width and depth.
use Rattle.std.specs.Prelude.{ℕ, zero, suc, ◌+◌, ◌-◌, Bool, List, get_or, eqb}
use Rattle.laws.specs.Choice.{cond, both}
use Rattle.laws.specs.Wrap.{sub32}
use Rattle.rules.specs.Limits.{windowed}
use Rattle.rules.specs.Layout.{mark_at, next_width_at, next_depth_at, live_at, pair_at}
use Rattle.rules.specs.declared.Settings.{Settings}
use Rattle.rules.specs.declared.Size.{Size}
use Rattle.rules.specs.declared.Sizes.{Sizes}
use Rattle.rules.specs.declared.Span.{Span}

-- a queue of such an edition
abbrev pub has_windows : Settings → Bool
has_windows g = both (windowed g) (eqb g.kind 0)

-- the pool's own size
abbrev pub size_of : Settings → Size
size_of g = record { width = g.width; depth = g.depth }

-- no window's
abbrev pub no_size : Size
no_size = record { width = 0; depth = 0 }

-- every window has it
abbrev pub own_sizes : Settings → Sizes
own_sizes g = record { put = size_of g; take = size_of g; after = size_of g; next = size_of g; live = 0 }

-- ---- the words
-- the size of the next put window, and of the live window k
abbrev pub next_size : List ℕ → Settings → Size
next_size ws g = record { width = get_or ws (next_width_at g) 0; depth = get_or ws (next_depth_at g) 0 }

abbrev pub live_of : List ℕ → Settings → ℕ
live_of ws g = get_or ws (live_at g) 0

abbrev pub nth_size : List ℕ → Settings → ℕ → Size
nth_size ws g k = record { width = get_or ws (pair_at g k) 0; depth = get_or ws (pair_at g k + 1) 0 }

-- what a worker reads of them
abbrev pub sizes_in : List ℕ → Settings → Sizes
sizes_in ws g =
    record { put = nth_size ws g (live_of ws g - 1); take = nth_size ws g 0; after = nth_size ws g 1; next = next_size ws g; live = live_of ws g }

unfoldable pub sizes_of : List ℕ → Settings → Sizes
sizes_of ws g = cond (has_windows g) (sizes_in ws g) (own_sizes g)

-- the bottom of the live window k: the take window's top is T, and each window's top is the next one's bottom
unfoldable pub bottom_of : List ℕ → Settings → ℕ → ℕ
bottom_of ws g zero = get_or ws mark_at 0 - (nth_size ws g 0).depth
bottom_of ws g (suc k) = bottom_of ws g k + (nth_size ws g k).depth

-- ---- as a rule has them
-- a window with its top
abbrev pub span_of : ℕ → Size → Span
span_of top size = record { top = top; bottom = sub32 top size.depth; width = size.width }

-- "the higher of" two rows, and the lower
abbrev pub higher : ℕ → ℕ → ℕ
higher a b = a + (b - a)

abbrev pub lower : ℕ → ℕ → ℕ
lower a b = a - (a - b)

-- the row that a put or a take goes above: "the higher of the sub's last put row and the seen window's bottom, a take likewise". In editions 0 and 1
-- a sub's words are counts, and the row above so many items is the next
unfoldable pub level_of : Settings → ℕ → ℕ → ℕ
level_of g last bottom = cond (windowed g) (higher last bottom) last
