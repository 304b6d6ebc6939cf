-- The stack's invariant. All that the bound needs is one fact about every state, the corridor: each sub holds from lo - d to
-- lo + s items, where lo is the lower of the window G and the G before its last shift. So an item and any newer one were in one
-- corridor, that of the newer one's put (the pairs), and a take's row and every other sub are in one corridor, that of the take.
-- Each of the two stands at d and some shifts, so they lie a multiple of s apart, which gives the exact bound. Late commits keep the
-- corridor too: a worker that checked an earlier window is live only in a sub that has not changed since the last shift, and the
-- pass that led to that shift found such a sub so high, or so low, that one commit more does not leave the corridor.
use mathlib.Core.Path.{◌≡◌, refl, sym}
use mathlib.Core.Logic.{◌⊎◌}
use mathlib.Core.List.{List}
use Prim.Native.Nat.{ℕ, ◌+◌, ◌*◌, ◌≤◌, ◌<◌}
use native.Mathlib.Omega.{arith}
use Rattle.rules.specs.Limits.{step_limit}
use Rattle.rules.specs.Held.{Item}
use Rattle.rules.specs.Sequential.{Contents}
use Rattle.rules.proofs.Types.{Settings, Side, Putting, Taking, Phase, Idle, Window, QueuePutRead, QueueTakeRead, StackRead, Check, QueueCommit, StackCommit, QueueShift, StackShift, QueueConfirm, StackConfirm}
use Rattle.rules.proofs.Cells.{stack_below}
use Rattle.rules.proofs.counts.Sums.{sum_n, sum_gap_at, sum_zero}
use Rattle.rules.proofs.machine.Machine.{State, below_in, sub_in, phase_in}
use Rattle.rules.proofs.counts.Visits.{Visited}
use Rattle.rules.proofs.counts.Passes.{Summed}
use Rattle.rules.proofs.counts.Held.{Holds, holds_ext}
use Rattle.rules.proofs.counts.Stamps.{Stamped}
use Rattle.rules.proofs.machine.Turns.{Holding}

-- ---- ghosts, and what is seen
-- the corridor's height, and each sub's version when the window last moved
pub record Ghost : Type 0 where
  pub lo : ℕ
  pub era : ℕ → ℕ

-- what the workers see of the pool: G and its version, and of each sub the items held and the version
pub record Sight : Type 0 where
  pub window : ℕ
  pub mark : ℕ
  pub held : ℕ → ℕ
  pub version : ℕ → ℕ

abbrev pub sight : State → Sight
sight s = record { window = s.top; mark = s.mark; held = s.first; version = s.second }

-- ---- a sub of c items, seen by a put or by a take
-- a pass at window G stops at it
abbrev pub Hit : Settings → Side → ℕ → ℕ → Type 0
Hit g Putting window c = c < window
Hit g Taking window c = window < c + g.depth

-- a pass at window G goes by
abbrev pub Missed : Settings → Side → ℕ → ℕ → Type 0
Missed g Putting window c = window ≤ c
Missed g Taking window c = c + g.depth ≤ window

-- a pass at window G went by, and commits that checked G came after
abbrev pub Near : Settings → Side → ℕ → ℕ → Type 0
Near g Putting window c = window ≤ c + g.depth
Near g Taking window c = c ≤ window

-- one item more or less stays in the corridor
abbrev pub Fits : Settings → Side → ℕ → ℕ → Type 0
Fits g Putting lo c = c < lo + g.shift
Fits g Taking lo c = lo < c + g.depth

-- ---- the pool
-- G is d and some shifts, and so is lo; lo is G or a shift below it; the corridor ends at R at the latest
pub record Windowed (g : Settings) (window lo : ℕ) : Type 0 where
  pub shifts : ℕ
  pub window_is : window ≡ g.depth + shifts * g.shift
  pub lo_shifts : ℕ
  pub lo_is : lo ≡ g.depth + lo_shifts * g.shift
  pub depth_lo : g.depth ≤ lo
  pub lo_window : lo ≤ window
  pub window_lo : window ≤ lo + g.shift
  pub lo_rows : lo + g.shift ≤ g.rows

pub record Corridor (g : Settings) (held : ℕ → ℕ) (lo : ℕ) : Type 0 where
  pub high : (j : ℕ) → j < g.width → held j ≤ lo + g.shift
  pub low : (j : ℕ) → j < g.width → lo ≤ held j + g.depth

-- row r' is above the foot of a corridor, lo - d = c * s, and row r is not above its top, lo + s
abbrev pub Within : Settings → ℕ → ℕ → Type 0
Within g r r' = (c : ℕ) × (c * g.shift < r') × (r ≤ g.depth + c * g.shift + g.shift)

-- an older item and a newer one: the corridor in which the newer one was put had both
pub record Pairs (g : Settings) (held : ℕ → ℕ) (item : ℕ → ℕ → Item) : Type 0 where
  pub near : (j k r r' : ℕ) → j < g.width → k < g.width → 1 ≤ r → r ≤ held j → 1 ≤ r' → r' ≤ held k
      → (item j r).stamp < (item k r').stamp → Within g r r'

-- each put changes a version, and each change of a version costs a step
pub record Few (g : Settings) (s : State) : Type 0 where
  pub puts : s.puts ≤ sum_n s.second g.width
  pub changes : s.mark + sum_n s.second g.width ≤ s.steps
  pub steps : s.steps ≤ step_limit

pub record Pool (g : Settings) (s : State) (q : Contents) (ghost : Ghost) : Type 0 where
  pub window : Windowed g s.top ghost.lo
  pub corridor : Corridor g s.first ghost.lo
  pub eras : (j : ℕ) → ghost.era j ≤ s.second j
  pub few : Few g s
  pub stamps : Stamped g.width s.first s.item s.puts
  pub pairs : Pairs g s.first s.item
  pub holding : Holding g s q

-- ---- what a pool from make has: no count is near 2^32, and the list is what the rows from 1 to the held ones have
module _ {g : Settings} {s : State} {q : Contents} {ghost : Ghost} (o : Pool g s q ghost) where
  pub versions_few : s.mark + sum_n s.second g.width ≤ step_limit
  versions_few = omega (arith, o.few.changes, o.few.steps)

  pub version_few : (j : ℕ) → j < g.width → s.second j ≤ step_limit
  version_few j l =
      omega (arith, versions_few, sum_zero g.width, sum_gap_at (λ m. 0) s.second g.width j (s.second j) l (λ m u. omega arith) (omega arith))

  pub window_ge : g.depth ≤ s.top
  window_ge = omega (arith, o.window.depth_lo, o.window.lo_window)

  pub window_le : s.top ≤ g.rows
  window_le = omega (arith, o.window.window_lo, o.window.lo_rows)

  pub held_le : (j : ℕ) → j < g.width → s.first j ≤ g.rows
  held_le j l = omega (arith, o.corridor.high j l, o.window.lo_rows)

  pub held_rows : g.kind ≡ 1 → Holds g.width (λ j. 0) s.first s.item q.items
  held_rows kind = holds_ext (λ j l. stack_below g kind (s.second j)) (λ j l. refl) o.holding.held

pub rows_held : (g : Settings) → g.kind ≡ 1 → (s : State) (xs : List Item) → Holds g.width (λ j. 0) s.first s.item xs
    → Holds g.width (below_in g s) s.first s.item xs
rows_held g kind s xs h = holds_ext (λ j l. sym (stack_below g kind (s.second j))) (λ j l. refl) h

-- ---- what a worker knows
-- sub j, of which a pass at the present window read a version: as it was read; or committed to since, so that only commits
-- that checked the present window are live there
abbrev pub Left : Settings → Sight → Ghost → Side → ℕ → ℕ → Type 0
Left g v ghost side read j =
    Missed g side v.window (v.held j)
    ⊎ ((read < v.version j) × (ghost.era j < v.version j) × Near g side v.window (v.held j))

-- a pass that began at a version of the window
pub record Passed (g : Settings) (v : Sight) (ghost : Ghost) (side : Side) (version index scan sum : ℕ) : Type 0 where
  pub began : version ≤ v.mark
  pub summed : Summed g.width 0 v.version index scan sum
  pub left : version ≡ v.mark → (j : ℕ) → j < g.width → Visited g.width index scan j → Left g v ghost side (summed.reads j) j

pub record Reading (g : Settings) (v : Sight) (ghost : Ghost) (side : Side) (window version index scan sum : ℕ) : Type 0 where
  pub scan_lt : scan < g.width
  pub depth_le : g.depth ≤ window
  pub le_rows : window ≤ g.rows
  pub same : version ≡ v.mark → window ≡ v.window
  pub passed : Passed g v ghost side version index scan sum

pub record Checking (g : Settings) (v : Sight) (side : Side) (version seen index : ℕ) : Type 0 where
  pub began : version ≤ v.mark
  pub seen_le : seen ≤ v.version index
  pub hit : version ≡ v.mark → seen ≡ v.version index → Hit g side v.window (v.held index)

-- a worker at commit is live where seen is the sub's version; it saw it before the last shift, or it checked the present window
pub record Committing (g : Settings) (v : Sight) (ghost : Ghost) (side : Side) (seen index : ℕ) : Type 0 where
  pub seen_le : seen ≤ v.version index
  pub checked : (seen ≤ ghost.era index) ⊎ (seen ≡ v.version index → Hit g side v.window (v.held index))
  pub fits : seen ≡ v.version index → Fits g side ghost.lo (v.held index)

pub record Shifting (g : Settings) (v : Sight) (ghost : Ghost) (side : Side) (version index scan sum : ℕ) : Type 0 where
  pub scan_is : scan ≡ 0
  pub passed : Passed g v ghost side version index g.width sum

abbrev pub Knows : Settings → Sight → Ghost → ℕ → Phase → Type 0
Knows g v ghost index Idle = Unit {0}
Knows g v ghost index (Window side) = Unit {0}
Knows g v ghost index (QueuePutRead window scan) = ⊥
Knows g v ghost index (QueueTakeRead window bare scan sum) = ⊥
Knows g v ghost index (StackRead side window version scan sum) = Reading g v ghost side window version.0 index scan sum
Knows g v ghost index (Check side version seen) = Checking g v side version.0 seen.0 index
Knows g v ghost index (QueueCommit side window seen) = ⊥
Knows g v ghost index (StackCommit side seen) = Committing g v ghost side seen.0 index
Knows g v ghost index (QueueShift side window) = ⊥
Knows g v ghost index (StackShift side version scan sum) = Shifting g v ghost side version.0 index scan sum
Knows g v ghost index (QueueConfirm window scan sum) = ⊥
Knows g v ghost index (StackConfirm side scan sum) = scan < g.width

pub record Inv (g : Settings) (s : State) (q : Contents) : Type 0 where
  pub ghost : Ghost
  pub pool : Pool g s q ghost
  pub knows : (i : ℕ) → Knows g (sight s) ghost (sub_in s i) (phase_in g s i)

-- ---- what a pass sums up of each sub
abbrev pub versions_in : State → ℕ → ℕ
versions_in s = s.second
