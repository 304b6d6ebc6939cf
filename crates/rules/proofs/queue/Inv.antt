-- What holds of a queue from make (paper 01's line), and what each worker knows. `first` is a sub's last put row and `second` its last taken one.
--
-- Windows keep their numbers, so a window that a worker has seen is still there by its number, with its sizes: nothing has to be said of stale
-- workers but that every sub in an earlier window's width was filled (put) or spent (take) when the window moved on. So whoever is above a window's
-- bottom came after all who are not: that is the order of the stamps. All of it is kept because last rows only grow and windows are only added at
-- the end; a worker knows what its pass has seen, in a form that growing rows keep.
use mathlib.Core.Path.{◌≡◌, refl}
use mathlib.Core.Logic.{◌≢◌, ◌⊎◌, inl, inr}
use mathlib.Core.Bool.{true, false}
use Prim.Native.Nat.{ℕ, zero, suc, ◌+◌, ◌*◌, ◌≤◌, ◌<◌}
use native.Mathlib.Nat.{le_refl, le_trans}
use native.Mathlib.Decide.{dec_lt}
use native.Mathlib.Omega.{arith}
use Rattle.rules.specs.Limits.{deepest, step_limit, windowed, most_live}
use Rattle.rules.specs.Windows.{higher}
use Rattle.rules.specs.Fit.{SizeFits}
use Rattle.rules.specs.Held.{Item}
use Rattle.rules.specs.Sequential.{Contents}
use Rattle.rules.proofs.Types.{Settings, Putting, Taking, Phase, Idle, Window, QueuePutRead, QueueTakeRead, StackRead, Check, QueueCommit, StackCommit, QueueShift, StackShift, QueueConfirm, StackConfirm, Size, Span}
use Rattle.rules.proofs.counts.Sums.{sum_n}
use Rattle.rules.proofs.counts.Visits.{Visited}
use Rattle.rules.proofs.counts.Passes.{Summed, summed_grow}
use Rattle.rules.proofs.counts.Held.{Holds}
use Rattle.rules.proofs.machine.Machine.{Frame, State, top_of, mark_of, sub_in, phase_in}

-- ---- the pool
-- the windows
pub record Windows (g : Settings) (f : Frame) : Type 0 where
  -- from the take window to the put window
  pub order : f.head ≤ f.tail
  -- each top is the next one's bottom
  pub ground : f.base 0 ≡ 0
  pub rise : (k m : ℕ) → k < m → m ≤ suc f.tail → f.base k < f.base m
  pub deep : (k : ℕ) → k ≤ f.tail → f.base (suc k) ≤ f.base k + deepest
  pub half : (k : ℕ) → k ≤ f.tail → 2 * f.base (suc k) ≤ 2 * f.base k + g.rows
  pub wide1 : (k : ℕ) → k ≤ f.tail → 1 ≤ f.wide k
  pub wide_le : (k : ℕ) → k ≤ f.tail → f.wide k ≤ g.width
  -- each row of the live windows has a cell of its own
  pub room : top_of f ≤ f.base f.head + g.rows

-- the last rows
pub record Subs (f : Frame) (first second : ℕ → ℕ) : Type 0 where
  pub held : (j : ℕ) → second j ≤ first j
  pub put_le : (j : ℕ) → first j ≤ top_of f
  pub taken_le : (j : ℕ) → second j ≤ mark_of f
  -- the put window moves on only where each sub in its width has reached its top; likewise the take window
  pub filled : (k j : ℕ) → k < f.tail → j < f.wide k → f.base (suc k) ≤ first j
  pub spent : (k j : ℕ) → k < f.head → j < f.wide k → f.base (suc k) ≤ second j
  -- no last put row is in a window whose width leaves its sub out
  pub outside : (k j : ℕ) → k ≤ f.tail → f.wide k ≤ j → first j ≤ f.base (suc k) → first j ≤ f.base k
  -- a sub with nothing above the take window's bottom holds nothing
  pub low : (j : ℕ) → first j ≤ f.base f.head → first j ≤ second j

-- row r of sub j is a place of window k
pub record Place (f : Frame) (j r : ℕ) : Type 0 where
  pub at : ℕ
  pub at_le : at ≤ f.tail
  pub inside : j < f.wide at
  pub above : f.base at < r
  pub within : r ≤ f.base (suc at)

-- the items: exactly the places up to a sub's last put row have a stamp
pub record Items (f : Frame) (first : ℕ → ℕ) (item : ℕ → ℕ → Item) (puts : ℕ) : Type 0 where
  pub few : (j r : ℕ) → (item j r).stamp ≤ puts
  pub rise : (j r r' : ℕ) → r < r' → 1 ≤ (item j r).stamp → 1 ≤ (item j r').stamp → (item j r).stamp < (item j r').stamp
  pub apart : (j m r r' : ℕ) → j ≢ m → 1 ≤ (item j r).stamp → (item j r).stamp ≢ (item m r').stamp
  pub below : (j r : ℕ) → 1 ≤ (item j r).stamp → r ≤ first j
  pub place : (j r : ℕ) → 1 ≤ (item j r).stamp → Place f j r
  pub there : (k j r : ℕ) → k ≤ f.tail → j < f.wide k → f.base k < r → r ≤ f.base (suc k) → r ≤ first j → 1 ≤ (item j r).stamp
  -- all of a window is older than all of a later one
  pub order : (c j m r r' : ℕ) → c ≤ f.tail → r ≤ f.base c → f.base c < r' → 1 ≤ (item j r).stamp → 1 ≤ (item m r').stamp
      → (item j r).stamp < (item m r').stamp

-- where no size was ever set, all windows have the pool's sizes, and no row is without an item
pub record Plain (g : Settings) (f : Frame) (next : Size) (first : ℕ → ℕ) (puts : ℕ) : Type 0 where
  pub base_is : (k : ℕ) → k ≤ suc f.tail → f.base k ≡ k * g.depth
  pub wide_is : (k : ℕ) → k ≤ f.tail → f.wide k ≡ g.width
  pub next_wide : next.width ≡ g.width
  pub next_deep : next.depth ≡ g.depth
  pub total : sum_n first g.width ≡ puts

-- editions 0 and 1 have no size call, and R is a multiple of the depth
pub record Old (g : Settings) (set : ℕ) : Type 0 where
  pub not_set : set ≡ 0
  pub times : ℕ
  pub rows_is : g.rows ≡ times * g.depth

pub record Pool (g : Settings) (s : State) (q : Contents) : Type 0 where
  -- P and T
  pub top : s.top ≡ top_of s.frame
  pub mark : s.mark ≡ mark_of s.frame
  pub windows : Windows g s.frame
  pub subs : Subs s.frame s.first s.second
  pub items : Items s.frame s.first s.item s.puts
  pub size : SizeFits g s.next
  pub plain : s.set ≡ 0 → Plain g s.frame s.next s.first s.puts
  pub set_most : s.set ≤ 1
  pub old : windowed g ≡ false → Old g s.set
  -- the words have so many pairs
  pub live : windowed g ≡ true → s.frame.tail < s.frame.head + most_live
  -- sub 0 is in every window, so it has no row without an item, and each put costs a step
  pub first_few : s.first 0 ≤ s.puts
  pub puts_few : s.puts ≤ s.steps
  pub steps_few : s.steps ≤ step_limit
  -- the specification's list is what the subs hold
  pub holds : Holds g.width s.second s.first s.item q.items
  pub count : q.count ≡ s.puts

-- ---- windows by their numbers
module _ {g : Settings} {f : Frame} (w : Windows g f) where
  -- bottoms do not fall
  pub base_le : (k m : ℕ) → k ≤ m → m ≤ suc f.tail → f.base k ≤ f.base m
  base_le k m l u = elim (dec_lt k m) [ yes y ↦ omega (arith, w.rise k m y u) | no n ↦ let e : k ≡ m = omega arith in rw e (le_refl _) ]

  -- two windows with one top are one window
  pub same_top_law : (k m : ℕ) → k ≤ m → m ≤ f.tail → f.base (suc k) ≡ f.base (suc m) → k ≡ m
  same_top_law k m l u e = elim (dec_lt k m) [ yes y ↦ absurd (omega (arith, w.rise (suc k) (suc m) (omega arith) (omega arith))) | no n ↦ omega arith ]

  -- a row at or below the bottom of window m is in an earlier one
  pub earlier : (k m r : ℕ) → m ≤ suc f.tail → k ≤ f.tail → f.base k < r → r ≤ f.base m → k < m
  earlier k m r u v a b = elim (dec_lt k m) [ yes y ↦ y | no n ↦ absurd (omega (arith, base_le m k (omega arith) (omega arith))) ]

  -- a row up to the put window's top is in a window
  pub window_of : (r : ℕ) → 1 ≤ r → r ≤ top_of f → (k : ℕ) × (k ≤ f.tail) × (f.base k < r) × (r ≤ f.base (suc k))
  window_of r a b = go f.tail (le_refl _) b
    where
      go : (t : ℕ) → t ≤ f.tail → r ≤ f.base (suc t) → (k : ℕ) × (k ≤ f.tail) × (f.base k < r) × (r ≤ f.base (suc k))
      go zero l m = (zero, l, omega (arith, w.ground), m)
      go (suc t) l m = elim (dec_lt (f.base (suc t)) r) [ yes y ↦ (suc t, l, y, m) | no n ↦ go t (omega arith) (omega arith) ]

-- ---- no row is great
module _ {g : Settings} {s : State} {q : Contents} (o : Pool g s q) where
  abbrev f : Frame
  f = s.frame

  pub bottom_few : f.base f.tail ≤ s.puts
  bottom_few = go f.tail refl
    where
      go : (t : ℕ) → t ≡ f.tail → f.base t ≤ s.puts
      go zero e = omega (arith, o.windows.ground)
      go (suc t) e = omega (arith, o.subs.filled t 0 (omega arith) (o.windows.wide1 t (omega arith)), o.first_few)

  pub top_few : top_of f ≤ 4000000064
  top_few = omega (arith, bottom_few, o.windows.deep f.tail (le_refl _), o.puts_few, o.steps_few)

  pub put_few : (j : ℕ) → s.first j ≤ 4000000064
  put_few j = omega (arith, top_few, o.subs.put_le j)

-- ---- where no size was set, every sub has reached the bottoms of both windows
module _ {g : Settings} {s : State} {q : Contents} (o : Pool g s q) (p : Plain g s.frame s.next s.first s.puts) where
  abbrev fr : Frame
  fr = s.frame

  pub first_high : (j : ℕ) → j < g.width → fr.base fr.tail ≤ s.first j
  first_high j l = go fr.tail refl
    where
      go : (t : ℕ) → t ≡ fr.tail → fr.base t ≤ s.first j
      go zero e = omega (arith, o.windows.ground)
      go (suc t) e = o.subs.filled t j (omega arith) (omega (arith, p.wide_is t (omega arith)))

  pub second_high : (j : ℕ) → j < g.width → fr.base fr.head ≤ s.second j
  second_high j l = go fr.head refl
    where
      go : (t : ℕ) → t ≡ fr.head → fr.base t ≤ s.second j
      go zero e = omega (arith, o.windows.ground)
      go (suc t) e = o.subs.spent t j (omega arith) (omega (arith, p.wide_is t (omega (arith, o.windows.order))))

-- ---- the workers
-- the window seen is one of those up to `limit`, which is the put window's number for a put and the take window's for a take
pub record Sees (f : Frame) (limit : ℕ) (window : Span) : Type 0 where
  pub at : ℕ
  pub at_le : at ≤ limit
  pub top : window.top ≡ f.base (suc at)
  pub bottom : window.bottom ≡ f.base at
  pub wide : window.width ≡ f.wide at

pub record PutReads (s : State) (index : ℕ) (window : Span) (scan : ℕ) : Type 0 where
  pub sees : Sees s.frame s.frame.tail window
  pub index_lt : index < window.width
  pub scan_lt : scan < window.width
  -- each sub that the pass has missed has reached the top of the window seen
  pub missed : (j : ℕ) → j < window.width → Visited window.width index scan j → window.top ≤ s.first j

-- what a take's pass sums up of each sub
abbrev pub count_in : State → ℕ → ℕ → ℕ
count_in s bottom j = higher (s.first j) bottom

-- a take's pass, with `bare` of its subs bare
pub record Read (s : State) (index : ℕ) (window : Span) (bare scan sum : ℕ) : Type 0 where
  pub sees : Sees s.frame s.frame.head window
  pub index_lt : index < window.width
  pub bare_le : bare ≤ scan
  pub sums : Summed window.width window.bottom (count_in s window.bottom) index scan sum
  -- a sub missed was spent, or bare with all taken that was read
  pub missed : (j : ℕ) → j < window.width → Visited window.width index scan j
      → (window.top ≤ s.second j) ⊎ (sums.reads j ≤ higher (s.second j) window.bottom)
  -- with none bare, each was spent
  pub spent : bare ≡ 0 → (j : ℕ) → j < window.width → Visited window.width index scan j → window.top ≤ s.second j
  -- else one of them was read below the window's top
  pub low : bare ≢ 0 → (j : ℕ) × (j < window.width) × Visited window.width index scan j × (sums.reads j < window.top)

pub record TakeReads (s : State) (index : ℕ) (window : Span) (bare scan sum : ℕ) : Type 0 where
  pub scan_lt : scan < window.width
  pub read : Read s index window bare scan sum

pub record PutCommits (s : State) (index : ℕ) (window : Span) (last : ℕ) : Type 0 where
  pub sees : Sees s.frame s.frame.tail window
  pub index_lt : index < window.width
  pub below : last < window.top

pub record TakeCommits (s : State) (index : ℕ) (window : Span) (last : ℕ) : Type 0 where
  pub sees : Sees s.frame s.frame.head window
  pub index_lt : index < window.width
  pub below : last < window.top
  pub there : last < s.first index

pub record PutShifts (s : State) (window : Span) : Type 0 where
  pub sees : Sees s.frame s.frame.tail window
  pub reached : (j : ℕ) → j < window.width → window.top ≤ s.first j

pub record TakeShifts (s : State) (window : Span) : Type 0 where
  pub sees : Sees s.frame s.frame.head window
  pub reached : (j : ℕ) → j < window.width → window.top ≤ s.second j

pub record Confirms (s : State) (index : ℕ) (window : Span) (scan : ℕ) : Type 0 where
  pub sees : Sees s.frame s.frame.head window
  pub index_lt : index < window.width
  pub scan_lt : scan < window.width

-- what a worker at an index knows by its phase; no queue's worker is in a stack's phase
abbrev pub Knows : State → ℕ → Phase → Type 0
Knows s index Idle = Unit {0}
Knows s index (Window side) = Unit {0}
Knows s index (QueuePutRead window scan) = PutReads s index window scan
Knows s index (QueueTakeRead window bare scan sum) = TakeReads s index window bare scan sum
Knows s index (StackRead side window version scan sum) = ⊥
Knows s index (Check side version seen) = ⊥
Knows s index (QueueCommit Putting window last) = PutCommits s index window last
Knows s index (QueueCommit Taking window last) = TakeCommits s index window last
Knows s index (StackCommit side seen) = ⊥
Knows s index (QueueShift Putting window) = PutShifts s window
Knows s index (QueueShift Taking window) = TakeShifts s window
Knows s index (StackShift side version scan sum) = ⊥
Knows s index (QueueConfirm window scan sum) = Confirms s index window scan
Knows s index (StackConfirm side scan sum) = ⊥

pub record Inv (g : Settings) (s : State) (q : Contents) : Type 0 where
  pub pool : Pool g s q
  pub knows : (i : ℕ) → Knows s (sub_in s i) (phase_in g s i)

-- ---- what only grows, and what a worker knows stays true
pub record Grown (s t : State) : Type 0 where
  pub order : s.frame.head ≤ s.frame.tail
  pub head : s.frame.head ≤ t.frame.head
  pub tail : s.frame.tail ≤ t.frame.tail
  pub base : (k : ℕ) → k ≤ suc s.frame.tail → t.frame.base k ≡ s.frame.base k
  pub wide : (k : ℕ) → k ≤ s.frame.tail → t.frame.wide k ≡ s.frame.wide k
  pub top : top_of s.frame ≤ top_of t.frame
  pub put : (j : ℕ) → s.first j ≤ t.first j
  pub taken : (j : ℕ) → s.second j ≤ t.second j

module _ {s t : State} (u : Grown s t) where
  sees_grown : {a b : ℕ} {window : Span} → a ≤ s.frame.tail → a ≤ b → Sees s.frame a window → Sees t.frame b window
  sees_grown {a} {b} {window} l m k =
      record {
        at = k.at;
        at_le = omega (arith, k.at_le);
        top = omega (arith, k.top, k.at_le, u.base (suc k.at) (omega (arith, k.at_le)));
        bottom = omega (arith, k.bottom, u.base k.at (omega (arith, k.at_le)));
        wide = omega (arith, k.wide, u.wide k.at (omega (arith, k.at_le)));
      }

  abbrev put_sees : {window : Span} → Sees s.frame s.frame.tail window → Sees t.frame t.frame.tail window
  put_sees k = sees_grown (le_refl _) u.tail k

  abbrev take_sees : {window : Span} → Sees s.frame s.frame.head window → Sees t.frame t.frame.head window
  take_sees k = sees_grown u.order u.head k

  pub count_grown : (bottom j : ℕ) → count_in s bottom j ≤ count_in t bottom j
  count_grown bottom j = omega (arith, u.put j)

  pub read_grown : {index : ℕ} {window : Span} {bare scan sum : ℕ} → Read s index window bare scan sum → Read t index window bare scan sum
  read_grown {index} {window} {bare} {scan} {sum} k =
      record {
        sees = take_sees k.sees;
        index_lt = k.index_lt;
        bare_le = k.bare_le;
        sums = summed_grow (count_grown window.bottom) k.sums;
        missed = λ j l v. more j (k.missed j l v);
        spent = λ e j l v. le_trans (k.spent e j l v) (u.taken j);
        low = k.low;
      }
    where
      more : (j : ℕ) → ((window.top ≤ s.second j) ⊎ (k.sums.reads j ≤ higher (s.second j) window.bottom))
          → (window.top ≤ t.second j) ⊎ (k.sums.reads j ≤ higher (t.second j) window.bottom)
      more j (inl a) = inl (le_trans a (u.taken j))
      more j (inr a) = inr (omega (arith, u.taken j))

  pub knows_grown : (index : ℕ) (p : Phase) → Knows s index p → Knows t index p
  knows_grown index Idle k = k
  knows_grown index (Window side) k = k
  knows_grown index (QueuePutRead window scan) k =
      record { sees = put_sees k.sees; index_lt = k.index_lt; scan_lt = k.scan_lt; missed = λ j l v. le_trans (k.missed j l v) (u.put j) }
  knows_grown index (QueueTakeRead window bare scan sum) k = record { scan_lt = k.scan_lt; read = read_grown k.read }
  knows_grown index (QueueCommit Putting window last) k = record { sees = put_sees k.sees; index_lt = k.index_lt; below = k.below }
  knows_grown index (QueueCommit Taking window last) k =
      record { sees = take_sees k.sees; index_lt = k.index_lt; below = k.below; there = le_trans k.there (u.put index) }
  knows_grown index (QueueShift Putting window) k = record { sees = put_sees k.sees; reached = λ j l. le_trans (k.reached j l) (u.put j) }
  knows_grown index (QueueShift Taking window) k = record { sees = take_sees k.sees; reached = λ j l. le_trans (k.reached j l) (u.taken j) }
  knows_grown index (QueueConfirm window scan sum) k = record { sees = take_sees k.sees; index_lt = k.index_lt; scan_lt = k.scan_lt }
  knows_grown index (StackRead side window version scan sum) k = k
  knows_grown index (Check side version seen) k = k
  knows_grown index (StackCommit side seen) k = k
  knows_grown index (StackShift side version scan sum) k = k
  knows_grown index (StackConfirm side scan sum) k = k

-- ---- what a take's pass sums up of each sub, above the bottom of the window seen
abbrev pub puts_in : State → ℕ → ℕ
puts_in s = s.first
