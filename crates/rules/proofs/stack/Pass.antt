-- A pass, as one sub more is read: a miss leaves its sub so high for a put, or so low for a take, that it is left behind at the present
-- window. And why the pool was empty, or full, at its end if its confirm leaves nothing.
use mathlib.Core.Path.{◌≡◌}
use mathlib.Core.Logic.{◌≢◌, ◌⊎◌, inl, inr}
use Prim.Native.Nat.{ℕ, suc, ◌+◌, ◌-◌, ◌≤◌, ◌<◌}
use native.Mathlib.Decide.{ℕ_discrete}
use native.Mathlib.Omega.{arith}
use Rattle.laws.specs.Wrap.{add32}
use Rattle.rules.specs.Effects.{next_of}
use Rattle.rules.specs.Sequential.{Contents}
use Rattle.rules.proofs.Types.{Settings, Side, Putting, Taking}
use Rattle.rules.proofs.counts.Sums.{sum_n, sum_gap_at}
use Rattle.rules.proofs.machine.Machine.{State}
use Rattle.rules.proofs.counts.Visits.{Visited, visited_next, visited_all, visited_here}
use Rattle.rules.proofs.counts.Passes.{Summed, summed_more, summed_off, Pass, pass_start}
use Rattle.rules.proofs.counts.Held.{none_held, many_held}
use Rattle.rules.proofs.figures.Figures.{least_stack}
use Rattle.rules.proofs.machine.Ways.{Stuck}
use Rattle.rules.proofs.stack.Inv.{Ghost, Sight, sight, Missed, Left, Passed, Reading, Pool, held_rows}
use Rattle.rules.proofs.stack.Corridor.{Unable}

-- what a read adds to a pass's sum does not go above the sum of all versions
pub sum_le_versions : {g : Settings} {v : Sight} {ghost : Ghost} {side : Side} {window version index scan sum : ℕ} → index < g.width
    → Reading g v ghost side window version index scan sum → sum + v.version index ≤ sum_n v.version g.width
sum_le_versions {g} {v} {index = index} {scan = scan} {sum = sum} l k =
    let r = k.passed.summed in
    omega (
      arith,
      r.sum_is,
      sum_gap_at r.reads v.version g.width index (v.version index) l r.low (omega (arith, r.unread index l (λ x. visited_here k.scan_lt x))),
    )

-- one sub more is passed by
pub passed_more : (g : Settings) (v : Sight) (ghost : Ghost) (side : Side) (version index scan sum : ℕ) → index < g.width → scan < g.width
    → (version ≡ v.mark → Missed g side v.window (v.held index)) → Passed g v ghost side version index scan sum
    → Passed g v ghost side version (next_of g.width index) (suc scan) (add32 sum (v.version index))
passed_more g v ghost side version index scan sum li ls missed k = record { began = k.began; summed = more; left = left }
  where
    more : Summed g.width 0 v.version (next_of g.width index) (suc scan) (add32 sum (v.version index))
    more = summed_more g.width 0 v.version index scan sum li ls (omega arith) k.summed

    before : {j : ℕ} → j ≢ index → ((j ≡ index) ⊎ Visited g.width index scan j) → Visited g.width index scan j
    before n (inl e) = absurd (n e)
    before n (inr x) = x

    left : version ≡ v.mark → (j : ℕ) → j < g.width → Visited g.width (next_of g.width index) (suc scan) j → Left g v ghost side (more.reads j) j
    left u j l x = elim (ℕ_discrete j index) [
      | yes y ↦ inl (rw y (missed u))
      | no n ↦ rw (summed_off g.width 0 v.version index scan sum li ls (omega arith) k.summed j n) (k.left u j l (before n (visited_next g.width li l x)))
    ]

-- ---- all subs are read, and the window cannot move: if no version is another than was read, then no sub has been committed to since,
-- so all are as the pass found them at the present window, and all are empty, or all are full
module _ {g : Settings} {s : State} {q : Contents} {ghost : Ghost} (kind : g.kind ≡ 1) (o : Pool g s q ghost) (side : Side) (version index sum : ℕ)
    (li : index < g.width) (k : Passed g (sight s) ghost side version index g.width sum) (now : version ≡ s.mark) (unable : Unable g side s.top) where
  as_read : ((m : ℕ) → m < g.width → k.summed.reads m ≡ s.second m) → (m : ℕ) → m < g.width → Missed g side s.top (s.first m)
  as_read same m l = go (k.left now m l (visited_all li l))
    where
      go : Left g (sight s) ghost side (k.summed.reads m) m → Missed g side s.top (s.first m)
      go (inl x) = x
      go (inr x) = absurd (omega (arith, x.0, same m l))

  stuck : (b : Side) → Unable g b s.top → ((m : ℕ) → m < g.width → Missed g b s.top (s.first m)) → Stuck g b q
  stuck Putting l missed =
      rw (least_stack g 0 kind)
      (many_held (held_rows o kind) (g.rows - g.shift + 1) (λ m u. omega (arith, missed m u, o.window)) (λ m r u a b. o.stamps.least m r u a b))
  stuck Taking l missed = none_held (held_rows o kind) (λ m u. omega (arith, missed m u))

  pub pass_begins : Pass g.width 0 (Stuck g side q) s.second s.second index 0 sum
  pass_begins = pass_start li k.summed (λ same. stuck side unable (as_read same))
