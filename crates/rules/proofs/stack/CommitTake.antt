-- The commit of a take. Where it lands, the top row of its sub leaves, and with it the item of that stamp on the list. The rows that stay
-- keep their stamps and their pairs, and the newer items passed over are few (Distance).
use mathlib.Core.Path.{◌≡◌, refl, sym}
use Prim.Native.Nat.{ℕ, suc, ◌-◌, ◌≤◌, ◌<◌}
use native.Mathlib.Nat.{le_refl, le_trans}
use native.Mathlib.Omega.{arith}
use Rattle.laws.specs.Wrap.{add32, sub32}
use Rattle.rules.specs.Held.{Item}
use Rattle.rules.specs.Effects.{hop_of}
use Rattle.rules.specs.Commit.{stack_commit, removed_of}
use Rattle.rules.specs.Measures.{of_size, seen_size}
use Rattle.rules.specs.Sequential.{Contents, bound_by, passed_by}
use Rattle.rules.proofs.Types.{Settings, Size, Taking, StackCommit, Version}
use Rattle.rules.proofs.counts.Sums.{upd, upd_same, upd_other, upd_all}
use Rattle.rules.proofs.machine.Machine.{State, answered, sub_in, view_in, phase_in, taken_in, distance_in, apply_in, apply_in_by, lost_restarts}
use Rattle.rules.proofs.counts.Wraps.{add32_suc, sub32_is}
use Rattle.rules.proofs.counts.Held.{holds_top}
use Rattle.rules.proofs.counts.Find.{RowFound, find_row}
use Rattle.rules.proofs.counts.Stamps.{Stamped, single, stamped_less}
use Rattle.rules.proofs.order.Gives.{taken_off, gives_taken, final_taken}
use Rattle.rules.proofs.machine.Good.{Good}
use Rattle.rules.proofs.machine.Turns.{Holding}
use Rattle.rules.proofs.stack.Inv.{Pairs, Inv, version_few, held_le, held_rows, rows_held}
use Rattle.rules.proofs.stack.Moves.{Stepping, On, restart}
use Rattle.rules.proofs.stack.Commit.{live_fits, take_row, commit_cases, committed, commits}
use Rattle.rules.specs.Newer.{exact_rows}
use Rattle.rules.proofs.stack.Distance.{distance_is, newer_few}

-- a live take passes over few newer items
pub take_newer : {g : Settings} {s : State} {q : Contents} → Good g → g.kind ≡ 1 → (inv : Inv g s q) (i : ℕ) → sub_in s i < g.width → (seen : Version)
    → phase_in g s i ≡ StackCommit Taking seen → seen.0 ≡ s.second (sub_in s i)
    → (size : Size) → passed_by g q (s.item (sub_in s i) (s.first (sub_in s i))).stamp ≤ bound_by g (exact_rows g) size
take_newer {g} {s} good kind inv i lj seen e live = newer_few g good kind inv.pool (sub_in s i) lj (live_fits inv i Taking seen e live)

module _ {g : Settings} {s : State} {q : Contents} {i : ℕ} (a : Stepping g s q i)
    (seen : Version) (e : phase_in g s i ≡ StackCommit Taking seen) (live : seen.0 ≡ s.second (sub_in s i)) where
  abbrev j : ℕ
  j = sub_in s i

  abbrev r : ℕ
  r = s.first j

  abbrev it : Item
  it = s.item j r

  j_lt : j < g.width
  j_lt = (a.common.slots i).index

  there : 1 ≤ r
  there = take_row a.inv i seen e live

  -- ---- the rows that stay
  abbrev held' : ℕ → ℕ
  held' = upd s.first j (r - 1)

  less : (m : ℕ) → held' m ≤ s.first m
  less m = upd_all (λ n (c : ℕ). c ≤ s.first n) s.first j (r - 1) m (λ u. rw u (omega arith)) (λ n. le_refl _)

  stamps : Stamped g.width held' s.item s.puts
  stamps = stamped_less a.inv.pool.stamps (λ m l. less m)

  pairs : Pairs g held' s.item
  pairs =
      record { near = λ m n x y lm ln x1 xm y1 yn. a.inv.pool.pairs.near m n x y lm ln x1 (le_trans xm (less m)) y1 (le_trans yn (less n)) }

  -- ---- the item that leaves
  found : RowFound it q.items
  found =
      find_row (held_rows a.inv.pool a.kind) (λ m l. omega arith) j r j_lt there (le_refl _) (a.inv.pool.stamps.least j r j_lt there (le_refl _))
      (single a.inv.pool.stamps j r j_lt there (le_refl _))

  abbrev t : State
  t = committed g s i Taking s.puts s.item

  row_is : suc (held' j) ≡ r
  row_is = omega (arith, upd_same s.first j (r - 1), there)

  holding : Holding g t (taken_off q found.out)
  holding =
      record {
        held =
            rows_held g a.kind t found.out.others
            (holds_top (held_rows a.inv.pool a.kind) j j_lt (rw row_is (a.inv.pool.stamps.least j r j_lt there (le_refl _))) (sym row_is) (λ m n. upd_other s.first j (r - 1) m n)
            (λ p. rw row_is (found.counts p)));
        count = a.inv.pool.holding.count;
      }

  -- ---- the step
  pub apply_removed : apply_in g s i (removed_of g (view_in g s i) (sub32 r 1) (add32 (s.second j) 1) (record { 0 = r })) ≡ answered g s i (taken_in g s j r) t
  unfolding apply_in apply_in_by
  apply_removed =
      let o = a.inv.pool in
      let held_is : sub32 r 1 ≡ r - 1 = sub32_is r 1 there (omega (arith, held_le o j j_lt, a.good.bounds.rows1024)) in
      let version_is : add32 (s.second j) 1 ≡ suc (s.second j) = add32_suc (s.second j) (omega (arith, version_few o j j_lt)) in
      rw (held_is, version_is) refl

  pub take_lands : On a (removed_of g (view_in g s i) (sub32 r 1) (add32 (s.second j) 1) (record { 0 = r }))
  take_lands =
      let size : Size = seen_size g (s.slot i) in
      rw apply_removed
      (commits a Taking seen e live s.puts s.item (taken_off q found.out) (omega arith) stamps pairs holding
      (taken_in g s j r) (of_size size) (final_taken _ _ _ _ _)
      (gives_taken g q (of_size size) it j (record { 0 = r }) (distance_in g s it.stamp) found (distance_is g a.kind a.inv.pool it.stamp)
      (take_newer a.good a.kind a.inv i j_lt seen e live size)))

pub take_commit : {g : Settings} {s : State} {q : Contents} {i : ℕ} (a : Stepping g s q i) (seen : Version) → phase_in g s i ≡ StackCommit Taking seen
    → On a (stack_commit g (view_in g s i) Taking seen)
take_commit {g} {s} {i = i} a seen e =
    commit_cases a.inv i (On a) Taking seen e (take_lands a seen e) (λ other. rw (lost_restarts g s i Taking) (restart a e Taking refl (hop_of g (sub_in s i))))
