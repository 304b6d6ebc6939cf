-- What the other workers know stays true through a commit and through a shift of the window. A commit grows its sub's version, so
-- nobody else is live there any more, and what a pass left behind at the present window is still left behind. After a shift a pass that
-- began before has no more to say, and a live commit fits in the new corridor.
use mathlib.Core.Path.{◌≡◌, ◌∙◌}
use mathlib.Core.Logic.{◌≢◌, ◌⊎◌, inl, inr}
use Prim.Native.Nat.{ℕ, suc, ◌≤◌, ◌<◌}
use native.Mathlib.Nat.{le_trans}
use native.Mathlib.Decide.{ℕ_discrete}
use native.Mathlib.Omega.{arith}
use Rattle.rules.specs.Limits.{Bounds}
use Rattle.rules.proofs.Types.{Settings, Side, Phase, Idle, Window, QueuePutRead, QueueTakeRead, StackRead, Check, QueueCommit, StackCommit, QueueShift, StackShift, QueueConfirm, StackConfirm}
use Rattle.rules.proofs.counts.Passes.{summed_grow}
use Rattle.rules.proofs.stack.Inv.{Ghost, Sight, Hit, Near, Fits, Windowed, Left, Passed, Committing, Knows}
use Rattle.rules.proofs.stack.Corridor.{Able, window_after, lo_after, fits_fresh, fits_stale}

-- ---- a commit at sub j
-- the sub's version grows, the other subs stay, and what a pass left behind it still leaves behind
pub record Touched (g : Settings) (v : Sight) (ghost : Ghost) (j : ℕ) (held' version' : ℕ → ℕ) : Type 0 where
  pub version_here : version' j ≡ suc (v.version j)
  pub version_off : (k : ℕ) → k ≢ j → version' k ≡ v.version k
  pub held_off : (k : ℕ) → k ≢ j → held' k ≡ v.held k
  pub keeps : (side : Side) (read : ℕ) → Left g v ghost side read j → Near g side v.window (held' j)

module _ {g : Settings} {v : Sight} {ghost : Ghost} {j : ℕ} {held' version' : ℕ → ℕ} (t : Touched g v ghost j held' version') where
  pub versions_grow : (k : ℕ) → v.version k ≤ version' k
  versions_grow k = elim (ℕ_discrete k j) [ yes e ↦ rw e (omega (arith, t.version_here)) | no n ↦ omega (arith, t.version_off k n) ]

  abbrev v' : Sight
  v' = record { window = v.window; mark = v.mark; held = held'; version = version' }

  -- a sub whose version is one seen before is not the one committed to
  elsewhere : (k x : ℕ) → x ≤ v.version k → x ≡ version' k → k ≢ j
  elsewhere k x l e u =
      let l' : x ≤ v.version j = rw u at l in
      let e' : x ≡ version' j = rw u at e in
      omega (arith, t.version_here)

  -- so what a seen version says there is as it was
  unchanged : (P : ℕ → Type 0) (k x : ℕ) → x ≤ v.version k → (x ≡ v.version k → P (v.held k)) → x ≡ version' k → P (held' k)
  unchanged P k x l h e = let n = elsewhere k x l e in rw (t.held_off k n) (h (e ∙ t.version_off k n))

  module _ (eras : (k : ℕ) → ghost.era k ≤ v.version k) where
    left_touched : (side : Side) (read k : ℕ) → read ≤ v.version k → Left g v ghost side read k → Left g v' ghost side read k
    left_touched side read k l o = elim (ℕ_discrete k j) [
      | yes u ↦
          let here : version' k ≡ suc (v.version k) = rw u t.version_here in
          inr (omega arith, omega (arith, eras k), rw u (t.keeps side read (rw u at o)))
      | no n ↦ rw (t.held_off k n, t.version_off k n) o
    ]

    passed_touched : {side : Side} {version index scan sum : ℕ} → Passed g v ghost side version index scan sum → Passed g v' ghost side version index scan sum
    passed_touched {side} k =
        record {
          began = k.began;
          summed = summed_grow versions_grow k.summed;
          left = λ u m l x. left_touched side (k.summed.reads m) m (k.summed.low m l) (k.left u m l x);
        }

    committing_touched : {side : Side} {seen index : ℕ} → Committing g v ghost side seen index → Committing g v' ghost side seen index
    committing_touched {side} {seen} {index} k =
        record {
          seen_le = le_trans k.seen_le (versions_grow index);
          checked = checked k.checked;
          fits = unchanged (λ c. Fits g side ghost.lo c) index seen k.seen_le k.fits;
        }
      where
        checked : ((seen ≤ ghost.era index) ⊎ (seen ≡ v.version index → Hit g side v.window (v.held index)))
            → (seen ≤ ghost.era index) ⊎ (seen ≡ version' index → Hit g side v.window (held' index))
        checked (inl l) = inl l
        checked (inr h) = inr (unchanged (λ c. Hit g side v.window c) index seen k.seen_le h)

    pub knows_touched : (index : ℕ) (p : Phase) → Knows g v ghost index p → Knows g v' ghost index p
    knows_touched index Idle k = k
    knows_touched index (Window side) k = k
    knows_touched index (QueuePutRead window scan) k = k
    knows_touched index (QueueTakeRead window bare scan sum) k = k
    knows_touched index (StackRead side window version scan sum) k =
        record { scan_lt = k.scan_lt; depth_le = k.depth_le; le_rows = k.le_rows; same = k.same; passed = passed_touched k.passed }
    knows_touched index (Check side version seen) k =
        record {
          began = k.began;
          seen_le = le_trans k.seen_le (versions_grow index);
          hit = λ u. unchanged (λ c. Hit g side v.window c) index seen.0 k.seen_le (k.hit u);
        }
    knows_touched index (QueueCommit side window seen) k = k
    knows_touched index (StackCommit side seen) k = committing_touched k
    knows_touched index (QueueShift side window) k = k
    knows_touched index (StackShift side version scan sum) k = record { scan_is = k.scan_is; passed = passed_touched k.passed }
    knows_touched index (QueueConfirm window scan sum) k = k
    knows_touched index (StackConfirm side scan sum) k = k

-- ---- a shift
module _ (g : Settings) (bounds : Bounds g) (v : Sight) (ghost : Ghost) (o : Windowed g v.window ghost.lo)
    (side : Side) (able : Able g side v.window) (eras : (k : ℕ) → ghost.era k ≤ v.version k) (reads : ℕ → ℕ)
    (left : (j : ℕ) → j < g.width → Left g v ghost side (reads j) j) where
  abbrev v'' : Sight
  v'' = record { window = window_after g side v.window; mark = suc v.mark; held = v.held; version = v.version }

  abbrev ghost'' : Ghost
  ghost'' = record { lo = lo_after g side v.window; era = v.version }

  passed_shifted : {a : Side} {version index scan sum : ℕ} → Passed g v ghost a version index scan sum → Passed g v'' ghost'' a version index scan sum
  passed_shifted k = record { began = omega (arith, k.began); summed = k.summed; left = λ u. absurd (omega (arith, k.began)) }

  committing_shifted : {a : Side} {seen index : ℕ} → index < g.width → Committing g v ghost a seen index → Committing g v'' ghost'' a seen index
  committing_shifted {a} {seen} {index} l k = record { seen_le = k.seen_le; checked = inl k.seen_le; fits = fits k.checked }
    where
      fits : ((seen ≤ ghost.era index) ⊎ (seen ≡ v.version index → Hit g a v.window (v.held index)))
          → seen ≡ v.version index → Fits g a (lo_after g side v.window) (v.held index)
      fits (inl m) u = fits_stale g bounds v ghost o side able a (reads index) index (omega (arith, eras index)) (left index l) (k.fits u)
      fits (inr h) u = fits_fresh g bounds v ghost o side able a (v.held index) (h u)

  pub knows_shifted : (index : ℕ) → index < g.width → (p : Phase) → Knows g v ghost index p → Knows g v'' ghost'' index p
  knows_shifted index l Idle k = k
  knows_shifted index l (Window a) k = k
  knows_shifted index l (QueuePutRead window scan) k = k
  knows_shifted index l (QueueTakeRead window bare scan sum) k = k
  knows_shifted index l (StackRead a window version scan sum) k =
      record {
        scan_lt = k.scan_lt;
        depth_le = k.depth_le;
        le_rows = k.le_rows;
        same = λ u. absurd (omega (arith, k.passed.began));
        passed = passed_shifted k.passed;
      }
  knows_shifted index l (Check a version seen) k =
      record { began = omega (arith, k.began); seen_le = k.seen_le; hit = λ u. absurd (omega (arith, k.began)) }
  knows_shifted index l (QueueCommit a window seen) k = k
  knows_shifted index l (StackCommit a seen) k = committing_shifted l k
  knows_shifted index l (QueueShift a window) k = k
  knows_shifted index l (StackShift a version scan sum) k = record { scan_is = k.scan_is; passed = passed_shifted k.passed }
  knows_shifted index l (QueueConfirm window scan sum) k = k
  knows_shifted index l (StackConfirm a scan sum) k = k
