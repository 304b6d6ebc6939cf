-- The stack's machine over a move: no edition is told from another by a stack's rule or by what its invariant says, so that it goes on holding as it is.
use Prim.Native.Nat.{ℕ, ◌≤◌}
use mathlib.Core.Path.{◌≡◌, sym, subst}
use mathlib.Core.Logic.{◌⊎◌, inl, inr}
use native.Mathlib.Omega.{arith}
use Rattle.rules.specs.Make.{in_edition}
use Rattle.rules.specs.Sequential.{Contents}
use Rattle.turnaround.proofs.Types.{Settings, Side, Putting, Taking, Phase, Idle, Window, QueuePutRead, QueueTakeRead, StackRead, Check, QueueCommit, StackCommit, QueueShift, StackShift, QueueConfirm, StackConfirm}
use Rattle.rules.proofs.machine.Machine.{State, sub_in, phase_in}
use Rattle.rules.proofs.stack.Inv.{Ghost, Sight, sight, Hit, Fits, Left, Passed, Knows, Inv}
use Rattle.rules.proofs.machine.Moved.{moved_in}
use Rattle.turnaround.proofs.Kept.{phase_moved}

module _ (g : Settings) (b : ℕ) where
  abbrev h : Settings
  h = in_edition b g

  hit : (side : Side) (window c : ℕ) → Hit g side window c → Hit h side window c
  hit Putting window c z = z
  hit Taking window c z = z

  fits : (side : Side) (lo c : ℕ) → Fits g side lo c → Fits h side lo c
  fits Putting lo c z = z
  fits Taking lo c z = z

  left : (v : Sight) (ghost : Ghost) (side : Side) (read j : ℕ) → Left g v ghost side read j → Left h v ghost side read j
  left v ghost Putting read j z = z
  left v ghost Taking read j z = z

  passed : (v : Sight) (ghost : Ghost) (side : Side) (version index scan sum : ℕ) → Passed g v ghost side version index scan sum → Passed h v ghost side version index scan sum
  passed v ghost side version index scan sum k =
      record { began = k.began; summed = k.summed; left = λ e j l x. left v ghost side (k.summed.reads j) j (k.left e j l x) }

  checked : (v : Sight) (ghost : Ghost) (side : Side) (seen index : ℕ)
      → ((seen ≤ ghost.era index) ⊎ (seen ≡ v.version index → Hit g side v.window (v.held index)))
      → (seen ≤ ghost.era index) ⊎ (seen ≡ v.version index → Hit h side v.window (v.held index))
  checked v ghost side seen index (inl x) = inl x
  checked v ghost side seen index (inr x) = inr (λ e. hit side v.window (v.held index) (x e))

  knows : (v : Sight) (ghost : Ghost) (index : ℕ) (p : Phase) → Knows g v ghost index p → Knows h v ghost index p
  knows v ghost index Idle k = k
  knows v ghost index (Window side) k = k
  knows v ghost index (QueuePutRead window scan) k = k
  knows v ghost index (QueueTakeRead window bare scan sum) k = k
  knows v ghost index (StackRead side window version scan sum) k =
      record { scan_lt = k.scan_lt; depth_le = k.depth_le; le_rows = k.le_rows; same = k.same; passed = passed v ghost side version.0 index scan sum k.passed }
  knows v ghost index (Check side version seen) k =
      record { began = k.began; seen_le = k.seen_le; hit = λ e f. hit side v.window (v.held index) (k.hit e f) }
  knows v ghost index (QueueCommit side window seen) k = k
  knows v ghost index (StackCommit side seen) k =
      record { seen_le = k.seen_le; checked = checked v ghost side seen.0 index k.checked; fits = λ e. fits side ghost.lo (v.held index) (k.fits e) }
  knows v ghost index (QueueShift side window) k = k
  knows v ghost index (StackShift side version scan sum) k =
      record { scan_is = k.scan_is; passed = passed v ghost side version.0 index g.width sum k.passed }
  knows v ghost index (QueueConfirm window scan sum) k = k
  knows v ghost index (StackConfirm side scan sum) k = k

  module _ (s : State) (kind : g.kind ≡ 1) where
    pub stack_phase_moved : (i : ℕ) → phase_in h (moved_in g h s) i ≡ phase_in g s i
    stack_phase_moved i = phase_moved g b (s.slot i) (λ e. absurd (omega arith))

    pub stack_inv_moved : (q : Contents) → Inv g s q → Inv h (moved_in g h s) q
    stack_inv_moved q inv =
        let o = inv.pool in
        let w = o.window in
        record {
          ghost = inv.ghost;
          pool = record {
            window = record {
              shifts = w.shifts;
              window_is = w.window_is;
              lo_shifts = w.lo_shifts;
              lo_is = w.lo_is;
              depth_lo = w.depth_lo;
              lo_window = w.lo_window;
              window_lo = w.window_lo;
              lo_rows = w.lo_rows;
            };
            corridor = record { high = o.corridor.high; low = o.corridor.low };
            eras = o.eras;
            few = record { puts = o.few.puts; changes = o.few.changes; steps = o.few.steps };
            stamps = o.stamps;
            pairs = record { near = o.pairs.near };
            holding = record { held = o.holding.held; count = o.holding.count };
          };
          knows = λ i. subst (Knows h (sight s) inv.ghost (sub_in s i)) (sym (stack_phase_moved i)) (knows (sight s) inv.ghost (sub_in s i) (phase_in g s i) (inv.knows i));
        }
