-- What a kind shows for K3, its law of a worker that steps alone; the queue's and the stack's.
use mathlib.Core.Path.{◌≡◌, refl}
use mathlib.Core.Logic.{inl}
use Prim.Native.Nat.{ℕ, ◌+◌, ◌*◌, ◌<◌}
use native.Mathlib.Nat.{le_refl}
use native.Mathlib.Omega.{arith}
use Rattle.rules.specs.Step.{rule_of, rule_by}
use Rattle.rules.specs.Sequential.{Contents}
use Rattle.solo.proofs.Types.{Settings, Side, Putting, Taking, Phase, Idle, Window, QueuePutRead, QueueTakeRead, StackRead, Check, QueueCommit, StackCommit, QueueShift, StackShift, QueueConfirm, StackConfirm, Size, Slot}
use Rattle.rules.proofs.machine.Machine.{State, sub_in, view_in, phase_in, apply_in, with_slot, with_size}
use Rattle.rules.proofs.machine.Good.{Good}
use Rattle.rules.proofs.machine.Turns.{Common, Kind}
use Rattle.rules.proofs.queue.Turn.{queue_kind}
use Rattle.rules.proofs.stack.Inv.{Inv as StackInv}
use Rattle.rules.proofs.stack.Turn.{stack_kind}
use Rattle.solo.proofs.StackDue.{due}
use Rattle.rules.proofs.progress.Steps.{Measure, Result}
use Rattle.rules.proofs.progress.QueueLeft.{PutWindow, TakeWindow, queue_left}
use Rattle.rules.proofs.progress.QueueResult.{result}
use Rattle.solo.proofs.QueueSteps.{queue_step}
use Rattle.solo.proofs.StackLeft.{stack_base, stack_left}
use Rattle.solo.proofs.StackPass.{window_step, read_step, check_step, commit_step}
use Rattle.solo.proofs.StackShift.{shift_step, stack_confirm_law}

-- a measure, which a begun operation has, and which each step of its worker's lowers, or else ends the operation
pub record SoloLaw (g : Settings) (k : Kind g) (begun : Side → ℕ) : Type 1 where
  pub Left : Measure
  -- an idle worker has none, and another worker's slot does not matter
  pub busy : (s : State) (n index : ℕ) → Left s n index Idle → ⊥
  pub apart : (s : State) (j : ℕ) (x : Slot) (n index : ℕ) (p : Phase) → Left s n index p → Left (with_slot s j x) n index p
  -- nor does the size of the next window
  pub resized : (s : State) (size : Size) (n index : ℕ) (p : Phase) → Left s n index p → Left (with_size s size) n index p
  pub begins : (s : State) (q : Contents) → k.Inv s q → (index : ℕ) (side : Side) → Left s (begun side) index (Window side)
  pub steps : (s : State) (q : Contents) → Common g s → k.Inv s q → (i n : ℕ) → Left s n (sub_in s i) (phase_in g s i)
      → Result g Left s i n (apply_in g s i (rule_of g (view_in g s i)))

-- ---- the queue: a take that starts where every sub is below the window has 2w left, its window, w reads and all confirms but the last
abbrev pub queue_begun : Settings → Side → ℕ
queue_begun g Putting = g.width + 4
queue_begun g Taking = g.width + 2 + 2 * g.width

module _ (g : Settings) (good : Good g) (kind : g.kind ≡ 0) where
  -- L is enough, wherever the take window moves
  pub twice : g.width < 2 * g.width
  twice = omega (arith, good.bounds.width1)

  pub queue_begins : (s : State) (index : ℕ) (side : Side) → queue_left g (2 * g.width) s (queue_begun g side) index (Window side)
  queue_begins s index Putting = PutWindow.any (le_refl _)
  queue_begins s index Taking = TakeWindow.any (le_refl _)

  unfoldable pub queue_solo : SoloLaw g (queue_kind g good kind) (queue_begun g)
  unfolding queue_kind
  queue_solo =
      record {
        Left = queue_left g (2 * g.width);
        busy = λ s n index x. x;
        apart = λ s j x n index p left. left;
        resized = λ s size n index p left. left;
        begins = λ s q inv index side. queue_begins s index side;
        steps = λ s q common inv i n x. result (queue_step g good kind (2 * g.width) twice s q inv (λ l. inl (le_refl _)) i n x);
      }

-- ---- the stack: two shifts, since the corridor is d + s high
abbrev pub stack_begun : Settings → Side → ℕ
stack_begun g side = due g.width (stack_base g) 2

module _ (g : Settings) (good : Good g) (kind : g.kind ≡ 1) where
  pub stack_by : (s : State) (q : Contents) → Common g s → StackInv g s q → (i n : ℕ) (p : Phase) → phase_in g s i ≡ p → stack_left g s n (sub_in s i) p
      → Result g (stack_left g) s i n (apply_in g s i (rule_by g (view_in g s i) p))
  unfolding rule_by
  stack_by s q common inv i n Idle now x = absurd x
  stack_by s q common inv i n (Window side) now x = window_step g good kind s q common inv i n side x
  stack_by s q common inv i n (QueuePutRead window scan) now x = absurd x
  stack_by s q common inv i n (QueueTakeRead window bare scan sum) now x = absurd x
  stack_by s q common inv i n (StackRead side window version scan sum) now x = read_step g good kind s q common inv i n side window version scan sum now x
  stack_by s q common inv i n (Check side version seen) now x = check_step g good kind s q common inv i n side version seen x
  stack_by s q common inv i n (QueueCommit side window seen) now x = absurd x
  stack_by s q common inv i n (StackCommit side seen) now x = commit_step g good kind s q common inv i n side seen now x
  stack_by s q common inv i n (QueueShift side window) now x = absurd x
  stack_by s q common inv i n (StackShift side version scan sum) now x = shift_step g good kind s q common inv i n version scan sum side now x
  stack_by s q common inv i n (QueueConfirm window scan sum) now x = absurd x
  stack_by s q common inv i n (StackConfirm side scan sum) now x = stack_confirm_law g good kind s q common inv i n side scan sum now x

  pub stack_begins : (s : State) (q : Contents) → StackInv g s q → (index : ℕ) (side : Side) → stack_left g s (stack_begun g side) index (Window side)
  stack_begins s q inv index Putting =
      record {
        shifts = 2;
        near = λ j l. omega (arith, inv.pool.corridor.high j l, inv.pool.window.lo_window);
        left = le_refl _;
      }
  stack_begins s q inv index Taking =
      record {
        shifts = 2;
        near = λ j l. omega (arith, inv.pool.corridor.low j l, inv.pool.window.window_lo);
        left = le_refl _;
      }

  unfoldable pub stack_solo : SoloLaw g (stack_kind g good kind) (stack_begun g)
  unfolding stack_kind rule_of
  stack_solo =
      record {
        Left = stack_left g;
        busy = λ s n index x. x;
        apart = λ s j x n index p left. left;
        resized = λ s size n index p left. left;
        begins = stack_begins;
        steps = λ s q common inv i n x. stack_by s q common inv i n (phase_in g s i) refl x;
      }
