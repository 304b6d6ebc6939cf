-- What the invariant says of every sum and every commit: no count reaches 2^32, no difference but confirm's passes below 0, and no
-- commit is refused for want of a cell or an item.
use mathlib.Core.Path.{◌≡◌, refl, sym}
use mathlib.Core.Logic.{◌≢◌}
use Prim.Native.Nat.{ℕ, ◌≤◌, ◌<◌}
use native.Mathlib.Omega.{arith}
use lib.Dec.{eqb}
use Rattle.laws.specs.Choice.{cases}
use Rattle.rules.specs.Limits.{step_limit}
use Rattle.rules.specs.Answers.{number_of, not_fit}
use Rattle.rules.specs.Window.{window_rule}
use Rattle.rules.specs.Read.{stack_read, miss_of}
use Rattle.rules.specs.Check.{check_rule}
use Rattle.rules.specs.Shift.{stack_shift, shift_by}
use Rattle.rules.specs.Confirm.{stack_confirm, confirm_by, confirmed_of}
use Rattle.rules.specs.Step.{rule_of, rule_by}
use Rattle.rules.specs.Sequential.{Contents}
use Rattle.rules.specs.Consequences.{NoWrap}
use Rattle.rules.specs.Commit.{lost_of}
use Rattle.rules.proofs.Types.{Settings, Side, Putting, Taking, Phase, Idle, Window, QueuePutRead, QueueTakeRead, StackRead, Check, QueueCommit, StackCommit, QueueShift, StackShift, QueueConfirm, StackConfirm, Span, Version, Effect}
use Rattle.rules.proofs.machine.Machine.{State, sub_in, view_in, phase_in, apply_in, apply_in_by}
use Rattle.rules.proofs.machine.Phases.{OfStack, WindowIn}
use Rattle.rules.proofs.machine.Slots.{phase_from, has_queue}
use Rattle.rules.proofs.machine.Good.{Good}
use Rattle.rules.proofs.machine.Turns.{Common, few_rows, Safe, Counts}
use Rattle.rules.proofs.stack.Inv.{sight, Knows, Inv, versions_few, version_few, window_ge, window_le, held_le}
use Rattle.rules.proofs.stack.Pass.{sum_le_versions}
use Rattle.rules.proofs.stack.Commit.{lands_of, commit_cases}

module _ {g : Settings} {s : State} {q : Contents} (good : Good g) (kind : g.kind ≡ 1) (common : Common g s) (inv : Inv g s q) where
  -- ---- no step answers 23, for a commit lands or is lost
  module _ (i : ℕ) where
    abbrev F : Effect → Type 0
    F x = number_of (apply_in g s i x).answer ≢ not_fit

    able_lands : (side : Side) → F (lands_of g (view_in g s i) side)
    unfolding apply_in apply_in_by
    able_lands Putting = omega arith
    able_lands Taking = omega arith

    able_lost : (side : Side) → F (lost_of g (view_in g s i) side)
    unfolding apply_in apply_in_by
    able_lost side = omega arith

    able_shift : (side : Side) (version : Version) (scan sum : ℕ) → F (stack_shift g (view_in g s i) side version scan sum)
    unfolding stack_shift shift_by apply_in apply_in_by
    able_shift Putting version scan sum = cases F (eqb s.mark version.0) _ _ (λ u. cases F _ _ _ (λ x. omega arith) (λ x. omega arith)) (λ u. omega arith)
    able_shift Taking version scan sum = cases F (eqb s.mark version.0) _ _ (λ u. cases F _ _ _ (λ x. omega arith) (λ x. omega arith)) (λ u. omega arith)

    able_confirm : (side : Side) (scan sum : ℕ) → F (stack_confirm g (view_in g s i) side scan sum)
    unfolding stack_confirm confirm_by confirmed_of apply_in apply_in_by
    able_confirm Putting scan sum = cases F _ _ _ (λ u. omega arith) (λ u. cases F _ _ _ (λ x. omega arith) (λ x. omega arith))
    able_confirm Taking scan sum = cases F _ _ _ (λ u. omega arith) (λ u. cases F _ _ _ (λ x. omega arith) (λ x. omega arith))

    able_by : (p : Phase) → phase_in g s i ≡ p → Knows g (sight s) inv.ghost (sub_in s i) p → F (rule_by g (view_in g s i) p)
    unfolding rule_by window_rule stack_read miss_of check_rule apply_in apply_in_by
    able_by Idle e k = omega arith
    able_by (Window side) e k = cases F _ _ _ (λ u. omega arith) (λ u. omega arith)
    able_by (QueuePutRead window scan) e k = absurd k
    able_by (QueueTakeRead window bare scan sum) e k = absurd k
    able_by (StackRead side window version scan sum) e k = cases F _ _ _ (λ u. omega arith) (λ u. cases F _ _ _ (λ x. omega arith) (λ x. omega arith))
    able_by (Check side version seen) e k = cases F _ _ _ (λ u. omega arith) (λ u. omega arith)
    able_by (QueueCommit side window seen) e k = absurd k
    able_by (StackCommit side seen) e k = commit_cases inv i F side seen e (λ live. able_lands side) (λ other. able_lost side)
    able_by (QueueShift side window) e k = absurd k
    able_by (StackShift side version scan sum) e k = able_shift side version scan sum
    able_by (QueueConfirm window scan sum) e k = absurd k
    able_by (StackConfirm side scan sum) e k = able_confirm side scan sum

    not_refused : F (rule_of g (view_in g s i))
    unfolding rule_of
    not_refused = able_by (phase_in g s i) refl (inv.knows i)

  -- ---- sums and differences
  module _ (i : ℕ) where
    index : sub_in s i < g.width
    index = (common.slots i).index

    few : s.second (sub_in s i) ≤ step_limit
    few = version_few inv.pool (sub_in s i) index

    no_wrap : (p : Phase) → Knows g (sight s) inv.ghost (sub_in s i) p → NoWrap g (view_in g s i) p
    no_wrap Idle k = tt
    no_wrap (Window side) k = tt
    no_wrap (QueuePutRead window scan) k = absurd k
    no_wrap (QueueTakeRead window bare scan sum) k = absurd k
    no_wrap (StackRead side window version scan sum) k = (
      omega (arith, versions_few inv.pool, sum_le_versions index k),
      omega (arith, k.scan_lt, good.bounds.width16),
      k.depth_le,
    )
    no_wrap (Check side version seen) k = tt
    no_wrap (QueueCommit side window seen) k = absurd k
    no_wrap (StackCommit Putting seen) k = (
      omega (arith, held_le inv.pool (sub_in s i) index, good.bounds.rows1024),
      omega (arith, few),
      omega (arith, inv.pool.few.puts, versions_few inv.pool),
    )
    no_wrap (StackCommit Taking seen) k = (
      (λ u. omega (arith, k.fits (sym u), inv.pool.window.depth_lo)),
      omega (arith, few),
    )
    no_wrap (QueueShift side window) k = absurd k
    no_wrap (StackShift Putting version scan sum) k = (
      omega (arith, window_le inv.pool, good.bounds),
      omega (arith, versions_few inv.pool),
    )
    no_wrap (StackShift Taking version scan sum) k = (
      omega (arith, window_ge inv.pool, good.bounds.shift_depth),
      omega (arith, versions_few inv.pool),
    )
    no_wrap (QueueConfirm window scan sum) k = absurd k
    no_wrap (StackConfirm side scan sum) k = omega (arith, k, good.bounds.width16)

  pub stack_safe : Safe g s
  stack_safe =
      let o = inv.pool in
      record {
        puts = omega (arith, o.few.puts, versions_few o);
        top = omega (arith, window_le o, good.bounds);
        mark = omega (arith, versions_few o, good.bounds.depth64);
        first = λ j l. omega (arith, held_le o j l, good.bounds.rows1024);
        second = λ j l. omega (arith, version_few o j l);
        rule = λ i. no_wrap i (phase_in g s i) (inv.knows i);
        able = λ i. not_refused i;
      }

-- ---- counts
-- no phase of a stack has seen a queue's window
no_window : (P : Span → Type 0) (p : Phase) → OfStack p → WindowIn P p
no_window P Idle k = tt
no_window P (Window side) k = tt
no_window P (QueuePutRead window scan) k = absurd k
no_window P (QueueTakeRead window bare scan sum) k = absurd k
no_window P (StackRead side window version scan sum) k = tt
no_window P (Check side version seen) k = tt
no_window P (QueueCommit side window seen) k = absurd k
no_window P (StackCommit side seen) k = tt
no_window P (QueueShift side window) k = absurd k
no_window P (StackShift side version scan sum) k = tt
no_window P (QueueConfirm window scan sum) k = absurd k
no_window P (StackConfirm side scan sum) k = tt

pub stack_counts : {g : Settings} {s : State} {q : Contents} → Good g → g.kind ≡ 1 → Inv g s q → Counts g s
stack_counts {g} {s} good kind inv =
    let o = inv.pool in
    record {
      sub = λ j l.
          record {
            queue_order = λ z. absurd (omega arith);
            queue_rows = λ z. absurd (omega arith);
            queue_level = λ z. absurd (omega arith);
            stack_rows = λ z. held_le o j l;
          };
      first_few = λ j l. omega (arith, held_le o j l, good.bounds.rows1024);
      second_few = λ j l. omega (arith, version_few o j l);
      bottom_few = λ i. no_window (λ window. window.bottom ≤ few_rows) (phase_in g s i) ((phase_from g (s.slot i)).0.1 (λ z. omega arith));
      stamped = λ old j r l a b. o.stamps.least j r l (omega arith) b;
      windows = λ has. absurd (omega (arith, has_queue g has));
      finds = λ has. absurd (omega (arith, has_queue g has));
      clears = λ has. absurd (omega (arith, has_queue g has));
    }
