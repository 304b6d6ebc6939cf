-- What a stack's rules do, by the outcome of their tests: the window's, a read's hit, miss and last miss, a check that finds the
-- window as it was, a shift up, a put and a take that land; and a begin of an idle worker.
use mathlib.Core.Path.{◌≡◌, refl, sym, ap, ◌∙◌, subst}
use mathlib.Core.Logic.{◌≢◌}
use mathlib.Core.Bool.{true, false}
use Prim.Native.Nat.{ℕ, ◌<◌}
use native.Mathlib.Omega.{arith}
use lib.Dec.{ltb, leb, eqb}
use Rattle.laws.specs.Choice.{cond}
use Rattle.laws.specs.Wrap.{add32, sub32}
use Rattle.rules.specs.Limits.{step_limit}
use Rattle.rules.specs.Worker.{zero_slot}
use Rattle.rules.specs.Effects.{moved_of, next_of, with_pass}
use Rattle.rules.specs.Window.{window_rule}
use Rattle.rules.specs.Read.{stack_hit, stack_read, miss_of}
use Rattle.rules.specs.Check.{check_rule}
use Rattle.rules.specs.Commit.{stack_commit, commit_by, landed_of, removed_of, row_above}
use Rattle.rules.specs.Shift.{stack_shift, shift_by, shifted_of}
use Rattle.rules.specs.Step.{rule_by, rule_of}
use Rattle.rules.specs.Run.{Call, begin_put, begin_take, step}
use Rattle.rules.specs.Spacers.{NoSpacer}
use Rattle.reached.proofs.Types.{Settings, Side, Putting, Taking, Phase, Idle, Window, QueuePutRead, QueueTakeRead, StackRead, Check, QueueCommit, StackCommit, QueueShift, StackShift, QueueConfirm, StackConfirm, Version}
use Rattle.rules.specs.declared.Answer.TheVariants.{Moving}
use Rattle.rules.specs.declared.Outcome.TheVariants.{Shifted}
use Rattle.rules.proofs.machine.Machine.{State, next, sub_in, view_in, phase_in, apply_in, next_in}
use Rattle.rules.proofs.machine.Calls.{able_does, step_called, begun, begin_called}
use Rattle.rules.proofs.machine.Phases.{idle_phase}
use Rattle.std.specs.Prelude.{Ok}

-- ---- a step of a busy worker is its phase's rule, applied
abbrev pub Busy : Phase → Type 0
Busy Idle = ⊥
Busy (Window side) = Unit {0}
Busy (QueuePutRead window scan) = Unit {0}
Busy (QueueTakeRead window bare scan sum) = Unit {0}
Busy (StackRead side window version scan sum) = Unit {0}
Busy (Check side version seen) = Unit {0}
Busy (QueueCommit side window seen) = Unit {0}
Busy (StackCommit side seen) = Unit {0}
Busy (QueueShift side window) = Unit {0}
Busy (StackShift side version scan sum) = Unit {0}
Busy (QueueConfirm window scan sum) = Unit {0}
Busy (StackConfirm side scan sum) = Unit {0}

-- a pass' sum after worker i's read
abbrev pub sum_after : State → ℕ → ℕ → ℕ
sum_after s i sum = add32 sum (s.second (sub_in s i))

-- a begin of a side; the values put are all 1
abbrev pub begins : ℕ → Side → Call
begins i Putting = begin_put i 1
begins i Taking = begin_take i

pub begins_no_spacer : (i : ℕ) (side : Side) → NoSpacer (begins i side)
begins_no_spacer i Putting = λ e. omega arith
begins_no_spacer i Taking = tt

abbrev pub value_begun : Side → ℕ
value_begun Putting = 1
value_begun Taking = 0

module _ (g : Settings) (s : State) (i : ℕ) where
  pub step_is : i < g.workers → s.steps < step_limit → (p : Phase) → phase_in g s i ≡ p → Busy p
      → next_in g s (step i) ≡ apply_in g s i (rule_by g (view_in g s i) p)
  unfolding next_in rule_of
  step_is l time p e busy =
      let awake : (s.slot i).number ≢ 0 = λ z. subst Busy (sym e ∙ idle_phase g (s.slot i) z) busy in
      able_does (record { worker = l; busy = awake; time = time }) (step_called g s i) ∙ ap (λ (x : Phase). apply_in g s i (rule_by g (view_in g s i) x)) e

  -- ---- a begin
  pub begin_is : (side : Side) → i < g.workers → s.steps < step_limit → (s.slot i).number ≡ 0
      → next_in g s (begins i side) ≡ next (Ok Moving) (begun g s i side (value_begun side))
  unfolding next_in
  begin_is Putting l time z = able_does (record { worker = l; idle = z; time = time }) (begin_called g s i Putting 1)
  begin_is Taking l time z = able_does (record { worker = l; idle = z; time = time }) (begin_called g s i Taking 0)

  -- ---- the rules
  pub window_rule_law : g.kind ≡ 1 → (side : Side)
      → rule_by g (view_in g s i) (Window side) ≡ moved_of g (view_in g s i) (sub_in s i) (StackRead side s.top (record { 0 = s.mark }) 0 0) zero_slot
  unfolding rule_by window_rule cond
  window_rule_law kind side = rw kind refl

  module _ (side : Side) (window : ℕ) (version : Version) (scan sum : ℕ) where
    pub hit_rule : stack_hit g (view_in g s i) side window ≡ true
        → rule_by g (view_in g s i) (StackRead side window version scan sum)
        ≡ moved_of g (view_in g s i) (sub_in s i) (Check side version (record { 0 = s.second (sub_in s i) })) (with_pass (s.slot i) version.0 scan (sum_after s i sum))
    unfolding rule_by stack_read cond
    hit_rule h = rw h refl

    pub miss_rule : stack_hit g (view_in g s i) side window ≡ false → ltb (add32 scan 1) g.width ≡ true
        → rule_by g (view_in g s i) (StackRead side window version scan sum)
        ≡ moved_of g (view_in g s i) (next_of g.width (sub_in s i)) (StackRead side window version (add32 scan 1) (sum_after s i sum)) (s.slot i)
    unfolding rule_by stack_read miss_of cond
    miss_rule h more = rw (h, more) refl

    pub last_rule : stack_hit g (view_in g s i) side window ≡ false → ltb (add32 scan 1) g.width ≡ false
        → rule_by g (view_in g s i) (StackRead side window version scan sum)
        ≡ moved_of g (view_in g s i) (next_of g.width (sub_in s i)) (StackShift side version 0 (sum_after s i sum)) (s.slot i)
    unfolding rule_by stack_read miss_of cond
    last_rule h more = rw (h, more) refl

  pub check_rule_law : (side : Side) (version seen : Version) → eqb s.mark version.0 ≡ true
      → rule_by g (view_in g s i) (Check side version seen) ≡ moved_of g (view_in g s i) (sub_in s i) (StackCommit side seen) (s.slot i)
  unfolding rule_by check_rule cond
  check_rule_law side version seen h = rw h refl

  pub shift_rule : (version : Version) (scan sum : ℕ) → eqb s.mark version.0 ≡ true → leb (add32 s.top g.shift) g.rows ≡ true
      → rule_by g (view_in g s i) (StackShift Putting version scan sum) ≡ shifted_of g (view_in g s i) Shifted Putting (add32 s.top g.shift) (add32 s.mark 1)
  unfolding rule_by stack_shift shift_by cond
  shift_rule version scan sum h able = rw (h, able) refl

  pub put_rule : (seen : Version) → eqb (s.second (sub_in s i)) seen.0 ≡ true → ltb (s.first (sub_in s i)) g.rows ≡ true
      → rule_by g (view_in g s i) (StackCommit Putting seen)
      ≡ landed_of g (view_in g s i) (add32 (s.first (sub_in s i)) 1) (add32 (s.second (sub_in s i)) 1) (row_above (s.first (sub_in s i)))
  unfolding rule_by stack_commit commit_by cond
  put_rule seen h room = rw (h, room) refl

  pub take_rule : (seen : Version) → eqb (s.second (sub_in s i)) seen.0 ≡ true → ltb 0 (s.first (sub_in s i)) ≡ true
      → rule_by g (view_in g s i) (StackCommit Taking seen)
      ≡ removed_of g (view_in g s i) (sub32 (s.first (sub_in s i)) 1) (add32 (s.second (sub_in s i)) 1) (record { 0 = s.first (sub_in s i) })
  unfolding rule_by stack_commit commit_by cond
  take_rule seen h some = rw (h, some) refl
