-- A rule's effect is the same on a view that has only the sizes that its phase asks for: no rule reads another.
use Prim.Native.Nat.{ℕ}
use mathlib.Core.List.{List}
use mathlib.Core.Path.{◌≡◌, refl, ap, sym, ◌∙◌}
use Rattle.rules.specs.Window.{window_rule}
use Rattle.rules.specs.Read.{miss_of, queue_put_read, queue_take_read, stack_read}
use Rattle.rules.specs.Check.{check_rule}
use Rattle.rules.specs.Commit.{commit_by, queue_put_commit, queue_take_commit, queue_commit, stack_commit}
use Rattle.rules.specs.Shift.{shift_by, queue_shift, stack_shift}
use Rattle.rules.specs.Confirm.{confirmed_of, confirm_by, queue_confirm, stack_confirm}
use Rattle.rules.specs.Step.{rule_by, rule_of}
use Rattle.rules.specs.Windows.{sizes_of}
use Rattle.rules.specs.Worker.{phase_of}
use Rattle.rules.specs.declared.Settings.{Settings}
use Rattle.rules.specs.declared.Side.TheVariants.{Putting, Taking}
use Rattle.rules.specs.declared.Phase.{Phase}
use Rattle.rules.specs.declared.Phase.TheVariants.{Idle, Window, QueuePutRead, QueueTakeRead, StackRead, Check, QueueCommit, StackCommit, QueueShift, StackShift, QueueConfirm, StackConfirm}
use Rattle.rules.specs.declared.Slot.{Slot}
use Rattle.rules.specs.declared.View.{View}
use Rattle.step_views.specs.Asked.{asked_by, with_sizes, asked}
use Rattle.step_views.specs.ByPhase.{view_in, view_by, effect_by}

by_phase : (g : Settings) (v : View) (p : Phase) → rule_by g (with_sizes (asked_by p v.sizes) v) p ≡ rule_by g v p
unfolding rule_by window_rule miss_of queue_put_read queue_take_read stack_read check_rule commit_by queue_put_commit queue_take_commit queue_commit stack_commit shift_by queue_shift stack_shift confirmed_of confirm_by queue_confirm stack_confirm
by_phase g v Idle = refl
by_phase g v (Window Putting) = refl
by_phase g v (Window Taking) = refl
by_phase g v (QueuePutRead window scan) = refl
by_phase g v (QueueTakeRead window bare scan sum) = refl
by_phase g v (StackRead Putting window version scan sum) = refl
by_phase g v (StackRead Taking window version scan sum) = refl
by_phase g v (Check side version seen) = refl
by_phase g v (QueueCommit Putting window seen) = refl
by_phase g v (QueueCommit Taking window seen) = refl
by_phase g v (StackCommit Putting seen) = refl
by_phase g v (StackCommit Taking seen) = refl
by_phase g v (QueueShift Putting window) = refl
by_phase g v (QueueShift Taking window) = refl
by_phase g v (StackShift Putting version scan sum) = refl
by_phase g v (StackShift Taking version scan sum) = refl
by_phase g v (QueueConfirm window scan sum) = refl
by_phase g v (StackConfirm side scan sum) = refl

pub rule_asked : (g : Settings) (v : View) → rule_of g (asked v) ≡ rule_of g v
unfolding rule_of
rule_asked g v = by_phase g v v.worker.phase

-- and so in the phase that the words are known to hold
pub effect_is : (ws : List ℕ) (g : Settings) (s : Slot) (p : Phase) → phase_of g s ≡ p → rule_by g (view_in ws s p (asked_by p (sizes_of ws g))) p ≡ effect_by ws g s
unfolding rule_of
effect_is ws g s p e = ap (λ (q : Phase). rule_by g (view_in ws s q (asked_by q (sizes_of ws g))) q) (sym e) ∙ by_phase g (view_by ws g s) (phase_of g s)
