-- The phase that a worker's words hold, by its number: which one each number of the window phase, of the reads and of the commits stands for, and that
-- every other stands for a late one.
use Prim.Native.Nat.{ℕ}
use mathlib.Core.Bool.{false}
use mathlib.Core.Path.{◌≡◌, ◌∙◌}
use lib.Dec.{eqb}
use borrow.Author.Tests.{eq-eqb}
use Rattle.laws.specs.Choice.{cond, cases}
use Rattle.phases.specs.Late.{Late}
use Rattle.rules.specs.Worker.{window_phase, read_phase, commit_phase, number_for, seen_by, queue_phase, stack_phase, phase_of}
use Rattle.rules.specs.declared.Settings.{Settings}
use Rattle.rules.specs.declared.Slot.{Slot}
use Rattle.rules.specs.declared.Side.{Side}
use Rattle.rules.specs.declared.Side.TheVariants.{Putting, Taking}
use Rattle.rules.specs.declared.Phase.{Phase}
use Rattle.rules.specs.declared.Phase.TheVariants.{Window, QueuePutRead, QueueTakeRead, StackRead, QueueCommit, StackCommit}
use Rattle.step.proofs.Seen.{of_phase}

module _ (g : Settings) (s : Slot) where
  of_a_queue : g.kind ≡ 0 → phase_of g s ≡ queue_phase g s
  unfolding phase_of cond
  of_a_queue k = simp (eq-eqb _ _ k)

  of_a_stack : eqb g.kind 0 ≡ false → phase_of g s ≡ stack_phase s
  unfolding phase_of cond
  of_a_stack k = simp k

  pub window_is : (side : Side) → s.number ≡ number_for side window_phase → phase_of g s ≡ Window side
  unfolding phase_of queue_phase stack_phase cond
  window_is Putting e = cases (λ (p : Phase). p ≡ Window Putting) (eqb g.kind 0) (queue_phase g s) (stack_phase s) (λ k. simp e) (λ k. simp e)
  window_is Taking e = cases (λ (p : Phase). p ≡ Window Taking) (eqb g.kind 0) (queue_phase g s) (stack_phase s) (λ k. simp e) (λ k. simp e)

  pub put_read_is : g.kind ≡ 0 → s.number ≡ number_for Putting read_phase → phase_of g s ≡ QueuePutRead (seen_by g s) s.scan
  unfolding queue_phase cond
  put_read_is k e = of_a_queue k ∙ simp e

  pub take_read_is : g.kind ≡ 0 → s.number ≡ number_for Taking read_phase → phase_of g s ≡ QueueTakeRead (seen_by g s) s.extra s.scan s.sum
  unfolding queue_phase cond
  take_read_is k e = of_a_queue k ∙ simp e

  pub stack_read_is : eqb g.kind 0 ≡ false → (side : Side) → s.number ≡ number_for side read_phase → phase_of g s ≡ StackRead side s.window (record { 0 = s.extra }) s.scan s.sum
  unfolding stack_phase cond
  stack_read_is k Putting e = of_a_stack k ∙ simp e
  stack_read_is k Taking e = of_a_stack k ∙ simp e

  pub queue_commit_is : g.kind ≡ 0 → (side : Side) → s.number ≡ number_for side commit_phase → phase_of g s ≡ QueueCommit side (seen_by g s) s.seen
  unfolding queue_phase cond
  queue_commit_is k Putting e = of_a_queue k ∙ simp e
  queue_commit_is k Taking e = of_a_queue k ∙ simp e

  pub stack_commit_is : eqb g.kind 0 ≡ false → (side : Side) → s.number ≡ number_for side commit_phase → phase_of g s ≡ StackCommit side (record { 0 = s.seen })
  unfolding stack_phase cond
  stack_commit_is k Putting e = of_a_stack k ∙ simp e
  stack_commit_is k Taking e = of_a_stack k ∙ simp e

  neither_side : (x phase : ℕ) → x ≡ s.number → (x ≡ number_for Putting phase → ⊥) × (x ≡ number_for Taking phase → ⊥) → (side : Side) → s.number ≡ number_for side phase → ⊥
  neither_side x phase n none Putting e = none.0 (n ∙ e)
  neither_side x phase n none Taking e = none.1 (n ∙ e)

  -- any other
  pub late_is : (x : ℕ)
      → x ≡ s.number
      → (x ≡ number_for Putting window_phase → ⊥) × (x ≡ number_for Taking window_phase → ⊥)
      → (x ≡ number_for Putting read_phase → ⊥) × (x ≡ number_for Taking read_phase → ⊥)
      → (x ≡ number_for Putting commit_phase → ⊥) × (x ≡ number_for Taking commit_phase → ⊥)
      → Late (phase_of g s)
  late_is x n look read commit =
      of_phase Late g s
      (λ queue. record { window = neither_side x window_phase n look; put_read = neither_side x read_phase n read Putting; take_read = neither_side x read_phase n read Taking; commit = neither_side x commit_phase n commit; shift = λ side. tt; confirm = λ e. tt; idle = tt })
      (record { window = neither_side x window_phase n look; read = neither_side x read_phase n read; check = λ side. tt; commit = neither_side x commit_phase n commit; shift = λ side. tt; confirm = λ side. tt; idle = tt })
