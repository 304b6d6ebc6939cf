-- What a rule's effect may write. The window phase and the reads leave the shared words as they are, and only the commits put or take an item, or are lost.
-- A window moves on in the shift phase of a queue alone, and a put window only where there may be one more. So the words have a pair for it, and a take
-- window that goes has one to give up.
use Prim.Native.Nat.{ℕ, ◌<◌}
use mathlib.Core.Bool.{Bool, true, false}
use mathlib.Core.List.{List}
use mathlib.Core.Path.{◌≡◌, refl}
use lib.Dec.{leb, eqb}
use borrow.Author.Tests.{eq-eqb, eqb-true, ltb-true}
use Rattle.laws.specs.Choice.{cond, cases, both_true}
use Rattle.laws.specs.Wrap.{sub32}
use Rattle.rules.specs.Limits.{windowed, most_live}
use Rattle.rules.specs.Windows.{has_windows, live_of, sizes_of}
use Rattle.rules.specs.Answers.{out}
use Rattle.rules.specs.Apply.{put_worker, apply_by, apply_of}
use Rattle.rules.specs.Fit.{FitPool}
use Rattle.rules.specs.Worker.{window_phase, read_phase, commit_phase, number_for, slot_at, phase_of}
use Rattle.rules.specs.Effects.{queue_view, view_of, nothing_for}
use Rattle.rules.specs.Window.{window_rule}
use Rattle.rules.specs.Read.{miss_of, queue_put_read, queue_take_read, stack_read}
use Rattle.rules.specs.Check.{check_rule}
use Rattle.rules.specs.Commit.{commit_by, queue_put_commit, queue_take_commit, queue_commit, stack_commit}
use Rattle.rules.specs.Shift.{shift_by, new_top, may_rise, queue_shift, stack_shift}
use Rattle.rules.specs.Confirm.{confirmed_of, confirm_by, queue_confirm, stack_confirm}
use Rattle.rules.specs.Step.{rule_by, rule_of}
use Rattle.rules.specs.declared.Settings.{Settings}
use Rattle.rules.specs.declared.Slot.{Slot}
use Rattle.rules.specs.declared.Span.{Span}
use Rattle.rules.specs.declared.Side.{Side}
use Rattle.rules.specs.declared.Side.TheVariants.{Putting, Taking}
use Rattle.rules.specs.declared.Phase.{Phase}
use Rattle.rules.specs.declared.Phase.TheVariants.{Idle, Window, QueuePutRead, QueueTakeRead, StackRead, Check, QueueCommit, StackCommit, QueueShift, StackShift, QueueConfirm, StackConfirm}
use Rattle.rules.specs.declared.Version.{Version}
use Rattle.rules.specs.declared.View.{View}
use Rattle.rules.specs.declared.Effect.{Effect}
use Rattle.rules.specs.declared.Answer.TheVariants.{Moving as Answering}
use Rattle.rules.specs.declared.Outcome.{Outcome}
use Rattle.rules.specs.declared.Outcome.TheVariants.{Refused, Moving, Lost, Shifted, Raised, Dropped, Landed, Removed, Empty, Full}
use Rattle.phases.specs.Late.{Late}
use Rattle.step.specs.Allowed.{Allowed, Commits}
use Rattle.step_views.specs.ByPhase.{effect_by, rule_step}
use Rattle.step.proofs.Numbers.{window_is, put_read_is, take_read_is, stack_read_is, queue_commit_is, stack_commit_is}
use Rattle.step.proofs.Seen.{of_phase}
use Rattle.std.specs.Prelude.{Ok}

-- ---- the phases
-- a queue alone has a shift phase of this name
abbrev Shifts : Settings → Phase → Type 0
Shifts g Idle = Unit {0}
Shifts g (Window side) = Unit {0}
Shifts g (QueuePutRead window scan) = Unit {0}
Shifts g (QueueTakeRead window bare scan sum) = Unit {0}
Shifts g (StackRead side window version scan sum) = Unit {0}
Shifts g (Check side version seen) = Unit {0}
Shifts g (QueueCommit side window seen) = Unit {0}
Shifts g (StackCommit side seen) = Unit {0}
Shifts g (QueueShift side window) = g.kind ≡ 0
Shifts g (StackShift side version scan sum) = Unit {0}
Shifts g (QueueConfirm window scan sum) = Unit {0}
Shifts g (StackConfirm side scan sum) = Unit {0}

in_queue : (g : Settings) (s : Slot) → Shifts g (phase_of g s)
in_queue g s =
    of_phase (Shifts g) g s
    (λ queue. record { window = λ side e. tt; put_read = λ e. tt; take_read = λ e. tt; commit = λ side e. tt; shift = λ side. queue; confirm = λ e. tt; idle = tt })
    (record { window = λ side e. tt; read = λ side e. tt; check = λ side. tt; commit = λ side e. tt; shift = λ side. tt; confirm = λ side. tt; idle = tt })

-- ---- the rules of the window phase and of the reads
module _ (g : Settings) (v : View) where
  abbrev Goes : Effect → Type 0
  Goes e = e.outcome ≡ Moving

  window_goes : (side : Side) → Goes (window_rule g v side)
  unfolding window_rule
  window_goes side = cases Goes _ _ _ (λ e. refl) (λ e. refl)

  miss_goes : (width scan : ℕ) (again after : Phase) (kept : Slot) → Goes (miss_of g width v scan again after kept)
  unfolding miss_of
  miss_goes width scan again after kept = cases Goes _ _ _ (λ e. refl) (λ e. refl)

  put_read_goes : (window : Span) (scan : ℕ) → Goes (queue_put_read g v window scan)
  unfolding queue_put_read
  put_read_goes window scan = cases Goes _ _ _ (λ e. refl) (λ e. miss_goes _ _ _ _ _)

  take_read_goes : (window : Span) (bare scan sum : ℕ) → Goes (queue_take_read g v window bare scan sum)
  unfolding queue_take_read
  take_read_goes window bare scan sum =
      cases Goes _ _ _ (λ e. miss_goes _ _ _ _ _) (λ e. cases Goes _ _ _ (λ e'. miss_goes _ _ _ _ _) (λ e'. refl))

  stack_read_goes : (side : Side) (window : ℕ) (version : Version) (scan sum : ℕ) → Goes (stack_read g v side window version scan sum)
  unfolding stack_read
  stack_read_goes side window version scan sum = cases Goes _ _ _ (λ e. refl) (λ e. miss_goes _ _ _ _ _)

  -- ---- of the commits
  abbrev Ends : Effect → Type 0
  Ends e = Commits e.outcome

  commit_by_ends : (side : Side) (matches able : Bool) (done : Effect) → Ends done → Ends (commit_by g v side matches able done)
  unfolding commit_by
  commit_by_ends side matches able done d = cases Ends _ _ _ (λ e. cases Ends _ _ _ (λ e'. d) (λ e'. tt)) (λ e. tt)

  queue_commit_ends : (side : Side) (window : Span) (seen : ℕ) → Ends (queue_commit g v side window seen)
  unfolding queue_commit queue_put_commit queue_take_commit
  queue_commit_ends Putting window seen = commit_by_ends Putting _ _ _ tt
  queue_commit_ends Taking window seen = commit_by_ends Taking _ _ _ tt

  stack_commit_ends : (side : Side) (seen : Version) → Ends (stack_commit g v side seen)
  unfolding stack_commit
  stack_commit_ends Putting seen = commit_by_ends Putting _ _ _ tt
  stack_commit_ends Taking seen = commit_by_ends Taking _ _ _ tt

-- ---- of the late phases
abbrev Moves : Settings → View → Outcome → Type 0
Moves g v (Refused n) = Unit {0}
Moves g v Moving = Unit {0}
Moves g v Lost = ⊥
Moves g v Shifted = Unit {0}
Moves g v Raised = (g.kind ≡ 0) × (may_rise g (queue_view v) ≡ true)
Moves g v Dropped = g.kind ≡ 0
Moves g v (Landed value row stamp) = ⊥
Moves g v (Removed row) = ⊥
Moves g v Empty = Unit {0}
Moves g v Full = Unit {0}

module _ (g : Settings) (v : View) where
  abbrev To : Effect → Type 0
  To e = Moves g v e.outcome

  nothing : (side : Side) → Moves g v (nothing_for side)
  nothing Putting = tt
  nothing Taking = tt

  check_moves : (side : Side) (version seen : Version) → To (check_rule g v side version seen)
  unfolding check_rule
  check_moves side version seen = cases To _ _ _ (λ e. tt) (λ e. tt)

  shift_by_moves : (side : Side) (same able : Bool) (moved stuck : Effect) → (able ≡ true → To moved) → To stuck → To (shift_by g v side same able moved stuck)
  unfolding shift_by
  shift_by_moves side same able moved stuck m s = cases To _ _ _ (λ e. cases To _ _ _ m (λ e'. s)) (λ e. tt)

  -- here one does
  queue_shift_moves : g.kind ≡ 0 → (side : Side) (window : Span) → To (queue_shift g v side window)
  unfolding queue_shift
  queue_shift_moves queue Putting window = shift_by_moves Putting _ _ _ _ (λ e. (queue, (both_true (leb (sub32 (new_top (queue_view v)) (queue_view v).take.bottom) g.rows) _ e).1)) tt
  queue_shift_moves queue Taking window = shift_by_moves Taking _ _ _ _ (λ e. queue) tt

  stack_shift_moves : (side : Side) (version : Version) (scan sum : ℕ) → To (stack_shift g v side version scan sum)
  unfolding stack_shift
  stack_shift_moves Putting version scan sum = shift_by_moves Putting _ _ _ _ (λ e. tt) tt
  stack_shift_moves Taking version scan sum = shift_by_moves Taking _ _ _ _ (λ e. tt) tt

  confirm_by_moves : (side : Side) (width scan left : ℕ) (again : Phase) (sure : Bool) → To (confirm_by g v side width scan left again sure)
  unfolding confirm_by confirmed_of
  confirm_by_moves side width scan left again sure = cases To _ _ _ (λ e. tt) (λ e. cases To _ _ _ (λ e'. nothing side) (λ e'. tt))

  rule_moves : (p : Phase) → Shifts g p → Late p → To (rule_by g v p)
  unfolding rule_by queue_confirm stack_confirm
  rule_moves Idle q l = tt
  rule_moves (Window side) q l = absurd l
  rule_moves (QueuePutRead window scan) q l = absurd l
  rule_moves (QueueTakeRead window bare scan sum) q l = absurd l
  rule_moves (StackRead side window version scan sum) q l = absurd l
  rule_moves (Check side version seen) q l = check_moves side version seen
  rule_moves (QueueCommit side window seen) q l = absurd l
  rule_moves (StackCommit side seen) q l = absurd l
  rule_moves (QueueShift side window) q l = queue_shift_moves q side window
  rule_moves (StackShift side version scan sum) q l = stack_shift_moves side version scan sum
  rule_moves (QueueConfirm window scan sum) q l = confirm_by_moves Taking _ _ _ _ _
  rule_moves (StackConfirm side scan sum) q l = confirm_by_moves side _ _ _ _ _

-- ---- the words
module _ (ws : List ℕ) (g : Settings) (at : ℕ) (f : FitPool g ws) where
  has : windowed g ≡ true → g.kind ≡ 0 → has_windows g ≡ true
  has e queue = rw (e, eq-eqb _ _ queue) refl

  free : g.kind ≡ 0 → may_rise g (queue_view (view_of ws g at)) ≡ true → windowed g ≡ true → live_of ws g < most_live
  unfolding view_of sizes_of cond
  free queue may e = ltb-true _ _ (rw (has e queue, e) at may)

  allowed_by : (o : Outcome) → Moves g (view_of ws g at) o → Allowed ws g o
  allowed_by (Refused n) m = tt
  allowed_by Moving m = tt
  allowed_by Lost m = absurd m
  allowed_by Shifted m = tt
  allowed_by Raised m = free m.0 m.1
  allowed_by Dropped m = λ e. (f.windows (has e m)).live1
  allowed_by (Landed value row stamp) m = absurd m
  allowed_by (Removed row) m = absurd m
  allowed_by Empty m = tt
  allowed_by Full m = tt

  pub rule_allowed : Late (phase_of g (slot_at g ws at)) → Allowed ws g (rule_of g (view_of ws g at)).outcome
  unfolding rule_of view_of
  rule_allowed late = allowed_by (rule_of g (view_of ws g at)).outcome (rule_moves g (view_of ws g at) (phase_of g (slot_at g ws at)) (in_queue g (slot_at g ws at)) late)

-- ---- by the number of the phase
module _ (ws : List ℕ) (g : Settings) (s : Slot) where
  -- a queue's or a stack's
  either_kind : (P : Type 0) → (g.kind ≡ 0 → P) → (eqb g.kind 0 ≡ false → P) → P
  either_kind P f h = by (eqb g.kind 0) refl
    where
      by : (b : Bool) → eqb g.kind 0 ≡ b → P
      by true e = f (eqb-true _ _ e)
      by false e = h e

  pub look_effect : (side : Side) → s.number ≡ number_for side window_phase → (effect_by ws g s).outcome ≡ Moving
  unfolding rule_of rule_by
  look_effect side e = rw (window_is g s side e) (window_goes g _ side)

  pub read_effect : (side : Side) → s.number ≡ number_for side read_phase → (effect_by ws g s).outcome ≡ Moving
  unfolding rule_of rule_by
  read_effect Putting e = either_kind _ (λ k. rw (put_read_is g s k e) (put_read_goes g _ _ _)) (λ k. rw (stack_read_is g s k Putting e) (stack_read_goes g _ Putting _ _ _ _))
  read_effect Taking e = either_kind _ (λ k. rw (take_read_is g s k e) (take_read_goes g _ _ _ _ _)) (λ k. rw (stack_read_is g s k Taking e) (stack_read_goes g _ Taking _ _ _ _))

  pub commit_effect : (side : Side) → s.number ≡ number_for side commit_phase → Commits (effect_by ws g s).outcome
  unfolding rule_of rule_by
  commit_effect side e = either_kind _ (λ k. rw (queue_commit_is g s k side e) (queue_commit_ends g _ side _ _)) (λ k. rw (stack_commit_is g s k side e) (stack_commit_ends g _ side _))

-- a step that moves the worker alone
pub moving_step : (ws : List ℕ) (g : Settings) (at : ℕ) → (effect_by ws g (slot_at g ws at)).outcome ≡ Moving → out (Ok Answering) (put_worker ws g at (effect_by ws g (slot_at g ws at))) ≡ rule_step ws g at
unfolding rule_step apply_of apply_by view_of slot_at
moving_step ws g at e = simp e
