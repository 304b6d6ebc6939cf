-- The phase that a worker's words hold, case by case; and so what a step reads lies inside the windows that a rule goes by. A window that is live has a
-- sub; the one that a queue's worker has seen has its index, which fitness asks where its width is among the words, and else it is as wide as the pool.
use Prim.Native.Nat.{ℕ, ◌-◌, ◌≤◌, ◌<◌}
use mathlib.Core.Bool.{true}
use mathlib.Core.List.{List}
use mathlib.Core.Path.{◌≡◌, refl, subst}
use native.Mathlib.Omega.{arith}
use lib.Dec.{eqb}
use borrow.Author.Tests.{eqb-true, eq-eqb}
use Rattle.laws.specs.Choice.{cond, cases}
use Rattle.rules.specs.Limits.{windowed}
use Rattle.rules.specs.Windows.{size_of, span_of, has_windows, live_of, sizes_in, own_sizes, sizes_of}
use Rattle.rules.specs.Fit.{FitPool, past_window}
use Rattle.rules.specs.Worker.{window_phase, read_phase, check_phase, commit_phase, shift_phase, confirm_phase, number_for, seen_by, slot_at, queue_phase, stack_phase, phase_of}
use Rattle.rules.specs.declared.Settings.{Settings}
use Rattle.rules.specs.declared.Slot.{Slot}
use Rattle.rules.specs.declared.Sizes.{Sizes}
use Rattle.rules.specs.declared.Span.{Span}
use Rattle.rules.specs.declared.Side.{Side}
use Rattle.rules.specs.declared.Side.TheVariants.{Putting, Taking}
use Rattle.rules.specs.declared.Phase.{Phase}
use Rattle.rules.specs.declared.Phase.TheVariants.{Idle, Window, QueuePutRead, QueueTakeRead, StackRead, Check, QueueCommit, StackCommit, QueueShift, StackShift, QueueConfirm, StackConfirm}
use Rattle.phases.specs.Inside.{InWindow, Inside}
use Rattle.step_views.specs.Asked.{asked_by, asked}
use Rattle.step_views.specs.ByPhase.{Spanned, Ready, Loaded, view_in, view_by}

-- ---- the phases
-- what is so of the phase that has a number, and of those behind it
is : (P : Phase → Type 0) (s : Slot) (side : Side) (phase : ℕ) {p q : Phase}
    → (s.number ≡ number_for side phase → P p) → P q → P (cond (eqb s.number (number_for side phase)) p q)
is P s side phase {p} {q} f r = cases P (eqb s.number (number_for side phase)) p q (λ e. f (eqb-true _ _ e)) (λ e. r)

-- what is so of each phase that a queue's number stands for
pub record OfQueue (P : Phase → Type 0) (g : Settings) (s : Slot) : Type 0 where
  pub window : (side : Side) → s.number ≡ number_for side window_phase → P (Window side)
  pub put_read : s.number ≡ number_for Putting read_phase → P (QueuePutRead (seen_by g s) s.scan)
  pub take_read : s.number ≡ number_for Taking read_phase → P (QueueTakeRead (seen_by g s) s.extra s.scan s.sum)
  pub commit : (side : Side) → s.number ≡ number_for side commit_phase → P (QueueCommit side (seen_by g s) s.seen)
  pub shift : (side : Side) → P (QueueShift side (seen_by g s))
  pub confirm : s.number ≡ number_for Taking confirm_phase → P (QueueConfirm (seen_by g s) s.scan s.sum)
  pub idle : P Idle

queue_phase_law : (P : Phase → Type 0) (g : Settings) (s : Slot) → OfQueue P g s → P (queue_phase g s)
unfolding queue_phase
queue_phase_law P g s o =
    is P s Putting window_phase (o.window Putting)
    (is P s Putting read_phase o.put_read
    (is P s Putting commit_phase (o.commit Putting)
    (is P s Putting shift_phase (λ e. o.shift Putting)
    (is P s Taking window_phase (o.window Taking)
    (is P s Taking read_phase o.take_read
    (is P s Taking commit_phase (o.commit Taking)
    (is P s Taking shift_phase (λ e. o.shift Taking)
    (is P s Taking confirm_phase o.confirm o.idle))))))))

pub record OfStack (P : Phase → Type 0) (s : Slot) : Type 0 where
  pub window : (side : Side) → s.number ≡ number_for side window_phase → P (Window side)
  pub read : (side : Side) → s.number ≡ number_for side read_phase → P (StackRead side s.window (record { 0 = s.extra }) s.scan s.sum)
  pub check : (side : Side) → P (Check side (record { 0 = s.extra }) (record { 0 = s.seen }))
  pub commit : (side : Side) → s.number ≡ number_for side commit_phase → P (StackCommit side (record { 0 = s.seen }))
  pub shift : (side : Side) → P (StackShift side (record { 0 = s.extra }) s.scan s.sum)
  pub confirm : (side : Side) → P (StackConfirm side s.scan s.sum)
  pub idle : P Idle

stack_phase_law : (P : Phase → Type 0) (s : Slot) → OfStack P s → P (stack_phase s)
unfolding stack_phase
stack_phase_law P s o =
    is P s Putting window_phase (o.window Putting)
    (is P s Putting read_phase (o.read Putting)
    (is P s Putting check_phase (λ e. o.check Putting)
    (is P s Putting commit_phase (o.commit Putting)
    (is P s Putting shift_phase (λ e. o.shift Putting)
    (is P s Putting confirm_phase (λ e. o.confirm Putting)
    (is P s Taking window_phase (o.window Taking)
    (is P s Taking read_phase (o.read Taking)
    (is P s Taking check_phase (λ e. o.check Taking)
    (is P s Taking commit_phase (o.commit Taking)
    (is P s Taking shift_phase (λ e. o.shift Taking)
    (is P s Taking confirm_phase (λ e. o.confirm Taking) o.idle)))))))))))

pub of_phase : (P : Phase → Type 0) (g : Settings) (s : Slot) → (g.kind ≡ 0 → OfQueue P g s) → OfStack P s → P (phase_of g s)
unfolding phase_of
of_phase P g s q t = cases P (eqb g.kind 0) (queue_phase g s) (stack_phase s) (λ e. queue_phase_law P g s (q (eqb-true _ _ e))) (λ e. stack_phase_law P s t)

-- ---- the windows
put_wide : (ws : List ℕ) (g : Settings) → FitPool g ws → 1 ≤ (sizes_of ws g).put.width
unfolding sizes_of
put_wide ws g f =
    cases (λ (z : Sizes). 1 ≤ z.put.width) (has_windows g) (sizes_in ws g) (own_sizes g)
    (λ e. let w = f.windows e in (w.size (live_of ws g - 1) (omega (arith, w.live1))).width1)
    (λ e. f.bounds.width1)

take_wide : (ws : List ℕ) (g : Settings) → FitPool g ws → 1 ≤ (sizes_of ws g).take.width
unfolding sizes_of
take_wide ws g f =
    cases (λ (z : Sizes). 1 ≤ z.take.width) (has_windows g) (sizes_in ws g) (own_sizes g)
    (λ e. let w = f.windows e in (w.size 0 (omega (arith, w.live1))).width1)
    (λ e. f.bounds.width1)

seen_wide : (g : Settings) (s : Slot) → g.kind ≡ 0 → s.index < g.width → Spanned g s → past_window s.number ≡ true → s.index < (seen_by g s).width
unfolding seen_by
seen_wide g s queue l span past =
    cases (λ (w : Span). s.index < w.width) (windowed g) (record { top = s.window; bottom = s.bottom; width = s.width }) (span_of s.window (size_of g))
    (λ e. let has : has_windows g ≡ true = rw (e, eq-eqb _ _ queue) refl in (span has past).index)
    (λ e. l)

-- the words of a worker that a step has loaded
pub loaded : (ws : List ℕ) (g : Settings) (at : ℕ) → Ready g ws at → Loaded g ws (slot_at g ws at)
unfolding slot_at
loaded ws g at r = record { fit = r.fit; index = r.index; span = r.span }

pub view_inside : (ws : List ℕ) (g : Settings) (s : Slot) → Loaded g ws s → Inside (asked (view_by ws g s))
unfolding cond
view_inside ws g s l = of_phase In g s of_queue of_stack
  where
    In : Phase → Type 0
    In p = InWindow (view_in ws s p (asked_by p (sizes_of ws g))) p

    look : (side : Side) → s.number ≡ number_for side window_phase → In (Window side)
    look Putting e = put_wide ws g l.fit
    look Taking e = take_wide ws g l.fit

    past : (x : ℕ) → s.number ≡ x → past_window x ≡ true → past_window s.number ≡ true
    past x e h = rw e h

    of_queue : g.kind ≡ 0 → OfQueue In g s
    of_queue queue =
        record {
          window = look;
          put_read = λ e. seen_wide g s queue l.index l.span (past _ e refl);
          take_read = λ e. seen_wide g s queue l.index l.span (past _ e refl);
          commit = λ side e. tt;
          shift = λ side. tt;
          confirm = λ e. seen_wide g s queue l.index l.span (past _ e refl);
          idle = tt;
        }

    of_stack : OfStack In s
    of_stack = record { window = look; read = λ side e. tt; check = λ side. tt; commit = λ side e. tt; shift = λ side. tt; confirm = λ side. tt; idle = tt }

-- and so in the phase that it is known to be
pub inside_as : (ws : List ℕ) (g : Settings) (s : Slot) → Loaded g ws s → (p : Phase) → phase_of g s ≡ p → InWindow (view_in ws s p (asked_by p (sizes_of ws g))) p
inside_as ws g s l p e = subst (λ (q : Phase). InWindow (view_in ws s q (asked_by q (sizes_of ws g))) q) e (view_inside ws g s l)
