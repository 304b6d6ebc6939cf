-- A worker's slot and its phase: a slot that was written with a phase of the pool's kind is in that phase, whatever the words
-- are that the phase does not hold. So a proof speaks of phases, and a slot is opened only here.
use mathlib.Core.Path.{◌≡◌, refl, ap, ◌∙◌}
use mathlib.Core.Bool.{Bool, true, false}
use Prim.Native.Nat.{ℕ}
use native.Mathlib.Omega.{arith}
use lib.Dec.{eqb}
use borrow.Author.Tests.{eqb-true, eqb-false}
use Rattle.laws.specs.Choice.{cond, cond_false, cases}
use Rattle.rules.specs.Limits.{windowed}
use Rattle.rules.specs.Windows.{size_of, span_of}
use Rattle.rules.specs.Worker.{seen_by, kept, phase_of, queue_phase, stack_phase, encode, encode_phase}
use Rattle.rules.specs.Sequential.{Operation, putting, taking}
use Rattle.rules.proofs.Types.{Settings, Side, Putting, Taking, Phase, Idle, Window, QueuePutRead, QueueTakeRead, StackRead, Check, QueueCommit, StackCommit, QueueShift, StackShift, QueueConfirm, StackConfirm, Span, Worker, Slot}
use Rattle.rules.proofs.order.Law.{Status, idle, pending, tried}

abbrev pub worker : ℕ → ℕ → Phase → Worker
worker value index p = record { value = value; index = index; phase = p }

-- ---- what an operation is begun as, and how far a worker's is
abbrev pub operation_of : Side → ℕ → Operation
operation_of Putting v = putting v
operation_of Taking v = taking

-- a worker in confirm has tried its answer; any other that is not idle has not
abbrev pub status_of : ℕ → Phase → Status
status_of v Idle = idle
status_of v (Window side) = pending (operation_of side v)
status_of v (QueuePutRead window scan) = pending (putting v)
status_of v (QueueTakeRead window bare scan sum) = pending taking
status_of v (StackRead side window version scan sum) = pending (operation_of side v)
status_of v (Check side version seen) = pending (operation_of side v)
status_of v (QueueCommit side window seen) = pending (operation_of side v)
status_of v (StackCommit side seen) = pending (operation_of side v)
status_of v (QueueShift side window) = pending (operation_of side v)
status_of v (StackShift side version scan sum) = pending (operation_of side v)
status_of v (QueueConfirm window scan sum) = tried taking
status_of v (StackConfirm side scan sum) = tried (operation_of side v)

-- ---- the phases of a kind
-- a window that a worker's words tell: where they have its top alone, it has the pool's size
abbrev pub SpanTold : Settings → Span → Type 0
SpanTold g window = windowed g ≡ false → span_of window.top (size_of g) ≡ window

pub seen_told : (g : Settings) (o : Slot) → SpanTold g (seen_by g o)
unfolding seen_by cond
seen_told g o old = rw old refl

abbrev pub OfQueue : Settings → Phase → Type 0
OfQueue g Idle = Unit {0}
OfQueue g (Window side) = Unit {0}
OfQueue g (QueuePutRead window scan) = SpanTold g window
OfQueue g (QueueTakeRead window bare scan sum) = SpanTold g window
OfQueue g (StackRead side window version scan sum) = ⊥
OfQueue g (Check side version seen) = ⊥
OfQueue g (QueueCommit side window seen) = SpanTold g window
OfQueue g (StackCommit side seen) = ⊥
OfQueue g (QueueShift side window) = SpanTold g window
OfQueue g (StackShift side version scan sum) = ⊥
OfQueue g (QueueConfirm window scan sum) = SpanTold g window
OfQueue g (StackConfirm side scan sum) = ⊥

abbrev pub OfStack : Phase → Type 0
OfStack Idle = Unit {0}
OfStack (Window side) = Unit {0}
OfStack (QueuePutRead window scan) = ⊥
OfStack (QueueTakeRead window bare scan sum) = ⊥
OfStack (StackRead side window version scan sum) = Unit {0}
OfStack (Check side version seen) = Unit {0}
OfStack (QueueCommit side window seen) = ⊥
OfStack (StackCommit side seen) = Unit {0}
OfStack (QueueShift side window) = ⊥
OfStack (StackShift side version scan sum) = Unit {0}
OfStack (QueueConfirm window scan sum) = ⊥
OfStack (StackConfirm side scan sum) = Unit {0}

-- what is so of the window that a phase of a queue has seen
abbrev pub WindowIn : (Span → Type 0) → Phase → Type 0
WindowIn P Idle = Unit {0}
WindowIn P (Window side) = Unit {0}
WindowIn P (QueuePutRead window scan) = P window
WindowIn P (QueueTakeRead window bare scan sum) = P window
WindowIn P (StackRead side window version scan sum) = Unit {0}
WindowIn P (Check side version seen) = Unit {0}
WindowIn P (QueueCommit side window seen) = P window
WindowIn P (StackCommit side seen) = Unit {0}
WindowIn P (QueueShift side window) = P window
WindowIn P (StackShift side version scan sum) = Unit {0}
WindowIn P (QueueConfirm window scan sum) = P window
WindowIn P (StackConfirm side scan sum) = Unit {0}

-- ---- read back
-- a slot with the words of a window, where the edition has words for them
seen_back : (g : Settings) (window : Span) → SpanTold g window → (s : Slot)
    → s.window ≡ window.top → s.bottom ≡ kept g window.bottom → s.width ≡ kept g window.width → seen_by g s ≡ window
unfolding seen_by cond
seen_back g window told s a b c = go (windowed g) refl
  where
    go : (t : Bool) → windowed g ≡ t
        → cond t (record { top = s.window; bottom = s.bottom; width = s.width }) (span_of s.window (size_of g)) ≡ window
    go true e = let b' : s.bottom ≡ window.bottom = rw e at b in let c' : s.width ≡ window.width = rw e at c in λ u. record { top = a u; bottom = b' u; width = c' u }
    go false e = ap (λ (x : ℕ). span_of x (size_of g)) a ∙ told e

queue_back : (g : Settings) (p : Phase) → OfQueue g p → (v x : ℕ) (o : Slot) → queue_phase g (encode_phase g p v x o) ≡ p
unfolding queue_phase encode_phase cond
queue_back g Idle t v x o = refl
queue_back g (Window Putting) t v x o = refl
queue_back g (Window Taking) t v x o = refl
queue_back g (QueuePutRead window scan) t v x o = ap (λ (w : Span). QueuePutRead w scan) (seen_back g window t _ refl refl refl)
queue_back g (QueueTakeRead window bare scan sum) t v x o = ap (λ (w : Span). QueueTakeRead w bare scan sum) (seen_back g window t _ refl refl refl)
queue_back g (StackRead side window version scan sum) t v x o = absurd t
queue_back g (Check side version seen) t v x o = absurd t
queue_back g (QueueCommit Putting window seen) t v x o = ap (λ (w : Span). QueueCommit Putting w seen) (seen_back g window t _ refl refl refl)
queue_back g (QueueCommit Taking window seen) t v x o = ap (λ (w : Span). QueueCommit Taking w seen) (seen_back g window t _ refl refl refl)
queue_back g (StackCommit side seen) t v x o = absurd t
queue_back g (QueueShift Putting window) t v x o = ap (QueueShift Putting) (seen_back g window t _ refl refl refl)
queue_back g (QueueShift Taking window) t v x o = ap (QueueShift Taking) (seen_back g window t _ refl refl refl)
queue_back g (StackShift side version scan sum) t v x o = absurd t
queue_back g (QueueConfirm window scan sum) t v x o = ap (λ (w : Span). QueueConfirm w scan sum) (seen_back g window t _ refl refl refl)
queue_back g (StackConfirm side scan sum) t v x o = absurd t

stack_back : (g : Settings) (p : Phase) → OfStack p → (v x : ℕ) (o : Slot) → stack_phase (encode_phase g p v x o) ≡ p
unfolding stack_phase encode_phase cond
stack_back g Idle t v x o = refl
stack_back g (Window Putting) t v x o = refl
stack_back g (Window Taking) t v x o = refl
stack_back g (QueuePutRead window scan) t v x o = absurd t
stack_back g (QueueTakeRead window bare scan sum) t v x o = absurd t
stack_back g (StackRead Putting window version scan sum) t v x o = refl
stack_back g (StackRead Taking window version scan sum) t v x o = refl
stack_back g (Check Putting version seen) t v x o = refl
stack_back g (Check Taking version seen) t v x o = refl
stack_back g (QueueCommit side window seen) t v x o = absurd t
stack_back g (StackCommit Putting seen) t v x o = refl
stack_back g (StackCommit Taking seen) t v x o = refl
stack_back g (QueueShift side window) t v x o = absurd t
stack_back g (StackShift Putting version scan sum) t v x o = refl
stack_back g (StackShift Taking version scan sum) t v x o = refl
stack_back g (QueueConfirm window scan sum) t v x o = absurd t
stack_back g (StackConfirm Putting scan sum) t v x o = refl
stack_back g (StackConfirm Taking scan sum) t v x o = refl

pub queue_phase_law : (g : Settings) → g.kind ≡ 0 → (k : Worker) → OfQueue g k.phase → (o : Slot) → phase_of g (encode g k o) ≡ k.phase
unfolding encode phase_of
queue_phase_law g e k t o =
    cases (λ (p : Phase). p ≡ k.phase) (eqb g.kind 0) _ _ (λ y. queue_back g k.phase t k.value k.index o) (λ n. absurd (eqb-false _ _ n e))

pub stack_phase_law : (g : Settings) → g.kind ≡ 1 → (k : Worker) → OfStack k.phase → (o : Slot) → phase_of g (encode g k o) ≡ k.phase
unfolding encode phase_of
stack_phase_law g e k t o =
    cases (λ (p : Phase). p ≡ k.phase) (eqb g.kind 0) _ _ (λ y. absurd (omega (arith, eqb-true g.kind 0 y))) (λ n. stack_back g k.phase t k.value k.index o)

-- the scan that a phase holds, or else the slot's
abbrev pub scan_in : Phase → ℕ → ℕ
scan_in Idle d = d
scan_in (Window side) d = d
scan_in (QueuePutRead window scan) d = scan
scan_in (QueueTakeRead window bare scan sum) d = scan
scan_in (StackRead side window version scan sum) d = scan
scan_in (Check side version seen) d = d
scan_in (QueueCommit side window seen) d = d
scan_in (StackCommit side seen) d = d
scan_in (QueueShift side window) d = d
scan_in (StackShift side version scan sum) d = scan
scan_in (QueueConfirm window scan sum) d = scan
scan_in (StackConfirm side scan sum) d = scan

words_back : (g : Settings) (p : Phase) (v x : ℕ) (o : Slot)
    → ((encode_phase g p v x o).value ≡ v) × ((encode_phase g p v x o).index ≡ x) × ((encode_phase g p v x o).scan ≡ scan_in p o.scan)
unfolding encode_phase
words_back g Idle v x o = (refl, refl, refl)
words_back g (Window side) v x o = (refl, refl, refl)
words_back g (QueuePutRead window scan) v x o = (refl, refl, refl)
words_back g (QueueTakeRead window bare scan sum) v x o = (refl, refl, refl)
words_back g (StackRead side window version scan sum) v x o = (refl, refl, refl)
words_back g (Check side version seen) v x o = (refl, refl, refl)
words_back g (QueueCommit side window seen) v x o = (refl, refl, refl)
words_back g (StackCommit side seen) v x o = (refl, refl, refl)
words_back g (QueueShift side window) v x o = (refl, refl, refl)
words_back g (StackShift side version scan sum) v x o = (refl, refl, refl)
words_back g (QueueConfirm window scan sum) v x o = (refl, refl, refl)
words_back g (StackConfirm side scan sum) v x o = (refl, refl, refl)

pub encode_value : (g : Settings) (k : Worker) (o : Slot) → (encode g k o).value ≡ k.value
unfolding encode
encode_value g k o = (words_back g k.phase k.value k.index o).0

pub encode_index : (g : Settings) (k : Worker) (o : Slot) → (encode g k o).index ≡ k.index
unfolding encode
encode_index g k o = (words_back g k.phase k.value k.index o).1

pub encode_scan : (g : Settings) (k : Worker) (o : Slot) → (encode g k o).scan ≡ scan_in k.phase o.scan
unfolding encode
encode_scan g k o = (words_back g k.phase k.value k.index o).2

same_either : {A : Type 0} (b : Bool) (x : A) → cond b x x ≡ x
unfolding cond
same_either true x = refl
same_either false x = refl

-- a worker whose phase's number is 0 is idle
pub idle_phase : (g : Settings) (o : Slot) → o.number ≡ 0 → phase_of g o ≡ Idle
unfolding phase_of queue_phase stack_phase
idle_phase g o e = rw e (simp cond_false (same_either (eqb g.kind 0) Idle))

-- the phases that both kinds have
window_back : (g : Settings) (side : Side) (v x : ℕ) (o : Slot) → phase_of g (encode_phase g (Window side) v x o) ≡ Window side
unfolding phase_of queue_phase stack_phase encode_phase cond
window_back g Putting v x o = same_either (eqb g.kind 0) (Window Putting)
window_back g Taking v x o = same_either (eqb g.kind 0) (Window Taking)

pub window_phase : (g : Settings) (side : Side) (v x : ℕ) (o : Slot) → phase_of g (encode g (worker v x (Window side)) o) ≡ Window side
unfolding encode
window_phase g side v x o = window_back g side v x o
