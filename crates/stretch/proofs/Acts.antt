-- What a call does to a queue: nothing, where it is refused; it begins an operation; it sets the size of the next window; it moves a worker on, which
-- leaves every operation open that was; or it gives a final answer, and its worker is idle.
use mathlib.Core.Path.{◌≡◌, refl, sym, ap, ◌∙◌}
use mathlib.Core.Logic.{◌≢◌, inl, inr}
use Prim.Native.Nat.{ℕ, ◌*◌, ◌<◌}
use native.Mathlib.Decide.{ℕ_discrete}
use native.Mathlib.Nat.{le_refl}
use native.Mathlib.Omega.{arith}
use Rattle.laws.specs.Choice.{cases}
use Rattle.rules.specs.Limits.{step_limit, windowed}
use Rattle.rules.specs.Answers.{number_of}
use Rattle.rules.specs.Worker.{phase_of, fresh, zero_slot}
use Rattle.rules.specs.Step.{rule_of}
use Rattle.rules.specs.Sequential.{putting, taking, Contents}
use Rattle.rules.specs.Run.{Call, begin_put, begin_take, step, set_size, Final}
use Rattle.stretch.specs.Stretch.{counted_call}
use Rattle.stretch.proofs.Types.{Settings, Size, Side, Putting, Taking, Idle, Window, Slot, Answered}
use Rattle.rules.specs.declared.Answer.TheVariants.{Moving}
use Rattle.rules.proofs.counts.Sums.{upd_same, upd_other}
use Rattle.rules.proofs.order.Law.{Next, refused, passes, opened, walks, tries, stays, loses, ends as ends-here, wins}
use Rattle.rules.proofs.machine.Machine.{State, next, sub_in, view_in, phase_in, apply_in, with_size, set_size_in, next_in, apply_other}
use Rattle.rules.proofs.machine.Phases.{status_of, idle_phase, window_phase}
use Rattle.rules.proofs.machine.Calls.{Called, refuses, does, able_does, Steps, Begins, step_called, begun, begin_called}
use Rattle.rules.proofs.machine.Good.{Good}
use Rattle.rules.proofs.machine.Turns.{Common, Turned}
use Rattle.rules.proofs.machine.Slots.{not_idle}
use Rattle.rules.proofs.machine.Ways.{Snap}
use Rattle.rules.proofs.queue.Inv.{Inv, puts_in}
use Rattle.rules.proofs.queue.Turn.{stepped}
use Rattle.rules.proofs.progress.Steps.{Result}
use Rattle.rules.proofs.progress.QueueLeft.{queue_left}
use Rattle.rules.proofs.progress.QueueResult.{open_put, put_in, Moved, Ended, QueueResult, moves, ends, result}
use Rattle.solo.proofs.QueueSteps.{queue_step}
use Rattle.solo.proofs.Law.{twice}
use Rattle.stretch.proofs.Owed.{OwesIn, most_owed, owes_most}
use Rattle.std.specs.Prelude.{Ok}

pub data Acts (g : Settings) (s : State) (c : Call) (o : Next State) : Type 0 where
  same : o.state ≡ s → Acts g s c o
  begins : (i : ℕ) (side : Side) (v : ℕ) → i < g.workers → phase_in g s i ≡ Idle → counted_call c o.answer ≡ 0 → o.state ≡ begun g s i side v → Acts g s c o
  sizes : (size : Size) → counted_call c o.answer ≡ 0 → o.state ≡ with_size s size → Acts g s c o
  goes : (i : ℕ) → i < g.workers → Moved g s i o.state → ((j : ℕ) → put_in g o.state j ≡ put_in g s j) → Acts g s c o
  answers : (i : ℕ) → c ≡ step i → i < g.workers → Final o.answer → phase_in g o.state i ≡ Idle
      → ((j : ℕ) → j ≢ i → put_in g o.state j ≡ put_in g s j) → Ended g s i o.state → Acts g s c o

-- ---- who has a put under way
abbrev slot_put : Settings → Slot → ℕ
slot_put g x = open_put (status_of x.value (phase_of g x))

pub put_begun : (g : Settings) (s : State) (i : ℕ) (side : Side) (v : ℕ) → put_in g (begun g s i side v) i ≡ open_put (status_of v (Window side))
put_begun g s i side v =
    ap (slot_put g) (upd_same s.slot i (fresh g v (sub_in s i) (Window side))) ∙ by side
  where
    by : (side : Side) → slot_put g (fresh g v (sub_in s i) (Window side)) ≡ open_put (status_of v (Window side))
    by Putting = rw (window_phase g Putting v (sub_in s i) zero_slot) refl
    by Taking = rw (window_phase g Taking v (sub_in s i) zero_slot) refl

pub put_begun_other : (g : Settings) (s : State) (i : ℕ) (side : Side) (v j : ℕ) → j ≢ i → put_in g (begun g s i side v) j ≡ put_in g s j
put_begun_other g s i side v j n =
    ap (slot_put g) (upd_other s.slot i (fresh g v (sub_in s i) (Window side)) j n)

pub put_idle : (g : Settings) (s : State) (i : ℕ) → phase_in g s i ≡ Idle → put_in g s i ≡ 0
put_idle g s i e = rw e refl

-- by demand 3's law a step that is not final leaves its worker's operation open
put_kept : {g : Settings} {s : State} {q : Contents} {i : ℕ} {o : Next State} → Turned g (Inv g) (Snap g puts_in) s q (step i) o → number_of o.answer ≡ 0
    → put_in g o.state i ≡ put_in g s i
put_kept (refused n e) moving = absurd (omega arith)
put_kept (passes no_step n kept h) moving = absurd (no_step _ refl)
put_kept (opened j (putting v) u n a b w h) moving = absurd (let z : ◌≡◌ {A = ℕ} 0 1 = cc in omega arith)
put_kept (opened j taking u n a b w h) moving = absurd (let z : ◌≡◌ {A = ℕ} 0 1 = cc in omega arith)
put_kept {i = i} (walks j op u n a b w h) moving = let e : i ≡ j = cc in rw e (ap open_put b ∙ sym (ap open_put a))
put_kept {i = i} (tries j op u n a b w h z) moving = let e : i ≡ j = cc in rw e (ap open_put b ∙ sym (ap open_put a))
put_kept {i = i} (stays j op u n a b w h z) moving = let e : i ≡ j = cc in rw e (ap open_put b ∙ sym (ap open_put a))
put_kept {i = i} (loses j op u n a b w h) moving = let e : i ≡ j = cc in rw e (ap open_put b ∙ sym (ap open_put a))
put_kept (ends-here j op u n a b w q' give h) moving = absurd (omega (arith, n.low))
put_kept (wins j op u n m a b w h z) moving = absurd (omega (arith, n.low))

module _ (g : Settings) (good : Good g) (kind : g.kind ≡ 0) (s : State) (q : Contents) (common : Common g s) (inv : Inv g s q) where
  -- ---- a step
  module _ (i : ℕ) where
    abbrev o : Next State
    o = apply_in g s i (rule_of g (view_in g s i))

    put_other : (j : ℕ) → j ≢ i → put_in g o.state j ≡ put_in g s j
    put_other j n = ap (slot_put g) (apply_other g s i (rule_of g (view_in g s i)) j n)

    -- a busy worker's step
    busy_result : (s.slot i).number ≢ 0 → QueueResult g (2 * g.width) s i (most_owed g (2 * g.width)) o
    busy_result busy = by (owes_most g good (2 * g.width) (twice g good kind) s q inv i)
      where
        by : OwesIn g (2 * g.width) s (most_owed g (2 * g.width)) i → QueueResult g (2 * g.width) s i (most_owed g (2 * g.width)) o
        by (inl r) = absurd (not_idle g good.bounds.kind1 (s.slot i) (common.slots i) busy r.idle)
        by (inr x) = queue_step g good kind (2 * g.width) (twice g good kind) s q inv (λ l. inl (le_refl _)) i (most_owed g (2 * g.width)) x

    -- is final, or answers 0 and is counted
    pub busy_step : i < g.workers → (s.slot i).number ≢ 0 → s.steps < step_limit
        → Result g (queue_left g (2 * g.width)) s i (most_owed g (2 * g.width)) (next_in g s (step i))
    unfolding next_in
    busy_step l busy time = rw (able_does (record { worker = l; busy = busy; time = time }) (step_called g s i)) (result (busy_result busy))

    by_result : Steps g s i → {n : ℕ} → QueueResult g (2 * g.width) s i n o → Acts g s (step i) o
    by_result able (moves x m) =
        let here : put_in g o.state i ≡ put_in g s i = put_kept ((stepped g good kind s q common inv i).turn able.time) x.answer in
        goes i able.worker m (λ j. elim (ℕ_discrete j i) [ yes e ↦ rw e here | no n ↦ put_other j n ])
    by_result able (ends f e m) = answers i refl able.worker f e put_other m

    by_step : {o' : Next State} → Called s (Steps g s i) o o' → Acts g s (step i) o'
    by_step (refuses n l unable e) = rw e (same refl)
    by_step (does able e) = rw e (by_result able (busy_result able.busy))

  -- ---- a begin
  by_begin : (c : Call) (i : ℕ) (side : Side) (v : ℕ) (o' : Next State) → counted_call c o'.answer ≡ 0
      → Called s (Begins g s i) (next (Ok Moving) (begun g s i side v)) o' → Acts g s c o'
  by_begin c i side v o' z (refuses n l unable e) = same (ap (λ (x : Next State). x.state) e)
  by_begin c i side v o' z (does able e) =
      begins i side v able.worker (idle_phase g (s.slot i) able.idle) z (ap (λ (x : Next State). x.state) e)

  -- ---- a size call
  by_size : (c : Call) (size : Size) → ((a : Answered) → counted_call c a ≡ 0) → Acts g s c (set_size_in g s size)
  unfolding set_size_in
  by_size c size z =
      cases (Acts g s c) (windowed g) _ _
      (λ a. cases (Acts g s c) _ _ _ (λ e. sizes size (z (Ok Moving)) refl) (λ e. same refl))
      (λ a. same refl)

  pub acts : (c : Call) → Acts g s c (next_in g s c)
  unfolding next_in
  acts (begin_put i v) = by_begin (begin_put i v) i Putting v _ refl (begin_called g s i Putting v)
  acts (begin_take i) = by_begin (begin_take i) i Taking 0 _ refl (begin_called g s i Taking 0)
  acts (step i) = by_step i (step_called g s i)
  acts (set_size width depth) = by_size (set_size width depth) (record { width = width; depth = depth }) (λ a. refl)
