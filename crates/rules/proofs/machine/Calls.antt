-- One call of the machine by its tests: it is refused and changes nothing, or it begins an operation, or it is a step that goes by its
-- rule.
use mathlib.Core.Path.{◌≡◌, refl}
use mathlib.Core.Logic.{◌≢◌}
use Prim.Native.Nat.{ℕ, ◌≤◌, ◌<◌}
use native.Mathlib.Omega.{arith}
use lib.Dec.{leb, eqb}
use borrow.Author.Tests.{leb-true, leb-false, eqb-true, eqb-false}
use Rattle.laws.specs.Choice.{cases}
use Rattle.rules.specs.Answers.{no_such_worker, refusal_number}
use Rattle.rules.specs.Limits.{step_limit}
use Rattle.rules.specs.Worker.{fresh, idle_phase}
use Rattle.rules.specs.Step.{rule_of}
use Rattle.rules.proofs.Types.{Settings, Side, Window}
use Rattle.rules.specs.declared.Answer.TheVariants.{Moving}
use Rattle.rules.proofs.order.Law.{Next}
use Rattle.rules.proofs.machine.Machine.{State, next, sub_in, view_in, apply_in, step_in, with_slot, begin_in}
use Rattle.std.specs.Prelude.{Ok, Err}
use Rattle.rules.specs.declared.Refusal.TheVariants.{NoSuchWorker, StepsSpent, WorkerBusy, WorkerIdle}
use Rattle.rules.specs.declared.Refusal.{Refusal}

-- a call that may be made, with what is then made; or that is refused, and nothing changes
pub data Called (s : State) (Able : Type 0) (made o : Next State) : Type 0 where
  refuses : (n : Refusal) → no_such_worker ≤ refusal_number n → ¬ Able → o ≡ next (Err n) s → Called s Able made o
  does : Able → o ≡ made → Called s Able made o

-- a call that is able to is made
pub able_does : {s : State} {Able : Type 0} {made o : Next State} → Able → Called s Able made o → o ≡ made
able_does a (refuses n l unable e) = absurd (unable a)
able_does a (does b e) = e

-- worker i has begun
abbrev pub begun : Settings → State → ℕ → Side → ℕ → State
begun g s i side v = with_slot s i (fresh g v (sub_in s i) (Window side))

module _ (g : Settings) (s : State) (i : ℕ) where
  -- a step is made of a busy worker, and a begin of an idle one, while the step count has steps left
  pub record Steps : Type 0 where
    pub worker : i < g.workers
    pub busy : (s.slot i).number ≢ 0
    pub time : s.steps < step_limit

  pub record Begins : Type 0 where
    pub worker : i < g.workers
    pub idle : (s.slot i).number ≡ 0
    pub time : s.steps < step_limit

  pub step_called : Called s Steps (apply_in g s i (rule_of g (view_in g s i))) (step_in g s i)
  unfolding step_in
  step_called =
      cases Of (leb g.workers i) _ _ (λ a. refuses NoSuchWorker (omega arith) (λ able. omega (arith, able.worker, leb-true g.workers i a)) refl)
      (λ a. cases Of (eqb (s.slot i).number idle_phase) _ _ (λ b. refuses WorkerIdle (omega arith) (λ able. able.busy (eqb-true _ _ b)) refl)
      (λ b. cases Of (leb step_limit s.steps) _ _ (λ c. refuses StepsSpent (omega arith) (λ able. omega (arith, able.time, leb-true step_limit s.steps c)) refl)
      (λ c. does (record { worker = leb-false _ _ a; busy = eqb-false _ _ b; time = leb-false _ _ c }) refl)))
    where
      Of : Next State → Type 0
      Of o = Called s Steps (apply_in g s i (rule_of g (view_in g s i))) o

  pub begin_called : (side : Side) (v : ℕ) → Called s Begins (next (Ok Moving) (begun g s i side v)) (begin_in g s i side v)
  unfolding begin_in
  begin_called side v =
      cases Of (leb g.workers i) _ _ (λ a. refuses NoSuchWorker (omega arith) (λ able. omega (arith, able.worker, leb-true g.workers i a)) refl)
      (λ a. cases Of (eqb (s.slot i).number idle_phase) _ _
      (λ b. cases Of (leb step_limit s.steps) _ _ (λ c. refuses StepsSpent (omega arith) (λ able. omega (arith, able.time, leb-true step_limit s.steps c)) refl)
      (λ c. does (record { worker = leb-false _ _ a; idle = eqb-true _ _ b; time = leb-false _ _ c }) refl))
      (λ b. refuses WorkerBusy (omega arith) (λ able. eqb-false _ _ b able.idle) refl))
    where
      Of : Next State → Type 0
      Of o = Called s Begins (next (Ok Moving) (begun g s i side v)) o
