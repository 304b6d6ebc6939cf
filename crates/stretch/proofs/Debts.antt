-- What a call does to the debts of a queue's workers: a final answer, or a counted step has paid one, no debt has grown, and who is idle was
-- idle and owes as before. A begin's worker owes what it did: while idle it owed what the operation has left.
use mathlib.Core.Path.{◌≡◌, refl, sym, ap, ◌∙◌, subst}
use mathlib.Core.Logic.{◌≢◌, inl, inr}
use Prim.Native.Nat.{ℕ, ◌+◌, ◌-◌, ◌≤◌, ◌<◌}
use native.Mathlib.Nat.{le_refl}
use native.Mathlib.Decide.{ℕ_discrete}
use native.Mathlib.Omega.{arith}
use lib.Dec.{leb}
use borrow.Author.Tests.{leb-true}
use Rattle.laws.specs.Choice.{cases}
use Rattle.rules.specs.Answers.{number_of}
use Rattle.rules.specs.Limits.{windowed}
use Rattle.rules.specs.Worker.{phase_of}
use Rattle.rules.specs.Step.{rule_of}
use Rattle.rules.specs.Sequential.{Contents}
use Rattle.rules.specs.Run.{Call, begin_put, begin_take, step, set_size, Final}
use Rattle.stretch.specs.Stretch.{counted_call}
use Rattle.stretch.proofs.Types.{Settings, Size, Side, Putting, Taking, Idle, Slot, Answered}
use Rattle.rules.specs.declared.Answer.TheVariants.{Moving}
use Rattle.rules.proofs.counts.Sums.{upd, upd_same, upd_other, upd_all, sum_n, sum_bump}
use Rattle.rules.proofs.order.Law.{Next}
use Rattle.rules.proofs.machine.Machine.{State, next, sub_in, view_in, phase_in, apply_in, with_size, set_size_in, next_in, apply_other}
use Rattle.rules.proofs.machine.Phases.{idle_phase}
use Rattle.rules.proofs.machine.Calls.{Called, refuses, does, Steps, Begins, step_called, begun, begin_called}
use Rattle.rules.proofs.machine.Good.{Good}
use Rattle.rules.proofs.machine.Turns.{Common}
use Rattle.rules.proofs.machine.Slots.{not_idle}
use Rattle.rules.proofs.queue.Inv.{Inv}
use Rattle.rules.proofs.progress.Steps.{Goes}
use Rattle.rules.proofs.progress.QueueLeft.{NextReady, queue_left}
use Rattle.rules.proofs.progress.QueueResult.{Moved, QueueResult, moves, ends}
use Rattle.solo.proofs.QueueSteps.{queue_step}
use Rattle.stretch.proofs.Owed.{Owes, OwesIn, Debts, begun_owes, begun_others}
use Rattle.stretch.proofs.Kept.{owes_kept}
use Rattle.std.specs.Prelude.{Ok, Err}

counted_le : (i : ℕ) (a : Answered) → counted_call (step i) a ≤ 1
counted_le i a = cases (λ (n : ℕ). n ≤ 1) (leb (number_of a) 4) 1 0 (λ e. omega arith) (λ e. omega arith)

counted_none : (i : ℕ) (a : Answered) → 4 < number_of a → counted_call (step i) a ≡ 0
counted_none i a l = cases (λ (n : ℕ). n ≡ 0) (leb (number_of a) 4) 1 0 (λ e. absurd (omega (arith, leb-true (number_of a) 4 e))) (λ e. refl)

-- ---- the debts after a call
module _ (g : Settings) (L : ℕ) (s : State) (debt : ℕ → ℕ) (c : Call) (o : Next State) where
  pub record Pays : Type 0 where
    pub after : ℕ → ℕ
    pub owed : Debts g L o.state after
    pub less : (i : ℕ) → after i ≤ debt i
    pub idle : (i : ℕ) → phase_in g o.state i ≡ Idle → (phase_in g s i ≡ Idle) × (after i ≡ debt i)
    pub paid : counted_call c o.answer + sum_n after g.workers ≤ sum_n debt g.workers

  pub data Account : Type 0 where
    pays : Pays → Account
    answers : (i : ℕ) → c ≡ step i → i < g.workers → Final o.answer → phase_in g o.state i ≡ Idle → Account

module _ (g : Settings) (good : Good g) (kind : g.kind ≡ 0) (L : ℕ) (enough : g.width < L) (s : State) (q : Contents) (common : Common g s) (inv : Inv g s q)
    (ready : NextReady g L s) (debt : ℕ → ℕ) (owed : Debts g L s debt) where
  unchanged : (c : Call) (o : Next State) → o.state ≡ s → counted_call c o.answer ≡ 0 → Account g L s debt c o
  unchanged c o e z = pays (record { after = debt; owed = rw e owed; less = λ j. le_refl _; idle = λ j u. (rw e at u, refl); paid = omega arith })

  -- ---- a begin
  module _ (i : ℕ) (side : Side) (v : ℕ) (idle : (s.slot i).number ≡ 0) where
    opens : OwesIn g L s (debt i) i → OwesIn g L (begun g s i side v) (debt i) i
    opens (inl r) = begun_owes g L s (debt i) i side v r.take r.put
    opens (inr x) = absurd (subst (queue_left g L s (debt i) (sub_in s i)) (idle_phase g (s.slot i) idle) x)

    begun_debts : i < g.workers → Debts g L (begun g s i side v) debt
    begun_debts l j m = elim (ℕ_discrete j i) [
      | yes e ↦ rw e (opens (owed i l))
      | no n ↦ begun_others g L s (debt j) i side v j n (owed j m)
    ]

    was_idle : (j : ℕ) → phase_in g (begun g s i side v) j ≡ Idle → phase_in g s j ≡ Idle
    was_idle j u = elim (ℕ_discrete j i) [
      | yes e ↦ rw e (idle_phase g (s.slot i) idle)
      | no n ↦ ap (λ (x : Slot). phase_of g x) (sym (upd_other s.slot i _ j n)) ∙ u
    ]

  by_begin : (c : Call) (i : ℕ) (side : Side) (v : ℕ) (o : Next State) → counted_call c o.answer ≡ 0
      → Called s (Begins g s i) (next (Ok Moving) (begun g s i side v)) o → Account g L s debt c o
  by_begin c i side v o z (refuses n l unable e) = unchanged c o (ap (λ (x : Next State). x.state) e) z
  by_begin c i side v o z (does able e) =
      let now : o.state ≡ begun g s i side v = ap (λ (x : Next State). x.state) e in
      pays (record {
        after = debt;
        owed = rw now (begun_debts i side v able.idle able.worker);
        less = λ j. le_refl _;
        idle = λ j u. (was_idle i side v able.idle j (rw now at u), refl);
        paid = omega arith;
      })

  -- ---- a size call: what is owed is told by the windows, the subs and the slots
  resized : (size : Size) → Debts g L (with_size s size) debt
  resized size = owed

  by_size : (c : Call) (size : Size) → ((a : Answered) → counted_call c a ≡ 0) → Account g L s debt c (set_size_in g s size)
  unfolding set_size_in
  by_size c size z =
      cases (Account g L s debt c) (windowed g) _ _
      (λ a. cases (Account g L s debt c) _ _ _
      (λ e. pays (record { after = debt; owed = resized size; less = λ j. le_refl _; idle = λ j u. (u, refl); paid = omega (arith, z (Ok Moving)) }))
      (λ e. unchanged c _ refl (z _)))
      (λ a. unchanged c _ refl (z _))

  -- ---- a step
  module _ (i : ℕ) (l : i < g.workers) where
    abbrev o : Next State
    o = apply_in g s i (rule_of g (view_in g s i))

    slot_other : (j : ℕ) → j ≢ i → o.state.slot j ≡ s.slot j
    slot_other j n = apply_other g s i (rule_of g (view_in g s i)) j n

    abbrev after : ℕ → ℕ
    after = upd debt i (debt i - 1)

    module _ (x : Goes g (queue_left g L) s i (debt i) o) (m : Moved g s i o.state) where
      less : (j : ℕ) → after j ≤ debt j
      less j = upd_all (λ k (n : ℕ). n ≤ debt k) debt i (debt i - 1) j (λ e. rw e (omega arith)) (λ n. le_refl _)

      total : sum_n debt g.workers ≡ sum_n after g.workers + 1
      total =
          sum_bump after debt g.workers i 1 l (λ j lj n. sym (upd_other debt i (debt i - 1) j n)) (omega (arith, upd_same debt i (debt i - 1), x.some))

      still_idle : (j : ℕ) → phase_in g o.state j ≡ Idle → (phase_in g s j ≡ Idle) × (after j ≡ debt j)
      still_idle j u = elim (ℕ_discrete j i) [
        | yes e ↦ absurd (subst (queue_left g L o.state (debt i - 1) (sub_in o.state i)) (rw e at u) x.left)
        | no n ↦ (ap (λ (y : Slot). phase_of g y) (sym (slot_other j n)) ∙ u, upd_other debt i (debt i - 1) j n)
      ]

      each : Debts g L o.state after
      each j lj = elim (ℕ_discrete j i) [
        | yes e ↦ rw (e, upd_same debt i (debt i - 1)) (inr x.left)
        | no n ↦
            rw (upd_other debt i (debt i - 1) j n)
            (subst (λ (y : Slot). Owes g L o.state (debt j) y.index (phase_of g y)) (sym (slot_other j n))
            (owes_kept g L s q inv ready (debt j) (sub_in s j) (phase_in g s j) i o.state m (owed j lj)))
      ]

    by_result : QueueResult g L s i (debt i) o → Account g L s debt (step i) o
    by_result (ends f e m) = answers i refl l f e
    by_result (moves x m) =
        pays (record { after = after; owed = each x m; less = less x m; idle = still_idle x m; paid = omega (arith, total x m, counted_le i o.answer) })

  by_step : (i : ℕ) {o' : Next State} → Called s (Steps g s i) (apply_in g s i (rule_of g (view_in g s i))) o' → Account g L s debt (step i) o'
  by_step i (refuses n l unable e) = rw e (unchanged (step i) (next (Err n) s) refl (counted_none i (Err n) (omega arith)))
  by_step i (does able e) = rw e (by (owed i able.worker))
    where
      by : OwesIn g L s (debt i) i → Account g L s debt (step i) (apply_in g s i (rule_of g (view_in g s i)))
      by (inl r) = absurd (not_idle g good.bounds.kind1 (s.slot i) (common.slots i) able.busy r.idle)
      by (inr x) = by_result i able.worker (queue_step g good kind L enough s q inv ready i (debt i) x)

  pub account : (c : Call) → Account g L s debt c (next_in g s c)
  unfolding next_in
  account (begin_put i v) = by_begin (begin_put i v) i Putting v _ refl (begin_called g s i Putting v)
  account (begin_take i) = by_begin (begin_take i) i Taking 0 _ refl (begin_called g s i Taking 0)
  account (step i) = by_step i (step_called g s i)
  account (set_size width depth) = by_size (set_size width depth) (record { width = width; depth = depth }) (λ a. refl)
