-- From any state that a new queue comes to, more counted steps than a bound come upon a final answer, if the bound is enough with a put and
-- with none (Theorem has the figures).
--
-- Where a put is under way, either it is the lead (Lead), which then owes at most w + 4, or the two together owe at most 2w + 5 and 3w + 2,
-- that is w + 4 more than 4w + 3. Where none is, takes owe so much less that w + 4 is left for a put that begins (Calm).
use mathlib.Core.Path.{◌≡◌, refl}
use mathlib.Core.Logic.{◌⊎◌, inl, inr}
use mathlib.Core.List.{List}
use Prim.Native.Nat.{ℕ, zero, suc, ◌+◌, ◌-◌, ◌*◌, ◌≤◌, ◌<◌}
use native.Mathlib.Decide.{ℕ_discrete}
use native.Mathlib.Omega.{arith}
use Rattle.rules.specs.Sequential.{putting, taking, Contents}
use Rattle.rules.specs.Run.{Event}
use Rattle.stretch.specs.Stretch.{counted_steps, Finishes}
use Rattle.stretch.proofs.Types.{Settings}
use Rattle.rules.proofs.counts.Sums.{upd, upd_same, upd_other, upd_all, sum_n, sum_zero, sum_within, sum_swap, times_pred}
use Rattle.rules.proofs.order.Law.{Status, idle, pending, tried}
use Rattle.rules.proofs.machine.Machine.{State}
use Rattle.rules.proofs.machine.Good.{Good}
use Rattle.rules.proofs.machine.Turns.{status_in}
use Rattle.rules.proofs.queue.Inv.{Inv}
use Rattle.rules.proofs.Course.{At, settings_at, HoldsAt, Course}
use Rattle.rules.proofs.progress.QueueResult.{open_put, put_in, Filled}
use Rattle.solo.proofs.Law.{twice}
use Rattle.stretch.proofs.Owed.{OwesIn, Debts, most_owed, put_owes}
use Rattle.stretch.proofs.Bounded.{Bounded, bounded_by_debts}
use Rattle.stretch.proofs.Stocked.{PutOpen}
use Rattle.stretch.proofs.Lead.{Lead, lead_debts, all_owe}
use Rattle.stretch.proofs.Past.{once, good_at, inv_at, PastAt}
use Rattle.stretch.proofs.Calm.{calm_stretch}

-- ---- is a put under way?
put_or_none : (st : Status) → (open_put st ≡ 1) ⊎ (open_put st ≡ 0)
put_or_none idle = inr refl
put_or_none (pending (putting v)) = inl refl
put_or_none (pending taking) = inr refl
put_or_none (tried (putting v)) = inl refl
put_or_none (tried taking) = inr refl

abbrev NoneBelow : Settings → State → ℕ → Type 0
NoneBelow g s m = (i : ℕ) → i < m → put_in g s i ≡ 0

find_put : (g : Settings) (s : State) (m : ℕ) → m ≤ g.workers → PutOpen g s ⊎ NoneBelow g s m
find_put g s zero l = inr (λ i k. absurd (omega arith))
find_put g s (suc m) l = by (find_put g s m (omega arith)) (put_or_none (status_in g s m))
  where
    by : PutOpen g s ⊎ NoneBelow g s m → (put_in g s m ≡ 1) ⊎ (put_in g s m ≡ 0) → PutOpen g s ⊎ NoneBelow g s (suc m)
    by (inl x) y = inl x
    by (inr none) (inl one) = inl (record { who = m; among = l; putting = one })
    by (inr none) (inr zero-put) = inr (λ i k. elim (ℕ_discrete i m) [ yes e ↦ rw e zero-put | no ne ↦ none i (omega arith) ])

-- ---- all workers but one owe at most c
same_debts : (n c : ℕ) → sum_n (λ i. c) n ≤ n * c
same_debts n c = omega (arith, sum_within (λ i. c) (λ i. 0) n c (λ i l. omega arith), sum_zero n)

lead_sum : (n c who debt : ℕ) → who < n → debt ≤ c → sum_n (upd (λ i. c) who debt) n ≤ (n - 1) * c + debt
lead_sum n c who debt l d = omega (arith, sum_swap (λ i. c) n who debt l, same_debts n c, times_pred n c (omega arith))

-- the most that a worker owes, in the worst case and where the take window finds an item
abbrev pub owed_worst : Settings → ℕ
owed_worst g = most_owed g (2 * g.width)

abbrev pub owed_calm : Settings → ℕ
owed_calm g = most_owed g (g.width + 1)

-- ---- a bound that is enough where a put is under way or begins, and where none does
module _ (g₀ : Settings) (kind : g₀.kind ≡ 0) (x₀ : At g₀) (q : Contents) (holds : HoldsAt g₀ x₀ q) (past : PastAt g₀ kind x₀) {es : List Event} (course : Course g₀ x₀ es)
    (most : ℕ) (with_a_put : (g₀.workers - 1) * owed_worst g₀ + (g₀.width + 4) ≤ most) (with_none : (g₀.workers - 1) * owed_calm g₀ + (2 * g₀.width + 3) ≤ most)
    (many : most < counted_steps es) where
  -- the edition that it is in
  abbrev g : Settings
  g = settings_at g₀ x₀

  abbrev here : Good g
  here = good_at g₀ kind x₀

  width1 : 1 ≤ g.width
  width1 = here.bounds.width1

  abbrev s : State
  s = x₀.state

  abbrev lead : Lead g (2 * g.width) s
  lead = past.lead

  abbrev debt : ℕ → ℕ
  debt = lead_debts g (2 * g.width) lead

  inv : Inv g s q
  inv = inv_at g₀ kind x₀ q holds

  debt_sum : sum_n debt g.workers ≤ (g.workers - 1) * owed_worst g + lead.debt
  debt_sum = lead_sum g.workers (owed_worst g) lead.who lead.debt lead.among (omega (arith, lead.small, width1))

  owed : Debts g (2 * g.width) s debt
  owed = all_owe g here (2 * g.width) (twice g here kind) s q inv lead

  finish : (n : ℕ) → n ≤ most → Bounded n es → Finishes es
  finish n l (inl f) = f
  finish n l (inr k) = absurd (omega arith)

  -- ---- a put is under way
  put_debt : (x : PutOpen g s) → Debts g (2 * g.width) s (upd debt x.who (2 * g.width + 5))
  put_debt x i l =
      upd_all (λ j (m : ℕ). OwesIn g (2 * g.width) s m j) debt x.who (2 * g.width + 5) i
      (λ e. rw e (put_owes g here (2 * g.width) (twice g here kind) s q inv x.who x.putting))
      (λ n. owed i l)

  with_put : PutOpen g s → Finishes es
  with_put x = elim (ℕ_discrete x.who lead.who) [
    | yes e ↦
        let few : lead.debt ≤ g.width + 4 = lead.put_small (rw e at x.putting) in
        finish (sum_n debt g.workers) (omega (arith, debt_sum)) (bounded_by_debts g₀ kind x₀ q holds debt owed course)
    | no n ↦
        let there : debt x.who ≡ owed_worst g = upd_other (λ i. owed_worst g) lead.who lead.debt x.who n in
        finish (sum_n (upd debt x.who (2 * g.width + 5)) g.workers)
        (omega (arith, debt_sum, sum_swap debt g.workers x.who (2 * g.width + 5) x.among, lead.small))
        (bounded_by_debts g₀ kind x₀ q holds (upd debt x.who (2 * g.width + 5)) (put_debt x) course)
  ]

  -- ---- none is
  without_put : NoneBelow g s g.workers → Finishes es
  without_put none = by past.second
    where
      no_put : PutOpen g s → ⊥
      no_put x = omega (arith, none x.who x.among, x.putting)

      stock : Filled s ⊎ PutOpen g s → Filled s
      stock (inl y) = y
      stock (inr x) = absurd (no_put x)

      by : Lead g (g.width + 1) s ⊎ PutOpen g s → Finishes es
      by (inr x) = absurd (no_put x)
      by (inl second) =
          let calm_sum : sum_n (lead_debts g (g.width + 1) second) g.workers ≤ (g.workers - 1) * owed_calm g + second.debt =
          lead_sum g.workers (owed_calm g) second.who second.debt second.among (omega (arith, second.small, width1)) in
          finish most (omega arith)
          (calm_stretch g₀ kind x₀ q holds
          (record { no_put = none; stock = λ l. stock (past.stocked l) })
          debt (lead_debts g (g.width + 1) second) most
          (record {
            most = owed;
            least = all_owe g here (g.width + 1) (once g here kind) s q inv second;
            takes = omega (arith, calm_sum, second.small);
            spare = λ x l rests. elim (ℕ_discrete x lead.who) [
              | yes e ↦
                  let there : debt x ≡ lead.debt = rw e (upd_same (λ i. owed_worst g) lead.who lead.debt) in
                  omega (arith, debt_sum)
              | no n ↦
                  let there : debt x ≡ owed_worst g = upd_other (λ i. owed_worst g) lead.who lead.debt x n in
                  omega (arith, debt_sum, lead.small, width1)
            ];
          }) course)

  pub finishes_beyond : Finishes es
  finishes_beyond = by (find_put g s g.workers (omega arith))
    where
      by : PutOpen g s ⊎ NoneBelow g s g.workers → Finishes es
      by (inl x) = with_put x
      by (inr none) = without_put none
