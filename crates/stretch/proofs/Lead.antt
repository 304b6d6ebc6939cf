-- On a queue from make some worker, the lead, owes no more than an operation that it has just begun: the one that gave the last final
-- answer, whatever it has done since, for its debt has not grown. Any other owes at most what a worker in any phase does (most_owed).
use mathlib.Core.Path.{◌≡◌}
use mathlib.Core.Logic.{inl}
use Prim.Native.Nat.{ℕ, ◌+◌, ◌≤◌, ◌<◌}
use native.Mathlib.Decide.{ℕ_discrete}
use native.Mathlib.Nat.{le_refl}
use native.Mathlib.Omega.{arith}
use Rattle.rules.specs.Sequential.{Contents}
use Rattle.rules.specs.Run.{Call}
use Rattle.stretch.proofs.Types.{Settings, Putting, Taking, Idle}
use Rattle.rules.proofs.counts.Sums.{upd, upd_same, upd_all}
use Rattle.rules.proofs.machine.Machine.{State, phase_in, with_size, next_in}
use Rattle.rules.proofs.machine.Calls.{begun}
use Rattle.rules.proofs.machine.Good.{Good}
use Rattle.rules.proofs.machine.Turns.{Common}
use Rattle.rules.proofs.queue.Inv.{Inv}
use Rattle.rules.proofs.progress.QueueLeft.{NextReady}
use Rattle.rules.proofs.progress.QueueResult.{put_in}
use Rattle.stretch.proofs.Owed.{OwesIn, Debts, most_owed, owes_most, begun_put_owes}
use Rattle.stretch.proofs.Acts.{Acts, acts, put_begun, put_begun_other, put_idle}
use Rattle.stretch.proofs.Debts.{Account, account}

pub record Lead (g : Settings) (L : ℕ) (s : State) : Type 0 where
  pub who : ℕ
  pub among : who < g.workers
  pub debt : ℕ
  pub small : debt ≤ g.width + 2 + L
  pub put_small : put_in g s who ≡ 1 → debt ≤ g.width + 4
  pub owes : OwesIn g L s debt who

-- the lead's debt, and the most for every other worker
abbrev pub lead_debts : (g : Settings) (L : ℕ) {s : State} → Lead g L s → ℕ → ℕ
lead_debts g L lead = upd (λ i. most_owed g L) lead.who lead.debt

module _ (g : Settings) (good : Good g) (L : ℕ) (enough : g.width < L) where
  pub all_owe : (s : State) (q : Contents) → Inv g s q → (lead : Lead g L s) → Debts g L s (lead_debts g L lead)
  all_owe s q inv lead i l =
      upd_all (λ j (n : ℕ). OwesIn g L s n j) (λ j. most_owed g L) lead.who lead.debt i
      (λ e. rw e lead.owes)
      (λ n. owes_most g good L enough s q inv i)

  pub idle_leads : (s : State) (i : ℕ) → i < g.workers → phase_in g s i ≡ Idle → Lead g L s
  idle_leads s i l e =
      record {
        who = i;
        among = l;
        debt = g.width + 2 + L;
        small = le_refl _;
        put_small = λ one. absurd (omega (arith, put_idle g s i e));
        owes = inl (record { idle = e; take = le_refl _; put = omega (arith, good.bounds.width1) });
      }

  -- a put that has just begun
  begun_leads : (s : State) (i v : ℕ) → i < g.workers → Lead g L (begun g s i Putting v)
  begun_leads s i v l =
      record {
        who = i;
        among = l;
        debt = g.width + 4;
        small = omega (arith, good.bounds.width1);
        put_small = λ one. le_refl _;
        owes = begun_put_owes g L s i v;
      }

  -- ---- after a call
  module _ (kind : g.kind ≡ 0) (s : State) (q : Contents) (common : Common g s) (inv : Inv g s q)
      (ready : NextReady g L s) (lead : Lead g L s) (c : Call) where
    abbrev t : State
    t = (next_in g s c).state

    -- it leads on, unless it begins a put; or the one that has answered leads
    leads_on : (put_in g t lead.who ≡ 1 → put_in g s lead.who ≡ 1) → Lead g L t
    leads_on was = by (account g good kind L enough s q common inv ready (lead_debts g L lead) (all_owe s q inv lead) c)
      where
        by : Account g L s (lead_debts g L lead) c (next_in g s c) → Lead g L t
        by (Account.answers i u l f e) = idle_leads t i l e
        by (Account.pays x) =
            let less : x.after lead.who ≤ lead.debt =
            omega (arith, x.less lead.who, upd_same (λ (i : ℕ). most_owed g L) lead.who lead.debt) in
            record {
              who = lead.who;
              among = lead.among;
              debt = x.after lead.who;
              small = omega (arith, lead.small);
              put_small = λ one. omega (arith, lead.put_small (was one));
              owes = x.owed lead.who lead.among;
            }

    by_acts : Acts g s c (next_in g s c) → Lead g L t
    by_acts (Acts.same e) = rw e lead
    by_acts (Acts.begins i Putting v l e z u) = elim (ℕ_discrete lead.who i) [
      | yes y ↦ rw u (begun_leads s i v l)
      | no n ↦ leads_on (λ one. let before : put_in g (begun g s i Putting v) lead.who ≡ 1 = rw u at one in omega (arith, put_begun_other g s i Putting v lead.who n))
    ]
    by_acts (Acts.begins i Taking v l e z u) = elim (ℕ_discrete lead.who i) [
      | yes y ↦ leads_on (λ one. absurd (let now : put_in g (begun g s i Taking v) i ≡ 1 = rw (u, y) at one in omega (arith, put_begun g s i Taking v)))
      | no n ↦ leads_on (λ one. let before : put_in g (begun g s i Taking v) lead.who ≡ 1 = rw u at one in omega (arith, put_begun_other g s i Taking v lead.who n))
    ]
    by_acts (Acts.sizes size z u) = leads_on (λ one. let before : put_in g (with_size s size) lead.who ≡ 1 = rw u at one in before)
    by_acts (Acts.goes i l m keeps) = leads_on (λ one. omega (arith, keeps lead.who))
    by_acts (Acts.answers i w l f e keeps m) = idle_leads t i l e

    pub lead_next : Lead g L t
    lead_next = by_acts (acts g good kind s q common inv c)
