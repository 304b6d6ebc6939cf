-- A stretch of a queue's run without a final answer has at most as many counted steps as its workers owe: each pays one.
use mathlib.Core.Path.{◌≡◌, ap, ◌∙◌}
use mathlib.Core.Logic.{◌⊎◌, inl, inr}
use mathlib.Core.List.{List, [], ◌∷◌}
use Prim.Native.Nat.{ℕ, suc, ◌+◌, ◌*◌, ◌≤◌}
use native.Mathlib.Nat.{le_refl}
use native.Mathlib.Omega.{arith}
use Rattle.rules.specs.Sequential.{Contents}
use Rattle.rules.specs.Run.{Call, step, Event, Final}
use Rattle.stretch.specs.Stretch.{counted_call, counted_steps, Finishes}
use Rattle.stretch.proofs.Types.{Settings}
use Rattle.rules.proofs.counts.Sums.{sum_n}
use Rattle.rules.proofs.machine.Machine.{State, next_in}
use Rattle.rules.proofs.Course.{At, settings_at, HoldsAt, next_at, moved_at, Course, none, calls, moves, after_call}
use Rattle.solo.proofs.Law.{twice}
use Rattle.stretch.proofs.Owed.{Debts}
use Rattle.stretch.proofs.Debts.{Account, pays, answers, account}
use Rattle.stretch.proofs.Over.{debts_over}
use Rattle.stretch.proofs.Past.{good_at, inv_at}

-- a final answer among the events, or at most so many counted steps
abbrev pub Bounded : ℕ → List Event → Type 0
Bounded most es = Finishes es ⊎ (counted_steps es ≤ most)

pub finishes_later : (e : Event) (es : List Event) → Finishes es → Finishes (e ∷ es)
finishes_later e es x =
    record {
      worker = x.worker;
      position = suc x.position;
      own = record { called = x.own.called; accepted = x.own.accepted };
      final = x.final;
    }

-- the first event is a final answer
pub finishes_here : (i : ℕ) (e : Event) (es : List Event) → e.call ≡ step i → Final e.answer → Finishes (e ∷ es)
finishes_here i e es u f = record { worker = i; position = 0; own = record { called = u; accepted = f.high }; final = f }

-- or it counts for so much
pub bounded_more : (n m : ℕ) (e : Event) (es : List Event) → counted_call e.call e.answer + m ≤ n → Bounded m es → Bounded n (e ∷ es)
unfolding counted_steps
bounded_more n m e es l (inl f) = inl (finishes_later e es f)
bounded_more n m e es l (inr k) = inr (omega arith)

pub bounded_none : (n : ℕ) → Bounded n []
unfolding counted_steps
bounded_none n = inr (omega arith)

-- one event more, from how the rest goes on
one_more : (g : Settings) (s : State) (debt : ℕ → ℕ) (c : Call) (e : Event) (es : List Event) → e.call ≡ c → e.answer ≡ (next_in g s c).answer
    → ((after : ℕ → ℕ) → Debts g (2 * g.width) (next_in g s c).state after → Bounded (sum_n after g.workers) es)
    → Account g (2 * g.width) s debt c (next_in g s c) → Bounded (sum_n debt g.workers) (e ∷ es)
one_more g s debt c e es u v rest (answers i w l f idle) = let f' : Final e.answer = rw v f in inl (finishes_here i e es (u ∙ w) f')
one_more g s debt c e es u v rest (pays x) = bounded_more _ (sum_n x.after g.workers) e es (rw (u, v) x.paid) (rest x.after x.owed)

module _ (g : Settings) (kind : g.kind ≡ 0) where
  pub bounded_by_debts : (x : At g) (q : Contents) → HoldsAt g x q → (debt : ℕ → ℕ) → Debts (settings_at g x) (2 * g.width) x.state debt → {es : List Event} → Course g x es
      → Bounded (sum_n debt g.workers) es
  bounded_by_debts x q h debt owed none = bounded_none _
  bounded_by_debts x q h debt owed (calls {e = e} {es = es} c u r) =
      let k = settings_at g x in
      let o = after_call g x q h c in
      one_more k x.state debt c e es (ap (λ (z : Event). z.call) u) (ap (λ (z : Event). z.answer) u)
      (λ after y. bounded_by_debts (next_at g x c).state o.list o.whole after y r)
      (account k (good_at g kind x) kind (2 * g.width) (twice k (good_at g kind x) kind) x.state q h.common (inv_at g kind x q h) (λ l. inl (le_refl _)) debt owed c)
  bounded_by_debts x q h debt owed (moves b fits m r) =
      bounded_by_debts (moved_at g x b fits) q (m.whole q h) debt (debts_over (settings_at g x) b x.state m.phase (2 * g.width) debt owed) r
