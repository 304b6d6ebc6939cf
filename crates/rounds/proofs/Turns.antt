-- The dispatcher's turns, as its code's proofs take them: the first busy worker found by looking at one after the other, and a turn by what its
-- step answers.
use mathlib.Core.Path.{◌≡◌, refl, sym, ap, ◌∙◌, subst}
use mathlib.Core.Logic.{◌≢◌, ◌⊎◌, inl, inr}
use mathlib.Core.List.{List}
use Prim.Native.Nat.{ℕ, zero, suc, ◌+◌, ◌-◌, ◌<◌}
use native.Mathlib.Nat.{mod-lt, mod-eq_of_lt, mod_self}
use native.Mathlib.Decide.{dec_le, dec_lt}
use native.Mathlib.Omega.{arith}
use lib.ListN.{length, get_or}
use lib.Dec.{ltb, eqb}
use borrow.Author.Tests.{lt-leb, eq-eqb, ne_eqb, eqb-true, eqb-false}
use Rattle.laws.specs.Choice.{cond, cases, all}
use Rattle.rules.specs.Answers.{Out, refuse, number_of, refusal_number}
use Rattle.rules.specs.Layout.{head_words, worker_at, needed, settings_of}
use Rattle.rules.specs.Make.{in_edition}
use Rattle.rules.specs.Limits.{settings_fit}
use Rattle.rules.specs.Fit.{Checked, Unfit, Fit, body_fit, body_checked, head_checked, checked_by, checked_of}
use Rattle.rules.specs.Step.{fit_step, checked_step, step_of}
use Rattle.rounds.specs.Dispatch.{dispatched, worker_after, busy_from, turn_from, ended_by, after_step, turns_of, fit_dispatch, checked_dispatch, dispatch_of}
use Rattle.rounds.specs.DispatchSteps.{NamedFirst}
use Rattle.rules.specs.declared.Settings.{Settings}
use Rattle.rules.specs.declared.Dispatched.TheVariants.{NoneBusy, RanOut}
use Rattle.rules.proofs.Fitness.{fit_pool}
use Rattle.rules.proofs.Numbered.{number_high}
use Rattle.rules.proofs.words.Stays.{Standing, step_stays, step_busy, step_settings}
use Rattle.std.specs.Prelude.{Err, None, Ok, Option, Some}
use Rattle.rules.specs.declared.Refusal.{Refusal}

-- ---- whose turn it is
abbrev phase : List ℕ → Settings → ℕ → ℕ
phase ws g i = get_or ws (worker_at g i) 0

pub busy_here : (ws : List ℕ) (g : Settings) (i m : ℕ) → 0 < m → phase ws g i ≢ 0 → busy_from ws g i m ≡ Some i
unfolding busy_from cond
busy_here ws g i zero l n = absurd (omega arith)
busy_here ws g i (suc m) l n = rw (ne_eqb (phase ws g i) 0 n) refl

pub named_first : NamedFirst
named_first ws g i l n = busy_here ws g i g.workers (omega arith) n

module _ (ws : List ℕ) (g : Settings) where
  pub busy_next : (i m : ℕ) → 0 < m → phase ws g i ≡ 0 → busy_from ws g i m ≡ busy_from ws g (worker_after g i) (m - 1)
  unfolding busy_from cond
  busy_next i zero l e = absurd (omega arith)
  busy_next i (suc m) l e = let less : suc m - 1 ≡ m = omega arith in rw (less, eq-eqb (phase ws g i) 0 e) refl

  pub busy_none : (i m : ℕ) → m ≡ 0 → busy_from ws g i m ≡ None
  unfolding busy_from
  busy_none i zero e = refl
  busy_none i (suc m) e = absurd (omega arith)

  -- it is a worker of the pool's, and busy
  pub record HasTurn (j : ℕ) : Type 0 where
    pub among : j < g.workers
    pub busy : phase ws g j ≢ 0

  abbrev pub Found : Option ℕ → Type 0
  Found t = (j : ℕ) × (t ≡ Some j)

  worker_same : (i j : ℕ) → Some i ≡ Some j → i ≡ j
  worker_same i j e = cc

  nobody : (j : ℕ) → None ≡ Some j → ⊥
  nobody j e = let z : ◌≡◌ {A = ℕ} 0 1 = cc in omega arith

  has_turn_by : (m i j : ℕ) → i < g.workers → busy_from ws g i m ≡ Some j → HasTurn j
  unfolding busy_from
  has_turn_by zero i j l e = absurd (nobody j e)
  has_turn_by (suc m) i j l e =
      cases (λ (t : Option ℕ). t ≡ Some j → HasTurn j) (eqb (phase ws g i) 0) _ _
      (λ b f. has_turn_by m (worker_after g i) j (mod-lt _ (omega arith)) f)
      (λ b f. subst HasTurn (worker_same i j f) (record { among = l; busy = eqb-false _ _ b })) e

  pub has_turn : (i j : ℕ) → i < g.workers → turn_from ws g i ≡ Some j → HasTurn j
  has_turn i j l e = has_turn_by g.workers i j l e

  -- worker b is d workers on from i: at i + d, or there once the numbers have begun anew
  abbrev On : ℕ → ℕ → ℕ → Type 0
  On i b d = (i + d ≡ b) ⊎ (i + d ≡ b + g.workers)

  on_here : (i b : ℕ) → i < g.workers → On i b 0 → i ≡ b
  on_here i b l (inl e) = omega arith
  on_here i b l (inr e) = absurd (omega arith)

  on_next : (i b d : ℕ) → i < g.workers → b < g.workers → On i b (suc d) → On (worker_after g i) b d
  on_next i b d li lb there = by (dec_lt (i + 1) g.workers) there
    where
      by : Dec (i + 1 < g.workers) → On i b (suc d) → On (worker_after g i) b d
      by (yes k) (inl e) = let one : worker_after g i ≡ i + 1 = mod-eq_of_lt k in inl (omega arith)
      by (yes k) (inr e) = let one : worker_after g i ≡ i + 1 = mod-eq_of_lt k in inr (omega arith)
      by (no k) (inl e) = absurd (omega arith)
      by (no k) (inr e) =
          let last : i + 1 ≡ g.workers = omega arith in
          let first : worker_after g i ≡ 0 = rw last (mod_self g.workers) in
          inl (omega arith)

  -- a busy worker is found
  found : (m i b d : ℕ) → i < g.workers → b < g.workers → phase ws g b ≢ 0 → d < m → On i b d → Found (busy_from ws g i m)
  unfolding busy_from
  found zero i b d li lb busy l there = absurd (omega arith)
  found (suc m) i b zero li lb busy l there =
      cases Found (eqb (phase ws g i) 0) _ _
      (λ e. absurd (busy (subst (λ (x : ℕ). phase ws g x ≡ 0) (on_here i b li there) (eqb-true _ _ e))))
      (λ e. (i, refl))
  found (suc m) i b (suc d) li lb busy l there =
      cases Found (eqb (phase ws g i) 0) _ _
      (λ e. found m (worker_after g i) b d (mod-lt _ (omega arith)) lb busy (omega arith) (on_next i b d li lb there))
      (λ e. (i, refl))

  pub busy_found : (i b : ℕ) → i < g.workers → b < g.workers → phase ws g b ≢ 0 → Found (turn_from ws g i)
  busy_found i b li lb busy = elim (dec_le i b) [
    | yes l ↦ found g.workers i b (b - i) li lb busy (omega arith) (inl (omega arith))
    | no l ↦ found g.workers i b (b + g.workers - i) li lb busy (omega arith) (inr (omega arith))
  ]

  -- ---- one turn
  pub turns_none : (i k : ℕ) → turn_from ws g i ≡ None → turns_of ws g i k ≡ dispatched (Ok NoneBusy) ws
  unfolding turns_of
  turns_none i zero e = rw e refl
  turns_none i (suc k) e = rw e refl

  pub turns_out : (i j k : ℕ) → k ≡ 0 → turn_from ws g i ≡ Some j → turns_of ws g i k ≡ dispatched (Ok (RanOut i)) ws
  unfolding turns_of
  turns_out i j zero z e = rw e refl
  turns_out i j (suc k) z e = absurd (omega arith)

  -- a step that answers 0: the turns go on from the words that it leaves
  pub turns_on : (i j k : ℕ) → 0 < k → turn_from ws g i ≡ Some j → (o : Out) → step_of g.edition ws j ≡ o → number_of o.answer ≡ 0
      → turns_of ws g i k ≡ turns_of o.words g (worker_after g j) (k - 1)
  unfolding turns_of after_step cond
  turns_on i j zero l e o step z = absurd (omega arith)
  turns_on i j (suc k) l e o step z =
      let less : suc k - 1 ≡ k = omega arith in
      rw (less, e, step, eq-eqb (number_of o.answer) 0 z) refl

  -- any other ends them, and names its worker
  pub turns_end : (i j k : ℕ) → 0 < k → turn_from ws g i ≡ Some j → (o : Out) → step_of g.edition ws j ≡ o → number_of o.answer ≢ 0
      → turns_of ws g i k ≡ dispatched (ended_by j o.answer) o.words
  unfolding turns_of after_step cond
  turns_end i j zero l e o step n = absurd (omega arith)
  turns_end i j (suc k) l e o step n = rw (e, step, ne_eqb (number_of o.answer) 0 n) refl

  -- on a fit pool
  pub fit_step_law : checked_of g.edition ws ≡ Fit g → (j : ℕ) → step_of g.edition ws j ≡ fit_step ws g j
  unfolding step_of checked_step
  fit_step_law e j = rw e refl

  pub turn_stays : checked_of g.edition ws ≡ Fit g → (j : ℕ) → number_of (step_of g.edition ws j).answer ≡ 0
      → Standing g ws (step_of g.edition ws j).words → checked_of g.edition (step_of g.edition ws j).words ≡ Fit g
  turn_stays e j = rw (fit_step_law e j) (step_stays ws g e j)

  -- on an unfit one: it is refused
  pub unfit_step : (n : Refusal) (j : ℕ) → checked_of g.edition ws ≡ Unfit n → step_of g.edition ws j ≡ refuse n ws
  unfolding step_of checked_step
  unfit_step n j e = rw e refl

  pub turns_refused : (i j k : ℕ) (n : Refusal) → 0 < k → turn_from ws g i ≡ Some j → checked_of g.edition ws ≡ Unfit n → turns_of ws g i k ≡ dispatched (Err n) ws
  unfolding ended_by
  turns_refused i j k n some turn e = turns_end i j k some turn (refuse n ws) (unfit_step n j e) (λ z. omega (arith, number_high n))

  -- a step that answered 0 was on a fit one
  pub moved_fit : (j : ℕ) → settings_of ws ≡ g → number_of (step_of g.edition ws j).answer ≡ 0 → checked_of g.edition ws ≡ Fit g
  moved_fit j own z = by (checked_of g.edition ws) refl
    where
      by : (c : Checked) → checked_of g.edition ws ≡ c → checked_of g.edition ws ≡ Fit g
      by (Unfit n) e =
          let number : refusal_number n ≡ 0 = sym (ap (λ (o : Out). number_of o.answer) (unfit_step n j e)) ∙ z in
          absurd (omega (arith, number_high n))
      by (Fit h) e = e ∙ ap Fit (sym (fit_pool g.edition ws h e).settings ∙ own)

  -- and leaves its worker busy and the settings as they were, fit or not
  fit_busy : checked_of g.edition ws ≡ Fit g → (j : ℕ) → number_of (step_of g.edition ws j).answer ≡ 0 → phase (step_of g.edition ws j).words g j ≢ 0
  fit_busy e j = rw (fit_step_law e j) (step_busy ws g e j)

  fit_settings : checked_of g.edition ws ≡ Fit g → (j : ℕ) → number_of (step_of g.edition ws j).answer ≡ 0 → settings_of (step_of g.edition ws j).words ≡ g
  fit_settings e j = rw (fit_step_law e j) (step_settings ws g e j)

  pub turn_busy : (j : ℕ) → settings_of ws ≡ g → number_of (step_of g.edition ws j).answer ≡ 0 → phase (step_of g.edition ws j).words g j ≢ 0
  turn_busy j own z = fit_busy (moved_fit j own z) j z

  pub turn_settings : (j : ℕ) → settings_of ws ≡ g → number_of (step_of g.edition ws j).answer ≡ 0 → settings_of (step_of g.edition ws j).words ≡ g
  turn_settings j own z = fit_settings (moved_fit j own z) j z

  pub fit_turns : checked_of g.edition ws ≡ Fit g → (i steps : ℕ) → i < g.workers → dispatch_of g.edition ws i steps ≡ turns_of ws g i steps
  unfolding dispatch_of checked_dispatch fit_dispatch cond
  fit_turns e i steps l = rw (e, lt-leb g.workers i l) refl
