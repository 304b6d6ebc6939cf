-- Where the count runs out, a dispatch from the worker named then goes on as one with a greater count would have: each turn so far answered 0 and left the
-- settings as they were, and the turns to come start from there. Where the last of them left the pool unfit, both are refused: the one at its next step,
-- the other at once.
use mathlib.Core.Path.{◌≡◌, refl, sym, ap, ◌∙◌, subst}
use mathlib.Core.Logic.{◌≢◌}
use mathlib.Core.Bool.{Bool}
use mathlib.Core.List.{List}
use Prim.Native.Nat.{ℕ, zero, suc, ◌+◌, ◌-◌, ◌≤◌, ◌<◌}
use native.Mathlib.Decide.{ℕ_discrete}
use native.Mathlib.Nat.{mod-lt, zero-add}
use native.Mathlib.Decide.{dec_lt}
use native.Mathlib.Omega.{arith}
use lib.Dec.{leb}
use borrow.Author.Tests.{le-leb}
use Rattle.laws.specs.Choice.{cond, cases}
use Rattle.rules.specs.Answers.{number_of, no_such_worker}
use Rattle.rules.specs.Layout.{settings_of}
use Rattle.rules.specs.Fit.{Checked, Unfit, Fit, checked_of}
use Rattle.rules.specs.Step.{step_of}
use Rattle.rounds.specs.Dispatch.{DispatchOut, dispatched, worker_after, turn_from, ended_by, turns_of, fit_dispatch, checked_dispatch, dispatch_of}
use Rattle.rounds.specs.DispatchSteps.{DispatchGoesOn}
use Rattle.rules.proofs.Fitness.{fit_pool, fit_head, fit_own}
use Rattle.rules.specs.declared.Settings.{Settings}
use Rattle.rules.specs.Answers.{Answered}
use Rattle.rounds.specs.Dispatch.{DispatchResult}
use Rattle.rules.specs.declared.Dispatched.TheVariants.{RanOut}
use Rattle.rounds.proofs.Turns.{Found, turns_none, turns_out, turns_on, turns_end, turns_refused, turn_settings, fit_turns}
use Rattle.rules.specs.declared.Refusal.TheVariants.{NoSuchWorker}
use Rattle.std.specs.Prelude.{Err, None, Option, Some, Ok}
use Rattle.rules.specs.declared.Refusal.{Refusal}

-- a result that is not "the count ran out"
abbrev Other : DispatchResult → Type 0
Other r = (next : ℕ) → r ≢ Ok (RanOut next)

ended_other : (j : ℕ) (a : Answered) → Other (ended_by j a)
unfolding ended_by
ended_other j (Ok a) next e = let z : ◌≡◌ {A = ℕ} 0 1 = cc in omega arith
ended_other j (Err n) next e = let z : ◌≡◌ {A = ℕ} 0 1 = cc in omega arith

module _ (g : Settings) where
  -- so far: the settings are the same, the worker is one of the pool's, it is someone's turn, and from there it goes on
  record On (ws : List ℕ) (i k : ℕ) (vs : List ℕ) (next : ℕ) : Type 0 where
    settings : settings_of vs ≡ g
    among : next < g.workers
    found : Found vs g (turn_from vs g next)
    more : (b : ℕ) → turns_of ws g i (k + b) ≡ turns_of vs g next b

  -- one turn more before it
  on_more : (ws : List ℕ) (i j k : ℕ) → turn_from ws g i ≡ Some j → number_of (step_of g.edition ws j).answer ≡ 0 → (vs : List ℕ) (next : ℕ)
      → On (step_of g.edition ws j).words (worker_after g j) k vs next → On ws i (suc k) vs next
  on_more ws i j k turn z vs next x =
      record {
        settings = x.settings;
        among = x.among;
        found = x.found;
        more = λ b.
            let first : suc k + b ≡ suc (k + b) = omega arith in
            let less : suc (k + b) - 1 ≡ k + b = omega arith in
            rw first ((rw less at (turns_on ws g i j (suc (k + b)) (omega arith) turn (step_of g.edition ws j) refl z)) ∙ x.more b);
      }

  turns_go_on : (k : ℕ) (ws : List ℕ) (i next : ℕ) → settings_of ws ≡ g → i < g.workers → (turns_of ws g i k).result ≡ Ok (RanOut next)
      → On ws i k (turns_of ws g i k).words next
  turns_go_on zero ws i next own l e = by (turn_from ws g i) refl
    where
      by : (t : Option ℕ) → turn_from ws g i ≡ t → On ws i 0 (turns_of ws g i 0).words next
      by None u =
          let none = ap (λ (o : DispatchOut). o.result) (turns_none ws g i 0 u) in
          let z : ◌≡◌ {A = ℕ} 0 1 = cc in
          absurd (omega arith)
      by (Some j) u =
          let out = turns_out ws g i j 0 refl u in
          let result = ap (λ (o : DispatchOut). o.result) out in
          let same : i ≡ next = cc in
          rw out (subst (On ws i 0 ws) same (record { settings = own; among = l; found = (j, u); more = λ b. rw (zero-add b) refl }))
  turns_go_on (suc k) ws i next own l e =
      by (turn_from ws g i) refl (λ j z. turns_go_on k (step_of g.edition ws j).words (worker_after g j) next (turn_settings ws g j own z) (mod-lt _ (omega arith)))
    where
      Rest : Type 0
      Rest =
          (j : ℕ) → number_of (step_of g.edition ws j).answer ≡ 0 → (turns_of (step_of g.edition ws j).words g (worker_after g j) k).result ≡ Ok (RanOut next)
          → On (step_of g.edition ws j).words (worker_after g j) k (turns_of (step_of g.edition ws j).words g (worker_after g j) k).words next

      by : (t : Option ℕ) → turn_from ws g i ≡ t → Rest → On ws i (suc k) (turns_of ws g i (suc k)).words next
      by None u rest =
          let none = ap (λ (o : DispatchOut). o.result) (turns_none ws g i (suc k) u) in
          let z : ◌≡◌ {A = ℕ} 0 1 = cc in
          absurd (omega arith)
      by (Some j) u rest = elim (ℕ_discrete (number_of (step_of g.edition ws j).answer) 0) [
        | yes z ↦
            let less : suc k - 1 ≡ k = omega arith in
            let come : turns_of ws g i (suc k) ≡ turns_of (step_of g.edition ws j).words g (worker_after g j) k =
            rw less at (turns_on ws g i j (suc k) (omega arith) u (step_of g.edition ws j) refl z) in
            rw come (on_more ws i j k u z _ next (rest j z (rw come at e)))
        | no n ↦
            let come = ap (λ (o : DispatchOut). o.result) (turns_end ws g i j (suc k) (omega arith) u (step_of g.edition ws j) refl n) in
            absurd (ended_other j (step_of g.edition ws j).answer next (sym come ∙ e))
      ]

-- ---- the call
-- a fit pool and a worker of its, or refused at once
module _ (ed : ℕ) (ws : List ℕ) (i steps next : ℕ) (e : (dispatch_of ed ws i steps).result ≡ Ok (RanOut next)) where
  pub record Begins : Type 0 where
    pub settings : Settings
    pub fit : checked_of settings.edition ws ≡ Fit settings
    pub edition : settings.edition ≡ ed
    pub among : i < settings.workers

  not_refused : (n : Refusal) → ◌≢◌ {A = DispatchResult} (Err n) (Ok (RanOut next))
  not_refused n u = let z : ◌≡◌ {A = ℕ} 0 1 = cc in omega arith

  begins : Begins
  unfolding dispatch_of checked_dispatch fit_dispatch cond
  begins = by (checked_of ed ws) refl e
    where
      by : (c : Checked) → checked_of ed ws ≡ c → (checked_dispatch ws c i steps).result ≡ Ok (RanOut next) → Begins
      by (Unfit n) fit u = absurd (not_refused n u)
      by (Fit g) fit u = elim (dec_lt i g.workers) [
        | yes l ↦ record { settings = g; fit = fit_own ed ws g fit; edition = (fit_head ed ws g fit).1; among = l }
        | no l ↦ absurd (not_refused NoSuchWorker ((ap (λ (b : Bool). (cond b (dispatched (Err NoSuchWorker) ws) (turns_of ws g i steps)).result) (sym (le-leb g.workers i (omega arith)))) ∙ u))
      ]

-- turns of a pool of its edition are a dispatch's, or both are refused
turns_called : (g : Settings) (vs : List ℕ) (next more : ℕ) → 1 ≤ more → settings_of vs ≡ g → next < g.workers → Found vs g (turn_from vs g next)
    → turns_of vs g next more ≡ dispatch_of g.edition vs next more
unfolding dispatch_of checked_dispatch
turns_called g vs next more some own among found = by (checked_of g.edition vs) refl
  where
    by : (c : Checked) → checked_of g.edition vs ≡ c → turns_of vs g next more ≡ dispatch_of g.edition vs next more
    by (Unfit n) e = turns_refused vs g next found.0 more n some found.1 e ∙ (rw e refl)
    by (Fit h) e = sym (fit_turns vs g (e ∙ ap Fit (sym (fit_pool g.edition vs h e).settings ∙ own)) next more among)

pub dispatch_goes_on : DispatchGoesOn
dispatch_goes_on ed ws i steps more next some e =
    let b = begins ed ws i steps next e in
    let g : Settings = b.settings in
    let e' : (dispatch_of g.edition ws i steps).result ≡ Ok (RanOut next) = rw b.edition e in
    let here = fit_turns ws g b.fit i in
    let on = turns_go_on g steps ws i next (fit_pool g.edition ws g b.fit).settings b.among (sym (ap (λ (o : DispatchOut). o.result) (here steps b.among)) ∙ e') in
    rw (sym b.edition, here (steps + more) b.among, here steps b.among)
    (on.more more ∙ turns_called g (turns_of ws g i steps).words next more some on.settings on.among on.found)
