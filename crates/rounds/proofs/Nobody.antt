-- A dispatcher says that no worker is busy exactly where none is: at its first turn it finds whoever is busy, and a step that answers 0 leaves its worker
-- busy, so that a later turn finds one too. Where such a step left the pool unfit, the next one is refused, and that is no "nobody is busy" either.
use mathlib.Core.Path.{◌≡◌, refl, sym, ap, ◌∙◌}
use mathlib.Core.Logic.{◌≢◌}
use mathlib.Core.List.{List}
use Prim.Native.Nat.{ℕ, zero, suc, ◌-◌, ◌<◌}
use native.Mathlib.Decide.{ℕ_discrete}
use native.Mathlib.Nat.{mod-lt}
use native.Mathlib.Omega.{arith}
use lib.Dec.{leb}
use Rattle.laws.specs.Choice.{cases}
use Rattle.rules.specs.Answers.{number_of}
use Rattle.rules.specs.Layout.{settings_of}
use Rattle.rules.specs.Step.{step_of}
use Rattle.rounds.specs.Dispatch.{DispatchOut, Busy, worker_after, turn_from, ended_by, turns_of}
use Rattle.rounds.specs.DispatchSteps.{DispatchNobody}
use Rattle.rules.proofs.Fitness.{fit_pool}
use Rattle.rules.specs.declared.Settings.{Settings}
use Rattle.rules.specs.Answers.{Answered}
use Rattle.rounds.specs.Dispatch.{DispatchResult}
use Rattle.rules.specs.declared.Dispatched.TheVariants.{NoneBusy}
use Rattle.rounds.proofs.Turns.{has_turn, busy_found, turns_none, turns_out, turns_on, turns_end, turn_busy, turn_settings, fit_turns}
use Rattle.std.specs.Prelude.{None, Ok, Option, Some, Err}

ended_some : (j : ℕ) (a : Answered) → ended_by j a ≢ (Ok NoneBusy)
unfolding ended_by
ended_some j (Ok a) e = let z : ◌≡◌ {A = ℕ} 0 1 = cc in omega arith
ended_some j (Err n) e = let z : ◌≡◌ {A = ℕ} 0 1 = cc in omega arith

module _ (g : Settings) where
  -- nobody is found where none is busy
  none_found : (ws : List ℕ) (i : ℕ) → i < g.workers → ¬ (Busy g ws) → turn_from ws g i ≡ None
  none_found ws i l none = by (turn_from ws g i) refl
    where
      by : (t : Option ℕ) → turn_from ws g i ≡ t → t ≡ None
      by None e = refl
      by (Some j) e = let x = has_turn ws g i j l e in absurd (none (j, x.among, x.busy))

  -- some worker is busy at every turn
  turns_some : (k : ℕ) (ws : List ℕ) (i : ℕ) → settings_of ws ≡ g → i < g.workers → Busy g ws → (turns_of ws g i k).result ≢ (Ok NoneBusy)
  turns_some zero ws i own l busy e =
      let f = busy_found ws g i busy.0 l busy.1 busy.2 in
      let out = ap (λ (o : DispatchOut). o.result) (turns_out ws g i f.0 0 refl f.1) in
      let z : ◌≡◌ {A = ℕ} 0 1 = cc in
      omega arith
  turns_some (suc k) ws i own l busy e =
      let f = busy_found ws g i busy.0 l busy.1 busy.2 in
      let j : ℕ = f.0 in
      let less : suc k - 1 ≡ k = omega arith in
      elim (ℕ_discrete (number_of (step_of g.edition ws j).answer) 0) [
        | yes z ↦
            let on : turns_of ws g i (suc k) ≡ turns_of (step_of g.edition ws j).words g (worker_after g j) k =
            rw less at (turns_on ws g i j (suc k) (omega arith) f.1 (step_of g.edition ws j) refl z) in
            turns_some k (step_of g.edition ws j).words (worker_after g j) (turn_settings ws g j own z) (mod-lt _ (omega arith))
            (j, (has_turn ws g i j l f.1).among, turn_busy ws g j own z) (rw on at e)
        | no n ↦
            let end = ap (λ (o : DispatchOut). o.result) (turns_end ws g i j (suc k) (omega arith) f.1 (step_of g.edition ws j) refl n) in
            ended_some j (step_of g.edition ws j).answer (sym end ∙ e)
      ]

pub dispatch_nobody : DispatchNobody
dispatch_nobody ws g i steps fit l =
    let is = fit_turns ws g fit i steps l in
    record {
      says = λ none. is ∙ turns_none ws g i steps (none_found g ws i l none);
      only = λ e busy. turns_some g steps ws i (fit_pool g.edition ws g fit).settings l busy (sym (ap (λ (o : DispatchOut). o.result) is) ∙ e);
    }
