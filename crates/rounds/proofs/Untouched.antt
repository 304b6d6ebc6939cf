-- A dispatcher touches no word beyond the needed ones: each of its steps touches none, and a step that answers 0 leaves the settings as they were, so
-- that the same words are needed, whether or not the pool is still fit.
use mathlib.Core.Path.{◌≡◌, refl, sym, ◌∙◌, subst}
use mathlib.Core.List.{List}
use Prim.Native.Nat.{ℕ, zero, suc}
use lib.Dec.{leb, eqb}
use borrow.Author.Tests.{eqb-true}
use Rattle.laws.specs.Choice.{cases}
use Rattle.rules.specs.Answers.{number_of}
use Rattle.rules.specs.Layout.{needed, settings_of}
use Rattle.rules.specs.Fit.{Checked, Unfit, Fit, checked_of}
use Rattle.rules.specs.Step.{step_of}
use Rattle.rounds.specs.Dispatch.{DispatchOut, dispatched, worker_after, turn_from, after_step, if_busy, turns_of, fit_dispatch, checked_dispatch, dispatch_of}
use Rattle.untouched.specs.Untouched.{Beyond}
use Rattle.rounds.specs.DispatchSteps.{DispatchKeeps}
use Rattle.rules.specs.declared.Settings.{Settings}
use Rattle.rules.specs.declared.Dispatched.TheVariants.{RanOut}
use Rattle.rules.proofs.Fitness.{fit_pool}
use Rattle.untouched.proofs.Untouched.{unchanged, step_keeps}
use Rattle.rounds.proofs.Turns.{turn_settings}
use Rattle.std.specs.Prelude.{None, Ok, Option, Some}

both_keep : {n : ℕ} {us vs ws : List ℕ} → Beyond n us vs → Beyond n vs ws → Beyond n us ws
both_keep a b = record { length_same = b.length_same ∙ a.length_same; same = λ k l. b.same k l ∙ a.same k l }

module _ (g : Settings) where
  abbrev Kept : List ℕ → DispatchOut → Type 0
  Kept ws o = Beyond (needed g) ws o.words

  module _ (ws : List ℕ) (own : settings_of ws ≡ g) where
    one_step : (j : ℕ) → Beyond (needed g) ws (step_of g.edition ws j).words
    one_step j = subst (λ (h : Settings). Beyond (needed h) ws (step_of g.edition ws j).words) own (step_keeps g.edition ws j)

    step_kept : (j : ℕ) (rest : DispatchOut) → (settings_of (step_of g.edition ws j).words ≡ g → Kept (step_of g.edition ws j).words rest) → Kept ws (after_step j (step_of g.edition ws j) rest)
    unfolding after_step
    step_kept j rest on =
        cases (Kept ws) (eqb (number_of (step_of g.edition ws j).answer) 0) _ _
        (λ z. both_keep (one_step j) (on (turn_settings ws g j own (eqb-true _ _ z))))
        (λ z. one_step j)

  turns_kept : (ws : List ℕ) → settings_of ws ≡ g → (i k : ℕ) → Kept ws (turns_of ws g i k)
  unfolding turns_of
  turns_kept ws own i zero = by (turn_from ws g i)
    where
      by : (t : Option ℕ) → Kept ws (if_busy ws t (λ j. dispatched (Ok (RanOut i)) ws))
      by None = unchanged _ ws
      by (Some j) = unchanged _ ws
  turns_kept ws own i (suc k) = by (turn_from ws g i) (λ j f. turns_kept (step_of g.edition ws j).words f (worker_after g j) k)
    where
      by : (t : Option ℕ) → ((j : ℕ) → settings_of (step_of g.edition ws j).words ≡ g → Kept (step_of g.edition ws j).words (turns_of (step_of g.edition ws j).words g (worker_after g j) k))
          → Kept ws (if_busy ws t (λ j. after_step j (step_of g.edition ws j) (turns_of (step_of g.edition ws j).words g (worker_after g j) k)))
      by None rest = unchanged _ ws
      by (Some j) rest = step_kept ws own j _ (rest j)

pub dispatch_keeps : DispatchKeeps
unfolding dispatch_of checked_dispatch fit_dispatch
dispatch_keeps ed ws i steps = by (checked_of ed ws) refl
  where
    by : (c : Checked) → checked_of ed ws ≡ c → Beyond (needed (settings_of ws)) ws (checked_dispatch ws c i steps).words
    by (Unfit n) e = unchanged _ ws
    by (Fit g) e =
        subst (λ (h : Settings). Beyond (needed h) ws (fit_dispatch ws g i steps).words) (sym (fit_pool ed ws g e).settings)
        (cases (Kept g ws) (leb g.workers i) _ _ (λ l. unchanged _ ws) (λ l. turns_kept g ws (fit_pool ed ws g e).settings i steps))
