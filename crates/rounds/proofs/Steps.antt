-- A dispatcher makes steps and nothing else: its turns are the calls that it makes, and a step that is refused leaves the words as they were. So a
-- list of calls with dispatches among them comes to the words of a list of calls.
use mathlib.Core.Path.{◌≡◌, refl, sym, ap, ◌∙◌, subst}
use mathlib.Core.Logic.{◌≢◌}
use mathlib.Core.List.{List, [], ◌∷◌, ◌++◌}
use Prim.Native.Nat.{ℕ, zero, suc, ◌≤◌, ◌<◌}
use native.Mathlib.Omega.{arith}
use lib.ListN.{length, get_or}
use lib.Dec.{leb, eqb}
use borrow.Author.Tests.{leb-true, leb-false, eqb-true, eqb-false}
use Rattle.laws.specs.Choice.{cases}
use Rattle.rules.specs.Answers.{Out, number_of}
use Rattle.rules.specs.Layout.{worker_at}
use Rattle.rules.specs.Fit.{Checked, Unfit, Fit, checked_of}
use Rattle.rules.specs.Begin.{out_of_steps}
use Rattle.rules.specs.Apply.{taken_of, apply_by, apply_of}
use Rattle.rules.specs.Step.{slot_step, fit_step, checked_step, step_of}
use Rattle.rules.specs.Run.{Call, step, call_of}
use Rattle.rules.specs.Consequences.{words_after}
use Rattle.rounds.specs.Dispatch.{DispatchOut, dispatched, worker_after, turn_from, ended_by, after_step, turns_of, fit_dispatch, checked_dispatch, dispatch_of, if_busy}
use Rattle.rounds.specs.DispatchSteps.{Made, nobody, ran_out, refused, finished, moved, DispatchBySteps, call, dispatch, words_asked, end, called, dispatched_to, AskedByCalls}
use Rattle.rules.proofs.Fitness.{fit_head}
use Rattle.rules.specs.declared.Settings.{Settings}
use Rattle.rules.specs.declared.Effect.{Effect}
use Rattle.rules.specs.declared.Outcome.{Outcome}
use Rattle.rules.specs.declared.Outcome.TheVariants.{Refused as Stopped, Moving, Lost, Shifted, Raised, Dropped, Landed, Removed, Empty, Full}
use Rattle.rounds.specs.Dispatch.{DispatchResult}
use Rattle.rules.specs.declared.Dispatched.TheVariants.{Finished, RanOut}
use Rattle.std.specs.Prelude.{Err, None, Ok, Option, Some}
use Rattle.rules.specs.Answers.{Answered, refusal_number}
use Rattle.rules.proofs.Numbered.{answer_low, number_high}

-- ---- a refused step
module _ (ws : List ℕ) where
  abbrev Kept : Out → Type 0
  Kept o = 4 < number_of o.answer → o.words ≡ ws

  applied_kept : (g : Settings) (at j : ℕ) (e : Effect) (o : Outcome) → Kept (apply_by ws g at j e o)
  unfolding apply_by taken_of
  applied_kept g at j e (Stopped n) l = refl
  applied_kept g at j e Moving l = absurd (omega arith)
  applied_kept g at j e Lost l = absurd (omega arith)
  applied_kept g at j e Shifted l = absurd (omega arith)
  applied_kept g at j e Raised l = absurd (omega arith)
  applied_kept g at j e Dropped l = absurd (omega arith)
  applied_kept g at j e (Landed value row stamp) l = absurd (omega arith)
  applied_kept g at j e (Removed row) l = absurd (omega arith)
  applied_kept g at j e Empty l = absurd (omega arith)
  applied_kept g at j e Full l = absurd (omega arith)

  fit_kept : (g : Settings) (i : ℕ) → Kept (fit_step ws g i)
  unfolding fit_step slot_step apply_of
  fit_kept g i =
      cases Kept (leb g.workers i) _ _ (λ a l. refl)
      (λ a. cases Kept (eqb (get_or ws (worker_at g i) 0) 0) _ _ (λ b l. refl)
      (λ b. cases Kept (out_of_steps ws) _ _ (λ c l. refl) (λ c. applied_kept g _ _ _ _)))

  pub refused_kept : (ed i : ℕ) → Kept (step_of ed ws i)
  unfolding step_of checked_step
  refused_kept ed i = by (checked_of ed ws)
    where
      by : (c : Checked) → Kept (checked_step ws c i)
      by (Unfit n) l = refl
      by (Fit g) l = fit_kept g i l

-- ---- turns
pub record Makes (ed : ℕ) (ws : List ℕ) (most : ℕ) (o : DispatchOut) : Type 0 where
  pub calls : List Call
  pub made : Made ed ws calls o
  pub few : length calls ≤ most

none_made : {ed : ℕ} {ws : List ℕ} {most : ℕ} {o : DispatchOut} → Made ed ws [] o → Makes ed ws most o
none_made m = record { calls = []; made = m; few = omega arith }

-- one step, from what the turns after it make
step_made : (ed : ℕ) (ws : List ℕ) (j k : ℕ) (rest : DispatchOut) → Makes ed (step_of ed ws j).words k rest → Makes ed ws (suc k) (after_step j (step_of ed ws j) rest)
unfolding after_step ended_by
step_made ed ws j k rest x =
    cases (Makes ed ws (suc k)) (eqb (number_of (step_of ed ws j).answer) 0) _ _
    (λ z. record { calls = step j ∷ x.calls; made = moved (eqb-true _ _ z) x.made; few = omega (arith, x.few) })
    (λ z. by (step_of ed ws j).answer refl (eqb-false _ _ z))
  where
    by : (a : Answered) → (step_of ed ws j).answer ≡ a → number_of (step_of ed ws j).answer ≢ 0 → Makes ed ws (suc k) (dispatched (ended_by j a) (step_of ed ws j).words)
    by (Ok a) is some =
        let number : number_of (step_of ed ws j).answer ≡ number_of (Ok a) = ap number_of is in
        record {
          calls = step j ∷ [];
          made = finished is (record { low = omega arith; high = answer_low a });
          few = omega arith;
        }
    by (Err n) is some =
        let number : number_of (step_of ed ws j).answer ≡ refusal_number n = ap number_of is in
        rw (refused_kept ws ed j (omega (arith, number_high n))) (none_made refused)

turns_made : (g : Settings) (ws : List ℕ) (i k : ℕ) → Makes g.edition ws k (turns_of ws g i k)
unfolding turns_of
turns_made g ws i zero = by (turn_from ws g i)
  where
    by : (t : Option ℕ) → Makes g.edition ws 0 (if_busy ws t (λ j. dispatched (Ok (RanOut i)) ws))
    by None = none_made nobody
    by (Some j) = none_made ran_out
turns_made g ws i (suc k) = by (turn_from ws g i) (λ j. turns_made g (step_of g.edition ws j).words (worker_after g j) k)
  where
    by : (t : Option ℕ) → ((j : ℕ) → Makes g.edition (step_of g.edition ws j).words k (turns_of (step_of g.edition ws j).words g (worker_after g j) k))
        → Makes g.edition ws (suc k) (if_busy ws t (λ j. after_step j (step_of g.edition ws j) (turns_of (step_of g.edition ws j).words g (worker_after g j) k)))
    by None rest = none_made nobody
    by (Some j) rest = step_made g.edition ws j k _ (rest j)

dispatch_made : (ed : ℕ) (ws : List ℕ) (i steps : ℕ) → Makes ed ws steps (dispatch_of ed ws i steps)
unfolding dispatch_of checked_dispatch fit_dispatch
dispatch_made ed ws i steps = by (checked_of ed ws) refl
  where
    by : (c : Checked) → checked_of ed ws ≡ c → Makes ed ws steps (checked_dispatch ws c i steps)
    by (Unfit n) fit = none_made refused
    by (Fit g) fit =
        let turns = subst (λ (x : ℕ). Makes x ws steps (turns_of ws g i steps)) (fit_head ed ws g fit).1 (turns_made g ws i steps) in
        cases (Makes ed ws steps) (leb g.workers i) _ _ (λ e. none_made refused) (λ e. turns)

-- the words are those after the calls
made_words : {ed : ℕ} {ws : List ℕ} {cs : List Call} {o : DispatchOut} → Made ed ws cs o → o.words ≡ words_after ed ws cs
unfolding words_after call_of
made_words nobody = refl
made_words ran_out = refl
made_words refused = refl
made_words (finished is f) = refl
made_words (moved z m) = made_words m

pub dispatch_by_steps : DispatchBySteps
dispatch_by_steps ed ws i steps =
    let x = dispatch_made ed ws i steps in
    record { calls = x.calls; made = x.made; few = x.few; words = made_words x.made }

-- ---- lists with dispatches among the calls
after_both : (ed : ℕ) (ws : List ℕ) (cs ds : List Call) → words_after ed ws (cs ++ ds) ≡ words_after ed (words_after ed ws cs) ds
unfolding words_after
after_both ed ws [] ds = refl
after_both ed ws (c ∷ cs) ds = after_both ed (call_of ed ws c).words cs ds

pub asked_by_calls : AskedByCalls
unfolding words_asked words_after
asked_by_calls ed ws [] = record { calls = []; spliced = end; words = refl }
asked_by_calls ed ws (call c ∷ asks) = let x = asked_by_calls ed (call_of ed ws c).words asks in record { calls = c ∷ x.calls; spliced = called x.spliced; words = x.words }
asked_by_calls ed ws (dispatch i steps ∷ asks) =
    let d = dispatch_by_steps ed ws i steps in
    let x = asked_by_calls ed (dispatch_of ed ws i steps).words asks in
    record {
      calls = d.calls ++ x.calls;
      spliced = dispatched_to d.made x.spliced;
      words = x.words ∙ ap (λ (vs : List ℕ). words_after ed vs x.calls) d.words ∙ sym (after_both ed ws d.calls x.calls);
    }
