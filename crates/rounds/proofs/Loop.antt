-- The dispatcher's loop, as its code has it: the pool is checked once, and again after a step that moved a queue's window of its own size; and an answer
-- is a number and five fields. A turn's step leaves the turns still to come as they were, or they end with it; or it left the pool unfit, and then they
-- end with the next, which is refused, or with the count.
use mathlib.Core.Path.{◌≡◌, refl, sym, ap, ◌∙◌}
use mathlib.Core.Logic.{◌≢◌}
use mathlib.Core.List.{List, [], ◌∷◌, ◌++◌}
use Prim.Native.Nat.{ℕ, ◌-◌, ◌≤◌, ◌<◌}
use native.Mathlib.Nat.{mod-lt}
use native.Mathlib.Decide.{dec_le}
use native.Mathlib.Omega.{arith}
use lib.ListN.{get_or}
use borrow.Author.Tests.{le-leb, lt-leb}
use Rattle.laws.specs.Choice.{cond}
use Rattle.rules.specs.Answers.{number_of, fields_of, final_of, Returned, returned, returned_of, refusal_number}
use Rattle.rules.specs.Layout.{settings_of}
use Rattle.rules.specs.Fit.{Unfit, Fit, checked_of, refusal_of}
use Rattle.rules.specs.Step.{fit_step}
use Rattle.rounds.specs.Dispatch.{dispatched, worker_after, turn_from, ended_by, ended_of, turns_of}
use Rattle.rules.specs.declared.Settings.{Settings}
use Rattle.rules.specs.Answers.{Answered}
use Rattle.rules.specs.declared.Answer.TheVariants.{Moving, Put, Taken, Empty, Full}
use Rattle.rules.specs.declared.Dispatched.TheVariants.{Finished, RanOut}
use Rattle.rules.proofs.Fitness.{fit_pool, refusal_none}
use Rattle.rules.proofs.words.Stays.{Standing, step_stays, step_busy, step_settings}
use Rattle.rounds.proofs.Turns.{Found, has_turn, busy_found, turns_out, turns_on, turns_end, turns_refused, fit_step_law}
use Rattle.std.specs.Prelude.{Ok, Err, Some}
use Rattle.rules.specs.declared.Refusal.{Refusal}
use Rattle.rules.specs.declared.Answer.{Answer}
use Rattle.rules.proofs.Numbered.{answer_low, number_high, numbered_number}

-- ---- the six fields of a final answer are its five, and the worker
pub six_fields : (a : Answered) (worker : ℕ) (five : List ℕ) → five ≡ fields_of a
    → ◌≡◌ {A = List ℕ} (get_or five 0 0 ∷ get_or five 1 0 ∷ get_or five 2 0 ∷ get_or five 3 0 ∷ get_or five 4 0 ∷ worker ∷ []) (fields_of a ++ (worker ∷ []))
six_fields (Ok Moving) worker five e = rw e refl
six_fields (Ok (Put value sub row stamp)) worker five e = rw e refl
six_fields (Ok (Taken value sub row stamp distance)) worker five e = rw e refl
six_fields (Ok Empty) worker five e = rw e refl
six_fields (Ok Full) worker five e = rw e refl
six_fields (Err n) worker five e = rw e refl

-- ---- an answer that is known by its number and its five fields
final_same : (a : Answer) → number_of (Ok a) ≢ 0 → final_of (number_of (Ok a)) (fields_of (Ok a)) ≡ a
unfolding final_of cond
final_same Moving n = absurd (n refl)
final_same (Put value sub row stamp) n = refl
final_same (Taken value sub row stamp distance) n = refl
final_same Empty n = refl
final_same Full n = refl

ended_same : (j : ℕ) (a : Answered) → number_of a ≢ 0 → ended_of j (number_of a) (fields_of a) ≡ ended_by j a
unfolding ended_of ended_by cond
ended_same j (Ok a) n = rw (le-leb (number_of (Ok a)) 4 (answer_low a)) (ap (λ (x : Answer). Ok (Finished j x)) (final_same a n))
ended_same j (Err r) n = rw (lt-leb (refusal_number r) 4 (number_high r)) (ap Err (numbered_number r))

-- ---- one turn: worker j's step, with its answer's number n and five fields, and the words vs that it leaves
module _ (ws : List ℕ) (g : Settings) (fit : checked_of g.edition ws ≡ Fit g) (i j k : ℕ) (some : 0 < k) (turn : turn_from ws g i ≡ Some j)
    {n : ℕ} {vs five : List ℕ} (step : returned n vs five ≡ returned_of (fit_step ws (settings_of ws) j)) where
  is : returned n vs five ≡ returned_of (fit_step ws g j)
  is = step ∙ ap (λ (h : Settings). returned_of (fit_step ws h j)) (fit_pool g.edition ws g fit).settings

  number_is : n ≡ number_of (fit_step ws g j).answer
  number_is = ap (λ (r : Returned). r.number) is

  words_is : vs ≡ (fit_step ws g j).words
  words_is = ap (λ (r : Returned). r.words) is

  -- where P and T are where they were the pool is still fit
  pub stays_fit : n ≡ 0 → Standing g ws vs → checked_of g.edition vs ≡ Fit g
  stays_fit z = rw words_is (step_stays ws g fit j (sym number_is ∙ z))

  -- else it is checked again
  pub left_settings : n ≡ 0 → settings_of vs ≡ g
  left_settings z = rw words_is (step_settings ws g fit j (sym number_is ∙ z))

  pub checked_again : n ≡ 0 → refusal_of (checked_of g.edition vs) ≡ 0 → checked_of g.edition vs ≡ Fit g
  checked_again z none = refusal_none g.edition vs none ∙ ap Fit (left_settings z)

  pub turns_left : n ≡ 0 → turns_of vs g (worker_after g j) (k - 1) ≡ turns_of ws g i k
  turns_left z = rw words_is (sym (turns_on ws g i j k some turn (fit_step ws g j) (fit_step_law ws g fit j) (sym number_is ∙ z)))

  pub turns_over : n ≢ 0 → dispatched (ended_of j n five) vs ≡ turns_of ws g i k
  turns_over m =
      let five_is : five ≡ fields_of (fit_step ws g j).answer = ap (λ (r : Returned). r.fields) is in
      let not_zero : number_of (fit_step ws g j).answer ≢ 0 = λ z. m (number_is ∙ z) in
      rw (number_is, five_is, words_is)
      (ap (λ r. dispatched r (fit_step ws g j).words) (ended_same j (fit_step ws g j).answer not_zero)
      ∙ sym (turns_end ws g i j k some turn (fit_step ws g j) (fit_step_law ws g fit j) not_zero))

  -- ---- a step that answered 0 and left the pool unfit: its worker is still busy, so that it is someone's turn
  left_found : i < g.workers → n ≡ 0 → Found vs g (turn_from vs g (worker_after g j))
  left_found l z =
      let among = (has_turn ws g i j l turn).among in
      rw words_is (busy_found (fit_step ws g j).words g (worker_after g j) j (mod-lt _ (omega arith)) among (step_busy ws g fit j (sym number_is ∙ z)))

  pub unfit_out : i < g.workers → n ≡ 0 → k ≡ 1 → dispatched (Ok (RanOut (worker_after g j))) vs ≡ turns_of ws g i k
  unfit_out l z last =
      let f = left_found l z in
      let none : k - 1 ≡ 0 = omega arith in
      sym (turns_out vs g (worker_after g j) f.0 (k - 1) none f.1) ∙ turns_left z

  pub unfit_over : i < g.workers → n ≡ 0 → 1 < k → (m : Refusal) → checked_of g.edition vs ≡ Unfit m → dispatched (Err m) vs ≡ turns_of ws g i k
  unfit_over l z more m e =
      let f = left_found l z in
      sym (turns_refused vs g (worker_after g j) f.0 (k - 1) m (omega arith) f.1 e) ∙ turns_left z
