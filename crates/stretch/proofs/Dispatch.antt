-- What a caller wants of K7: on a queue from make a dispatcher finishes an operation, where a worker is busy and its count is more than the longest
-- stretch, with as many steps left. A busy worker's step is not refused while steps are left; it is final, or it answers 0 and leaves its worker busy,
-- and the next turn is taken. So if none of the steps were final, they would be a stretch that is too long.
use mathlib.Core.Path.{◌≡◌, refl, ap, ◌∙◌}
use mathlib.Core.Logic.{◌≢◌, ◌⊎◌, inl, inr}
use mathlib.Core.Bool.{true}
use mathlib.Core.List.{List, [], ◌∷◌}
use Prim.Native.Nat.{ℕ, zero, suc, ◌+◌, ◌-◌, ◌*◌, ◌≤◌, ◌<◌}
use native.Mathlib.Nat.{mod-lt}
use native.Mathlib.Omega.{arith}
use lib.ListN.{get_or}
use borrow.Author.Tests.{le-leb}
use Rattle.laws.specs.Choice.{cond}
use Rattle.rules.specs.Answers.{number_of}
use Rattle.rules.specs.Layout.{steps_at}
use Rattle.rules.specs.Limits.{settings_fit, step_limit}
use Rattle.rules.specs.Fit.{Fit, checked_of}
use Rattle.rules.specs.Step.{step_of}
use Rattle.rules.specs.Run.{Call, step, call_of, run, at, Final}
use Rattle.rounds.specs.Dispatch.{DispatchOut, Busy, worker_after, turn_from, ended_by, turns_of, dispatch_of}
use Rattle.stretch.specs.Stretch.{exact_stretch, counted_steps, FinishesIn, DispatchFinishes, DispatchK7}
use Rattle.stretch.proofs.Types.{Settings}
use Rattle.rules.proofs.machine.Machine.{State, next_in}
use Rattle.rules.proofs.machine.Good.{Good, good}
use Rattle.rules.proofs.BothKinds.{kind_of, inv_of}
use Rattle.rules.proofs.Course.{At, calls_course}
use Rattle.rules.proofs.words.Made.{accepted}
use Rattle.rules.proofs.words.Stores.{number_same}
use Rattle.rules.proofs.Transfer.{Related, related_fit, NextRelated, next_related}
use Rattle.rules.proofs.progress.Steps.{Result, finishes, goes}
use Rattle.rules.proofs.progress.QueueLeft.{queue_left}
use Rattle.stretch.proofs.Acts.{busy_step}
use Rattle.stretch.proofs.Owed.{most_owed}
use Rattle.stretch.proofs.Past.{Reached, reached}
use Rattle.stretch.proofs.Theorem.{finishes_within, exact_k7}
use Rattle.rounds.proofs.Turns.{HasTurn, has_turn, busy_found, turns_on, turns_end, turn_busy, fit_turns}
use Rattle.std.specs.Prelude.{Err, Ok, Some}
use Rattle.rules.specs.Answers.{Answered}
use Rattle.rules.proofs.Numbered.{number_high}

-- ---- steps none of which is final
pub record Unfinished (ed : ℕ) (ws : List ℕ) (m : ℕ) : Type 0 where
  pub calls : List Call
  pub counted : counted_steps (run ed ws calls) ≡ m
  pub none : (p : ℕ) → ¬ (Final (at (run ed ws calls) p).answer)

no_steps : (ed : ℕ) (ws : List ℕ) → Unfinished ed ws 0
unfolding run counted_steps
no_steps ed ws = record { calls = []; counted = refl; none = λ p f. omega (arith, f.high) }

-- a 0 before them
zero_more : (ed : ℕ) (ws : List ℕ) (j m : ℕ) → number_of (step_of ed ws j).answer ≡ 0 → Unfinished ed (step_of ed ws j).words m → Unfinished ed ws (suc m)
unfolding run counted_steps call_of cond
zero_more ed ws j m moving rest =
    record { calls = step j ∷ rest.calls; counted = rw (moving, rest.counted) (omega arith); none = none }
  where
    none : (p : ℕ) → ¬ (Final (at (run ed ws (step j ∷ rest.calls)) p).answer)
    none zero f = omega (arith, f.low)
    none (suc p) f = rest.none p f

module _ (g : Settings) (good : Good g) (kind : g.kind ≡ 0) (limits : settings_fit g ≡ true) where
  abbrev Rel : List ℕ → State → Type 0
  Rel ws s = Related g limits (kind_of g limits) ws s

  fit : {ws : List ℕ} {s : State} → Rel ws s → checked_of g.edition ws ≡ Fit g
  fit r = related_fit g limits (kind_of g limits) r

  -- the turns come to a final answer, or there are m steps without one
  abbrev Comes : List ℕ → ℕ → ℕ → ℕ → Type 0
  Comes ws i k m = FinishesIn g (turns_of ws g i k) ⊎ Unfinished g.edition ws m

  -- ---- one turn, from how the next ones go on
  module _ {ws : List ℕ} {s : State} (r : Rel ws s) (i j k m : ℕ) (turn : turn_from ws g i ≡ Some j) (busy : HasTurn ws g j) (time : s.steps < step_limit)
      (rest : (next_in g s (step j)).state.steps ≡ suc s.steps → Busy g (step_of g.edition ws j).words → Comes (step_of g.edition ws j).words (worker_after g j) k m) where
    abbrev x : NextRelated g limits (kind_of g limits) ws s r.list (step j)
    x = next_related g limits (kind_of g limits) r (step j)

    answer : (step_of g.edition ws j).answer ≡ (next_in g s (step j)).answer
    unfolding call_of
    answer = x.answer

    number : (s.slot j).number ≢ 0
    number z = busy.busy (number_same g ws s r.says j busy.among ∙ z)

    -- a final answer
    ends : Final (step_of g.edition ws j).answer → FinishesIn g (turns_of ws g i (suc k))
    unfolding ended_by
    ends f = by_answer (step_of g.edition ws j).answer refl f
      where
        come : (turns_of ws g i (suc k)).result ≡ ended_by j (step_of g.edition ws j).answer
        come = ap (λ (o : DispatchOut). o.result) (turns_end ws g i j (suc k) (omega arith) turn (step_of g.edition ws j) refl (λ z. omega (arith, f.low)))

        by_answer : (a : Answered) → (step_of g.edition ws j).answer ≡ a → Final a → FinishesIn g (turns_of ws g i (suc k))
        by_answer (Ok a) is final = record { worker = j; among = busy.among; answer = a; result = come ∙ ap (ended_by j) is; final = final }
        by_answer (Err r) is final = absurd (omega (arith, final.high, number_high r))

    by : Result g (queue_left g (2 * g.width)) s j (most_owed g (2 * g.width)) (next_in g s (step j)) → Comes ws i (suc k) (suc m)
    unfolding call_of
    by (finishes f) = inl (ends (rw answer f))
    by (goes y) = on (rest y.steps (j, busy.among, turn_busy ws g j r.says.settings moving))
      where
        moving : number_of (step_of g.edition ws j).answer ≡ 0
        moving = rw answer y.answer

        on : Comes (step_of g.edition ws j).words (worker_after g j) k m → Comes ws i (suc k) (suc m)
        on (inl f) =
            let less : suc k - 1 ≡ k = omega arith in
            let come : turns_of ws g i (suc k) ≡ turns_of (step_of g.edition ws j).words g (worker_after g j) k =
            rw less at (turns_on ws g i j (suc k) (omega arith) turn (step_of g.edition ws j) refl moving) in
            inl (rw come f)
        on (inr u) = inr (zero_more g.edition ws j m moving u)

    one_turn : Comes ws i (suc k) (suc m)
    one_turn = by (busy_step g good kind s r.list r.whole.common (inv_of g limits kind s r.list r.whole.inv) j busy.among number time)

  turns_come : (m k : ℕ) → m ≤ k → {ws : List ℕ} {s : State} → Rel ws s → (i : ℕ) → i < g.workers → Busy g ws → s.steps + m ≤ step_limit → Comes ws i k m
  unfolding call_of
  turns_come zero k l {ws} r i li busy time = inr (no_steps g.edition ws)
  turns_come (suc m) zero l r i li busy time = absurd (omega arith)
  turns_come (suc m) (suc k) l {ws} {s} r i li busy time =
      let f = busy_found ws g i busy.0 li busy.1 busy.2 in
      one_turn r i f.0 k m f.1 (has_turn ws g i f.0 li f.1) (omega arith)
      (λ more next. turns_come m k (omega arith) (next_related g limits (kind_of g limits) r (step f.0)).related (worker_after g f.0) (mod-lt _ (omega arith)) next (omega arith))

  -- ---- from any words that a new queue comes to
  module _ {ws : List ℕ} (r : Reached g kind limits ws) (i steps : ℕ) (li : i < g.workers) where
    -- a stretch that is too long
    too_long : Unfinished g.edition ws (suc (exact_stretch g)) → ⊥
    too_long u =
        let x : At g = record { edition = g.edition; limits = limits; state = r.state } in
        let f = finishes_within g kind x r.related.list r.related.whole r.past (calls_course g x r.related u.calls) (omega (arith, u.counted)) in
        u.none f.position f.final

    pub reached_finishes : Busy g ws → exact_stretch g < steps → get_or ws steps_at 0 + exact_stretch g < step_limit → FinishesIn g (dispatch_of g.edition ws i steps)
    reached_finishes busy many time =
        rw (fit_turns ws g (fit r.related) i steps li) (by (turns_come (suc (exact_stretch g)) steps many r.related i li busy (omega (arith, r.related.says.steps))))
      where
        by : Comes ws i steps (suc (exact_stretch g)) → FinishesIn g (turns_of ws g i steps)
        by (inl f) = f
        by (inr u) = absurd (too_long u)

-- ---- the theorem
pub dispatch_finishes : DispatchFinishes
dispatch_finishes ws g cs made kind i steps li busy many time =
    let a = accepted ws g made in
    let h = good g a.limits in
    reached_finishes g h kind a.limits (reached g kind a.limits ws a cs) i steps li busy many time

pub dispatch_k7 : DispatchK7
dispatch_k7 ws g cs made kind i steps li busy many time =
    let l = exact_k7 g (good g (accepted ws g made).limits) in
    dispatch_finishes ws g cs made kind i steps li busy (omega arith) (omega arith)
