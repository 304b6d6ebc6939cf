-- K3, the statement: "an operation whose worker alone steps, from its begin on, gives a final answer within 3w + 8 steps, line and pile,
-- put and take. The other workers may have stopped in any phase. The pool comes from make, and the step count has that many left."
-- The field calls this obstruction freedom, and what such a worker makes a solo run. How many steps are enough is a parameter: K3 has its
-- own number, and the closer ones by kind and side are exact.
use Rattle.std.specs.Prelude.{ℕ, zero, suc, ◌+◌, ◌-◌, ◌*◌, ◌≤◌, ◌<◌, max, ◌≡◌, List, [], ◌∷◌, length, get_or, replicate, eqb}
use Rattle.laws.specs.Choice.{cond}
use Rattle.rules.specs.Answers.{number_of}
use Rattle.rules.specs.Layout.{steps_at}
use Rattle.rules.specs.Limits.{step_limit}
use Rattle.rules.specs.Sequential.{Operation, putting, taking}
use Rattle.rules.specs.Run.{Call, begin_put, begin_take, step, set_size, begin, call_of, Event, run, at, Final, StepOf}
use Rattle.rules.specs.Consequences.{words_after, OfEveryRun}
use Rattle.rules.specs.declared.Settings.{Settings}

-- ---- the figures: the most steps of an operation, the final one among them
-- K3's
abbrev pub k3_steps : Settings → Operation → ℕ
k3_steps g o = 3 * g.width + 8

-- a queue's put: window, w reads, shift, and again window, read, commit; a take: window, w reads, shift, and again window, w reads, w confirms
abbrev pub queue_steps : Settings → Operation → ℕ
queue_steps g (putting v) = g.width + 5
queue_steps g taking = 3 * g.width + 3

-- a stack's: window, w reads, shift, twice, and then window, read, check, commit; or once, and then window, w reads, shift, w confirms
abbrev pub stack_steps : Settings → ℕ
stack_steps g = max (2 * g.width + 8) (3 * g.width + 4)

-- the exact figures: rows of crates/long_runs reach them
abbrev pub solo_steps : Settings → Operation → ℕ
solo_steps g o = cond (eqb g.kind 0) (queue_steps g o) (stack_steps g)

-- ---- a begin that was not refused, with n steps left in the step count
pub record Begun (e : ℕ) (ws : List ℕ) (i : ℕ) (o : Operation) (n : ℕ) : Type 0 where
  pub accepted : number_of (call_of e ws (begin i o)).answer ≡ 0
  pub enough : get_or ws steps_at 0 + n ≤ step_limit

-- the run of more calls after it
abbrev pub after_begin : ℕ → List ℕ → ℕ → Operation → List Call → List Event
after_begin e ws i o ds = run e (call_of e ws (begin i o)).words ds

-- "whose worker alone steps": no step of another is taken. Begins of any worker, size calls, and refused calls, may stand between
abbrev pub Solo : ℕ → List Event → Type 0
Solo i es = (j p : ℕ) → StepOf es j p → j ≡ i

-- ---- how soon its operation ends, which is open just before the first event
abbrev pub step_of_worker : ℕ → Call → ℕ
step_of_worker i (begin_put j v) = 0
step_of_worker i (begin_take j) = 0
step_of_worker i (step j) = cond (eqb j i) 1 0
step_of_worker i (set_size width depth) = 0

-- worker i's steps before position p
unfoldable pub steps_before : ℕ → List Event → ℕ → ℕ
steps_before i es zero = 0
steps_before i [] (suc p) = 0
steps_before i (e ∷ es) (suc p) = step_of_worker i e.call + steps_before i es p

-- the operation is still open just before position p
abbrev pub StillOpen : ℕ → List Event → ℕ → Type 0
StillOpen i es p = (q : ℕ) → q < p → (at es q).call ≡ step i → ¬ (Final (at es q).answer)

-- its step at position p is not refused, is one of its first n, and gives the final answer if it is the nth
pub record InTime (i n : ℕ) (es : List Event) (p : ℕ) : Type 0 where
  pub accepted : number_of (at es p).answer ≤ 4
  pub within : steps_before i es p < n
  pub last : suc (steps_before i es p) ≡ n → Final (at es p).answer

abbrev pub EndsWithin : ℕ → ℕ → List Event → Type 0
EndsWithin i n es = (p : ℕ) → p < length es → (at es p).call ≡ step i → StillOpen i es p → InTime i n es p

-- ---- the claim: after any list of calls on a new pool, so that the other workers may have stopped in any phase
abbrev pub SoloWithin : (Settings → Operation → ℕ) → Type 0
SoloWithin most = OfEveryRun (λ g ws cs.
    (i : ℕ) (o : Operation) (ds : List Call) → Begun g.edition (words_after g.edition ws cs) i o (most g o)
    → Solo i (after_begin g.edition (words_after g.edition ws cs) i o ds) → EndsWithin i (most g o) (after_begin g.edition (words_after g.edition ws cs) i o ds))

abbrev pub K3 : Type 0
K3 = SoloWithin k3_steps

abbrev pub SoloExact : Type 0
SoloExact = SoloWithin solo_steps

-- ---- the plain form, with nothing between the steps: for some k up to n, the first k - 1 answer 0 and the kth answers 1 to 4
pub record Ends (n : ℕ) (es : List Event) : Type 0 where
  pub k : ℕ
  pub low : 1 ≤ k
  pub high : k ≤ n
  pub moving : (p : ℕ) → suc p < k → number_of (at es p).answer ≡ 0
  pub final : Final (at es (k - 1)).answer

abbrev pub PlainWithin : (Settings → Operation → ℕ) → Type 0
PlainWithin most = OfEveryRun (λ g ws cs.
    (i : ℕ) (o : Operation) → Begun g.edition (words_after g.edition ws cs) i o (most g o)
    → Ends (most g o) (after_begin g.edition (words_after g.edition ws cs) i o (replicate (most g o) (step i))))

abbrev pub PlainK3 : Type 0
PlainK3 = PlainWithin k3_steps

abbrev pub PlainExact : Type 0
PlainExact = PlainWithin solo_steps
