-- K7: what a dispatcher does, of all words, as statements. It makes steps and nothing else, so that whatever is claimed of every list of calls from a new
-- pool (demand 3, K3, K7) holds with dispatches among the calls: each one's steps stand in its place.
use Rattle.std.specs.Prelude.{ℕ, ◌+◌, ◌≤◌, ◌<◌, ◌≡◌, ◌≢◌, List, [], ◌∷◌, ◌++◌, length, get_or, Err, Ok, Some}
use Rattle.rules.specs.Answers.{number_of}
use Rattle.rules.specs.Layout.{settings_of, worker_at, needed}
use Rattle.rules.specs.Fit.{Fit, checked_of}
use Rattle.rules.specs.Step.{step_of}
use Rattle.untouched.specs.Untouched.{Beyond}
use Rattle.rounds.specs.Dispatch.{DispatchOut, dispatched, Busy, turn_from, dispatch_of}
use Rattle.rules.specs.Run.{Call, step, call_of, Final}
use Rattle.rules.specs.Consequences.{words_after}
use Rattle.rules.specs.declared.Settings.{Settings}
use Rattle.rules.specs.declared.Dispatched.TheVariants.{Finished, NoneBusy, RanOut}
use Rattle.rules.specs.declared.Refusal.{Refusal}
use Rattle.rules.specs.declared.Answer.{Answer}

-- the calls that lead from words to a result: steps that answer 0, and at the end a final one or none. A step that was refused is not made
pub data Made (e : ℕ) : List ℕ → List Call → DispatchOut → Type 0 where
  nobody : {ws : List ℕ} → Made e ws [] (dispatched (Ok NoneBusy) ws)
  ran_out : {ws : List ℕ} {next : ℕ} → Made e ws [] (dispatched (Ok (RanOut next)) ws)
  refused : {ws : List ℕ} {n : Refusal} → Made e ws [] (dispatched (Err n) ws)
  finished : {ws : List ℕ} {j : ℕ} {a : Answer} → (step_of e ws j).answer ≡ Ok a → Final (Ok a) → Made e ws (step j ∷ []) (dispatched (Ok (Finished j a)) (step_of e ws j).words)
  moved : {ws : List ℕ} {j : ℕ} {cs : List Call} {o : DispatchOut} → number_of (step_of e ws j).answer ≡ 0 → Made e (step_of e ws j).words cs o
      → Made e ws (step j ∷ cs) o

-- of all words, from make or not
pub record BySteps (e : ℕ) (ws : List ℕ) (i steps : ℕ) : Type 0 where
  pub calls : List Call
  pub made : Made e ws calls (dispatch_of e ws i steps)
  pub few : length calls ≤ steps
  pub words : (dispatch_of e ws i steps).words ≡ words_after e ws calls

abbrev pub DispatchBySteps : Type 0
DispatchBySteps = (e : ℕ) (ws : List ℕ) (i steps : ℕ) → BySteps e ws i steps

-- "Words beyond the needed ones are never touched"
abbrev pub DispatchKeeps : Type 0
DispatchKeeps = (e : ℕ) (ws : List ℕ) (i steps : ℕ) → Beyond (needed (settings_of ws)) ws (dispatch_of e ws i steps).words

-- ---- "with no busy worker .. it says which": of a fit pool and a worker of its, exactly where none is busy at the call, whatever the count
pub record SaysNobody (g : Settings) (ws : List ℕ) (i steps : ℕ) : Type 0 where
  pub says : ¬ (Busy g ws) → dispatch_of g.edition ws i steps ≡ dispatched (Ok NoneBusy) ws
  pub only : (dispatch_of g.edition ws i steps).result ≡ (Ok NoneBusy) → ¬ (Busy g ws)

abbrev pub DispatchNobody : Type 0
DispatchNobody = (ws : List ℕ) (g : Settings) (i steps : ℕ) → checked_of g.edition ws ≡ Fit g → i < g.workers → SaysNobody g ws i steps

-- ---- "from a worker the caller names": its turn is the first, where it is busy
abbrev pub NamedFirst : Type 0
NamedFirst = (ws : List ℕ) (g : Settings) (i : ℕ) → i < g.workers → get_or ws (worker_at g i) 0 ≢ 0 → turn_from ws g i ≡ Some i

-- ---- where the count runs out, a dispatch from the worker named then goes on as one with a greater count would have. Greater by 1 or more: a call checks
-- its pool first, whatever its count, and the last step so far may have left a damaged pool unfit, where from edition 2 on it moved a queue's window
abbrev pub DispatchGoesOn : Type 0
DispatchGoesOn =
    (e : ℕ) (ws : List ℕ) (i steps more next : ℕ) → 1 ≤ more → (dispatch_of e ws i steps).result ≡ Ok (RanOut next)
    → dispatch_of e ws i (steps + more) ≡ dispatch_of e (dispatch_of e ws i steps).words next more

-- ---- a list of calls with dispatches among them comes to the words of a list of calls
pub data Ask : Type 0 where
  call : Call → Ask
  dispatch : ℕ → ℕ → Ask

unfoldable pub words_asked : ℕ → List ℕ → List Ask → List ℕ
words_asked e ws [] = ws
words_asked e ws (call c ∷ asks) = words_asked e (call_of e ws c).words asks
words_asked e ws (dispatch i steps ∷ asks) = words_asked e (dispatch_of e ws i steps).words asks

-- the calls asked for, in their order, and in place of each dispatch the steps that it makes
pub data Spliced (e : ℕ) : List ℕ → List Ask → List Call → Type 0 where
  end : {ws : List ℕ} → Spliced e ws [] []
  called : {ws : List ℕ} {c : Call} {asks : List Ask} {cs : List Call} → Spliced e (call_of e ws c).words asks cs → Spliced e ws (call c ∷ asks) (c ∷ cs)
  dispatched_to : {ws : List ℕ} {i steps : ℕ} {ds : List Call} {asks : List Ask} {cs : List Call} → Made e ws ds (dispatch_of e ws i steps)
      → Spliced e (dispatch_of e ws i steps).words asks cs → Spliced e ws (dispatch i steps ∷ asks) (ds ++ cs)

pub record ByCalls (e : ℕ) (ws : List ℕ) (asks : List Ask) : Type 0 where
  pub calls : List Call
  pub spliced : Spliced e ws asks calls
  pub words : words_asked e ws asks ≡ words_after e ws calls

abbrev pub AskedByCalls : Type 0
AskedByCalls = (e : ℕ) (ws : List ℕ) (asks : List Ask) → ByCalls e ws asks
