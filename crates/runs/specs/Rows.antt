-- A run by hand as a row of a table: settings, words lent, calls, and what comes of them.
use Rattle.std.specs.Prelude.{ℕ, ◌+◌, List, [], ◌∷◌, ◌++◌, ◌≡◌, replicate, set, ltb, leb, eqb}
use Rattle.laws.specs.Choice.{cond}
use Rattle.rules.specs.Answers.{number_of, fields_of}
use Rattle.rules.specs.Layout.{needed, steps_at}
use Rattle.rules.specs.Limits.{settings_fit}
use Rattle.rules.specs.Make.{make_of}
use Rattle.rules.specs.Run.{Call, begin_put, begin_take, step, set_size, Event, run}
use Rattle.rules.specs.Statement.{All}
use Rattle.rules.specs.declared.Settings.{Settings}

-- an operation that finished, or a call that was refused: the worker, the operation's steps taken, the answer's number and fields
pub record Line : Type 0 where
  pub worker : ℕ
  pub steps : ℕ
  pub number : ℕ
  pub fields : List ℕ

-- the run starts from a new pool whose step count is then `counted`
pub record Row : Type 0 where
  pub settings : Settings
  pub lent : ℕ
  pub made : ℕ
  pub counted : ℕ
  pub calls : List Call
  pub lines : List Line

-- ---- what comes of a row
-- make's number, by settings and words lent alone
unfoldable pub make_number : Settings → ℕ → ℕ
make_number g lent = cond (settings_fit g) (cond (ltb lent (needed g)) 21 0) 22

-- the steps that each worker's operation has taken
abbrev at_worker : (ℕ → ℕ) → ℕ → ℕ → ℕ → ℕ
at_worker f i x j = cond (eqb j i) x (f j)

abbrev steps_after : (ℕ → ℕ) → Call → ℕ → ℕ → ℕ
steps_after f (begin_put i v) n = cond (eqb n 0) (at_worker f i 0) f
steps_after f (begin_take i) n = cond (eqb n 0) (at_worker f i 0) f
steps_after f (step i) n = cond (leb n 4) (at_worker f i (f i + 1)) f
steps_after f (set_size width depth) n = f

-- a size is set by no worker: "listed with worker 0"
abbrev worker_of : Call → ℕ
worker_of (begin_put i v) = i
worker_of (begin_take i) = i
worker_of (step i) = i
worker_of (set_size width depth) = 0

abbrev line_for : (ℕ → ℕ) → Event → List Line
line_for f e =
    cond (eqb (number_of e.answer) 0) []
    (record { worker = worker_of e.call; steps = f (worker_of e.call); number = number_of e.answer; fields = fields_of e.answer } ∷ [])

unfoldable pub lines_of : (ℕ → ℕ) → List Event → List Line
lines_of f [] = []
lines_of f (e ∷ es) = line_for (steps_after f e.call (number_of e.answer)) e ++ lines_of (steps_after f e.call (number_of e.answer)) es

-- the words that its run starts from
abbrev pub start_of : Row → List ℕ
start_of r = set (make_of (replicate r.lent 0) r.settings).words steps_at r.counted

unfoldable pub events_of : Row → List Event
events_of r = run r.settings.edition (start_of r) r.calls

unfoldable pub run_of : Row → List Line
run_of r = lines_of (λ i. 0) (events_of r)

-- a row holds: make answers as it says, and the run's finished operations and refusals are its lines
pub record Holds (r : Row) : Type 0 where
  pub made : make_number r.settings r.lent ≡ r.made
  pub lines : run_of r ≡ r.lines

abbrev pub AllHold : List Row → Type 0
AllHold = All Holds
