-- What is asked of a worker comes to, and that every number has its answer.
use Rattle.std.specs.Prelude.{ℕ, List, ◌≡◌, ltb, eqb}
use Rattle.laws.specs.Choice.{cond}
use Rattle.rules.specs.Answers.{Out}
use Rattle.rules.specs.Begin.{begin_of}
use Rattle.rules.specs.Make.{shipped}
use Rattle.rules.specs.Step.{step_of}
use Rattle.rules.specs.declared.Side.{Side}
use Rattle.rules.specs.declared.Side.TheVariants.{Putting, Taking}
use Rattle.calls.specs.Asking.{step_asked, asked_numbered}
use Rattle.calls.specs.declared.asked.Asked.{Asked}
use Rattle.calls.specs.declared.asked.Asked.TheVariants.{Put, Take, Step, CheckedStep}

abbrev pub called : Asked → List ℕ → ℕ → ℕ → Out
called Put ws i value = begin_of shipped ws i Putting value
called Take ws i value = begin_of shipped ws i Taking value
called Step ws i value = step_of shipped ws i
called CheckedStep ws i value = step_of shipped ws i

-- ---- by a number, the statements
-- whose begin it is
abbrev pub side_for : ℕ → Side
side_for what = cond (eqb what 0) Putting Taking

-- a begin below `step_asked`, and from it on a step, whatever the number
abbrev pub NumberCalled : Type 0
NumberCalled =
    (number : ℕ) (ws : List ℕ) (i value : ℕ)
    → called (asked_numbered number) ws i value ≡ cond (ltb number step_asked) (begin_of shipped ws i (side_for number) value) (step_of shipped ws i)
