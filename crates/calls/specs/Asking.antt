-- What is asked of a worker, by a number: 0 to begin a put, 1 to begin a take, 2 a step, and 3 a step of a pool that is known to be fit. Any other number asks for a
-- step too.
use Rattle.std.proofs.Common.{ℕ, ◌≡◌, ◌≢◌, refl, ap, arith, eqb, ne_eqb}
use Rattle.std.proofs.Math.Decide.{ℕ_discrete}
use Rattle.laws.specs.Choice.{cond}
use Rattle.calls.specs.declared.asked.Asked.{Asked}
use Rattle.calls.specs.declared.asked.Asked.TheVariants.{Put, Take, Step, CheckedStep}

-- the numbers from which on it is a step, and of a step that goes without the check
abbrev pub step_asked : ℕ
step_asked = 2

abbrev pub checked_asked : ℕ
checked_asked = 3

abbrev pub asked_numbered : ℕ → Asked
asked_numbered number = cond (eqb number 0) Put (cond (eqb number 1) Take (cond (eqb number checked_asked) CheckedStep Step))

-- ---- that one number alone asks for a step without the check
-- a number that has no case of its own
pub step_numbered : (number : ℕ) → number ≢ 0 → number ≢ 1 → number ≢ checked_asked → asked_numbered number ≡ Step
unfolding cond
step_numbered number none one three = rw (ne_eqb number 0 none, ne_eqb number 1 one, ne_eqb number 3 three) refl

-- one for what goes without the check, and none for the rest
abbrev weight : Asked → ℕ
weight Put = 0
weight Take = 0
weight Step = 0
weight CheckedStep = 1

weightless : (asked : Asked) → weight asked ≡ 0 → asked ≢ CheckedStep
weightless asked none e = omega (arith, ap weight e)

pub number_unchecked : (number : ℕ) → asked_numbered number ≡ CheckedStep → number ≡ checked_asked
unfolding cond
number_unchecked number e = elim (ℕ_discrete number 3) [
  | yes three ↦ three
  | no three ↦ elim (ℕ_discrete number 0) [
    | yes none ↦ absurd (weightless (asked_numbered number) (rw none refl) e)
    | no none ↦ elim (ℕ_discrete number 1) [
      | yes one ↦ absurd (weightless (asked_numbered number) (rw one refl) e)
      | no one ↦ absurd (weightless (asked_numbered number) (rw (step_numbered number none one three) refl) e)
    ]
  ]
]
