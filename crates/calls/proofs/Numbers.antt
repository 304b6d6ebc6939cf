-- What a number asks for: each number that has a case of its own picks it, and every other one asks for a step. Assumes nothing.
use Rattle.std.proofs.Common.{refl, arith, le-ltb}
use Rattle.std.proofs.Math.Decide.{ℕ_discrete}
use Rattle.laws.specs.Choice.{cond}
use Rattle.calls.specs.Asking.{step_numbered}
use Rattle.calls.specs.Called.{NumberCalled}

pub number_called : NumberCalled
unfolding cond
number_called number ws i value = elim (ℕ_discrete number 0) [
  | yes e ↦ rw e refl
  | no none ↦ elim (ℕ_discrete number 1) [
    | yes e ↦ rw e refl
    | no one ↦ elim (ℕ_discrete number 3) [
      | yes e ↦ rw e refl
      | no three ↦ rw (step_numbered number none one three, le-ltb number 2 (omega arith)) refl
    ]
  ]
]
