-- The numbers of answers and refusals: an answer's is 4 at the most, a refusal's is above and 33 at the most, and no two refusals have one.
use Rattle.std.proofs.Common.{◌≡◌, ◌≤◌, ◌<◌, refl, arith}
use Rattle.std.specs.Prelude.{Ok}
use Rattle.laws.specs.Choice.{cond}
use Rattle.rules.specs.Answers.{number_of, refusal_number, refusal_numbered}
use Rattle.rules.specs.declared.Answer.{Answer}
use Rattle.rules.specs.declared.Answer.TheVariants.{Moving, Put, Taken, Empty, Full}
use Rattle.rules.specs.declared.Refusal.{Refusal}
use Rattle.rules.specs.declared.Refusal.TheVariants.{TooFewWords, OffLimits, NotFit, NoSuchWorker, WorkerBusy, WorkerIdle, StepsSpent, FileCut, BadWord, OverBound, WrongEdition, OffSize, Excepted}

pub number_high : (r : Refusal) → 4 < refusal_number r
number_high TooFewWords = omega arith
number_high OffLimits = omega arith
number_high NotFit = omega arith
number_high NoSuchWorker = omega arith
number_high WorkerBusy = omega arith
number_high WorkerIdle = omega arith
number_high StepsSpent = omega arith
number_high FileCut = omega arith
number_high BadWord = omega arith
number_high OverBound = omega arith
number_high WrongEdition = omega arith
number_high OffSize = omega arith
number_high Excepted = omega arith

pub number_low : (r : Refusal) → refusal_number r ≤ 33
number_low TooFewWords = omega arith
number_low OffLimits = omega arith
number_low NotFit = omega arith
number_low NoSuchWorker = omega arith
number_low WorkerBusy = omega arith
number_low WorkerIdle = omega arith
number_low StepsSpent = omega arith
number_low FileCut = omega arith
number_low BadWord = omega arith
number_low OverBound = omega arith
number_low WrongEdition = omega arith
number_low OffSize = omega arith
number_low Excepted = omega arith

pub answer_low : (a : Answer) → number_of (Ok a) ≤ 4
answer_low Moving = omega arith
answer_low (Put value sub row stamp) = omega arith
answer_low (Taken value sub row stamp distance) = omega arith
answer_low Empty = omega arith
answer_low Full = omega arith

pub numbered_number : (r : Refusal) → refusal_numbered (refusal_number r) ≡ r
unfolding cond
numbered_number TooFewWords = refl
numbered_number OffLimits = refl
numbered_number NotFit = refl
numbered_number NoSuchWorker = refl
numbered_number WorkerBusy = refl
numbered_number WorkerIdle = refl
numbered_number StepsSpent = refl
numbered_number FileCut = refl
numbered_number BadWord = refl
numbered_number OverBound = refl
numbered_number WrongEdition = refl
numbered_number OffSize = refl
numbered_number Excepted = refl
