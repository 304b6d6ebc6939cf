-- A call checks the words, and goes on with what the check found: the settings of a fit pool, or the number of the refusal.
use Prim.Native.Nat.{ℕ}
use mathlib.Core.Path.{◌≡◌, refl}
use mathlib.Core.List.{List}
use Rattle.rules.specs.Answers.{Out, refuse}
use Rattle.rules.specs.Fit.{Checked, Unfit, checked_of}
use Rattle.rules.specs.Begin.{checked_begin, begin_of}
use Rattle.rules.specs.Resize.{checked_set_size, set_size_of}
use Rattle.rules.specs.Step.{checked_step, step_of}
use Rattle.rules.specs.Run.{Call, begin_put, begin_take, step, set_size, call_of}
use Rattle.strides.proofs.Types.{Putting, Taking}
use Rattle.rules.specs.declared.Refusal.{Refusal}

abbrev pub checked_call : List ℕ → Checked → Call → Out
checked_call ws k (begin_put i v) = checked_begin ws k i Putting v
checked_call ws k (begin_take i) = checked_begin ws k i Taking 0
checked_call ws k (step i) = checked_step ws k i
checked_call ws k (set_size width depth) = checked_set_size ws k (record { width = width; depth = depth })

pub call_is : (ed : ℕ) (ws : List ℕ) (c : Call) → call_of ed ws c ≡ checked_call ws (checked_of ed ws) c
unfolding call_of begin_of step_of set_size_of
call_is ed ws (begin_put i v) = refl
call_is ed ws (begin_take i) = refl
call_is ed ws (step i) = refl
call_is ed ws (set_size width depth) = refl

pub unfit_call : (ws : List ℕ) (n : Refusal) (c : Call) → checked_call ws (Unfit n) c ≡ refuse n ws
unfolding checked_begin checked_step checked_set_size
unfit_call ws n (begin_put i v) = refl
unfit_call ws n (begin_take i) = refl
unfit_call ws n (step i) = refl
unfit_call ws n (set_size width depth) = refl
