-- The words of a stack's windows are zero.
use Rattle.std.proofs.Common.{◌≡◌, ℕ, ◌+◌, ◌-◌, true, false, eqb, List, get_or, refl, arith}
use Rattle.laws.specs.Choice.{cond, all_below}
use Rattle.rules.specs.Fit.{windows_fit}
use Rattle.rules.specs.Layout.{windows_at}
use Rattle.rules.specs.Limits.{windowed}
use Rattle.rules.specs.declared.Settings.{Settings}
use Rattle.rules.proofs.Workers.{windowed_is, windows_some}

pub stack_windows : (ws : List ℕ) (g : Settings) {at : ℕ} → at ≡ windows_at g → windowed g ≡ true → eqb g.kind 0 ≡ false
    → all_below (at + 36 - at) (λ k. eqb (get_or ws (at + k) 0) 0) ≡ windows_fit ws g
unfolding windows_fit cond
stack_windows ws g {at} e has stack =
    let many : at + 36 - at ≡ 36 = omega arith in
    rw (many, e, has, stack, windows_some g.edition (windowed_is g has)) refl
