-- Settings that passed their test, by the edition that is asked for, are within bounds.
use Prim.Native.Nat.{ℕ}
use mathlib.Core.Path.{◌≡◌, sym, ap, subst, ◌∙◌}
use mathlib.Core.Bool.{Bool, true}
use Rattle.rules.proofs.Fitness.{settings_bounds}
use Rattle.rules.specs.Make.{in_edition}
use Rattle.rules.specs.Limits.{settings_fit, Bounds}
use Rattle.rules.specs.declared.Settings.{Settings}

-- what the test of the settings has found, of the settings in the edition that is asked for
pub asked : (g h : Settings) (e : ℕ) {a b : Bool} → h ≡ in_edition e g → a ≡ settings_fit h → a ≡ b → settings_fit (in_edition e g) ≡ b
asked g h e same found is = ap settings_fit (sym same) ∙ sym found ∙ is

-- of that edition
pub own_bounds : (g : Settings) (e : ℕ) → settings_fit (in_edition e g) ≡ true → g.edition ≡ e → Bounds g
own_bounds g e fit own = settings_bounds g (subst (λ (x : ℕ). settings_fit (in_edition x g) ≡ true) (sym own) fit)
