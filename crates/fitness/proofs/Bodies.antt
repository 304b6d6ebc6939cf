-- What is behind the head is fit where what the workers share is, and the workers are.
use Prim.Native.Nat.{ℕ}
use mathlib.Core.Path.{◌≡◌, refl, sym, ap, ◌∙◌}
use Rattle.std.specs.Prelude.{Ok, Err}
use mathlib.Core.List.{List}
use mathlib.Core.Bool.{Bool, true, false}
use lib.Dec.{ltb}
use lib.ListN.{length}
use Rattle.laws.specs.Choice.{cond, both}
use Rattle.rules.specs.Fit.{Fit, Unfit, windows_fit, subs_fit, workers_fit, body_checked, fitness_of}
use Rattle.rules.specs.Layout.{needed}
use Rattle.rules.specs.declared.Settings.{Settings}
use Rattle.rules.specs.declared.Refusal.TheVariants.{NotFit}

regroup : (a b c : Bool) → both a (both b (both c true)) ≡ both (both a b) c
regroup true true true = refl
regroup true true false = refl
regroup true false c = refl
regroup false b c = refl

pub body_by : (ws : List ℕ) (g : Settings) (s k : Bool) → ltb (length ws) (needed g) ≡ false
    → s ≡ both (windows_fit ws g) (subs_fit ws g) → k ≡ workers_fit ws g
    → body_checked ws g ≡ cond (both s k) (Fit g) (Unfit NotFit)
unfolding body_checked cond
body_by ws g s k long shared workers = rw (long, shared, workers, regroup (windows_fit ws g) (subs_fit ws g) (workers_fit ws g)) refl

-- as the code hands it on
pub fitness_by : (ws : List ℕ) (g : Settings) (s k : Bool) → ltb (length ws) (needed g) ≡ false
    → s ≡ both (windows_fit ws g) (subs_fit ws g) → k ≡ workers_fit ws g
    → cond (both s k) (Ok tt) (Err NotFit) ≡ fitness_of (body_checked ws g)
unfolding cond
fitness_by ws g s k long shared workers = by (both s k) ∙ ap fitness_of (sym (body_by ws g s k long shared workers))
  where
    by : (b : Bool) → cond b (Ok tt) (Err NotFit) ≡ fitness_of (cond b (Fit g) (Unfit NotFit))
    by true = refl
    by false = refl
