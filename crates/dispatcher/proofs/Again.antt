-- A pool that is checked again after a step that moved a window on: it is fit as before, or it is not, and the check says why.
use Rattle.std.proofs.Common.{ℕ, List, Bool, true, false, ◌≡◌, refl, sym, ap, ◌∙◌, get_or, arith}
use mathlib.Core.Bool.{not, ◌||◌, false≢true}
use lib.Dec.{eqb}
use borrow.Author.Tests.{eq-eqb, eqb-true}
use Rattle.std.specs.Prelude.{Err, Ok, Result}
use Rattle.laws.specs.Choice.{cond, both}
use Rattle.dispatcher.specs.Moved.{window_moved}
use Rattle.rules.proofs.Fitness.{found_fit, found_unfit}
use Rattle.rules.specs.Fit.{Unfit, Fit, checked_of, fitness_of}
use Rattle.rules.specs.Layout.{top_at, mark_at, settings_of}
use Rattle.rules.specs.Make.{shipped}
use Rattle.rules.specs.declared.Refusal.{Refusal}
use Rattle.rules.specs.declared.Refusal.TheVariants.{NotFit}
use Rattle.rules.specs.declared.Settings.{Settings}

-- where no window of a queue moved, both tops are as they were
unmoved : (k a b : Bool) → both k (not a || not b) ≡ false → k ≡ true → (a ≡ true) × (b ≡ true)
unmoved true true true e f = (refl, refl)
unmoved true true false e f = absurd (false≢true (sym e))
unmoved true false b e f = absurd (false≢true (sym e))
unmoved false a b e f = absurd (false≢true f)

module _ (ws vs : List ℕ) (g : Settings) (edition : g.edition ≡ shipped) where
  abbrev moved : Bool
  moved = window_moved vs g (get_or ws top_at 0) (get_or ws mark_at 0)

  abbrev again : Result (Unit {0}) Refusal
  again = cond moved (fitness_of (checked_of shipped vs)) (Ok tt)

  abbrev pub SameTops : Type 0
  SameTops = g.kind ≡ 0 → (get_or vs top_at 0 ≡ get_or ws top_at 0) × (get_or vs mark_at 0 ≡ get_or ws mark_at 0)

  pub fit_again : settings_of vs ≡ g → (SameTops → checked_of g.edition vs ≡ Fit g) → Ok tt ≡ again → checked_of g.edition vs ≡ Fit g
  unfolding cond
  fit_again set stays = go moved refl
    where
      go : (b : Bool) → moved ≡ b → Ok tt ≡ cond b (fitness_of (checked_of shipped vs)) (Ok tt) → checked_of g.edition vs ≡ Fit g
      go true m e = ap (λ (x : ℕ). checked_of x vs) edition ∙ found_fit NotFit shipped vs e ∙ ap Fit set
      go false m e =
          stays (λ k.
          let t = unmoved (eqb g.kind 0) (eqb (get_or vs top_at 0) (get_or ws top_at 0)) (eqb (get_or vs mark_at 0) (get_or ws mark_at 0)) m (eq-eqb g.kind 0 k) in
          (eqb-true _ _ t.0, eqb-true _ _ t.1))

  pub unfit_again : (refusal : Refusal) → Err refusal ≡ again → checked_of g.edition vs ≡ Unfit refusal
  unfolding cond
  unfit_again refusal = go moved refl
    where
      go : (b : Bool) → moved ≡ b → Err refusal ≡ cond b (fitness_of (checked_of shipped vs)) (Ok tt) → checked_of g.edition vs ≡ Unfit refusal
      go true m e = ap (λ (x : ℕ). checked_of x vs) edition ∙ found_unfit (checked_of shipped vs) refusal e
      go false m e = let z : ◌≡◌ {A = ℕ} 0 1 = cc in absurd (omega arith)
