-- The subs are held to the take window's bottom, which is read once; where there are no windows, the bottom does not matter.
use Rattle.std.proofs.Common.{◌≡◌, ℕ, Bool, true, false, eqb, List, sym, refl, ◌∙◌}
use Rattle.rules.specs.declared.Settings.{Settings}
use Rattle.rules.specs.Windows.{has_windows, bottom_of, level_of}
use Rattle.rules.specs.Limits.{windowed}
use Rattle.rules.specs.Fit.{sub_fit, subs_fit}
use Rattle.rules.specs.Layout.{first_of, second_of}
use Rattle.laws.specs.Choice.{cond, all_below, all_below_same}
use Rattle.std.proofs.lemmas.Bool.{false≢true}

-- whether sub j is fit, held to a bottom
abbrev pub is_fit : List ℕ → Settings → ℕ → ℕ → Bool
is_fit ws g bottom j = sub_fit g bottom (first_of ws j) (second_of ws j)

-- where there are no windows, the bottom does not matter
any_bottom : (g : Settings) (first second a b : ℕ) → has_windows g ≡ false → sub_fit g a first second ≡ sub_fit g b first second
unfolding sub_fit level_of cond
any_bottom g first second a b = go (windowed g) refl (eqb g.kind 0) refl
  where
    go : (w : Bool) → windowed g ≡ w → (q : Bool) → eqb g.kind 0 ≡ q → has_windows g ≡ false → sub_fit g a first second ≡ sub_fit g b first second
    go w e false f h = rw f refl
    go false e true f h = rw (e, f) refl
    go true e true f h = absurd (false≢true (sym h ∙ rw (e, f) refl))

-- so what was read is the bottom that the subs are held to
pub subs_by : (ws : List ℕ) (g : Settings) (bottom : ℕ) → bottom ≡ cond (has_windows g) (bottom_of ws g 0) 0
    → all_below g.width (is_fit ws g bottom) ≡ subs_fit ws g
unfolding subs_fit cond
subs_by ws g bottom = go (has_windows g) refl
  where
    go : (b : Bool) → has_windows g ≡ b → bottom ≡ cond b (bottom_of ws g 0) 0 → all_below g.width (is_fit ws g bottom) ≡ subs_fit ws g
    go true e r = rw r refl
    go false e r = all_below_same g.width _ _ (λ j l. any_bottom g _ _ bottom (bottom_of ws g 0) e)
