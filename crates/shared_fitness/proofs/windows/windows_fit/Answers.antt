-- `shared_fitness::windows::windows_fit` meets its contract: the edition and the kind pick the same branch of `windows_fit`, and an edition without windows
-- has no words to ask.
use Rattle.shared_fitness.proofs.Stacks.{stack_windows}
use Rattle.rules.proofs.Workers.{windowed_is, windowed_not, windows_none, windows_some}
use Rattle.rules.specs.declared.Settings.{Settings}
use Rattle.rules.specs.Limits.{windowed}
use Rattle.rules.specs.Fit.{windows_fit}
use Rattle.laws.specs.Choice.{cond, all_below_none}
use Rattle.std.proofs.Common.{◌≡◌, ℕ, true, false, List, sym, refl, ◌∙◌, arith, eq-eqb, ne_eqb}
use Rattle.shared_fitness.proofs.windows.windows_fit.Goals as goal

-- none of an edition that has no windows
none_by : (ws : List ℕ) (g : Settings) → windowed g ≡ false → windows_fit ws g ≡ true
unfolding windows_fit cond
none_by ws g old = rw (old, windows_none g.edition (windowed_not g old)) (all_below_none _)

pub sizes_fit-requires-clause-most_live_in_bounds : goal.sizes_fit-requires-clause-most_live_in_bounds
sizes_fit-requires-clause-most_live_in_bounds c =
    let has = sym c.is_windowed.ensures ∙ c.if-not-is_windowed.false in omega (arith, c.requires.g_in_bounds, windows_some _ (windowed_is c.args.g has))

pub returns-then-g-eq0 : goal.returns-then-g-eq0
unfolding windows_fit cond
returns-then-g-eq0 c = c.sizes_fit.ensures ∙ rw (sym c.is_windowed.ensures ∙ c.if-not-is_windowed.false, eq-eqb _ _ c.if-g-eq0.true) refl

pub zeros-requires : goal.zeros-requires
zeros-requires c =
    let has = sym c.is_windowed.ensures ∙ c.if-not-is_windowed.false in
    omega (arith, c.requires.g_in_bounds, windows_some _ (windowed_is c.args.g has), c.windows_at-at.ensures)

pub returns : goal.returns
returns c =
    let a = c.args in
    let has = sym c.is_windowed.ensures ∙ c.if-not-is_windowed.false in
    c.zeros.ensures ∙ stack_windows a.words.now a.g c.windows_at-at.ensures has (ne_eqb _ _ c.if-g-eq0.false)

pub returns-then-not-is_windowed : goal.returns-then-not-is_windowed
returns-then-not-is_windowed c = let a = c.args in sym (none_by a.words.now a.g (sym c.is_windowed.ensures ∙ c.if-not-is_windowed.true))
