-- `fitness::quick::quick_body` meets its contract: where all looks tell, the bottom that the subs were held to is the take window's; else it is the whole check.
use mathlib.Core.Bool.{true}
use mathlib.Core.Path.{◌≡◌, refl, sym, ◌∙◌}
use native.Mathlib.Omega.{arith}
use borrow.Author.Tests.{le-ltb, lt-ltb}
use Rattle.laws.specs.Choice.{cond}
use Rattle.limits.proofs.Shipped.{shipped_windowed}
use Rattle.rules.proofs.Workers.{windowed_is, windows_some}
use Rattle.rules.specs.Fit.{body_checked, subs_fit}
use Rattle.shared_fitness.proofs.Bottoms.{subs_by}
use Rattle.fitness.proofs.Bodies.{fitness_by}
use Rattle.fitness.proofs.quick.quick_body.Goals as goal

pub returns-then-words-words_needed : goal.returns-then-words-words_needed
unfolding body_checked cond
returns-then-words-words_needed c = simp (← c.words_needed.ensures, lt-ltb _ _ c.if-words-words_needed.true)

pub size_set-requires-clause-most_live_in_bounds : goal.size_set-requires-clause-most_live_in_bounds
size_set-requires-clause-most_live_in_bounds c = omega (arith, c.if-words-words_needed.false, c.words_needed.ensures, windows_some _ (windowed_is c.args.g (shipped_windowed c.args.g c.requires.head_words_in_bounds.1)))

pub returns-then-plain_windows : goal.returns-then-plain_windows
unfolding cond
returns-then-plain_windows c =
    let a = c.args in
    let long = rw c.words_needed.ensures at (le-ltb _ _ c.if-words-words_needed.false) in
    let windows = c.plain_windows.ensures c.if-plain_windows.true in
    let subs : subs_fit a.words.now a.g ≡ true = sym (subs_by a.words.now a.g _ windows.1) ∙ c.plain_subs.ensures c.if-plain_subs.true in
    fitness_by a.words.now a.g true true long (rw (windows.0, subs) refl) (sym c.if-every_fit.true ∙ c.every_fit.ensures)
