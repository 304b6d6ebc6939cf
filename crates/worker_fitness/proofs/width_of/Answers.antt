-- `worker_fitness::width_of` meets its contract: the edition, the kind and the phase pick the same branch of the choice.
use Rattle.std.proofs.Common.{eqb, refl, true, ◌∙◌, ◌≡◌, arith, sym}
use Rattle.rules.specs.Limits.{windowed}
use Rattle.rules.proofs.Workers.{windowed_is, words_two}
use Rattle.rules.specs.Worker.{slot_at}
use Rattle.laws.specs.Choice.{cond, both_true}
use Rattle.worker_fitness.proofs.width_of.Goals as goal

pub bounds-words-at : goal.bounds-words-at
bounds-words-at c = let has = both_true _ _ (sym c.has_windows.ensures ∙ c.if-has_windows.true) in omega (arith, words_two _ (windowed_is c.args.g has.0), c.requires)

pub returns-then-past_window : goal.returns-then-past_window
unfolding slot_at cond
returns-then-past_window c =
    let g = c.args.g in
    let has = sym c.has_windows.ensures ∙ c.if-has_windows.true in
    let late : windowed g ≡ true = (both_true (windowed g) (eqb g.kind 0) has).0 in
    rw (has, sym c.past_window.ensures ∙ c.if-past_window.true, late) refl

pub returns-else-past_window : goal.returns-else-past_window
unfolding cond
returns-else-past_window c = rw (sym c.has_windows.ensures ∙ c.if-has_windows.true, sym c.past_window.ensures ∙ c.if-past_window.false) refl

pub returns-else-has_windows : goal.returns-else-has_windows
unfolding cond
returns-else-has_windows c = rw (sym c.has_windows.ensures ∙ c.if-has_windows.false) refl
