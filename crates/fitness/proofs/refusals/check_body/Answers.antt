-- `fitness::refusals::check_body` meets its contract: at each return the tests that led there pick the same branch of `body_checked`, and each call stands for what it ensures.
use Rattle.std.proofs.Common.{◌<◌, true, false, refl, sym, ap, ◌∙◌, length}
use borrow.Author.Tests.{le-ltb, lt-ltb}
use Rattle.laws.specs.Choice.{cond}
use Rattle.rules.specs.Fit.{body_checked, fitness_of}
use Rattle.rules.specs.Layout.{needed, settings_of}
use Rattle.rules.specs.declared.Settings.{Settings}
use Rattle.fitness.proofs.Bodies.{fitness_by}
use Rattle.fitness.proofs.refusals.check_body.Goals as goal
use Rattle.fitness.proofs.refusals.check_body.Goals.{else-shared_fit-via-then-shared_fit+else-workers_fit, else-shared_fit-via-else-shared_fit}

pub returns-then-words-words_needed : goal.returns-then-words-words_needed
unfolding body_checked cond
returns-then-words-words_needed c =
    let a = c.args in
    let short : length a.words.now < needed (settings_of a.words.now) = rw c.settings-g.ensures at (rw c.words_needed.ensures at c.if-words-words_needed.true) in
    rw (lt-ltb _ _ short) refl

pub returns-then-workers_fit : goal.returns-then-workers_fit
unfolding cond
returns-then-workers_fit c =
    let long = rw c.words_needed.ensures at (le-ltb _ _ c.if-words-words_needed.false) in
    fitness_by c.args.words.now _ true true long (sym c.if-shared_fit.true ∙ c.shared_fit.ensures) (sym c.if-workers_fit.true ∙ c.workers_fit.ensures)
    ∙ ap (λ (g : Settings). fitness_of (body_checked c.args.words.now g)) c.settings-g.ensures

pub returns : goal.returns
unfolding cond
returns c =
    let long = rw c.words_needed.ensures at (le-ltb _ _ c.if-words-words_needed.false) in
    elim c.else-shared_fit.branch [
      | else-shared_fit-via-then-shared_fit+else-workers_fit w ↦
          fitness_by c.args.words.now _ true false long (sym w.if-shared_fit.true ∙ c.shared_fit.ensures) (sym w.if-workers_fit.false ∙ w.workers_fit.ensures)
      | else-shared_fit-via-else-shared_fit w ↦ fitness_by c.args.words.now _ false _ long (sym w.if-shared_fit.false ∙ c.shared_fit.ensures) refl
    ]
    ∙ ap (λ (g : Settings). fitness_of (body_checked c.args.words.now g)) c.settings-g.ensures
