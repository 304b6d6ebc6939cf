-- `moves::fit_move` meets its contract: at each return the tests that led there pick the same branch of `fit_move`, and a target that passed them has the
-- words that the pool needs in its new edition.
use Rattle.std.proofs.Common.{◌≡◌, ℕ, ◌≤◌, ◌<◌, Bool, true, false, List, length, Ok, refl, sym, ap, ◌∙◌, le-ltb, lt-ltb}
use Rattle.laws.specs.Choice.{cond}
use Rattle.rules.specs.Answers.{out, refuse}
use Rattle.rules.specs.Layout.{needed}
use Rattle.rules.specs.Make.{in_edition}
use Rattle.rules.specs.declared.Answer.TheVariants.{Moving}
use Rattle.rules.specs.declared.Refusal.TheVariants.{TooFewWords, Excepted}
use Rattle.rules.specs.declared.Settings.{Settings}
use Rattle.turnaround.specs.Move.{may_move, moved_words, fit_move}
use Rattle.turnaround.proofs.May.{may_on}
use Rattle.moves.proofs.fit_move.Goals as goal

-- the three ways, of settings that are those of the new edition
module _ (from : List ℕ) (g : Settings) (to : List ℕ) {h new : Settings} (same : h ≡ new) {may : Bool} (asked : may ≡ may_move from g h) where
  not_moved : may ≡ false → refuse Excepted to ≡ fit_move from g to new
  unfolding fit_move cond
  not_moved e = rw (← same, ← asked, e) refl

  short : may ≡ true → length to < needed h → refuse TooFewWords to ≡ fit_move from g to new
  unfolding fit_move cond
  short e l = rw (← same, ← asked, e, lt-ltb (length to) (needed h) l) refl

  long : may ≡ true → needed h ≤ length to → out (Ok Moving) (moved_words from g to h) ≡ fit_move from g to new
  unfolding fit_move cond
  long e l = rw (← same, ← asked, e, le-ltb (length to) (needed h) l) refl

pub returns-then-not-may_move : goal.returns-then-not-may_move
returns-then-not-may_move c =
    let a = c.args in
    not_moved a.from.now a.g a.to.now c.in_edition-h.ensures c.may_move.ensures c.if-not-may_move.true

pub returns-then-to-words_needed : goal.returns-then-to-words_needed
returns-then-to-words_needed c =
    let a = c.args in
    short a.from.now a.g a.to.now c.in_edition-h.ensures c.may_move.ensures c.if-not-may_move.false (rw c.words_needed.ensures at c.if-to-words_needed.true)

pub move_words-requires : goal.move_words-requires
move_words-requires c =
    let a = c.args in
    record {
      bounds = c.requires.bounds;
      same = rw c.in_edition-h.ensures refl;
      source = c.requires.enough;
      target = rw c.words_needed.ensures at c.if-to-words_needed.false;
      on = λ has. may_on a.from.now a.g _ (sym c.may_move.ensures ∙ c.if-not-may_move.false) has;
    }

pub returns : goal.returns
returns c =
    let a = c.args in
    ap (λ (ws : List ℕ). out (Ok Moving) ws) c.move_words.ensures
    ∙ long a.from.now a.g a.to.now c.in_edition-h.ensures c.may_move.ensures c.if-not-may_move.false (rw c.words_needed.ensures at c.if-to-words_needed.false)
