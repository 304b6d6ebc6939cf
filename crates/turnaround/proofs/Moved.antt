-- What a move that answers 0 has done: the target holds the pool, each word at its place in the new edition, and is found fit; and a move that is refused
-- leaves the target as it was.
use Prim.Native.Nat.{ℕ, ◌≤◌, ◌<◌}
use mathlib.Core.Path.{◌≡◌, refl, sym, subst, ◌∙◌}
use mathlib.Core.Bool.{Bool, true, false}
use mathlib.Core.List.{List}
use native.Mathlib.Omega.{arith}
use lib.ListN.{length}
use lib.Dec.{ltb, eqb}
use borrow.Author.Tests.{le-ltb, ltb-false, ne_eqb}
use Rattle.laws.specs.Choice.{cond, cases, both}
use Rattle.rules.specs.Answers.{Out, out, refuse, number_of}
use Rattle.rules.specs.Layout.{settings_of, bottom_word, width_word, needed}
use Rattle.rules.specs.Fit.{past_window, Checked, Unfit, Fit, source_checked, refusal_of}
use Rattle.rules.specs.Make.{in_edition}
use Rattle.rules.specs.NewWord.{new_word}
use Rattle.turnaround.specs.Move.{moved_words, leads, may_move, fit_move, checked_move, move_of}
use Rattle.untouched.specs.Untouched.{Beyond}
use Rattle.turnaround.specs.Turnaround.{SamePool, Moved, MoveDoes, MoveKeeps}
use Rattle.rules.specs.declared.Answer.TheVariants.{Moving}
use Rattle.turnaround.proofs.Types.{Settings, Slot}
use Rattle.rules.proofs.Workers.{word_lt}
use Rattle.rules.proofs.Fitness.{fit_with_other, fit_pool, fit_head, fit_own, refusal_none_by}
use Rattle.untouched.proofs.Untouched.{unchanged}
use Rattle.turnaround.proofs.Words.{head_word, cell_word, moved_beyond, moved_long, moved_settings, kept_word, new_word_law, low_words}
use Rattle.turnaround.proofs.May.{may_on, own_few}
use Rattle.turnaround.proofs.Fits.{Movable, source_pool, source_long, few_live, fit_moved}
use Rattle.std.specs.Prelude.{Ok}
use Rattle.rules.specs.declared.Refusal.TheVariants.{Excepted, NotFit, TooFewWords, WrongEdition}

-- ---- the words
-- before edition 2 no new word of a worker is given anything
pub new_zero : (g : Settings) (o : Slot) (k : ℕ) → k < bottom_word → new_word g o k ≡ 0
unfolding new_word cond
new_zero g o k l =
    cases (λ (x : ℕ). x ≡ 0) (both (eqb g.kind 0) (past_window o.number)) _ _
    (λ t. rw (ne_eqb k bottom_word (λ u. omega arith), ne_eqb k width_word (λ u. omega arith)) refl) (λ t. refl)

module _ (b : ℕ) (from : List ℕ) (g : Settings) (to : List ℕ) (m : Movable b from g to) where
  abbrev h : Settings
  h = in_edition b g

  abbrev moved : List ℕ
  moved = moved_words from g to h

  same_pool : g.edition < 2 → b < 2 → SamePool g from h moved
  same_pool old new =
      let long = source_long b from g to m in
      let few = few_live b from g to m in
      record {
        same = refl;
        old_one = old;
        old_two = new;
        settings_one = (source_pool b from g to m).settings;
        settings_two = moved_settings from g to b long m.long few (source_pool b from g to m).settings;
        enough_one = long;
        enough_two = moved_long from g to b long m.long few;
        head = head_word from g to b long m.long few;
        worker = λ i k l a. kept_word from g to b long m.long few i k l (word_lt g.edition k a) (word_lt b k a);
        cell = cell_word from g to b long m.long few;
      }

  pub moved_is : Moved g.edition b from g to moved
  moved_is =
      let long = source_long b from g to m in
      let few = few_live b from g to m in
      record {
        fit_before = m.fit;
        fit_after = fit_moved b from g to m;
        head = head_word from g to b long m.long few;
        kept = kept_word from g to b long m.long few;
        cell = cell_word from g to b long m.long few;
        pool = same_pool;
        new = λ low i k l a z. new_word_law from g to b long m.long few i k l a z ∙ new_zero g _ k (omega (arith, low_words b low));
        beyond = moved_beyond from g to b long m.long few;
      }

-- ---- a move that answers 0
pub record MoveAccepted (a b : ℕ) (from to : List ℕ) : Type 0 where
  pub edition : (settings_of from).edition ≡ a
  pub movable : Movable b from (settings_of from) to
  pub is : move_of a b from to ≡ out (Ok Moving) (moved_words from (settings_of from) to (in_edition b (settings_of from)))

-- the pool moves, and the target was long enough
fit_accepted : (from : List ℕ) (g : Settings) (to : List ℕ) (h : Settings) → number_of (fit_move from g to h).answer ≡ 0
    → (may_move from g h ≡ true) × (needed h ≤ length to) × (fit_move from g to h ≡ out (Ok Moving) (moved_words from g to h))
unfolding fit_move cond
fit_accepted from g to h none = by (may_move from g h) (ltb (length to) (needed h)) refl none
  where
    by : (may t : Bool) → ltb (length to) (needed h) ≡ t
        → number_of (cond may (cond t (refuse TooFewWords to) (out (Ok Moving) (moved_words from g to h))) (refuse Excepted to)).answer ≡ 0
        → (may ≡ true) × (needed h ≤ length to) × (cond may (cond t (refuse TooFewWords to) (out (Ok Moving) (moved_words from g to h))) (refuse Excepted to) ≡ out (Ok Moving) (moved_words from g to h))
    by false t e z = absurd (omega arith)
    by true true e z = absurd (omega arith)
    by true false e z = (refl, ltb-false _ _ e, refl)

refusal_of_law : (b : ℕ) (from to : List ℕ) (k : Checked) → number_of (checked_move b from k to).answer ≡ 0 → refusal_of k ≡ 0
unfolding checked_move
refusal_of_law b from to (Unfit n) e = e
refusal_of_law b from to (Fit g) e = refl

-- it leads an edition on or back
between : (a b : ℕ) (from to : List ℕ) → number_of (move_of a b from to).answer ≡ 0 → leads a b ≡ true
unfolding move_of cond
between a b from to none = by (leads a b) none
  where
    by : (t : Bool) → number_of (cond t (checked_move b from (source_checked a from) to) (refuse WrongEdition to)).answer ≡ 0 → t ≡ true
    by true z = refl
    by false z = absurd (omega arith)

move_between : (a b : ℕ) (from to : List ℕ) → leads a b ≡ true → move_of a b from to ≡ checked_move b from (source_checked a from) to
unfolding move_of cond
move_between a b from to t = rw t refl

pub move_accepted : (a b : ℕ) (from to : List ℕ) → number_of (move_of a b from to).answer ≡ 0 → MoveAccepted a b from to
unfolding checked_move
move_accepted a b from to none =
    let g = settings_of from in
    let t = between a b from to none in
    let is = move_between a b from to t in
    let zero : number_of (checked_move b from (source_checked a from) to).answer ≡ 0 = rw is at none in
    let found : source_checked a from ≡ Fit g = refusal_none_by WrongEdition a from (refusal_of_law b from to (source_checked a from) zero) in
    let fit = fit_with_other WrongEdition NotFit a from g found in
    let own = (fit_head a from g fit).1 in
    let moves = fit_accepted from g to (in_edition b g) (rw found at zero) in
    record {
      edition = own;
      movable = record {
        fit = fit_own a from g fit;
        leads_on = subst (λ (x : ℕ). leads x b ≡ true) (sym own) t;
        may = moves.0;
        long = moves.1;
      };
      is = is ∙ (rw found moves.2);
    }

-- and the other way round
pub move_accepts : (b : ℕ) (from : List ℕ) (g : Settings) (to : List ℕ) → Movable b from g to
    → move_of g.edition b from to ≡ out (Ok Moving) (moved_words from g to (in_edition b g))
unfolding checked_move fit_move cond
move_accepts b from g to m =
    move_between g.edition b from to m.leads_on
    ∙ (rw (fit_with_other NotFit WrongEdition g.edition from g m.fit, m.may, le-ltb (length to) (needed (in_edition b g)) m.long) refl)

pub move_does : MoveDoes
move_does a b from to none =
    let w = move_accepted a b from to none in
    let g = settings_of from in
    rw w.is
    (subst (λ (x : ℕ). Moved x b from g to (moved_words from g to (in_edition b g))) w.edition (moved_is b from g to w.movable))

-- ---- any move
fit_keeps : (b : ℕ) (from : List ℕ) (g : Settings) (to : List ℕ) → needed g ≤ length from
    → Beyond (needed (in_edition b g)) to (fit_move from g to (in_edition b g)).words
unfolding fit_move
fit_keeps b from g to enough =
    cases Kept (may_move from g (in_edition b g)) _ _
    (λ may. cases Kept (ltb (length to) (needed (in_edition b g))) _ _ (λ t. unchanged _ to)
    (λ t. moved_beyond from g to b enough (ltb-false _ _ t) (λ has. own_few from g (may_on from g (in_edition b g) may has))))
    (λ may. unchanged _ to)
  where
    Kept : Out → Type 0
    Kept o = Beyond (needed (in_edition b g)) to o.words

pub move_keeps : MoveKeeps
unfolding move_of checked_move
move_keeps a b from to =
    cases (λ (o : Out). Beyond (needed (in_edition b (settings_of from))) to o.words) (leads a b) _ _ (λ t. go (source_checked a from) refl) (λ t. unchanged _ to)
  where
    go : (k : Checked) → source_checked a from ≡ k → Beyond (needed (in_edition b (settings_of from))) to (checked_move b from k to).words
    go (Unfit n) e = unchanged _ to
    go (Fit g) e =
        let pool = fit_pool a from g (fit_with_other WrongEdition NotFit a from g e) in
        subst (λ (h : Settings). Beyond (needed (in_edition b h)) to (fit_move from g to (in_edition b g)).words) (sym pool.settings)
        (fit_keeps b from g to pool.enough)
