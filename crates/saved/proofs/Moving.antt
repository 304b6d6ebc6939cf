-- What a move leaves for a file: a refusal nothing, and any other a fit pool, whose settings are within limits and whose needed words are there.
use Rattle.std.proofs.Common.{◌≡◌, ℕ, ◌≤◌, List, [], length, ltb, Ok, Err, refl, sym, subst, eq-eqb, ne_eqb, arith}
use Rattle.laws.specs.Choice.{cond, cases}
use Rattle.rules.specs.Answers.{Out, number_of, refusal_number}
use Rattle.rules.specs.Fit.{Checked, Unfit, Fit, source_checked}
use Rattle.rules.specs.Layout.{settings_of, needed}
use Rattle.rules.specs.Limits.{Bounds}
use Rattle.rules.specs.Make.{in_edition}
use Rattle.rules.specs.declared.Answer.{Answer}
use Rattle.rules.specs.declared.Refusal.{Refusal}
use Rattle.rules.specs.declared.Settings.{Settings}
use Rattle.rules.proofs.Fitness.{fit_pool}
use Rattle.rules.proofs.Numbered.{number_high}
use Rattle.turnaround.specs.Move.{leads, may_move, fit_move, checked_move, move_of}
use Rattle.turnaround.proofs.Moved.{move_does}
use Rattle.saved.specs.Bytes.{bytes_for}
use Rattle.saved.specs.File.{saved, saved_by, pool_words}

pub refused_nothing : (o : Out) (refusal : Refusal) → o.answer ≡ Err refusal → saved_by o ≡ saved (refusal_number refusal) []
unfolding saved_by cond
refused_nothing o refusal e = rw (e, ne_eqb (refusal_number refusal) 0 (λ z. absurd (omega (arith, number_high refusal)))) refl

-- a move that is not refused answers 0
Zero : Out → Type 0
Zero o = (x : Answer) → o.answer ≡ Ok x → number_of o.answer ≡ 0

checked_zero : (b : ℕ) (from to : List ℕ) (k : Checked) → Zero (checked_move b from k to)
unfolding Zero checked_move fit_move
checked_zero b from to (Unfit refusal) = λ x e. cc
checked_zero b from to (Fit g) =
    let h = in_edition b g in
    cases Zero (may_move from g h) _ _ (λ may. cases Zero (ltb (length to) (needed h)) _ _ (λ short x e. cc) (λ long x e. refl)) (λ not x e. cc)

pub moved_zero : (a b : ℕ) (from to : List ℕ) (x : Answer) → (move_of a b from to).answer ≡ Ok x → number_of (move_of a b from to).answer ≡ 0
unfolding Zero move_of
moved_zero a b from to = cases Zero (leads a b) _ _ (λ led. checked_zero b from to (source_checked a from)) (λ not x e. cc)

pub moved_bytes : (o : Out) → number_of o.answer ≡ 0 → saved_by o ≡ saved (number_of o.answer) (bytes_for (pool_words o.words))
unfolding saved_by cond
moved_bytes o e = rw (eq-eqb (number_of o.answer) 0 e) refl

pub record MovedPool (vs : List ℕ) (h : Settings) : Type 0 where
  pub bounds : Bounds h
  pub enough : needed h ≤ length vs

pub moved_pool : (a b : ℕ) (from to : List ℕ) → number_of (move_of a b from to).answer ≡ 0
    → MovedPool (move_of a b from to).words (settings_of (move_of a b from to).words)
moved_pool a b from to none =
    let vs = (move_of a b from to).words in
    let does = move_does a b from to none in
    let pool = fit_pool b vs (in_edition b (settings_of from)) does.fit_after in
    subst (MovedPool vs) (sym pool.settings) (record { bounds = pool.bounds; enough = pool.enough })
