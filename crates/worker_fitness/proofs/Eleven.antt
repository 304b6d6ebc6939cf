-- A worker of the shipped edition has eleven words, and is fit where each is: they are the tests of `worker_fit` in the order of the words.
use Rattle.std.proofs.Common.{ℕ, ◌+◌, refl, ◌∙◌, List, Bool, true, false, le_refl, add-zero, ltb, leb, eqb, get_or, le-leb, ◌≡◌}
use Rattle.laws.specs.Choice.{cond, both, all_below, all_below_none}
use Rattle.worker_fitness.specs.Words.{word_fit}
use Rattle.laws.specs.Looks.{all_step}
use Rattle.limits.proofs.Shipped.{shipped_windowed}
use Rattle.worker_fitness.proofs.Seen.{bound_of, unseen_fit, worker_by_width}
use Rattle.rules.specs.Fit.{phase_fit, past_window, worker_fit}
use Rattle.rules.specs.Limits.{windowed}
use Rattle.rules.specs.Layout.{worker_words}
use Rattle.rules.proofs.Workers.{windowed_is, words_two}
use Rattle.rules.specs.Make.{shipped}
use Rattle.rules.specs.Worker.{slot_at}
use Rattle.rules.specs.declared.Settings.{Settings}

-- eleven tests
abbrev eleven_of : (ℕ → Bool) → Bool
eleven_of p = both (both (both (both (both (both (both (both (both (both (both true (p 0)) (p 1)) (p 2)) (p 3)) (p 4)) (p 5)) (p 6)) (p 7)) (p 8)) (p 9)) (p 10)

eleven : (p : ℕ → Bool) → all_below 11 p ≡ eleven_of p
eleven p = rw (all_step 10 p, all_step 9 p, all_step 8 p, all_step 7 p, all_step 6 p, all_step 5 p, all_step 4 p, all_step 3 p, all_step 2 p, all_step 1 p, all_step 0 p, all_below_none p) refl

-- of which five say something
five : (a b c d e : Bool) → both (both (both (both (both (both (both (both (both (both (both true a) true) b) true) true) c) true) true) true) d) e ≡ both a (both b (both c (both d e)))
five false b c d e = refl
five true false c d e = refl
five true true false d e = refl
five true true true false e = refl
five true true true true e = refl

queue_order : (a b c e : Bool) → both a (both b (both c (both true e))) ≡ both a (both e (both (both b c) true))
queue_order false b c e = refl
queue_order true false c false = refl
queue_order true false c true = refl
queue_order true true false false = refl
queue_order true true false true = refl
queue_order true true true false = refl
queue_order true true true true = refl

stack_order : (a b c d : Bool) → both a (both b (both c d)) ≡ both a (both true (both (both b c) d))
stack_order false b c d = refl
stack_order true false c d = refl
stack_order true true false d = refl
stack_order true true true d = refl

-- word k of the worker at a place
abbrev pub word_is_fit : Settings → List ℕ → ℕ → ℕ → Bool
word_is_fit g ws at k = word_fit g (bound_of g (slot_at g ws at)) k (get_or ws (at + k) 0)

in_order : (g : Settings) (ws : List ℕ) (at : ℕ) → windowed g ≡ true → (q : Bool) → eqb g.kind 0 ≡ q → let s = slot_at g ws at in
    eleven_of (word_is_fit g ws at)
    ≡ both (phase_fit g.kind s.number) (both (leb (bound_of g s) g.width) (both (both (ltb s.index (bound_of g s)) (ltb s.scan (bound_of g s))) (unseen_fit g s)))
unfolding word_fit slot_at cond
in_order g ws at late true f =
    let x = get_or ws at 0 in
    let bound = cond (past_window x) (get_or ws (at + 10) 0) g.width in
    let index = ltb (get_or ws (at + 2) 0) bound in
    let scan = ltb (get_or ws (at + 5) 0) bound in
    rw (late, f, add-zero at) (five (phase_fit g.kind x) index scan true (leb bound g.width) ∙ queue_order (phase_fit g.kind x) index scan (leb bound g.width))
in_order g ws at late false f =
    let phase = phase_fit g.kind (get_or ws at 0) in
    let index = ltb (get_or ws (at + 2) 0) g.width in
    let scan = ltb (get_or ws (at + 5) 0) g.width in
    let bottom = eqb (get_or ws (at + 9) 0) 0 in
    let width = eqb (get_or ws (at + 10) 0) 0 in
    rw (late, f, add-zero at, le-leb g.width g.width (le_refl g.width)) (five phase index scan bottom width ∙ stack_order phase index scan (both bottom width))

pub words_fit : (g : Settings) (ws : List ℕ) (at : ℕ) → g.edition ≡ shipped → all_below 11 (word_is_fit g ws at) ≡ worker_fit g (slot_at g ws at)
words_fit g ws at e = eleven (word_is_fit g ws at) ∙ in_order g ws at (shipped_windowed g e) (eqb g.kind 0) refl ∙ worker_by_width g (slot_at g ws at)

-- the same with a width that was worked out before
pub words_fit_by : (g : Settings) (ws : List ℕ) (at width : ℕ) → g.edition ≡ shipped → width ≡ bound_of g (slot_at g ws at)
    → all_below 11 (λ k. word_fit g width k (get_or ws (at + k) 0)) ≡ worker_fit g (slot_at g ws at)
words_fit_by g ws at width e is = rw is (words_fit g ws at e)

-- a worker of the shipped edition has so many words
pub eleven_words : (g : Settings) → g.edition ≡ shipped → worker_words g.edition ≡ 11
eleven_words g e = words_two g.edition (windowed_is g (shipped_windowed g e))
