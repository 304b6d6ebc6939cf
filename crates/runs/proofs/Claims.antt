-- A table's rows are compared with the run of the rules by one test, which computes, and what passes the test holds:
-- so a new row is a line of its table, and no line of a proof. That a row's `made` is make's number whatever the lent words hold is
-- `make_number_law`: it depends on the settings and on how many words are lent alone, so the large settings are judged by their size.
use Prim.Native.Nat.{ℕ}
use mathlib.Core.List.{List, [], ◌∷◌}
use mathlib.Core.Path.{◌≡◌, refl}
use mathlib.Core.Bool.{Bool, true, false, false≢true}
use lib.ListN.{length}
use lib.Dec.{ltb, eqb}
use borrow.Author.Tests.{eqb-true}
use Rattle.laws.specs.Choice.{cond, both_true, all, all_holds, Holds as Passed}
use Rattle.rules.specs.Answers.{number_of, out, refuse}
use Rattle.rules.specs.Layout.{needed}
use Rattle.rules.specs.Limits.{settings_fit}
use Rattle.rules.specs.Make.{made_words, make_of}
use Rattle.rules.specs.Statement.{All}
use Rattle.rules.specs.declared.Settings.{Settings}
use Rattle.rules.specs.declared.Answer.TheVariants.{Moving}
use Rattle.runs.specs.Rows.{Row, make_number, Holds}
use Rattle.runs.specs.Reach.{Reach, Reaches, Gives}
use Rattle.runs.specs.Tests.{every, same_list, line_tests, same_line, holds, gives, reaches}
use Rattle.std.specs.Prelude.{Ok}
use Rattle.rules.specs.declared.Refusal.TheVariants.{OffLimits, TooFewWords}

pub make_number_law : (ws : List ℕ) (g : Settings) → number_of (make_of ws g).answer ≡ make_number g (length ws)
unfolding make_of make_number cond
make_number_law ws g = go (settings_fit g) (ltb (length ws) (needed g))
  where
    go : (a b : Bool) → number_of (cond a (cond b (refuse TooFewWords ws) (out (Ok Moving) (made_words ws g))) (refuse OffLimits ws)).answer ≡ cond a (cond b 21 0) 22
    go true true = refl
    go true false = refl
    go false b = refl

-- ---- what passes a comparison is equal
abbrev pub Right : {A : Type 0} → (A → A → Bool) → Type 0
Right {A = A} same = (x y : A) → same x y ≡ true → x ≡ y

pub list_right : {A : Type 0} (same : A → A → Bool) → Right same → Right (same_list same)
list_right same right [] [] e = refl
list_right same right [] (y ∷ ys) e = absurd (false≢true e)
list_right same right (x ∷ xs) [] e = absurd (false≢true e)
list_right same right (x ∷ xs) (y ∷ ys) e =
    let t = both_true (same x y) (same_list same xs ys) e in
    λ i. right x y t.0 i ∷ list_right same right xs ys t.1 i

pub line_right : Right same_line
line_right x y e =
    let t = all_holds (line_tests x y) e in
    λ i. record {
      worker = eqb-true x.worker y.worker t.0 i;
      steps = eqb-true x.steps y.steps t.1.0 i;
      number = eqb-true x.number y.number t.1.1.0 i;
      fields = list_right eqb eqb-true x.fields y.fields t.1.1.1.0 i;
    }

-- ---- the tests give the claims
pub all_from_tests :
    {A : Type 0} {P : A → Type 0} (tests : A → List Bool) → ((x : A) → Passed (tests x) → P x)
    → (xs : List A) → every tests xs ≡ true → All P xs
all_from_tests tests claim [] e = tt
all_from_tests tests claim (x ∷ xs) e =
    let t = both_true (all (tests x)) (every tests xs) e in
    (claim x (all_holds (tests x) t.0), all_from_tests tests claim xs t.1)

pub row_holds : (r : Row) → Passed (holds r) → Holds r
row_holds r t = record { made = eqb-true _ _ t.0; lines = list_right same_line line_right _ _ t.1.0 }

pub figures_give : (g : Settings) (n : ℕ) (fs : List (Settings → ℕ)) → gives g n fs ≡ true → Gives g n fs
figures_give g n = all_from_tests (λ f. eqb (f g) n ∷ []) (λ f t. eqb-true (f g) n t.0)

pub row_reaches : (x : Reach) → Passed (reaches x) → Reaches x
row_reaches x t = record { holds = row_holds x.row (all_holds (holds x.row) t.0); reached = figures_give _ _ x.figures t.1.0 }
