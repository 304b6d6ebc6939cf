-- What the tables claim, as tests that compute: proofs/Claims has each claim from its tests.
use Rattle.std.specs.Prelude.{ℕ, Bool, true, false, List, [], ◌∷◌, map, eqb}
use Rattle.laws.specs.Choice.{both, all}
use Rattle.rules.specs.declared.Settings.{Settings}
use Rattle.runs.specs.Rows.{Line, Row, make_number, run_of}
use Rattle.runs.specs.Reach.{Reach}

-- every row passes its tests
abbrev pub every : {A : Type 0} → (A → List Bool) → List A → Bool
every tests xs = all (map (λ x. all (tests x)) xs)

-- ---- comparisons
abbrev pub same_list : {A : Type 0} → (A → A → Bool) → List A → List A → Bool
same_list same [] [] = true
same_list same [] (y ∷ ys) = false
same_list same (x ∷ xs) [] = false
same_list same (x ∷ xs) (y ∷ ys) = both (same x y) (same_list same xs ys)

abbrev pub line_tests : Line → Line → List Bool
line_tests x y = eqb x.worker y.worker ∷ eqb x.steps y.steps ∷ eqb x.number y.number ∷ same_list eqb x.fields y.fields ∷ []

abbrev pub same_line : Line → Line → Bool
same_line x y = all (line_tests x y)

-- ---- a row's tests
abbrev pub holds : Row → List Bool
holds r = eqb (make_number r.settings r.lent) r.made ∷ same_list same_line (run_of r) r.lines ∷ []

abbrev pub gives : Settings → ℕ → List (Settings → ℕ) → Bool
gives g n = every (λ (f : Settings → ℕ). eqb (f g) n ∷ [])

abbrev pub reaches : Reach → List Bool
reaches x = all (holds x.row) ∷ gives x.row.settings (x.shown x.row) x.figures ∷ []
