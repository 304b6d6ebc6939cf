-- A row that reaches figures of the rules: a number that its run shows is what each of them gives at the row's settings.
use Rattle.std.specs.Prelude.{ℕ, ◌+◌, ◌-◌, List, [], ◌∷◌, ◌≡◌, eqb}
use Rattle.laws.specs.Choice.{cond}
use Rattle.rules.specs.Answers.{number_of}
use Rattle.rules.specs.Held.{passed_of}
use Rattle.rules.specs.Run.{Call, call_of, stamp_in}
use Rattle.rules.specs.Statement.{All}
use Rattle.rules.specs.declared.Settings.{Settings}
use Rattle.rules.specs.Answers.{Answered}
use Rattle.runs.specs.Rows.{Line, Row, start_of, Holds}

pub record Reach : Type 0 where
  pub row : Row
  pub shown : Row → ℕ
  pub figures : List (Settings → ℕ)

-- each figure gives the number at the settings
abbrev pub Gives : Settings → ℕ → List (Settings → ℕ) → Type 0
Gives g n = All (λ (f : Settings → ℕ). f g ≡ n)

pub record Reaches (x : Reach) : Type 0 where
  pub holds : Holds x.row
  pub reached : Gives x.row.settings (x.shown x.row) x.figures

-- ---- what a run shows at its end
-- a number of the last line
abbrev last : (Line → ℕ) → List Line → ℕ
last f [] = 0
last f (x ∷ []) = f x
last f (x ∷ y ∷ ys) = last f (y ∷ ys)

-- how many lines have an answer's number
abbrev answered : ℕ → List Line → ℕ
answered n [] = 0
answered n (x ∷ xs) = cond (eqb x.number n) 1 0 + answered n xs

-- the held items that a call passes over, in the words just before, where it is the last step of a take; else 0
abbrev passed_before : Settings → List ℕ → Answered → ℕ
passed_before g ws a = cond (eqb (number_of a) 2) (passed_of ws g (record { 0 = stamp_in a })) 0

-- those that the last of some calls passes over
abbrev passed_last : Settings → List ℕ → List Call → ℕ
passed_last g ws [] = 0
passed_last g ws (c ∷ []) = passed_before g ws (call_of g.edition ws c).answer
passed_last g ws (c ∷ d ∷ cs) = passed_last g (call_of g.edition ws c).words (d ∷ cs)

-- those of its run's last call; what that reports is in its line
abbrev pub passing : List (Settings → ℕ) → Row → Reach
passing fs r = record { row = r; shown = λ (r : Row). passed_last r.settings (start_of r) r.calls; figures = fs }

-- the items held in the end, put and not taken
abbrev pub holding : List (Settings → ℕ) → Row → Reach
holding fs r = record { row = r; shown = λ (r : Row). answered 1 r.lines - answered 2 r.lines; figures = fs }

-- the steps of its last operation
abbrev pub ending : List (Settings → ℕ) → Row → Reach
ending fs r = record { row = r; shown = λ (r : Row). last (λ (x : Line). x.steps) r.lines; figures = fs }

-- ---- a run that passes a figure shows so many more, and one that stays below it so many less
abbrev pub more : ℕ → (Settings → ℕ) → Settings → ℕ
more k f g = f g + k

abbrev pub less : ℕ → (Settings → ℕ) → Settings → ℕ
less k f g = f g - k
