-- How rows are written: settings, calls, and the lines of finished operations.
use Rattle.std.specs.Prelude.{ℕ, List, [], ◌∷◌, replicate}
use Rattle.rules.specs.Layout.{needed}
use Rattle.rules.specs.Make.{shipped}
use Rattle.rules.specs.Run.{Call, begin_put, begin_take, step}
use Rattle.rules.specs.declared.Settings.{Settings}
use Rattle.runs.specs.Rows.{Line, Row}

-- with stride 0, as paper 01 has them; of the shipped edition
abbrev pub queue : ℕ → ℕ → ℕ → ℕ → Settings
queue width depth rows workers = record { kind = 0; width = width; depth = depth; shift = depth; rows = rows; workers = workers; stride = 0; edition = shipped }

abbrev pub stack : ℕ → ℕ → ℕ → ℕ → ℕ → Settings
stack width depth shift rows workers = record { kind = 1; width = width; depth = depth; shift = shift; rows = rows; workers = workers; stride = 0; edition = shipped }

-- ---- rows
abbrev pub makes : Settings → ℕ → ℕ → Row
makes g lent number = record { settings = g; lent = lent; made = number; counted = 0; calls = []; lines = [] }

-- just the needed words are lent
abbrev pub runs : Settings → List Call → List Line → Row
runs g calls lines = record { settings = g; lent = needed g; made = 0; counted = 0; calls = calls; lines = lines }

-- ---- calls: a worker's steps, and an operation begun with its first steps
abbrev pub steps : ℕ → ℕ → List Call
steps i k = replicate k (step i)

abbrev pub put : ℕ → ℕ → ℕ → List Call
put i value k = begin_put i value ∷ steps i k

abbrev pub take : ℕ → ℕ → List Call
take i k = begin_take i ∷ steps i k

-- ---- lines: the worker, the steps taken, then the answer
abbrev pub landed : ℕ → ℕ → ℕ → ℕ → ℕ → ℕ → Line
landed i k value sub row stamp = record { worker = i; steps = k; number = 1; fields = value ∷ sub ∷ row ∷ stamp ∷ 0 ∷ [] }

abbrev pub taken : ℕ → ℕ → ℕ → ℕ → ℕ → ℕ → ℕ → Line
taken i k value sub row stamp distance = record { worker = i; steps = k; number = 2; fields = value ∷ sub ∷ row ∷ stamp ∷ distance ∷ [] }

abbrev pub plain : ℕ → ℕ → ℕ → Line
plain i k number = record { worker = i; steps = k; number = number; fields = 0 ∷ 0 ∷ 0 ∷ 0 ∷ 0 ∷ [] }
