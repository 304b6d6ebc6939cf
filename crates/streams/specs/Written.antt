-- What a stream holds after bytes were written to it: behind what it held, all of them where all were written, and else the first of them.
use Rattle.std.specs.Prelude.{ℕ, ◌<◌, List, Option, Result, length, take, MatchResult}
use Rattle.std.specs.Io.KnownBytes.{Appends}

abbrev pub WrittenTo : {X E : Type 0} → Option (List ℕ) → Option (List ℕ) → List ℕ → Result X E → Type 0
WrittenTo old new bytes r = MatchResult r (λ _. Appends old new bytes) (λ _. (n : ℕ) × (n < length bytes) × Appends old new (take n bytes))
