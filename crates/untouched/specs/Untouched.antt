-- "Words beyond the needed ones are never touched", of every call on any words. Of a dispatch it is said in crates/rounds (specs/DispatchSteps), of a move
-- in crates/turnaround (specs/Turnaround).
use Rattle.std.specs.Prelude.{ℕ, ◌≤◌, ◌≡◌, List, get_or, length}
use Rattle.rules.specs.Layout.{needed, settings_of}
use Rattle.rules.specs.Make.{make_of}
use Rattle.rules.specs.Begin.{begin_of}
use Rattle.rules.specs.Step.{step_of}
use Rattle.rules.specs.Resize.{set_size_of}
use Rattle.rules.specs.declared.Settings.{Settings}
use Rattle.rules.specs.declared.Side.{Side}
use Rattle.rules.specs.declared.Size.{Size}

-- as many words as before, and those from `n` on as they were
pub record Beyond (n : ℕ) (before after : List ℕ) : Type 0 where
  pub length_same : length after ≡ length before
  pub same : (k : ℕ) → n ≤ k → get_or after k 0 ≡ get_or before k 0

abbrev pub MakeKeeps : Type 0
MakeKeeps = (ws : List ℕ) (g : Settings) → Beyond (needed g) ws (make_of ws g).words

abbrev pub BeginKeeps : Type 0
BeginKeeps = (e : ℕ) (ws : List ℕ) (i : ℕ) (side : Side) (value : ℕ) → Beyond (needed (settings_of ws)) ws (begin_of e ws i side value).words

abbrev pub StepKeeps : Type 0
StepKeeps = (e : ℕ) (ws : List ℕ) (i : ℕ) → Beyond (needed (settings_of ws)) ws (step_of e ws i).words

abbrev pub SetSizeKeeps : Type 0
SetSizeKeeps = (e : ℕ) (ws : List ℕ) (size : Size) → Beyond (needed (settings_of ws)) ws (set_size_of e ws size).words
