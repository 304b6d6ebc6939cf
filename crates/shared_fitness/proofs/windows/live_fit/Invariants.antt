-- `shared_fitness::windows::live_fit` meets its contract: each window gone through is within limits, and the top so far is the bottom of the next. Sums of
-- 64 bits do not wrap.
use Rattle.rules.specs.declared.Settings.{Settings}
use Rattle.rules.specs.Windows.{nth_size, bottom_of}
use Rattle.rules.specs.Limits.{size_fit}
use Rattle.laws.specs.Choice.{all_below}
use Rattle.std.proofs.Common.{◌≡◌, ℕ, ◌+◌, ◌*◌, ◌^◌, ◌≤◌, Bool, true, List}
use Rattle.shared_fitness.proofs.windows.live_fit.Given as goal

-- whether the size of window k is within limits
abbrev is_fit : List ℕ → Settings → ℕ → Bool
is_fit ws g k = size_fit g (nth_size ws g k)

abbrev pub invariant-loop-k : goal.invariant-loop-k
invariant-loop-k l = (l.top ≤ (l.k + 1) * 2 ^ 32) × (all_below l.k (is_fit l.words l.g) ≡ true) × (l.top ≡ bottom_of l.words l.g l.k)
