-- `bands::reach::joined_from` meets its contract: the sub lies in each window gone through, and the top so far is the bottom of the next.
use Rattle.std.proofs.Common.{◌≡◌, ℕ, ◌≤◌, ◌<◌}
use Rattle.rules.specs.Windows.{nth_size, bottom_of}
use Rattle.bands.proofs.reach.joined_from.Given as goal

abbrev pub invariant-loop-k : goal.invariant-loop-k
invariant-loop-k l = record {
  top : l.top ≡ bottom_of l.words l.g l.k;
  inside : (i : ℕ) → l.from ≤ i → i < l.k → l.j < (nth_size l.words l.g i).width;
}
