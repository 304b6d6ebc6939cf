-- Windows that are all of one size: where no call set another, the pairs of the live ones are equal. The quick look before a call asks for this, since where
-- the size is the pool's it is told by a number for each pair.
use Rattle.std.specs.Prelude.{ℕ, ◌+◌, ◌*◌, List, nat_lt, slice_index}
use Rattle.laws.specs.Choice.{cond}

-- two words as one number, the first one lowest
abbrev pub bits_of : ℕ → ℕ → ℕ
bits_of first second = first + 4294967296 * second

-- the two words from `at` on
abbrev pub bits_at : List ℕ → ℕ → ℕ
bits_at ws at = bits_of (slice_index ws at) (slice_index ws (at + 1))

-- the number of pair k, where that of each live window is x, and 0 beyond
abbrev pub wanted_bits : ℕ → ℕ → ℕ → ℕ
wanted_bits live x k = cond (nat_lt k live) x 0
