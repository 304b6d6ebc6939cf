-- The higher and the lower of two rows are the greatest and the least of two numbers.
use Rattle.std.proofs.Common.{◌≡◌, ℕ, max, min, arith}
use Rattle.rules.specs.Windows.{higher, lower}

pub max_is_higher : (a b : ℕ) → max a b ≡ higher a b
max_is_higher a b = omega arith

pub min_is_lower : (a b : ℕ) → min a b ≡ lower a b
min_is_lower a b = omega arith
