-- Sums and differences modulo 2^32 that do not wrap, and the next index.
use mathlib.Core.Path.{◌≡◌}
use mathlib.Core.Logic.{◌⊎◌, inl, inr}
use Prim.Native.Nat.{ℕ, suc, ◌+◌, ◌-◌, ◌*◌, ◌^◌, ◌≤◌, ◌<◌}
use native.Mathlib.Nat.{eq-or-lt_of_le, mod-eq_of_lt, mod_self, mod-lt, lt_of_mul-lt-mul_right, mul-le-mul_right}
use native.Mathlib.Numerals.{add-one}
use native.Mathlib.Omega.{arith}
use Rattle.laws.specs.Wrap.{add32, sub32}
use Rattle.rules.specs.Effects.{next_of, stride_of, hop_of}
use Rattle.rules.proofs.Types.{Settings}

pub add32_is : (a b : ℕ) → a + b < 2 ^ 32 → add32 a b ≡ a + b
add32_is a b l = mod-eq_of_lt l

pub sub32_is : (a b : ℕ) → b ≤ a → a < 2 ^ 32 → sub32 a b ≡ a - b
sub32_is a b l m = omega arith

-- one more, as a proof counts it
pub add32_suc : (a : ℕ) → a < 4294967295 → add32 a 1 ≡ suc a
add32_suc a l = omega arith

-- "next" is the index above, or 0 after the last
pub next_cases : (w x : ℕ) → x < w → ((suc x < w) × (next_of w x ≡ suc x)) ⊎ ((suc x ≡ w) × (next_of w x ≡ 0))
unfolding next_of
next_cases w x l = go (eq-or-lt_of_le l)
  where
    go : ((suc x ≡ w) ⊎ (suc x < w)) → ((suc x < w) × (next_of w x ≡ suc x)) ⊎ ((suc x ≡ w) × (next_of w x ≡ 0))
    go (inl e) = inr (e, rw (add-one, e) (mod_self w))
    go (inr m) = inl (m, rw add-one (mod-eq_of_lt m))

pub next_lt : (w x : ℕ) → 1 ≤ w → next_of w x < w
unfolding next_of
next_lt w x l = mod-lt (x + 1) l

pub hop_lt : (g : Settings) (x : ℕ) → 1 ≤ g.width → hop_of g x < g.width
unfolding hop_of
hop_lt g x l = mod-lt (x + stride_of g) l

-- ---- multiples
-- a multiple of d that is below the next one is at most this one
pub multiple_le : (b c d : ℕ) → b * d < c * d + d → b * d ≤ c * d
multiple_le b c d l =
    let m : b * d < suc c * d = omega arith in
    let k : b < suc c = lt_of_mul-lt-mul_right d m in
    mul-le-mul_right d (omega arith)

pub multiple_lt : (c a d : ℕ) → c * d < a * d → c * d + d ≤ a * d
multiple_lt c a d l =
    let m : suc c * d ≤ a * d = mul-le-mul_right d (lt_of_mul-lt-mul_right d l) in
    omega arith
