-- The subs that a pass has visited: with `scan` reads done and `index` next, the `scan` subs before `index`, around the end.
-- No start index has to be remembered.
use mathlib.Core.Path.{◌≡◌}
use mathlib.Core.Logic.{◌⊎◌, inl, inr}
use Prim.Native.Nat.{ℕ, suc, ◌+◌, ◌≤◌, ◌<◌}
use native.Mathlib.Decide.{dec_lt}
use native.Mathlib.Omega.{arith}
use Rattle.rules.specs.Effects.{next_of}
use Rattle.rules.proofs.counts.Wraps.{next_cases}

pub data Visited (w index scan j : ℕ) : Type 0 where
  behind : j < index → index ≤ j + scan → Visited w index scan j
  around : index + w ≤ j + scan → Visited w index scan j

pub visited_none : {w index j : ℕ} → j < w → Visited w index 0 j → ⊥
visited_none l (behind a b) = omega arith
visited_none l (around a) = omega arith

pub visited_all : {w index j : ℕ} → index < w → j < w → Visited w index w j
visited_all {w} {index} {j} l m = elim (dec_lt j index) [ yes a ↦ behind a (omega arith) | no a ↦ around (omega arith) ]

pub visited_here : {w index scan : ℕ} → scan < w → Visited w index scan index → ⊥
visited_here l (behind a b) = omega arith
visited_here l (around a) = omega arith

module _ (w : ℕ) where
  abbrev Steps : ℕ → Type 0
  Steps x = ((suc x < w) × (next_of w x ≡ suc x)) ⊎ ((suc x ≡ w) × (next_of w x ≡ 0))

  pub visited_next : {index scan j : ℕ} → index < w → j < w → Visited w (next_of w index) (suc scan) j
      → (j ≡ index) ⊎ Visited w index scan j
  visited_next {index} {scan} {j} l m v = go (next_cases w index l) v
    where
      go : Steps index → Visited w (next_of w index) (suc scan) j → (j ≡ index) ⊎ Visited w index scan j
      go (inl c) (behind a b) = elim (dec_lt j index) [ yes y ↦ inr (behind y (omega arith)) | no y ↦ inl (omega arith) ]
      go (inl c) (around a) = inr (around (omega arith))
      go (inr c) (behind a b) = absurd (omega arith)
      go (inr c) (around a) = elim (dec_lt j index) [ yes y ↦ inr (behind y (omega arith)) | no y ↦ inl (omega arith) ]

  pub visited_still : {index scan j : ℕ} → index < w → Visited w index scan j → Visited w (next_of w index) (suc scan) j
  visited_still {index} {scan} {j} l v = go (next_cases w index l) v
    where
      go : Steps index → Visited w index scan j → Visited w (next_of w index) (suc scan) j
      go (inl c) (behind a b) = behind (omega arith) (omega arith)
      go (inl c) (around a) = around (omega arith)
      go (inr c) (behind a b) = around (omega arith)
      go (inr c) (around a) = around (omega arith)

  pub visited_just : {index scan : ℕ} → index < w → Visited w (next_of w index) (suc scan) index
  visited_just {index} {scan} l = go (next_cases w index l)
    where
      go : Steps index → Visited w (next_of w index) (suc scan) index
      go (inl c) = behind (omega arith) (omega arith)
      go (inr c) = around (omega arith)
