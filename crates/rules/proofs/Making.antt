-- A new pool's words, one word and one worker at a time: what the loops of make add at each turn.
use Prim.Native.Nat.{ℕ, ◌+◌, ◌%◌}
use mathlib.Core.List.{List}
use mathlib.Core.Path.{◌≡◌, refl}
use native.Mathlib.Numerals.{add-one}
use lib.ListN.{set}
use Rattle.rules.specs.Layout.{worker_at, index_at}
use Rattle.rules.specs.Make.{zeroed, indexed}
use Rattle.rules.specs.declared.Settings.{Settings}

pub zeroed_none : (ws : List ℕ) → zeroed ws 0 ≡ ws
unfolding zeroed
zeroed_none ws = refl

pub zeroed_more : (ws : List ℕ) (i : ℕ) → zeroed ws (i + 1) ≡ set (zeroed ws i) i 0
unfolding zeroed
zeroed_more ws i = rw add-one

pub indexed_none : (ws : List ℕ) (g : Settings) → indexed ws g 0 ≡ ws
unfolding indexed
indexed_none ws g = refl

pub indexed_more : (ws : List ℕ) (g : Settings) (i : ℕ) → indexed ws g (i + 1) ≡ set (indexed ws g i) (index_at (worker_at g i)) (i % g.width)
unfolding indexed
indexed_more ws g i = rw add-one
