-- Where a worker goes that lost a commit: that pools of two editions, and of strides 0 and 1, go on alike (crates/turnaround, crates/strides) rests on this.
use Prim.Native.Nat.{ℕ}
use mathlib.Core.Path.{◌≡◌, refl}
use Rattle.laws.specs.Choice.{cond}
use Rattle.rules.specs.Make.{in_edition, with_stride}
use Rattle.rules.specs.Effects.{hop_of}
use Rattle.rules.specs.declared.Settings.{Settings}

-- its index moves on by the stride, whatever the edition
pub hops_same : (g : Settings) (e k : ℕ) → hop_of (in_edition e g) k ≡ hop_of g k
unfolding hop_of
hops_same g e k = refl

-- stride 0 stands for 1
pub hops_alike : (g : Settings) → g.stride ≡ 0 → (k : ℕ) → hop_of (with_stride g 1) k ≡ hop_of g k
unfolding hop_of cond
hops_alike g z k = rw z refl
