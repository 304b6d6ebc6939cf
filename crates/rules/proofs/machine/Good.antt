-- What settings within limits give to a proof.
use mathlib.Core.Path.{◌≡◌}
use mathlib.Core.Bool.{true, false}
use Prim.Native.Nat.{ℕ, ◌*◌, ◌/◌}
use native.Mathlib.Nat.{div-add-mod'}
use native.Mathlib.Omega.{arith}
use Rattle.rules.specs.Limits.{settings_fit, windowed, Bounds}
use Rattle.rules.proofs.Types.{Settings}
use Rattle.rules.proofs.Fitness.{settings_bounds, queue_limits_law}

-- the bounds; and of a queue s = d, and R a multiple of d where windows have no sizes of their own
pub record Good (g : Settings) : Type 0 where
  pub bounds : Bounds g
  pub queue_shift : g.kind ≡ 0 → g.shift ≡ g.depth
  pub times : ℕ
  pub queue_rows : g.kind ≡ 0 → windowed g ≡ false → g.rows ≡ times * g.depth

pub good : (g : Settings) → settings_fit g ≡ true → Good g
good g e =
    record {
      bounds = settings_bounds g e;
      queue_shift = λ k. (queue_limits_law g e k).0;
      times = g.rows / g.depth;
      queue_rows = λ k old. omega (arith, (queue_limits_law g e k).1 old, div-add-mod' g.rows g.depth);
    }
