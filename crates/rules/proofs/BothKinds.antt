-- Queue and stack each have their law of one step; this is the one of settings within limits.
use mathlib.Core.Path.{◌≡◌}
use mathlib.Core.Bool.{true}
use native.Mathlib.Decide.{ℕ_discrete}
use native.Mathlib.Omega.{arith}
use Rattle.rules.specs.Limits.{settings_fit}
use Rattle.rules.specs.Sequential.{Contents}
use Rattle.rules.proofs.Types.{Settings}
use Rattle.rules.proofs.Fitness.{settings_bounds}
use Rattle.rules.proofs.machine.Good.{good}
use Rattle.rules.proofs.machine.Turns.{Kind}
use Rattle.rules.proofs.machine.Machine.{State}
use Rattle.rules.proofs.queue.Inv.{Inv}
use Rattle.rules.proofs.queue.Turn.{queue_kind, queue_inv}
use Rattle.rules.proofs.stack.Turn.{stack_kind}

unfoldable pub kind_by : (g : Settings) → settings_fit g ≡ true → Dec (g.kind ≡ 0) → Kind g
kind_by g limits (yes e) = queue_kind g (good g limits) e
kind_by g limits (no n) = stack_kind g (good g limits) (omega (arith, (settings_bounds g limits).kind1))

abbrev pub kind_of : (g : Settings) → settings_fit g ≡ true → Kind g
kind_of g limits = kind_by g limits (ℕ_discrete g.kind 0)

-- the invariant of a queue, from the kind, which stays shut
pub inv_of : (g : Settings) (limits : settings_fit g ≡ true) → g.kind ≡ 0 → (s : State) (q : Contents) → (kind_of g limits).Inv s q → Inv g s q
unfolding kind_by
inv_of g limits kind s q = by (ℕ_discrete g.kind 0)
  where
    by : (d : Dec (g.kind ≡ 0)) → (kind_by g limits d).Inv s q → Inv g s q
    by (yes e) inv = queue_inv g (good g limits) e s q inv
    by (no n) inv = absurd (n kind)
