-- The window step. A pass starts at the present window and its version, with no sub read, so there is nothing to know of any.
use mathlib.Core.Path.{◌≡◌, refl}
use Prim.Native.Nat.{ℕ}
use native.Mathlib.Nat.{le_refl}
use native.Mathlib.Omega.{arith}
use lib.Dec.{eqb}
use borrow.Author.Tests.{eqb-true}
use Rattle.laws.specs.Choice.{cases}
use Rattle.rules.specs.Worker.{zero_slot}
use Rattle.rules.specs.Window.{window_rule}
use Rattle.rules.specs.Sequential.{Contents}
use Rattle.rules.proofs.Types.{Settings, Side, Window, StackRead}
use Rattle.rules.proofs.machine.Machine.{State, sub_in, view_in, phase_in}
use Rattle.rules.proofs.counts.Visits.{visited_none}
use Rattle.rules.proofs.counts.Passes.{summed_start}
use Rattle.rules.proofs.stack.Inv.{window_ge, window_le}
use Rattle.rules.proofs.stack.Moves.{Stepping, On, walk}

module _ {g : Settings} {s : State} {q : Contents} {i : ℕ} (a : Stepping g s q i) where
  abbrev j : ℕ
  j = sub_in s i

  pub turn_window : (side : Side) → phase_in g s i ≡ Window side → On a (window_rule g (view_in g s i) side)
  unfolding window_rule
  turn_window side e =
      cases (On a) (eqb g.kind 0) _ _ (λ y. absurd (omega (arith, a.kind, eqb-true g.kind 0 y)))
      (λ n. walk a e side refl j (StackRead side s.top (record { 0 = s.mark }) 0 0) zero_slot refl tt (record {
        scan_lt = a.good.bounds.width1;
        depth_le = window_ge a.inv.pool;
        le_rows = window_le a.inv.pool;
        same = λ u. refl;
        passed = record { began = le_refl _; summed = summed_start g.width 0 s.second j; left = λ u m l x. absurd (visited_none l x) };
      }))
