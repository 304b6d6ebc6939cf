-- The check step. One that finds the window's version unchanged makes the hit's fact one about the present window, so that the worker's
-- commit, if it is live, has its place in the corridor.
use mathlib.Core.Path.{◌≡◌, refl, sym}
use mathlib.Core.Logic.{inr}
use Prim.Native.Nat.{ℕ}
use native.Mathlib.Omega.{arith}
use borrow.Author.Tests.{eqb-true}
use Rattle.laws.specs.Choice.{cases}
use Rattle.rules.specs.Check.{check_rule}
use Rattle.rules.specs.Sequential.{Contents}
use Rattle.rules.proofs.Types.{Settings, Side, Putting, Taking, Check, StackCommit, Version}
use Rattle.rules.proofs.machine.Machine.{State, sub_in, view_in, phase_in}
use Rattle.rules.proofs.stack.Inv.{sight, Hit, Fits, Windowed, Checking}
use Rattle.rules.proofs.stack.Moves.{Stepping, On, known, walk, restart}

-- a live worker that checked the present window has its place in the corridor
hit_fits : (g : Settings) (side : Side) (window lo c : ℕ) → Windowed g window lo → Hit g side window c → Fits g side lo c
hit_fits g Putting window lo c o t = omega (arith, o.window_lo)
hit_fits g Taking window lo c o t = omega (arith, o.lo_window)

module _ {g : Settings} {s : State} {q : Contents} {i : ℕ} (a : Stepping g s q i) where
  abbrev j : ℕ
  j = sub_in s i

  pub turn_check : (side : Side) (version seen : Version) → phase_in g s i ≡ Check side version seen → On a (check_rule g (view_in g s i) side version seen)
  unfolding check_rule
  turn_check side version seen e =
      let k : Checking g (sight s) side version.0 seen.0 j = known a e in
      cases (On a) _ _ _
      (λ t.
      let now : version.0 ≡ s.mark = sym (eqb-true _ _ t) in
      walk a e side refl j (StackCommit side seen) _ refl tt (record {
        seen_le = k.seen_le;
        checked = inr (k.hit now);
        fits = λ u. hit_fits g side s.top a.inv.ghost.lo (s.first j) a.inv.pool.window (k.hit now u);
      }))
      (λ t. restart a e side refl j)
