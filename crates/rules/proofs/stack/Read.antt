-- The read step. A hit goes to check, knowing that it is one at the window seen; a miss goes on (Pass), and after the last one to shift.
use mathlib.Core.Path.{◌≡◌, refl}
use mathlib.Core.Bool.{true, false}
use Prim.Native.Nat.{ℕ, suc, ◌-◌}
use native.Mathlib.Nat.{le_refl}
use native.Mathlib.Omega.{arith}
use borrow.Author.Tests.{ltb-true, ltb-false}
use lib.Dec.{ltb}
use Rattle.laws.specs.Choice.{cases}
use Rattle.laws.specs.Wrap.{add32, sub32}
use Rattle.rules.specs.Effects.{next_of}
use Rattle.rules.specs.Read.{stack_read, stack_hit, miss_of}
use Rattle.rules.specs.Sequential.{Contents}
use Rattle.rules.proofs.Types.{Settings, Side, Putting, Taking, StackRead, Check, StackShift, Version}
use Rattle.rules.proofs.machine.Machine.{State, sub_in, view_in, phase_in}
use Rattle.rules.proofs.counts.Wraps.{add32_suc, sub32_is}
use Rattle.rules.proofs.stack.Inv.{sight, Hit, Missed, Passed, Reading, Checking}
use Rattle.rules.proofs.stack.Moves.{Stepping, On, known, walk}
use Rattle.rules.proofs.stack.Pass.{passed_more}

module _ {g : Settings} {s : State} {q : Contents} {i : ℕ} (a : Stepping g s q i)
    (side : Side) (window : ℕ) (version : Version) (scan sum : ℕ) (e : phase_in g s i ≡ StackRead side window version scan sum) where
  abbrev j : ℕ
  j = sub_in s i

  k : Reading g (sight s) a.inv.ghost side window version.0 j scan sum
  k = known a e

  lowest : sub32 window g.depth ≡ window - g.depth
  lowest = sub32_is window g.depth k.depth_le (omega (arith, k.le_rows, a.good.bounds.rows1024))

  hits : (b : Side) → stack_hit g (view_in g s i) b window ≡ true → Hit g b window (s.first j)
  hits Putting t = ltb-true _ _ t
  hits Taking t = omega (arith, lowest, ltb-true)

  misses : (b : Side) → stack_hit g (view_in g s i) b window ≡ false → Missed g b window (s.first j)
  misses Putting t = ltb-false _ _ t
  misses Taking t = omega (arith, lowest, ltb-false, k.depth_le)

  checks : stack_hit g (view_in g s i) side window ≡ true → Checking g (sight s) side version.0 (s.second j) j
  checks t = record { began = k.passed.began; seen_le = le_refl _; hit = λ u y. rw (k.same u) at (hits side t) }

  goes_by : stack_hit g (view_in g s i) side window ≡ false
      → Passed g (sight s) a.inv.ghost side version.0 (next_of g.width j) (suc scan) (add32 sum (s.second j))
  goes_by t =
      passed_more g (sight s) a.inv.ghost side version.0 j scan sum (a.common.slots i).index k.scan_lt
      (λ u. rw (k.same u) at (misses side t)) k.passed

  scan_is : add32 scan 1 ≡ suc scan
  scan_is = add32_suc scan (omega (arith, k.scan_lt, a.good.bounds.width16))

  all_missed : ltb (suc scan) g.width ≡ false → suc scan ≡ g.width
  all_missed l = omega (arith, ltb-false, k.scan_lt)

  pub turn_read : On a (stack_read g (view_in g s i) side window version scan sum)
  unfolding stack_read miss_of
  turn_read =
      cases (On a) (stack_hit g (view_in g s i) side window) _ _
      (λ t. walk a e side refl j (Check side version (record { 0 = s.second j })) _ refl tt (checks t))
      (λ t. rw scan_is
      (cases (On a) (ltb (suc scan) g.width) _ _
      (λ l. walk a e side refl (next_of g.width j) (StackRead side window version (suc scan) (add32 sum (s.second j))) _ refl tt (record {
        scan_lt = ltb-true _ _ l;
        depth_le = k.depth_le;
        le_rows = k.le_rows;
        same = k.same;
        passed = goes_by t;
      }))
      (λ l. walk a e side refl (next_of g.width j) (StackShift side version 0 (add32 sum (s.second j))) _ refl tt (record {
        scan_is = refl;
        passed = rw (all_missed l) at (goes_by t);
      }))))
