-- The shift step. Where the window moves, every sub was left behind by the pass that led here, so the corridor moves with it.
-- Where it cannot move, the worker goes to confirm, and this step is its linearization point if it wins (Pass).
use mathlib.Core.Path.{◌≡◌, refl, sym}
use mathlib.Core.Bool.{Bool, true, false}
use Prim.Native.Nat.{ℕ, suc, ◌+◌, ◌-◌, ◌<◌}
use native.Mathlib.Nat.{le_refl}
use native.Mathlib.Omega.{arith}
use borrow.Author.Tests.{ltb-true, ltb-false, leb-true, leb-false, eqb-true}
use lib.Dec.{ltb, leb}
use Rattle.laws.specs.Choice.{cases}
use Rattle.laws.specs.Wrap.{add32, sub32}
use Rattle.rules.specs.Worker.{encode}
use Rattle.rules.specs.Effects.{moved_of}
use Rattle.rules.specs.Shift.{stack_shift, shift_by, shifted_of}
use Rattle.rules.specs.Sequential.{Contents}
use Rattle.rules.specs.declared.Outcome.TheVariants.{Shifted}
use Rattle.rules.proofs.Types.{Settings, Side, Putting, Taking, Window, StackShift, StackConfirm, Version, Worker}
use Rattle.rules.proofs.machine.Machine.{State, sub_in, view_in, phase_in, turned_in, apply_moved, apply_shifted}
use Rattle.rules.proofs.counts.Wraps.{add32_is, add32_suc, sub32_is}
use Rattle.rules.proofs.counts.Visits.{visited_all}
use Rattle.rules.proofs.counts.Passes.{Pass}
use Rattle.rules.proofs.machine.Ways.{Stuck, Written, by_walk, by_try}
use Rattle.rules.proofs.stack.Inv.{Ghost, Sight, sight, Left, Shifting, Pool, versions_in, versions_few, window_ge, window_le}
use Rattle.rules.proofs.stack.Moves.{Stepping, On, moves, known, written, inv_after, moved, inv_still, restart}
use Rattle.rules.proofs.stack.Corridor.{Able, Unable, window_after, lo_after, window_after_shift, corridor_moves}
use Rattle.rules.proofs.stack.Others.{knows_shifted}
use Rattle.rules.proofs.stack.Pass.{pass_begins}

module _ {g : Settings} {s : State} {q : Contents} {i : ℕ} (a : Stepping g s q i) where
  abbrev j : ℕ
  j = sub_in s i

  abbrev v : Sight
  v = sight s

  -- ---- all subs are left behind at the present window
  module _ (side : Side) (version : Version) (scan sum : ℕ) (e : phase_in g s i ≡ StackShift side version scan sum) (now : version.0 ≡ s.mark) where
    k : Shifting g v a.inv.ghost side version.0 j scan sum
    k = known a e

    abbrev reads : ℕ → ℕ
    reads = k.passed.summed.reads

    left : (m : ℕ) → m < g.width → Left g v a.inv.ghost side (reads m) m
    left m l = k.passed.left now m l (visited_all (a.common.slots i).index l)

    -- ---- the window moves
    module _ (able : Able g side s.top) where
      abbrev begins : Worker
      begins = moves s i j (Window side)

      abbrev t : State
      t = turned_in s i (window_after g side s.top) (suc s.mark) s.frame (encode g begins (s.slot i))

      abbrev ghost : Ghost
      ghost = record { lo = lo_after g side s.top; era = s.second }

      w : Written g versions_in s i begins t
      w = written g a.kind s i begins (s.slot i) t tt refl (λ m. le_refl _)

      pool : Pool g t q ghost
      pool =
          let o = a.inv.pool in
          record {
            window = window_after_shift g a.good.bounds v a.inv.ghost o.window side able;
            corridor = corridor_moves g a.good.bounds v a.inv.ghost o.window side able reads left o.corridor;
            eras = λ m. le_refl _;
            few = record { puts = o.few.puts; changes = omega (arith, o.few.changes); steps = a.time };
            stamps = o.stamps;
            pairs = o.pairs;
            holding = record { held = o.holding.held; count = o.holding.count };
          }

      shifts : On a (shifted_of g (view_in g s i) Shifted side (window_after g side s.top) (suc s.mark))
      shifts =
          rw (apply_shifted g s i side (window_after g side s.top) (suc s.mark))
          (by_walk w e refl refl
          (inv_after a w ghost pool
          (λ m p h. knows_shifted g a.good.bounds v a.inv.ghost a.inv.pool.window side able a.inv.pool.eras reads left
          (sub_in s m) (a.common.slots m).index p h) tt))

    -- ---- the window cannot move
    abbrev confirms : Worker
    confirms = moves s i j (StackConfirm side scan sum)

    goes_to_confirm : Unable g side s.top → On a (moved_of g (view_in g s i) j (StackConfirm side scan sum) (s.slot i))
    goes_to_confirm l =
        let pass : Pass g.width 0 (Stuck g side q) s.second s.second j scan sum =
        rw k.scan_is (pass_begins a.kind a.inv.pool side version.0 j sum (a.common.slots i).index k.passed now l) in
        rw (apply_moved g s i j (StackConfirm side scan sum) (s.slot i))
        (by_try (moved a confirms (s.slot i) tt) e refl refl
        (inv_still a confirms (s.slot i) tt (omega (arith, k.scan_is, a.good.bounds.width1))) pass)

  -- ---- the rule, the same on both sides but for the tests and the new window
  shift_by_law : (side : Side) (version : Version) (scan sum : ℕ) → phase_in g s i ≡ StackShift side version scan sum
      → (same able : Bool) → (same ≡ true → version.0 ≡ s.mark) → (able ≡ true → Able g side s.top) → (able ≡ false → Unable g side s.top)
      → On a (shift_by g (view_in g s i) side same able (shifted_of g (view_in g s i) Shifted side (window_after g side s.top) (suc s.mark))
      (moved_of g (view_in g s i) j (StackConfirm side scan sum) (s.slot i)))
  unfolding shift_by
  shift_by_law side version scan sum e same able now yes-able not-able =
      cases (On a) same _ _
      (λ u. cases (On a) able _ _
      (λ x. shifts side version scan sum e (now u) (yes-able x))
      (λ x. goes_to_confirm side version scan sum e (now u) (not-able x)))
      (λ u. restart a e side refl j)

  mark_is : add32 s.mark 1 ≡ suc s.mark
  mark_is = add32_suc s.mark (omega (arith, versions_few a.inv.pool))

  pub turn_shift : (side : Side) (version : Version) (scan sum : ℕ) → phase_in g s i ≡ StackShift side version scan sum
      → On a (stack_shift g (view_in g s i) side version scan sum)
  unfolding stack_shift
  turn_shift Putting version scan sum e =
      let up : add32 s.top g.shift ≡ s.top + g.shift =
      add32_is s.top g.shift (omega (arith, window_le a.inv.pool, a.good.bounds)) in
      rw (up, mark_is)
      (shift_by_law Putting version scan sum e _ (leb (s.top + g.shift) g.rows) (λ u. sym (eqb-true _ _ u)) (λ u. leb-true _ _ u) (λ u. leb-false _ _ u))
  turn_shift Taking version scan sum e =
      let down : sub32 s.top g.shift ≡ s.top - g.shift =
      sub32_is s.top g.shift (omega (arith, window_ge a.inv.pool, a.good.bounds)) (omega (arith, window_le a.inv.pool, a.good.bounds)) in
      rw (down, mark_is)
      (shift_by_law Taking version scan sum e _ (ltb g.depth s.top) (λ u. sym (eqb-true _ _ u)) (λ u. ltb-true _ _ u) (λ u. ltb-false _ _ u))
