-- A stack's shift and confirm, its worker alone: the window moves one shift towards every sub; where it cannot move, the pass is confirmed.
use mathlib.Core.Path.{◌≡◌, sym}
use Prim.Native.Nat.{ℕ, zero, suc, ◌+◌, ◌-◌, ◌^◌, ◌<◌}
use native.Mathlib.Omega.{arith}
use lib.Dec.{eqb}
use borrow.Author.Tests.{eqb-false}
use Rattle.laws.specs.Choice.{cases}
use Rattle.laws.specs.Wrap.{add32, sub32}
use Rattle.rules.specs.Effects.{moved_of, next_of}
use Rattle.rules.specs.Shift.{stack_shift, shift_by, shifted_of}
use Rattle.rules.specs.Confirm.{stack_confirm}
use Rattle.rules.specs.Sequential.{Contents}
use Rattle.solo.proofs.Types.{Settings, Side, Putting, Taking, StackShift, StackConfirm, Version, Effect}
use Rattle.rules.specs.declared.Outcome.TheVariants.{Shifted}
use Rattle.rules.proofs.counts.Wraps.{add32_is, add32_suc, sub32_is}
use Rattle.rules.proofs.machine.Machine.{State, sub_in, view_in, phase_in, apply_in, apply_shifted}
use Rattle.rules.proofs.machine.Good.{Good}
use Rattle.rules.proofs.machine.Turns.{Common}
use Rattle.rules.proofs.stack.Inv.{sight, Shifting, Inv, versions_few, version_few, window_ge, window_le}
use Rattle.rules.proofs.progress.Clean.{rest_start}
use Rattle.solo.proofs.StackDue.{shift_window, shift_confirm, shift_left}
use Rattle.rules.proofs.progress.Steps.{Result, goes, shifts_on, finds_nothing}
use Rattle.rules.proofs.progress.Confirm.{AtConfirm, confirm_some, confirm_more, confirm_ends, confirm_cases}
use Rattle.solo.proofs.StackLeft.{shifted, Away, Shifts, stack_left, stack_on}

module _ (g : Settings) (good : Good g) (kind : g.kind ≡ 1) (s : State) (q : Contents) (common : Common g s) (inv : Inv g s q) (i n : ℕ) where
  abbrev Steps : Effect → Type 0
  Steps e = Result g (stack_left g) s i n (apply_in g s i e)

  abbrev j : ℕ
  j = sub_in s i

  index : j < g.width
  index = (common.slots i).index

  module _ (version : Version) (scan sum : ℕ) where
    -- a shift brings every sub nearer by one
    nearer : (side : Side) (c k : ℕ) → Away g side s.top c (suc k) → Away g side (shifted g side s.top) c k
    nearer Putting c zero h = omega (arith, good.bounds.shift1)
    nearer Taking c zero h =
        omega (arith, good.bounds.shift1, good.bounds.depth1, good.bounds.shift_depth, window_ge inv.pool)
    nearer Putting c (suc k) h = h
    nearer Taking c (suc k) h = h

    moved : (side : Side) → Shifts g (sight s) n side j version.0 sum → Steps (shifted_of g (view_in g s i) Shifted side (shifted g side s.top) (suc s.mark))
    moved side a =
        goes (shifts_on g (stack_left g) s i n side (shifted g side s.top) (suc s.mark) s.frame _ (apply_shifted g s i side (shifted g side s.top) (suc s.mark))
        (shift_left a.left) (shift_window a.left (λ k near m l. nearer side (s.first m) k (near m l))))

    to_confirm : (side : Side) → phase_in g s i ≡ StackShift side version scan sum → Shifts g (sight s) n side j version.0 sum
        → Steps (moved_of g (view_in g s i) j (StackConfirm side scan sum) (s.slot i))
    to_confirm side now a =
        let knows : Shifting g (sight s) inv.ghost side version.0 j scan sum = rw now at (inv.knows i) in
        let start : scan ≡ 0 = knows.scan_is in
        stack_on g kind s i n j (StackConfirm side scan sum) tt _ (shift_left a.left)
        (record { rest = rw start (rest_start index a.clean); left = omega (arith, shift_confirm a.left (omega arith), shift_left a.left) })

    mark_is : add32 s.mark 1 ≡ suc s.mark
    mark_is = add32_suc s.mark (omega (arith, versions_few inv.pool))

    pub shift_step : (side : Side) → phase_in g s i ≡ StackShift side version scan sum → Shifts g (sight s) n side j version.0 sum
        → Steps (stack_shift g (view_in g s i) side version scan sum)
    unfolding stack_shift shift_by
    shift_step Putting now a =
        let up : add32 s.top g.shift ≡ s.top + g.shift =
        add32_is s.top g.shift (omega (arith, window_le inv.pool, good.bounds)) in
        rw (up, mark_is)
        (cases Steps (eqb s.mark version.0) _ _
        (λ t. cases Steps _ _ _ (λ u. moved Putting a) (λ u. to_confirm Putting now a))
        (λ t. absurd (eqb-false _ _ t (sym a.version_is))))
    shift_step Taking now a =
        let down : sub32 s.top g.shift ≡ s.top - g.shift =
        sub32_is s.top g.shift (omega (arith, window_ge inv.pool, good.bounds)) (omega (arith, window_le inv.pool, good.bounds)) in
        rw (down, mark_is)
        (cases Steps (eqb s.mark version.0) _ _
        (λ t. cases Steps _ _ _ (λ u. moved Taking a) (λ u. to_confirm Taking now a))
        (λ t. absurd (eqb-false _ _ t (sym a.version_is))))

  pub stack_confirm_law : (side : Side) (scan sum : ℕ) → phase_in g s i ≡ StackConfirm side scan sum → AtConfirm g.width s.second n j scan sum
      → Steps (stack_confirm g (view_in g s i) side scan sum)
  unfolding stack_confirm
  stack_confirm_law side scan sum now a =
      let small : s.second j < 2 ^ 32 = omega (arith, version_few inv.pool j index) in
      let scan_lt : scan < g.width = rw now at (inv.knows i) in
      let rest : ℕ = sub32 sum (s.second j) in
      confirm_cases g g.width good.bounds.width16 (view_in g s i) Steps side scan rest (λ x. StackConfirm side x rest) (eqb rest 0) scan_lt
      (λ l. stack_on g kind s i n (next_of g.width j) (StackConfirm side (suc scan) rest) tt _ (confirm_some a l) (confirm_more a small index scan_lt))
      (λ e. finds_nothing g (stack_left g) s i n side (next_of g.width j))
      (λ e z kept. absurd (eqb-false _ _ z (confirm_ends a small index scan_lt e)))
