-- A confirm step by its tests, for either kind: it goes on to the next sub; it is the last, and is sure of its answer, or not.
-- Where all that the pass read is still so, w steps are enough, and the last one finds nothing left.
use mathlib.Core.Path.{◌≡◌}
use mathlib.Core.Bool.{Bool, false}
use Prim.Native.Nat.{ℕ, suc, ◌+◌, ◌-◌, ◌^◌, ◌≤◌, ◌<◌}
use native.Mathlib.Omega.{arith}
use lib.Dec.{ltb}
use borrow.Author.Tests.{ltb-true, ltb-false}
use Rattle.laws.specs.Choice.{cases}
use Rattle.laws.specs.Wrap.{add32, sub32}
use Rattle.rules.specs.Effects.{moved_of, finished_of, nothing_for, next_of}
use Rattle.rules.specs.Confirm.{confirm_by, confirmed_of}
use Rattle.rules.proofs.Types.{Settings, Side, Phase, Window, Slot, View, Effect}
use Rattle.rules.proofs.counts.Wraps.{add32_suc, next_lt}
use Rattle.rules.proofs.progress.Clean.{Rest, rest_more, rest_end}

-- of w subs, with the confirm phase `again` by its scan, and with `left` of the sum after this one
pub confirm_cases : (g : Settings) (w : ℕ) → w ≤ 16 → (v : View) (P : Effect → Type 0) (side : Side) (scan left : ℕ) (again : ℕ → Phase) (sure : Bool) → scan < w
    → (suc scan < w → P (moved_of g v (next_of w v.worker.index) (again (suc scan)) v.kept))
    → (suc scan ≡ w → P (finished_of g v (nothing_for side) (next_of w v.worker.index)))
    → (suc scan ≡ w → sure ≡ false → (kept : Slot) → P (moved_of g v (next_of w v.worker.index) (Window side) kept))
    → P (confirm_by g v side w scan left (again (add32 scan 1)) sure)
unfolding confirm_by confirmed_of
confirm_cases g w few v P side scan left again sure l on nothing something =
    rw (add32_suc scan (omega arith))
    (cases P (ltb (suc scan) w) _ _ (λ b. on (ltb-true _ _ b))
    (λ b.
    let last : suc scan ≡ w = omega (arith, ltb-false (suc scan) w b) in
    cases P sure _ _ (λ z. nothing last) (λ z. something last z _)))

-- n steps before the final one are enough for what is left of a confirm
pub record AtConfirm (w : ℕ) (count : ℕ → ℕ) (n index scan sum : ℕ) : Type 0 where
  pub rest : Rest w count index scan sum
  pub left : w ≤ n + scan + 1

pub confirm_some : {w : ℕ} {count : ℕ → ℕ} {n index scan sum : ℕ} → AtConfirm w count n index scan sum → suc scan < w → 1 ≤ n
confirm_some a l = omega (arith, a.left)

module _ {w : ℕ} {count : ℕ → ℕ} {n index scan sum : ℕ} (a : AtConfirm w count n index scan sum)
    (small : count index < 2 ^ 32) (index_lt : index < w) (scan_lt : scan < w) where
  more : Rest w count (next_of w index) (suc scan) (sub32 sum (count index))
  more = rest_more count index index_lt scan_lt small a.rest

  pub confirm_more : AtConfirm w count (n - 1) (next_of w index) (suc scan) (sub32 sum (count index))
  confirm_more = record { rest = more; left = omega (arith, a.left) }

  pub confirm_ends : suc scan ≡ w → sub32 sum (count index) ≡ 0
  confirm_ends e = rest_end (next_lt w index (omega arith)) (rw e at more)
