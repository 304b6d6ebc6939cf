-- The window that a queue's worker has seen, beside the present ones: it is at most as wide as the pool; where its top is that of the put window, or of
-- the take window, it has that one's width, and in the first case its bottom; and while a sub in its width has not reached its top it is the put window.
use mathlib.Core.Path.{◌≡◌}
use Prim.Native.Nat.{ℕ, suc, ◌^◌, ◌≤◌, ◌<◌}
use native.Mathlib.Nat.{le_refl}
use native.Mathlib.Decide.{dec_lt}
use native.Mathlib.Omega.{arith}
use Rattle.rules.specs.Limits.{Bounds}
use Rattle.rules.specs.Windows.{higher}
use Rattle.rules.specs.Sequential.{Contents}
use Rattle.rules.proofs.Types.{Settings, Span}
use Rattle.rules.proofs.machine.Machine.{Frame, State, top_of, mark_of}
use Rattle.rules.proofs.queue.Inv.{Windows, Pool, Sees, same_top_law, base_le, top_few, put_few}

module _ {g : Settings} {s : State} {q : Contents} (o : Pool g s q) where
  abbrev f : Frame
  f = s.frame

  abbrev w : Windows g f
  w = o.windows

  module _ {limit : ℕ} {window : Span} (l : limit ≤ f.tail) (k : Sees f limit window) where
    pub wide_le : window.width ≤ g.width
    wide_le = omega (arith, k.wide, w.wide_le k.at (omega (arith, k.at_le)))

    pub wide16 : Bounds g → window.width ≤ 16
    wide16 b = omega (arith, wide_le, b.width16)

    -- what a take's pass sums up of a sub is less than 2^32
    pub count_few : (j : ℕ) → higher (s.first j) window.bottom < 2 ^ 32
    count_few j =
        omega (arith, k.bottom, top_few o, put_few o j, base_le w k.at (suc f.tail) (omega (arith, k.at_le)) (le_refl _))

  module _ {window : Span} where
    pub put_wide : Sees f f.tail window → window.top ≡ top_of f → window.width ≡ f.wide f.tail
    put_wide k e =
        let a : k.at ≡ f.tail = same_top_law w k.at f.tail k.at_le (le_refl _) (omega (arith, k.top)) in
        rw a at k.wide

    pub put_bottom : Sees f f.tail window → window.top ≡ top_of f → window.bottom ≡ f.base f.tail
    put_bottom k e =
        let a : k.at ≡ f.tail = same_top_law w k.at f.tail k.at_le (le_refl _) (omega (arith, k.top)) in
        rw a at k.bottom

    pub take_wide : Sees f f.head window → window.top ≡ mark_of f → window.width ≡ f.wide f.head
    take_wide k e =
        let a : k.at ≡ f.head = same_top_law w k.at f.head k.at_le w.order (omega (arith, k.top)) in
        rw a at k.wide

    pub not_filled : {limit : ℕ} → limit ≤ f.tail → Sees f limit window → (j : ℕ) → j < window.width → s.first j < window.top → window.top ≡ top_of f
    not_filled l k j lj below =
        let at_tail : k.at ≡ f.tail = elim (dec_lt k.at f.tail) [
          | yes y ↦ absurd (omega (arith, k.top, o.subs.filled k.at j y (omega (arith, k.wide))))
          | no n ↦ omega (arith, k.at_le)
        ] in
        rw at_tail at k.top
