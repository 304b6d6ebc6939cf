-- Positions in a run: what its events there say of the operations' own steps. Nothing here knows a machine.
use mathlib.Core.Path.{◌≡◌, refl, sym, subst}
use mathlib.Core.Logic.{◌⊎◌, inl, inr}
use mathlib.Core.List.{List, [], ◌∷◌, nil≢cons}
use Prim.Native.Nat.{ℕ, zero, suc, ◌≤◌, ◌<◌}
use native.Mathlib.Nat.{eq-or-lt_of_le, lt_of_not-le}
use native.Mathlib.Decide.{dec_le}
use native.Mathlib.Omega.{arith}
use lib.ListN.{drop}
use Rattle.rules.specs.Sequential.{Operation, putting, taking}
use Rattle.rules.specs.Run.{step, begin, Event, nothing, at, Final, Since}
use Rattle.rules.specs.Statement.{Placement, Placed}

-- a begin is no step
pub begin_no_step : (i : ℕ) (o : Operation) (j : ℕ) → begin i o ≡ step j → ⊥
begin_no_step i (putting v) j e = let z : ◌≡◌ {A = ℕ} 0 1 = cc in omega arith
begin_no_step i taking j e = let z : ◌≡◌ {A = ℕ} 0 1 = cc in omega arith

-- the event at a position, and the rest
pub drop_head : (es : List Event) (p : ℕ) (x : Event) (xs : List Event) → drop p es ≡ x ∷ xs → (at es p ≡ x) × (drop (suc p) es ≡ xs)
drop_head [] zero x xs e = absurd (nil≢cons e)
drop_head [] (suc p) x xs e = absurd (nil≢cons e)
drop_head (y ∷ ys) zero x xs e = (cc, cc)
drop_head (y ∷ ys) (suc p) x xs e = drop_head ys p x xs e

pub drop_end : (es : List Event) (p : ℕ) → drop p es ≡ [] → (f : ℕ) → p ≤ f → at es f ≡ nothing
drop_end [] p e f l = refl
drop_end (y ∷ ys) zero e f l = absurd (nil≢cons (sym e))
drop_end (y ∷ ys) (suc p) e zero l = absurd (omega arith)
drop_end (y ∷ ys) (suc p) e (suc f) l = drop_end ys p e f (omega arith)

-- a chosen step is not after the one that finishes
pub chosen_le : (es : List Event) (x : Placement) → Placed es x → x.chosen ≤ x.finished
chosen_le es x y = by (dec_le x.chosen x.finished)
  where
    by : Dec (x.chosen ≤ x.finished) → x.chosen ≤ x.finished
    by (yes l) = l
    by (no l) = absurd (y.chosen.since.quiet x.finished y.finished.since.later (lt_of_not-le l) y.finished.here.called y.final)

-- past a position that does not end the operation
pub since_suc : {es : List Event} {i : ℕ} {k : Operation} {b p : ℕ} → Since es i k b p → ((at es p).call ≡ step i → ¬ (Final (at es p).answer)) → Since es i k b (suc p)
since_suc {es} {i} {k} {b} {p} x quiet = record { begun = x.begun; opened = x.opened; later = omega arith; quiet = go }
  where
    go : (q : ℕ) → b < q → q < suc p → (at es q).call ≡ step i → ¬ (Final (at es q).answer)
    go q l m = pick (eq-or-lt_of_le m)
      where
        pick : ((suc q ≡ suc p) ⊎ (suc q < suc p)) → (at es q).call ≡ step i → ¬ (Final (at es q).answer)
        pick (inl e) = let e' : q ≡ p = omega arith in subst (λ (n : ℕ). (at es n).call ≡ step i → ¬ (Final (at es n).answer)) (sym e') quiet
        pick (inr n) = x.quiet q l (omega arith)
