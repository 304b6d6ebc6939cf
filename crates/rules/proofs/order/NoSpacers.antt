-- Where no put of a spacer is begun, none comes to be on the specification's list: an item joins it only where a put ends, with the value
-- that was begun, and an operation under way stays what it was begun as. Nothing here knows a machine.
use mathlib.Core.Path.{◌≡◌, subst}
use mathlib.Core.Logic.{◌≢◌}
use Prim.Native.Nat.{ℕ}
use native.Mathlib.Decide.{ℕ_discrete}
use native.Mathlib.Omega.{arith}
use borrow.Author.Tests.{ne_eqb}
use Rattle.rules.specs.Answers.{number_of}
use Rattle.rules.specs.Held.{is_spacer, count_items}
use Rattle.rules.specs.Measures.{Measures}
use Rattle.rules.specs.Sequential.{Operation, putting, taking, Contents}
use Rattle.rules.specs.Run.{Call, begin, value_in}
use Rattle.rules.specs.Consequences.{item_in}
use Rattle.rules.specs.Newer.{exact_rows}
use Rattle.rules.specs.Spacers.{NoSpacer}
use Rattle.rules.proofs.Types.{Settings, Answered}
use Rattle.rules.proofs.order.Closest.{Gives}
use Rattle.rules.proofs.order.Given.{item_of, item_not, gives_changed, gives_value}
use Rattle.rules.proofs.order.Law.{Next, Status, idle, pending, tried, Others}

-- ---- operations that put no spacer
abbrev NoSpacerPut : Operation → Type 0
NoSpacerPut (putting v) = v ≢ 0
NoSpacerPut taking = Unit {0}

abbrev pub NoSpacerUnderWay : Status → Type 0
NoSpacerUnderWay idle = Unit {0}
NoSpacerUnderWay (pending k) = NoSpacerPut k
NoSpacerUnderWay (tried k) = NoSpacerPut k

pub begun_no_spacer : (c : Call) (i : ℕ) (k : Operation) → c ≡ begin i k → NoSpacer c → NoSpacerPut k
begun_no_spacer c i (putting v) e h = subst NoSpacer e h
begun_no_spacer c i taking e h = tt

-- ---- the list after an answer to such an operation
module _ (g : Settings) (q : Contents) (a : Answered) (m : Measures) (q' : Contents) where
  no_spacer_put : (o : Operation) → NoSpacerPut o → Gives g q o a m q' → count_items is_spacer (item_in 1 a) ≡ 0
  no_spacer_put o plain e = elim (ℕ_discrete (number_of a) 1) [
    | yes one ↦
        let value : value_in a ≢ 0 = subst NoSpacerPut (gives_value (exact_rows g) g q a m q' o e one) plain in
        rw (ne_eqb (value_in a) 0 value) at (item_of 1 a is_spacer one)
    | no other ↦ item_not 1 a is_spacer other
  ]

  pub no_spacer_joins : (o : Operation) → NoSpacerPut o → Gives g q o a m q' → count_items is_spacer q.items ≡ 0 → count_items is_spacer q'.items ≡ 0
  no_spacer_joins o plain e none_before = omega (arith, (gives_changed (exact_rows g) g q a m q' o e).counts is_spacer, no_spacer_put o plain e)

-- ---- no spacer on the list, and none under way
module _ {S : Type 0} (g : Settings) (next : S → Call → Next S) (status : S → ℕ → Status)
    (I : S → Contents → Type 0)
    (Snap : S → Contents → ℕ → S → Type 0) where
  pub record NoSpacers (s : S) (q : Contents) : Type 0 where
    pub listed : count_items is_spacer q.items ≡ 0
    pub under_way : (i : ℕ) → NoSpacerUnderWay (status s i)

  -- worker i's operation goes on as another status, or ends, and the others stay
  pub no_spacers_next : {s t : S} {q q' : Contents} (i : ℕ) (x y : Status) → status s i ≡ x → status t i ≡ y → (NoSpacerUnderWay x → NoSpacerUnderWay y)
      → Others g next status I Snap s i t → count_items is_spacer q'.items ≡ 0 → NoSpacers s q → NoSpacers t q'
  no_spacers_next {s} {t} i x y a b on w listed n = record { listed = listed; under_way = λ j. go j (ℕ_discrete j i) }
    where
      go : (j : ℕ) → Dec (j ≡ i) → NoSpacerUnderWay (status t j)
      go j (yes e) = rw (e, b) (on (rw a at (n.under_way i)))
      go j (no other) = rw (w.same j other) (n.under_way j)
