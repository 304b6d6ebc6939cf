-- K4's two counts, of any list of items and on the sequential specification's list. An item passed over is reported or a spacer, never
-- both, so the counts differ by the spacers. What a take is given names the first count and was tested by the second.
use mathlib.Core.Path.{◌≡◌, refl, sym, ap, ◌∙◌}
use mathlib.Core.Bool.{Bool, true, false}
use mathlib.Core.List.{List, [], ◌∷◌}
use mathlib.Core.Option.{Option, none, some}
use Prim.Native.Nat.{ℕ, ◌+◌, ◌≤◌}
use native.Mathlib.Omega.{arith}
use borrow.Author.Tests.{eq-eqb}
use Rattle.laws.specs.Choice.{cond}
use Rattle.rules.specs.Held.{Item, held_items, is_spacer, passed_over, reported, count_items, passed_of, distance_of}
use Rattle.rules.specs.Apply.{taken_of}
use Rattle.rules.specs.Sequential.{find, Given, give_by, give, bound_by, reported_by}
use Rattle.rules.specs.Spacers.{spacer_passed, fed_take, PassedInTwo, NeverAbove, EveryTakeHasDistance, GivenBoth, NotAllowedBeyond, SpacersReportNothing}
use Rattle.rules.proofs.Types.{Settings}
use Rattle.rules.proofs.counts.Sums.{bit}
use Rattle.rules.proofs.counts.Held.{count_none, count_cons}
use Rattle.rules.proofs.order.Given.{found_is, Leaves, leaves}

-- ---- any list of items
reported_or_spacer : (spacer passed : Bool) → bit passed ≡ bit (cond spacer false passed) + bit (cond spacer passed false)
unfolding cond
reported_or_spacer true true = refl
reported_or_spacer true false = refl
reported_or_spacer false true = refl
reported_or_spacer false false = refl

pub passed_in_two : PassedInTwo
passed_in_two kind s [] = omega (arith, count_none (passed_over kind s), count_none (reported kind s), count_none (spacer_passed kind s))
passed_in_two kind s (x ∷ xs) =
    omega (
      arith,
      count_cons (passed_over kind s) x xs,
      count_cons (reported kind s) x xs,
      count_cons (spacer_passed kind s) x xs,
      reported_or_spacer (is_spacer x) (passed_over kind s x),
      passed_in_two kind s xs,
    )

reported_le : (kind s : ℕ) (xs : List Item) → count_items (reported kind s) xs ≤ count_items (passed_over kind s) xs
reported_le kind s xs = omega (arith, passed_in_two kind s xs)

pub never_above : (g : Settings) → NeverAbove g
unfolding distance_of passed_of
never_above g =
    record {
      held = λ ws s. reported_le g.kind s.0 (held_items ws g);
      listed = λ q stamp. reported_le g.kind stamp q.items;
    }

-- without spacers the counts are the same
spacer_le : (spacer passed : Bool) → bit (cond spacer passed false) ≤ bit spacer
unfolding cond
spacer_le true true = omega arith
spacer_le true false = omega arith
spacer_le false passed = omega arith

spacers_le : (kind s : ℕ) (xs : List Item) → count_items (spacer_passed kind s) xs ≤ count_items is_spacer xs
spacers_le kind s [] = omega (arith, count_none (spacer_passed kind s), count_none is_spacer)
spacers_le kind s (x ∷ xs) =
    omega (
      arith,
      count_cons (spacer_passed kind s) x xs,
      count_cons is_spacer x xs,
      spacer_le (is_spacer x) (passed_over kind s x),
      spacers_le kind s xs,
    )

pub without_spacers : (kind s : ℕ) (xs : List Item) → count_items is_spacer xs ≡ 0 → count_items (reported kind s) xs ≡ count_items (passed_over kind s) xs
without_spacers kind s xs none-there = omega (arith, passed_in_two kind s xs, spacers_le kind s xs)

-- of spacers alone nothing is reported
pub spacers_report_nothing : SpacersReportNothing
unfolding cond
spacers_report_nothing kind s [] h = count_none (reported kind s)
spacers_report_nothing kind s (x ∷ xs) h =
    let skipped : bit (reported kind s x) ≡ 0 = rw (eq-eqb x.value 0 h.0) refl in
    omega (arith, count_cons (reported kind s) x xs, spacers_report_nothing kind s xs h.1)

-- ---- what a take is given
pub every_take_has_distance : EveryTakeHasDistance
unfolding taken_of
every_take_has_distance ws g j row = refl

pub given_both : GivenBoth
unfolding give_by cond
given_both each g q m stamp r e =
    let most : ℕ = bound_by g each m.size in
    let h : Leaves most g q 2 stamp r = leaves most g q 2 stamp r (find stamp q.items) refl e in
    let there : h.0.item.stamp ≡ stamp = (found_is is_spacer stamp q.items h.0 h.1).0 in
    (sym (ap (λ (x : Given). x.distance) h.2) ∙ ap (reported_by g q) there, rw there at h.3)

pub not_allowed_beyond : NotAllowedBeyond
not_allowed_beyond each g q m stamp l = by (give each g q (fed_take m stamp)) refl
  where
    by : (o : Option Given) → give each g q (fed_take m stamp) ≡ o → o ≡ none
    by none e = refl
    by (some r) e = absurd (omega (arith, (given_both each g q m stamp r e).1))
