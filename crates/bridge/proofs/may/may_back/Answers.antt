-- `bridge::may::may_back` meets its contract: its tests are those of the list, in their order.
use Rattle.std.proofs.Common.{◌≡◌, ℕ, ◌≤◌, ◌%◌, List, Bool, true, ◌&&◌, length, get_or, eqb, refl, sym, ap, ◌∙◌, eq-eqb, ne_eqb, arith, rules, tests}
use Rattle.std.proofs.lemmas.Iterator.{serves_from_Range}
use Rattle.std.proofs.lemmas.Iterator.Search.{all_from_yields_List}
use Rattle.laws.specs.Choice.{both, all_below, both_true}
use Rattle.laws.specs.Looks.{and_both}
use Rattle.rules.specs.Fit.{FitPool}
use Rattle.rules.specs.Layout.{set_at, pair_at, worker_at}
use Rattle.rules.specs.Limits.{windowed, most_live}
use Rattle.rules.specs.Windows.{has_windows, next_size, live_of, nth_size}
use Rattle.rules.specs.Worker.{slot_at}
use Rattle.rules.specs.declared.Settings.{Settings}
use Rattle.rules.specs.declared.Size.{Size}
use Rattle.rules.proofs.Workers.{pairs_within, worker_within}
use Rattle.turnaround.specs.Move.{subs_fit_in, own_size, seen_back}
use Rattle.bridge.proofs.Chain.{and_then, and_else, six}
use Rattle.bridge.proofs.Every.{every, numbers}
use Rattle.bridge.proofs.may.may_back.Goals as goal
use Rattle.bridge.proofs.may.may_back.Goals.{then-size_set-eq0, else-size_set-eq0, then-g-eq0, else-g-eq0, then-eq, else-eq, then-all, else-all}

pairs : (ws : List ℕ) (g : Settings) → FitPool g ws → has_windows g ≡ true → pair_at g most_live ≤ length ws
pairs ws g pool has = pairs_within g (length ws) (both_true (windowed g) _ has).0 pool.enough

-- what was asked of a size
own_is : (g : Settings) {size asked : Size} {b : Bool} → size ≡ asked → b ≡ (eqb size.width g.width && eqb size.depth g.depth) → b ≡ own_size g asked
own_is g {size} e f = f ∙ and_both (eqb size.width g.width) (eqb size.depth g.depth) ∙ ap (own_size g) e

pub size_set-requires-clause-most_live_in_bounds : goal.size_set-requires-clause-most_live_in_bounds
size_set-requires-clause-most_live_in_bounds c = pairs _ _ c.requires.fit_pool c.requires.windows_own

pub next_size-requires-clause-most_live_in_bounds : goal.next_size-requires-clause-most_live_in_bounds
next_size-requires-clause-most_live_in_bounds c = pairs _ _ c.requires.fit_pool c.requires.windows_own

pub live_of-requires-clause-most_live_in_bounds : goal.live_of-requires-clause-most_live_in_bounds
live_of-requires-clause-most_live_in_bounds c = pairs _ _ c.requires.fit_pool c.requires.windows_own

pub all-requires-clause-callable : goal.all-requires-clause-callable
all-requires-clause-callable c =
    let few : c.live_of.result ≤ most_live = omega (arith, c.live_of.ensures, (c.requires.fit_pool.windows c.requires.windows_own).live16) in
    serves_from_Range (λ x q k. search (rules, tests))
    (λ x l m. λ κs r n e q z u v w. (c.requires.fit_pool.bounds, (pairs _ _ c.requires.fit_pool c.requires.windows_own, omega arith)))

pub all-requires-then-all-clause-callable : goal.all-requires-then-all-clause-callable
all-requires-then-all-clause-callable c = serves_from_Range (λ x q k. search (rules, tests)) (λ x l m. search (rules, worker_within c.args.g x m, c.requires.fit_pool.enough))

pub returns-then-all-2 : goal.returns-then-all-2
returns-then-all-2 c =
    let a = c.args in
    let ws = a.from.now in
    let g = a.g in
    let unset : c.if-size_set-eq0.value ≡ both (eqb (get_or ws (set_at g) 0) 0) (eqb (g.rows % g.depth) 0) =
    elim c.if-size_set-eq0.branch [
      | then-size_set-eq0 w ↦ and_then (eq-eqb _ _ (sym c.size_set.ensures ∙ w.if-size_set-eq0.true)) w.value-is
      | else-size_set-eq0 w ↦ rw (← c.size_set.ensures) (and_else _ (ne_eqb _ _ w.if-size_set-eq0.false) w.value-is)
    ] in
    let next : c.if-g-eq0.value ≡ both c.if-size_set-eq0.value (own_size g (next_size ws g)) =
    elim c.if-g-eq0.branch [
      | then-g-eq0 w ↦ and_then w.if-g-eq0.true (w.value-is ∙ own_is g w.next_size.ensures w.eq.ensures)
      | else-g-eq0 w ↦ and_else _ w.if-g-eq0.false w.value-is
    ] in
    let own = λ (k : ℕ). own_size g (nth_size ws g k) in
    let live : c.if-eq.value ≡ both c.if-g-eq0.value (all_below (live_of ws g) own) =
    elim c.if-eq.branch [
      | then-eq w ↦
          and_then w.if-eq.true
          (w.value-is ∙ rw (← w.live_of.ensures) (all_from_yields_List own _ _ w.all.result w.all.ensures.ran (numbers w.live_of.result) (λ x b q k. search (rules, own_is g)) ∙ every w.live_of.result own))
      | else-eq w ↦ and_else _ w.if-eq.false w.value-is
    ] in
    let moves = λ (i : ℕ). seen_back g (slot_at g ws (worker_at g i)) in
    let seen : c.if-all.value ≡ both c.if-eq.value (all_below g.workers moves) =
    elim c.if-all.branch [
      | then-all w ↦
          and_then w.if-all.true
          (w.value-is ∙ all_from_yields_List moves _ _ w.all-then-all.result w.all-then-all.ensures.ran (numbers g.workers) (λ x b q k. search (rules, tests)) ∙ every g.workers moves)
      | else-all w ↦ and_else _ w.if-all.false w.value-is
    ] in
    six _ _ _ _ _ (subs_fit_in ws a.h) unset next live seen (and_then c.if-all-2.true (c.subs_move.ensures ∙ rw c.saturating_sub.ensures refl))

pub returns-else-all-2 : goal.returns-else-all-2
returns-else-all-2 c =
    let a = c.args in
    let ws = a.from.now in
    let g = a.g in
    let unset : c.if-size_set-eq0.value ≡ both (eqb (get_or ws (set_at g) 0) 0) (eqb (g.rows % g.depth) 0) =
    elim c.if-size_set-eq0.branch [
      | then-size_set-eq0 w ↦ and_then (eq-eqb _ _ (sym c.size_set.ensures ∙ w.if-size_set-eq0.true)) w.value-is
      | else-size_set-eq0 w ↦ rw (← c.size_set.ensures) (and_else _ (ne_eqb _ _ w.if-size_set-eq0.false) w.value-is)
    ] in
    let next : c.if-g-eq0.value ≡ both c.if-size_set-eq0.value (own_size g (next_size ws g)) =
    elim c.if-g-eq0.branch [
      | then-g-eq0 w ↦ and_then w.if-g-eq0.true (w.value-is ∙ own_is g w.next_size.ensures w.eq.ensures)
      | else-g-eq0 w ↦ and_else _ w.if-g-eq0.false w.value-is
    ] in
    let own = λ (k : ℕ). own_size g (nth_size ws g k) in
    let live : c.if-eq.value ≡ both c.if-g-eq0.value (all_below (live_of ws g) own) =
    elim c.if-eq.branch [
      | then-eq w ↦
          and_then w.if-eq.true
          (w.value-is ∙ rw (← w.live_of.ensures) (all_from_yields_List own _ _ w.all.result w.all.ensures.ran (numbers w.live_of.result) (λ x b q k. search (rules, own_is g)) ∙ every w.live_of.result own))
      | else-eq w ↦ and_else _ w.if-eq.false w.value-is
    ] in
    let moves = λ (i : ℕ). seen_back g (slot_at g ws (worker_at g i)) in
    let seen : c.if-all.value ≡ both c.if-eq.value (all_below g.workers moves) =
    elim c.if-all.branch [
      | then-all w ↦
          and_then w.if-all.true
          (w.value-is ∙ all_from_yields_List moves _ _ w.all-then-all.result w.all-then-all.ensures.ran (numbers g.workers) (λ x b q k. search (rules, tests)) ∙ every g.workers moves)
      | else-all w ↦ and_else _ w.if-all.false w.value-is
    ] in
    six _ _ _ _ _ (subs_fit_in ws a.h) unset next live seen (and_else _ c.if-all-2.false refl)
