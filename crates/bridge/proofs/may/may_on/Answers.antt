-- `bridge::may::may_on` meets its contract: its tests are those of the list, in their order.
use Rattle.std.proofs.Common.{◌≡◌, ℕ, ◌-◌, ◌*◌, ◌%◌, List, get_or, leb, eqb, refl, sym, ap, ◌∙◌, le-leb, rules, tests}
use Rattle.std.proofs.lemmas.Bool.{lt-leb}
use Rattle.std.proofs.lemmas.Iterator.{serves_from_Range}
use Rattle.std.proofs.lemmas.Iterator.Search.{all_from_yields_List}
use Rattle.laws.specs.Choice.{both, all_below}
use Rattle.rules.specs.Fit.{sub_fit}
use Rattle.rules.specs.Layout.{top_at, mark_at, worker_at, first_of, second_of}
use Rattle.rules.specs.Limits.{most_live}
use Rattle.rules.specs.Make.{in_edition}
use Rattle.rules.proofs.Workers.{worker_within}
use Rattle.turnaround.specs.Move.{apart, subs_fit_in, seen_on}
use Rattle.rules.specs.Worker.{slot_at}
use Rattle.rules.specs.declared.Settings.{Settings}
use Rattle.bridge.proofs.Chain.{and_then, and_else, six}
use Rattle.bridge.proofs.Every.{every, numbers}
use Rattle.bridge.proofs.may.may_on.Goals as goal
use Rattle.bridge.proofs.may.may_on.Goals.{then-mark-top, else-mark-top, then-top-mark, else-top-mark, then-top-mark-eq0, else-top-mark-eq0, then-g-mark, else-g-mark}

-- the subs are asked over the same bottom
same_subs : (ws : List ℕ) (g h : Settings) → h ≡ in_edition h.edition g → all_below h.width (λ j. sub_fit h (get_or ws mark_at 0 - g.depth) (first_of ws j) (second_of ws j)) ≡ subs_fit_in ws h
same_subs ws g h same =
    ap (λ (d : ℕ). all_below h.width (λ j. sub_fit h (get_or ws mark_at 0 - d) (first_of ws j) (second_of ws j))) (sym (ap (λ (x : Settings). x.depth) same))

pub all-requires-clause-callable : goal.all-requires-clause-callable
all-requires-clause-callable c = serves_from_Range (λ x q k. search (rules, tests)) (λ x l m. search (rules, worker_within c.args.g x m))

pub returns-then-all : goal.returns-then-all
returns-then-all c =
    let a = c.args in
    let ws = a.from.now in
    let g = a.g in
    let order : c.if-mark-top.value ≡ both (leb (get_or ws mark_at 0) (get_or ws top_at 0)) (leb (apart ws) ((most_live - 1) * g.depth)) =
    elim c.if-mark-top.branch [ then-mark-top w ↦ and_then (le-leb _ _ w.if-mark-top.true) w.value-is | else-mark-top w ↦ and_else _ (lt-leb _ _ w.if-mark-top.false) w.value-is ] in
    let whole : c.if-top-mark.value ≡ both c.if-mark-top.value (eqb (apart ws % g.depth) 0) =
    elim c.if-top-mark.branch [ then-top-mark w ↦ and_then w.if-top-mark.true w.value-is | else-top-mark w ↦ and_else _ w.if-top-mark.false w.value-is ] in
    let deep : c.if-top-mark-eq0.value ≡ both c.if-top-mark.value (leb g.depth (get_or ws mark_at 0)) =
    elim c.if-top-mark-eq0.branch [ then-top-mark-eq0 w ↦ and_then w.if-top-mark-eq0.true w.value-is | else-top-mark-eq0 w ↦ and_else _ w.if-top-mark-eq0.false w.value-is ] in
    let moves = λ (i : ℕ). seen_on g (slot_at g ws (worker_at g i)) in
    let seen : c.if-g-mark.value ≡ both c.if-top-mark-eq0.value (all_below g.workers moves) =
    elim c.if-g-mark.branch [
      | then-g-mark w ↦
          and_then w.if-g-mark.true
          (w.value-is ∙ all_from_yields_List moves _ _ w.all.result w.all.ensures.ran (numbers g.workers) (λ x b q k. search (rules, tests)) ∙ every g.workers moves)
      | else-g-mark w ↦ and_else _ w.if-g-mark.false w.value-is
    ] in
    six _ _ _ _ _ (subs_fit_in ws a.h) order whole deep seen (and_then c.if-all.true (c.subs_move.ensures ∙ same_subs ws g a.h c.requires.same_pool))

pub returns-else-all : goal.returns-else-all
returns-else-all c =
    let a = c.args in
    let ws = a.from.now in
    let g = a.g in
    let order : c.if-mark-top.value ≡ both (leb (get_or ws mark_at 0) (get_or ws top_at 0)) (leb (apart ws) ((most_live - 1) * g.depth)) =
    elim c.if-mark-top.branch [ then-mark-top w ↦ and_then (le-leb _ _ w.if-mark-top.true) w.value-is | else-mark-top w ↦ and_else _ (lt-leb _ _ w.if-mark-top.false) w.value-is ] in
    let whole : c.if-top-mark.value ≡ both c.if-mark-top.value (eqb (apart ws % g.depth) 0) =
    elim c.if-top-mark.branch [ then-top-mark w ↦ and_then w.if-top-mark.true w.value-is | else-top-mark w ↦ and_else _ w.if-top-mark.false w.value-is ] in
    let deep : c.if-top-mark-eq0.value ≡ both c.if-top-mark.value (leb g.depth (get_or ws mark_at 0)) =
    elim c.if-top-mark-eq0.branch [ then-top-mark-eq0 w ↦ and_then w.if-top-mark-eq0.true w.value-is | else-top-mark-eq0 w ↦ and_else _ w.if-top-mark-eq0.false w.value-is ] in
    let moves = λ (i : ℕ). seen_on g (slot_at g ws (worker_at g i)) in
    let seen : c.if-g-mark.value ≡ both c.if-top-mark-eq0.value (all_below g.workers moves) =
    elim c.if-g-mark.branch [
      | then-g-mark w ↦
          and_then w.if-g-mark.true
          (w.value-is ∙ all_from_yields_List moves _ _ w.all.result w.all.ensures.ran (numbers g.workers) (λ x b q k. search (rules, tests)) ∙ every g.workers moves)
      | else-g-mark w ↦ and_else _ w.if-g-mark.false w.value-is
    ] in
    six _ _ _ _ _ (subs_fit_in ws a.h) order whole deep seen (and_else _ c.if-all.false refl)
