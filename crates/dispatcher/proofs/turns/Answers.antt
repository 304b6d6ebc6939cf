-- `dispatcher::turns` meets its contract: the pool is fit at the start of each turn, since it stays fit where no window moves on and is checked again where one does, and the
-- turns still to come, from where they are, are the whole of them.
use Rattle.std.proofs.Common.{ℕ, ◌≡◌, ◌<◌, ◌+◌, ◌-◌, sym, ap, subst, ◌∙◌, arith}
use native.Mathlib.Nat.{mod-lt}
use Rattle.dispatcher.proofs.Again.{fit_again, unfit_again}
use Rattle.rounds.proofs.Loop.{stays_fit, left_settings, turns_left, turns_over}
use Rattle.rounds.proofs.Turns.{has_turn, turns_none, turns_out}
use Rattle.rules.proofs.machine.Slots.{has_queue}
use Rattle.rules.proofs.Fitness.{fit_pool}
use Rattle.rounds.specs.Dispatch.{dispatched}
use Rattle.rules.specs.Fit.{Fit, checked_of}
use Rattle.dispatcher.proofs.turns.Goals as goal

pub turn_from-requires-clause-bounds : goal.turn_from-requires-clause-bounds
turn_from-requires-clause-bounds c = (fit_pool _ _ _ c.loop-made.invariant.2).bounds

pub turn_from-requires-clause-g_in_bounds : goal.turn_from-requires-clause-g_in_bounds
turn_from-requires-clause-g_in_bounds c = ((fit_pool _ _ _ c.loop-made.invariant.2).enough, c.loop-made.invariant.1)

pub returns-in_default : goal.returns-in_default
returns-in_default c =
    let l = c.loop-made in
    sym (turns_none l.words _ l.i (c.args.steps - l.made) (sym c.turn_from.ensures ∙ c.in_default.is)) ∙ l.invariant.3

pub bounds-words-8 : goal.bounds-words-8
bounds-words-8 c = omega (arith, (fit_pool _ _ _ c.loop-made.invariant.2).enough)

pub bounds-words-9 : goal.bounds-words-9
bounds-words-9 c = omega (arith, (fit_pool _ _ _ c.loop-made.invariant.2).enough)

pub next_answer-n-requires : goal.next_answer-n-requires
next_answer-n-requires c =
    let l = c.loop-made in
    rw (fit_pool _ l.words c.args.g l.invariant.2).settings (subst (λ (e : ℕ). checked_of e l.words ≡ Fit c.args.g) c.requires.edition_value l.invariant.2)

pub returns-then-n-ne0 : goal.returns-then-n-ne0
returns-then-n-ne0 c =
    let l = c.loop-made in
    ap (λ r. dispatched r c.next_answer-n.new.words) c.ended.ensures
    ∙ turns_over l.words _ l.invariant.2 l.i _ (c.args.steps - l.made) (omega arith) (sym c.in-Some.ensures) c.next_answer-n.ensures c.if-n-ne0.true
    ∙ l.invariant.3

pub overflow_add-i : goal.overflow_add-i
overflow_add-i c =
    let l = c.loop-made in
    let g = c.args.g in
    omega (arith, (has_turn l.words g l.i _ l.invariant.1 (sym c.in-Some.ensures)).among, (fit_pool _ l.words g l.invariant.2).bounds.workers32)

pub check_after-requires : goal.check_after-requires
check_after-requires c = omega (arith, c.next_answer-n.auto.words, (fit_pool _ _ _ c.loop-made.invariant.2).enough)

pub stopped-requires-clause-bounds : goal.stopped-requires-clause-bounds
stopped-requires-clause-bounds c = (fit_pool _ _ _ c.loop-made.invariant.2).bounds

pub stopped-requires-clause-g_in_bounds : goal.stopped-requires-clause-g_in_bounds
stopped-requires-clause-g_in_bounds c =
    let l = c.loop-made in
    (omega (arith, c.next_answer-n.auto.words, (fit_pool _ _ _ l.invariant.2).enough), mod-lt _ (omega (arith, l.invariant.1)))

pub stopped-requires-clause-unfit : goal.stopped-requires-clause-unfit
stopped-requires-clause-unfit c = unfit_again c.loop-made.words c.next_answer-n.new.words c.args.g c.requires.edition_value c.in-Err.refusal c.in-Err.ensures

pub returns-in-Err : goal.returns-in-Err
returns-in-Err c =
    let l = c.loop-made in
    c.stopped.ensures
    ∙ turns_left l.words _ l.invariant.2 l.i _ (c.args.steps - l.made) (omega arith) (sym c.in-Some.ensures) c.next_answer-n.ensures c.if-n-ne0.false
    ∙ l.invariant.3

pub loop-made-preserved : goal.loop-made-preserved
loop-made-preserved c =
    let l = c.loop-made in
    let g = c.args.g in
    let turn = sym c.in-Some.ensures in
    let zero = c.if-n-ne0.false in
    let left : ℕ = c.args.steps - l.made in
    let some : 0 < left = omega arith in
    let less : c.args.steps - (l.made + 1) ≡ left - 1 = omega arith in
    let step = c.next_answer-n in (
      step.auto.words ∙ l.invariant.0,
      mod-lt _ (omega (arith, l.invariant.1)),
      fit_again l.words step.new.words g c.requires.edition_value (left_settings l.words g l.invariant.2 l.i _ left some turn step.ensures zero)
          (λ same. stays_fit l.words g l.invariant.2 l.i _ left some turn step.ensures zero (λ has. same (has_queue g has))) c.in_default-check_after.ensures,
      rw less (turns_left l.words g l.invariant.2 l.i _ left some turn step.ensures zero ∙ l.invariant.3),
    )

pub turn_from-requires-2-clause-bounds : goal.turn_from-requires-2-clause-bounds
turn_from-requires-2-clause-bounds c = (fit_pool _ _ _ c.loop-made.invariant.2).bounds

pub turn_from-requires-2-clause-g_in_bounds : goal.turn_from-requires-2-clause-g_in_bounds
turn_from-requires-2-clause-g_in_bounds c = ((fit_pool _ _ _ c.loop-made.invariant.2).enough, c.loop-made.invariant.1)

pub returns-in-None : goal.returns-in-None
returns-in-None c =
    let l = c.loop-made in
    sym (turns_none l.words _ l.i (c.args.steps - l.made) (sym c.in-None.ensures)) ∙ l.invariant.3

pub returns-in-Some-turn_from : goal.returns-in-Some-turn_from
returns-in-Some-turn_from c =
    let l = c.loop-made in
    sym (turns_out l.words _ l.i _ (c.args.steps - l.made) (omega arith) (sym c.in-Some-turn_from.ensures)) ∙ l.invariant.3
