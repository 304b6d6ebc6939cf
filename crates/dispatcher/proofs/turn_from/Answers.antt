-- `dispatcher::turn_from` meets its contract: the first busy worker of those still to be looked at is the first of all.
use Rattle.std.proofs.Common.{◌≡◌, ◌+◌, ◌-◌, true, false, sym, ap, ◌∙◌, arith, rules}
use native.Mathlib.Nat.{mod-lt}
use borrow.Author.Tests.{eqb-true, eqb-false}
use Rattle.rules.specs.Layout.{worker_at}
use Rattle.rules.specs.Begin.{idle_at}
use Rattle.rules.proofs.Workers.{worker_lent}
use Rattle.rounds.proofs.Turns.{busy_here, busy_next, busy_none}
use Rattle.dispatcher.proofs.turn_from.Goals as goal

pub idle_at-requires : goal.idle_at-requires
idle_at-requires c =
    search (rules, worker_lent c.args.g c.args.words.now c.loop-passed.i c.loop-passed.invariant.0 c.requires.g_in_bounds.0)

pub overflow_add-i : goal.overflow_add-i
overflow_add-i c = omega (arith, c.loop-passed.invariant.0, c.requires.bounds.workers32)

pub loop-passed-preserved : goal.loop-passed-preserved
loop-passed-preserved c =
    let l = c.loop-passed in
    let a = c.args in
    let idle : idle_at a.words.now (worker_at a.g l.i) ≡ true = sym (c.idle_at.ensures ∙ ap (idle_at a.words.now) c.worker_at.ensures) ∙ c.if-not-idle_at.false in
    let less : a.g.workers - (l._passed + 1) ≡ a.g.workers - l._passed - 1 = omega arith in (
      mod-lt _ (omega (arith, l.invariant.0)),
      rw less (sym (busy_next a.words.now a.g l.i (a.g.workers - l._passed) (omega arith) (eqb-true _ _ idle)) ∙ l.invariant.1),
    )

pub returns-then-not-idle_at : goal.returns-then-not-idle_at
returns-then-not-idle_at c =
    let l = c.loop-passed in
    let a = c.args in
    let busy : idle_at a.words.now (worker_at a.g l.i) ≡ false = sym (c.idle_at.ensures ∙ ap (idle_at a.words.now) c.worker_at.ensures) ∙ c.if-not-idle_at.true in
    sym (busy_here a.words.now a.g l.i (a.g.workers - l._passed) (omega arith) (eqb-false _ _ busy)) ∙ l.invariant.1

pub returns : goal.returns
returns c =
    let l = c.loop-passed in
    let a = c.args in
    sym (busy_none a.words.now a.g l.i (a.g.workers - l._passed) (omega arith)) ∙ l.invariant.1
