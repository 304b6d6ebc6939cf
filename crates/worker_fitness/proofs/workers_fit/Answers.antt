-- `worker_fitness::workers_fit` meets its contract: every worker passed is fit, and the first that is not decides the whole.
use Rattle.std.proofs.Common.{true, false, ◌+◌, ◌≡◌, sym, ◌∙◌, arith}
use Rattle.laws.specs.Choice.{all_below, all_below_fails, all_below_more, all_below_none}
use Rattle.rules.specs.Fit.{workers_fit}
use Rattle.worker_fitness.proofs.Places.{is_fit}
use Rattle.worker_fitness.proofs.workers_fit.Goals as goal

pub loop-i-init : goal.loop-i-init
loop-i-init c = (c.not_idle_from-i.ensures.1, c.not_idle_from-i.ensures.2 (all_below_none _))

pub loop-i-preserved : goal.loop-i-preserved
loop-i-preserved c =
    let l = c.loop-i in
    let a = c.args in
    let fits : is_fit a.words.now a.g l.i ≡ true = rw c.worker_at.ensures at (sym c.worker_fit.ensures ∙ c.if-not-worker_fit.false) in
    let n = c.not_idle_from-i-in-loop-i.ensures in
    (n.1, n.2 (all_below_more l.i (is_fit a.words.now a.g) l.invariant.1 fits))

pub returns-then-not-worker_fit : goal.returns-then-not-worker_fit
unfolding workers_fit
returns-then-not-worker_fit c =
    let l = c.loop-i in
    let a = c.args in
    let unfit : is_fit a.words.now a.g l.i ≡ false = rw c.worker_at.ensures at (sym c.worker_fit.ensures ∙ c.if-not-worker_fit.true) in
    sym (all_below_fails a.g.workers (is_fit a.words.now a.g) l.i c.loop-i-test.true unfit)

pub returns : goal.returns
unfolding workers_fit
returns c = let all : c.loop-i.i ≡ c.args.g.workers = omega arith in sym (rw all at c.loop-i.invariant.1)
