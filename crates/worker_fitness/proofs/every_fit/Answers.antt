-- `worker_fitness::every_fit` meets its contract: the two loops' invariants are that every worker passed, and every word of this worker passed, is fit; the first word
-- that is not decides the whole, and both loops are left.
use Rattle.std.proofs.Common.{ℕ, ◌+◌, ◌<◌, ◌≤◌, ◌≡◌, sym, refl, ◌∙◌, arith}
use Rattle.laws.specs.Choice.{all_below_fails, all_below_more, all_below_none}
use Rattle.limits.proofs.Shipped.{shipped_windowed}
use Rattle.rules.proofs.Workers.{windowed_is, words_two, worker_within}
use Rattle.rules.specs.Fit.{workers_fit}
use Rattle.rules.specs.Layout.{worker_at, needed}
use Rattle.rules.specs.Make.{shipped}
use Rattle.rules.specs.Worker.{slot_at}
use Rattle.rules.specs.declared.Settings.{Settings}
use Rattle.worker_fitness.proofs.Eleven.{words_fit_by}
use Rattle.worker_fitness.proofs.Places.{is_fit}
use Rattle.worker_fitness.proofs.every_fit.Goals as goal

-- the words of the worker that is looked at are among the lent ones
lent : (g : Settings) (n i at : ℕ) → at ≡ worker_at g i → i < g.workers → g.edition ≡ shipped → needed g ≤ n → at + 11 ≤ n
lent g n i at e l s few = rw e (omega (arith, worker_within g i l, words_two g.edition (windowed_is g (shipped_windowed g s)), few))

pub workers-init : goal.workers-init
workers-init c = (refl, all_below_none _)

pub workers-preserved-then-idle_fit : goal.workers-preserved-then-idle_fit
workers-preserved-then-idle_fit c =
    let w = c.workers in
    (w.invariant.0, all_below_more w.i (is_fit c.args.words.now c.args.g) w.invariant.1 (rw c.worker_at-at.ensures at (c.idle_fit.ensures c.if-idle_fit.true)))

pub loop-k-init : goal.loop-k-init
loop-k-init c = (c.workers.invariant.0, all_below_none _)

pub bounds-words-at-in-loop-k : goal.bounds-words-at-in-loop-k
bounds-words-at-in-loop-k c = omega (arith, lent c.args.g _ c.workers.i _ c.worker_at-at.ensures c.workers-test.true c.requires.g_in_bounds.1 c.requires.g_in_bounds.0, c.loop-k-test.true)

pub loop-k-preserved : goal.loop-k-preserved
loop-k-preserved c =
    let l = c.loop-k in
    (l.invariant.0, all_below_more _ _ l.invariant.1 (sym c.word_fit.ensures ∙ c.if-not-word_fit.false))

pub workers-preserved : goal.workers-preserved
unfolding slot_at
workers-preserved c =
    let l = c.loop-k in
    let w = c.workers in
    let a = c.args in
    let all : l.k ≡ 11 = omega arith in
    let fit = sym (words_fit_by a.g a.words.now _ _ c.requires.g_in_bounds.1 c.width_of-width.ensures) ∙ (rw all at l.invariant.1) in
    (l.invariant.0, all_below_more w.i (is_fit a.words.now a.g) w.invariant.1 (rw c.worker_at-at.ensures at fit))

pub returns-after-workers : goal.returns-after-workers
unfolding workers_fit
returns-after-workers c =
    let a = c.args in
    let w = c.workers in
    let all : w.i ≡ a.g.workers = omega arith in
    w.invariant.0 ∙ sym (rw all at w.invariant.1)

pub returns-then-not-word_fit : goal.returns-then-not-word_fit
unfolding workers_fit slot_at
returns-then-not-word_fit c =
    let w = c.workers in
    let a = c.args in
    let l = c.loop-k in
    let unfit = sym c.word_fit.ensures ∙ c.if-not-word_fit.true in
    let here = sym (words_fit_by a.g a.words.now _ _ c.requires.g_in_bounds.1 c.width_of-width.ensures) ∙ all_below_fails 11 _ l.k c.loop-k-test.true unfit in
    sym (all_below_fails a.g.workers (is_fit a.words.now a.g) w.i c.workers-test.true (rw c.worker_at-at.ensures at here))
