use Rattle.std.proofs.Common.{◌≡◌, ◌⊎◌, inl, inr, true, refl, sym, ap, ◌∙◌, arith, rules}
use Rattle.std.proofs.lemmas.Bool.{false≢true}
use Rattle.buffers.specs.Kept.{most_reads}
use Rattle.buffers.specs.declared.run.Run.{Run}
use Rattle.program.specs.Ran.{over}
use Rattle.program.proofs.Keeping.{started, over_going, ran}
use Rattle.program.proofs.run.print_file.Goals as goal
use Rattle.program.proofs.run.print_file.Goals.{else-loop-test, then-loop-test+then-is_over}

pub loop-init : goal.loop-init
loop-init g c =
    let s = c.start-run.ensures in
    record {
      inside = rw s (omega arith);
      going = λ e. (rw s refl, rw s (omega arith));
      completes = λ e. absurd (false≢true (sym (ap (λ (r : Run). r.ended) s) ∙ e));
      counted = rw s refl;
      left = started _ _ _ _ _ s c.lent_words-words.ensures;
    }

pub print_some-run-requires-clause-turn_bytes_in_bounds : goal.print_some-run-requires-clause-turn_bytes_in_bounds
print_some-run-requires-clause-turn_bytes_in_bounds g c =
    let l = c.loop in
    let going = over_going l.run (sym c.is_over.ensures ∙ c.if-is_over.false) in
    (search rules, l.invariant.inside, (l.invariant.going going).0)

pub print_some-run-requires-clause-carried_in_bounds : goal.print_some-run-requires-clause-carried_in_bounds
print_some-run-requires-clause-carried_in_bounds g c =
    let l = c.loop in
    let going = over_going l.run (sym c.is_over.ensures ∙ c.if-is_over.false) in
    ((l.invariant.going going).1, going, omega (arith, c.loop-test.true, l.invariant.counted))

pub returns : goal.returns
returns g c =
    let l = c.loop in
    let stop : (over l.run ≡ true) ⊎ (l.run.reads ≡ most_reads) =
    elim c.loop-test.branch [
      | else-loop-test w ↦ inr (omega (arith, w.loop-test.false, l.invariant.counted, l.auto.counter-end))
      | then-loop-test+then-is_over w ↦ inl (sym w.is_over.ensures ∙ w.if-is_over.true)
    ] in
    ran c.args.mode l.run c.flush.result l.src l.words l.out c.flush.ensures.run l.invariant.inside l.invariant.completes stop l.invariant.left
