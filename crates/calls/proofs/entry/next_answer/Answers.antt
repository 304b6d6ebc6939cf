-- `calls::entry::next_answer` meets its contract: a step of a pool that is known to be fit is asked for.
use Rattle.std.proofs.Common.{ap, ◌∙◌}
use Rattle.rules.specs.Answers.{returned_of}
use Rattle.rules.specs.Fit.{Checked}
use Rattle.rules.specs.Step.{checked_step, step_of}
use Rattle.calls.proofs.entry.next_answer.Goals as goal

pub returns : goal.returns
unfolding step_of checked_step
returns c = c.call.ensures ∙ ap (λ (k : Checked). returned_of (checked_step c.args.words.now k c.args.i)) c.requires
