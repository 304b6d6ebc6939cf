-- `calls::entry::call` meets its contract: the check's refusal, or of a fit pool what is asked for.
use Rattle.std.proofs.Common.{ℕ, List, ◌≡◌, sym, ap, refl, ◌∙◌, ◌⊎◌, inl, inr}
use Rattle.rules.proofs.Fitness.{found_fit, found_unfit}
use Rattle.rules.specs.Answers.{refuse, returned_of}
use Rattle.rules.specs.Begin.{fit_begin, checked_begin, begin_of}
use Rattle.rules.specs.Fit.{Fit, Unfit, checked_of}
use Rattle.rules.specs.Layout.{settings_of}
use Rattle.rules.specs.Make.{shipped}
use Rattle.rules.specs.Step.{fit_step, checked_step, step_of}
use Rattle.rules.specs.declared.Refusal.{Refusal}
use Rattle.rules.specs.declared.Refusal.TheVariants.{NotFit}
use Rattle.rules.specs.declared.Side.{Side}
use Rattle.calls.specs.Called.{called}
use Rattle.calls.specs.declared.asked.Asked.{Asked}
use Rattle.calls.specs.declared.asked.Asked.TheVariants.{Put, Take, Step, CheckedStep}
use Rattle.calls.proofs.entry.call.Goals as goal
use Rattle.calls.proofs.entry.call.Goals.{in-Put, in-Take}

called_refused : (asked : Asked) (ws : List ℕ) (i value : ℕ) (refusal : Refusal) → checked_of shipped ws ≡ Unfit refusal → refuse refusal ws ≡ called asked ws i value
unfolding begin_of checked_begin step_of checked_step
called_refused Put ws i value refusal e = rw e refl
called_refused Take ws i value refusal e = rw e refl
called_refused Step ws i value refusal e = rw e refl
called_refused CheckedStep ws i value refusal e = rw e refl

called_step : (asked : Asked) (ws : List ℕ) (i value : ℕ) → checked_of shipped ws ≡ Fit (settings_of ws) → (asked ≡ Step) ⊎ (asked ≡ CheckedStep)
    → fit_step ws (settings_of ws) i ≡ called asked ws i value
unfolding step_of checked_step
called_step asked ws i value fit (inl e) = rw (e, fit) refl
called_step asked ws i value fit (inr e) = rw (e, fit) refl

pub returns-in-Err : goal.returns-in-Err
returns-in-Err g c =
    let a = c.args in
    rw (c.answered.ensures.0, c.answered.ensures.1)
    (ap returned_of (called_refused (g.A.Asks.asked a.what) a.words.now a.i a.value c.in-Err.refusal (found_unfit _ _ c.in-Err.ensures)))

pub fit_answer-requires : goal.fit_answer-requires
fit_answer-requires g c = found_fit NotFit shipped _ c.in_default.ensures

pub returns-in-Step : goal.returns-in-Step
returns-in-Step g c =
    let a = c.args in
    let asked = c.asked-asked in
    rw (sym asked.ensures)
    (c.fit_answer.ensures ∙ ap returned_of (called_step asked.result a.words.now a.i a.value (found_fit NotFit shipped _ c.in_default.ensures) c.in-Step.is))

pub begun-requires : goal.begun-requires
begun-requires g c = found_fit NotFit shipped _ c.in_default.ensures

pub returns : goal.returns
unfolding begin_of checked_begin
returns g c =
    let a = c.args in
    let begun = λ (s : Side). returned_of (fit_begin a.words.now (settings_of a.words.now) a.i s a.value) in
    let fit = found_fit NotFit shipped a.words.now c.in_default.ensures in
    rw (sym c.asked-asked.ensures)
    (elim c.match-asked.branch [
      | in-Put w ↦ c.begun.ensures ∙ ap begun w.side-is ∙ (rw (w.in-Put.is, fit) refl)
      | in-Take w ↦ c.begun.ensures ∙ ap begun w.side-is ∙ (rw (w.in-Take.is, fit) refl)
    ])
