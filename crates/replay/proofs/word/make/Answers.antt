-- `replay::word::make` meets its contract: the file goes on where the pool is made, whose answer is then 0. Assumes nothing.
use Rattle.std.proofs.Common.{◌≡◌, ℕ, List, Ok, Err, ◌⊎◌, inl, inr, ap, ◌∙◌, arith}
use Rattle.rules.specs.Answers.{Out}
use Rattle.rules.specs.Make.{make_of}
use Rattle.rules.specs.declared.Settings.{Settings}
use Rattle.rules.specs.declared.Answer.{Answer}
use Rattle.rules.specs.declared.Answer.TheVariants.{Moving}
use Rattle.rules.specs.declared.Refusal.{Refusal}
use Rattle.replay.specs.Replay.{out_of, item_next}
use Rattle.replay.proofs.Begins.{make_answer}
use Rattle.replay.proofs.word.make.Goals as goal

-- the answer of a pool that is made is 0
made_moving : (ws : List ℕ) (g : Settings) (o : Out) (a : Answer) → o ≡ make_of ws g → o.answer ≡ Ok a → o.answer ≡ Ok Moving
made_moving ws g o a e ok = by (ap (λ (x : Out). x.answer) e) (make_answer ws g)
  where
    by : o.answer ≡ (make_of ws g).answer → ((make_of ws g).answer ≡ Ok Moving) ⊎ ((refusal : Refusal) × ((make_of ws g).answer ≡ Err refusal)) → o.answer ≡ Ok Moving
    by same (inl m) = same ∙ m
    by same (inr (refusal, r)) = let z : ◌≡◌ {A = ℕ} 0 1 = cc in absurd (omega arith)

pub returns-in-Ok : goal.returns-in-Ok
unfolding item_next out_of
returns-in-Ok c position = simp (← c.make.ensures, made_moving _ _ _ _ c.make.ensures c.in-Ok.is)

pub returns-in-Err : goal.returns-in-Err
unfolding item_next out_of
returns-in-Err c position = simp (← c.make.ensures, c.in-Err.is)
