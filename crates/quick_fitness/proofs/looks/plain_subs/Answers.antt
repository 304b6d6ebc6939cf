-- `quick_fitness::looks::plain_subs` meets its contract: where each sub is said to be fit, held to the bottom that was read once, each is.
use Rattle.std.proofs.Common.{rules}
use Rattle.laws.specs.Looks.{all_hold}
use Rattle.quick_fitness.proofs.looks.plain_subs.Goals as goal

pub returns : goal.returns
returns c =
    λ e. rw (← c.plain_bottom-bottom.ensures) (all_hold _ _ (λ j l. let fit = c.all_in_fours.ensures.each e j l in search rules))
