-- `step::apply::taken` meets its contract: the row's item, and the distance of its stamp; counted along the segments, it is that of the
-- held list.
use mathlib.Core.Path.{◌≡◌, ◌∙◌}
use Rattle.ring.proofs.HeldCells.{distance_walked}
use Rattle.rules.specs.Apply.{taken_of}
use Rattle.rules.specs.Held.{distance_of}
use Rattle.rules.specs.Layout.{first_at}
use Rattle.step.proofs.apply.taken.Goals as goal

pub returns : goal.returns
unfolding taken_of
returns c =
    let few = c.shared_slice_known-1.given in
    let along : c.distance.result ≡ distance_of c.args.words.now c.args.g c.item_of-it.result.stamp =
    c.distance.ensures ∙ distance_walked c.args.words.now c.args.g (λ j. (few (first_at j)).fits) c.requires.fit_pool _ in
    simp (along, c.item_of-it.ensures.0, c.item_of-it.ensures.1)
