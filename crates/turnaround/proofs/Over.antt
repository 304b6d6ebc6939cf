-- Over any number of moves: after each the pool is the one that never moved, in another area, so that it stays in step with it. The run is then that
-- pool's, and demand 3 of the one is demand 3 of the other.
use Prim.Native.Nat.{ℕ, ◌<◌}
use mathlib.Core.Path.{◌≡◌, refl, sym, ap, subst}
use mathlib.Core.List.{List, [], ◌∷◌}
use native.Mathlib.Omega.{arith}
use lib.Dec.{eqb}
use borrow.Author.Tests.{eqb-true}
use Rattle.laws.specs.Choice.{cases}
use Rattle.rules.specs.Answers.{number_of}
use Rattle.rules.specs.Layout.{settings_of}
use Rattle.rules.specs.Run.{call_of, run}
use Rattle.rules.specs.Statement.{All}
use Rattle.rules.specs.Consequences.{words_after}
use Rattle.rules.specs.Make.{make_of, in_edition}
use Rattle.turnaround.specs.Move.{move_of}
use Rattle.turnaround.specs.Turnaround.{SamePool, OperationsGoOn, Act, call, move, Low, Place, here, place_after, place_over, calls_in, run_over, Unseen, MovesUnseen, RunsOverMoves}
use Rattle.turnaround.proofs.Types.{Settings}
use Rattle.rules.proofs.Fitness.{fit_pool}
use Rattle.rules.proofs.words.Made.{accepted, made_says}
use Rattle.turnaround.proofs.Stores.{itself, joined}
use Rattle.turnaround.proofs.InStep.{call_both, event_both, in_step}
use Rattle.turnaround.proofs.Moved.{move_accepted, move_does}

pub operations_go_on : OperationsGoOn
operations_go_on a b from to cs old new none = in_step (settings_of from) b from _ cs ((move_does a b from to none).pool old new)

-- a move to another place leaves it the same: it is from the edition that the pool is of
moved_on : (g : Settings) (ws : List ℕ) (p : Place) (a b : ℕ) (area : List ℕ) → b < 2 → SamePool g ws (in_edition p.edition g) p.words
    → number_of (move_of a b p.words area).answer ≡ 0 → SamePool g ws (in_edition b g) (move_of a b p.words area).words
moved_on g ws p a b area new pool none =
    let own : (settings_of p.words).edition ≡ a = (move_accepted a b p.words area none).edition in
    let here : (settings_of p.words).edition ≡ p.edition = ap (λ (h : Settings). h.edition) pool.settings_two in
    joined g p.edition b pool
    (subst (λ (h : Settings). SamePool h p.words (in_edition b h) (move_of a b p.words area).words) pool.settings_two
    ((move_does a b p.words area none).pool (omega (arith, pool.old_two)) new))

follows : (g : Settings) (ws : List ℕ) (p : Place) (xs : List Act) → All Low xs → SamePool g ws (in_edition p.edition g) p.words → Unseen g ws p xs
unfolding run_over place_over calls_in run words_after
follows g ws p [] low pool = record { answers = refl; ends = pool }
follows g ws p (call c ∷ xs) low pool =
    let b = call_both g p.edition ws p.words pool c in
    let rest = follows g (call_of g.edition ws c).words (place_after p (call c)) xs low.1 b.later in
    record { answers = λ u. event_both g p.edition ws p.words pool c u ∷ rest.answers u; ends = rest.ends }
follows g ws p (move a b area ∷ xs) low pool =
    let o = move_of a b p.words area in
    let rest = follows g ws (place_after p (move a b area)) xs low.1
    (cases (λ (q : Place). SamePool g ws (in_edition q.edition g) q.words) (eqb (number_of o.answer) 0) (record { edition = b; words = o.words }) p
    (λ t. moved_on g ws p a b area low.0 pool (eqb-true _ _ t)) (λ t. pool)) in
    record { answers = rest.answers; ends = rest.ends }

pub moves_unseen : MovesUnseen
moves_unseen g ws xs old low fit = let pool = fit_pool g.edition ws g fit in follows g ws (here g ws) xs low (itself g old pool.settings pool.enough)

-- ---- from make on
pub from_make : (ws : List ℕ) (g : Settings) (xs : List Act) → g.edition < 2 → All Low xs → number_of (make_of ws g).answer ≡ 0
    → Unseen g (make_of ws g).words (here g (make_of ws g).words) xs
from_make ws g xs old low made =
    let a = accepted ws g made in
    let says = made_says ws g a.enough in
    follows g _ (here g (make_of ws g).words) xs low (itself g old (rw a.words says.settings) (rw a.words says.long))

pub runs_over_moves : RunsOverMoves
runs_over_moves P holds ws g xs old low made = subst (P g) (sym (from_make ws g xs old low made).answers) (holds ws g (calls_in xs) made)
