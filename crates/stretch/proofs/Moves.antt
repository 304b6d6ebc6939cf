-- K7 over moves between editions: the run over any acts is a course of the machine (turnaround: Acts), so that no stretch of it is longer; and where the pool
-- lies in the end a dispatcher finishes an operation, by the edition that it is in there.
use native.Mathlib.Omega.{arith}
use Rattle.rules.specs.Make.{make_of, in_edition}
use Rattle.turnaround.specs.Turnaround.{here, place_over}
use Rattle.stretch.specs.Stretch.{exact_stretch, OverMoves, K7OverMoves}
use Rattle.rules.proofs.machine.Good.{good}
use Rattle.rules.proofs.words.Made.{accepted}
use Rattle.turnaround.proofs.Acts.{made_lies, course_over, lies_so_over}
use Rattle.stretch.proofs.Past.{PastAt, past_kept, past_first}
use Rattle.stretch.proofs.Theorem.{stretches, exact_k7}
use Rattle.stretch.proofs.Dispatch.{reached_finishes}

exact_over_moves : OverMoves exact_stretch
exact_over_moves =
    record {
      stretches = λ ws g xs made kind.
          let a = accepted ws g made in
          stretches g kind a.limits (course_over g (here g (make_of ws g).words) (made_lies g ws a) xs);
      dispatches = λ ws g xs made kind i steps li busy many time.
          let a = accepted ws g made in
          let p = place_over (here g (make_of ws g).words) xs in
          let h = in_edition p.edition g in
          let x = lies_so_over g (PastAt g kind) (past_kept g kind) (here g (make_of ws g).words) (record { lies = made_lies g ws a; so = past_first g kind a.limits }) xs in
          let l = x.lies in
          reached_finishes h (good h l.limits) kind l.limits (record { state = l.state; related = l.related; past = x.so }) i steps li busy many time;
    }

pub k7_over_moves : K7OverMoves
k7_over_moves = (
  record {
    stretches = λ ws g xs made kind p m many.
        let few = exact_k7 g (good g (accepted ws g made).limits) in
        exact_over_moves.stretches ws g xs made kind p m (omega arith);
    dispatches = λ ws g xs made kind i steps li busy many time.
        let few = exact_k7 g (good g (accepted ws g made).limits) in
        exact_over_moves.dispatches ws g xs made kind i steps li busy (omega arith) (omega arith);
  },
  exact_over_moves,
)
