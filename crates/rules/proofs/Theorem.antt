-- Demand 3: for every list of calls from a new pool, in whatever order of workers, there is a one-at-a-time order of the
-- finished operations, each at one of its own steps, that gives the same answers. Queue and stack each have their law of one
-- step; the rest is the same for both.
use Rattle.rules.specs.Sequential.{demand3_rows}
use Rattle.rules.specs.Statement.{Demand3}
use Rattle.rules.specs.Newer.{k14_rows, thesis_rows, exact_rows, K14, Thesis, Exact}
use Rattle.rules.proofs.Fitness.{settings_bounds}
use Rattle.rules.proofs.Transfer.{made_related}
use Rattle.rules.proofs.BothKinds.{kind_of}
use Rattle.rules.proofs.Course.{made_at, calls_course, course_order}
use Rattle.rules.proofs.words.Made.{accepted}
use Rattle.rules.proofs.figures.Figures.{exact_thesis, thesis_k14, k14_most}
use Rattle.rules.proofs.order.Relaxed.{relaxed}

-- with the exact figure, the thesis', K14's and demand 3's own: each is in the order of the one before, for it is not below it
pub exact : Exact
exact ws g cs made =
    let a = accepted ws g made in
    course_order g a.limits (calls_course g (made_at g a.limits) (made_related g a.limits (kind_of g a.limits) ws a) cs)

pub thesis : Thesis
thesis ws g cs made = relaxed g (exact_rows g) (thesis_rows g) (exact_thesis g) _ (exact ws g cs made)

pub k14 : K14
k14 ws g cs made =
    relaxed g (thesis_rows g) (k14_rows g) (thesis_k14 g (settings_bounds g (accepted ws g made).limits).depth1) _ (thesis ws g cs made)

pub demand3 : Demand3
demand3 ws g cs made = relaxed g (k14_rows g) (demand3_rows g) (k14_most g) _ (k14 ws g cs made)
