-- What follows for every list of calls from a new pool: from demand 3's order, or from what shows it.
use Prim.Native.Nat.{ℕ}
use mathlib.Core.List.{List}
use mathlib.Core.Path.{◌∙◌}
use native.Mathlib.Omega.{arith}
use Rattle.rules.specs.Full.{FullMeans, UnsetPlaces}
use Rattle.rules.specs.Make.{make_of}
use Rattle.rules.specs.Held.{passed_of, distance_of}
use Rattle.rules.specs.Sequential.{demand3_rows}
use Rattle.rules.specs.Newer.{exact_rows}
use Rattle.rules.specs.Run.{Call, run, stamp_in}
use Rattle.rules.specs.Consequences.{words_after, OfEveryRun, NothingLost, StampsOnce, has_stamp, WithinBound, OwnSizes, OwnPlaces, InRealTime, NoSumWraps, NeverUnfit}
use Rattle.rules.specs.Spacers.{answer_after, measures_after, TakesWithin, AllReported}
use Rattle.rules.proofs.Types.{Settings}
use Rattle.rules.proofs.counts.Held.{count_none}
use Rattle.rules.proofs.Fitness.{settings_bounds}
use Rattle.rules.proofs.Spacers.{without_spacers}
use Rattle.rules.proofs.figures.Figures.{bound_le, exact_most}
use Rattle.rules.proofs.Transfer.{made_related, made_no_spacers}
use Rattle.rules.proofs.Runs.{accounted, takes_within_after, no_spacers_after, stamped_once, sizes_at, places_at, safe_after, fine_at, full_after, unset_after}
use Rattle.rules.proofs.order.Orders.{bounded, in_real_time}
use Rattle.rules.proofs.BothKinds.{kind_of}
use Rattle.rules.proofs.Theorem.{exact, demand3}
use Rattle.rules.proofs.words.Made.{accepted}

-- no item is lost or invented
pub nothing_lost : OfEveryRun NothingLost
unfolding made_related
nothing_lost ws g cs made p =
    let a = accepted ws g made in
    omega (arith, accounted g a.limits (kind_of g a.limits) (made_related g a.limits (kind_of g a.limits) ws a) cs p, count_none p)

-- no stamp is handed out twice: each is put once at most, and taken no more often than put
pub stamps_once : OfEveryRun StampsOnce
stamps_once ws g cs made stamp =
    let a = accepted ws g made in
    let once = stamped_once g a.limits (kind_of g a.limits) (made_related g a.limits (kind_of g a.limits) ws a) cs stamp in
    (omega arith, omega (arith, nothing_lost ws g cs made (has_stamp stamp)))

-- each distance reported is within demand 3's bound, and within the exact figure
pub within_bound : OfEveryRun (WithinBound demand3_rows)
within_bound ws g cs made = bounded (demand3_rows g) g (run g.edition (make_of ws g).words cs) (demand3 ws g cs made)

pub within_exact : OfEveryRun (WithinBound exact_rows)
within_exact ws g cs made = bounded (exact_rows g) g (run g.edition (make_of ws g).words cs) (exact ws g cs made)

-- a take's window has the pool's size
pub own_sizes : OfEveryRun OwnSizes
own_sizes ws g cs made =
    let a = accepted ws g made in
    sizes_at g a.limits (kind_of g a.limits) (made_related g a.limits (kind_of g a.limits) ws a) cs

-- "full" means that every place after the take window is held
pub full_means : OfEveryRun FullMeans
full_means ws g cs made =
    let a = accepted ws g made in
    full_after g a.limits (kind_of g a.limits) (made_related g a.limits (kind_of g a.limits) ws a) cs

-- and how many places these are where no size was set
pub unset_places : OfEveryRun UnsetPlaces
unset_places ws g cs made =
    let a = accepted ws g made in
    unset_after g a.limits (kind_of g a.limits) (made_related g a.limits (kind_of g a.limits) ws a) cs

-- and "full" has demand 3's number of places
pub own_places : OfEveryRun OwnPlaces
own_places ws g cs made =
    let a = accepted ws g made in
    places_at g a.limits (kind_of g a.limits) (made_related g a.limits (kind_of g a.limits) ws a) cs

-- what each take reports and passes over is counted in the pool just before it, the second within the same bounds
pub takes_within_exact : OfEveryRun (TakesWithin exact_rows)
takes_within_exact ws g cs made =
    let a = accepted ws g made in
    takes_within_after g a.limits (kind_of g a.limits) (made_related g a.limits (kind_of g a.limits) ws a) cs

pub takes_within : OfEveryRun (TakesWithin demand3_rows)
takes_within ws g cs made i two =
    let t = takes_within_exact ws g cs made i two in
    let depth = (settings_bounds g (accepted ws g made).limits).depth1 in
    record { reports = t.reports; passes = omega (arith, t.passes, bound_le g (exact_rows g) (demand3_rows g) (measures_after g.edition (make_of ws g).words cs i).size (exact_most g depth)) }

-- where no call begins a put of 0, all that is passed over is reported
pub all_reported : OfEveryRun AllReported
unfolding made_related distance_of passed_of
all_reported ws g cs made all i two =
    let a = accepted ws g made in
    let k = kind_of g a.limits in
    (takes_within_exact ws g cs made i two).reports
    ∙ without_spacers g.kind (stamp_in (answer_after g.edition (make_of ws g).words cs i)) _ (no_spacers_after g a.limits k (made_related g a.limits k ws a) (made_no_spacers g a.limits k) cs all)

-- an operation that finished before another began stands before it
pub real_time : (ws : List ℕ) (g : Settings) (cs : List Call) (made : _) → InRealTime (demand3_rows g) g (run g.edition (make_of ws g).words cs) (demand3 ws g cs made)
real_time ws g cs made = in_real_time (demand3_rows g) g (run g.edition (make_of ws g).words cs) (demand3 ws g cs made)

-- no count and no sum of a step reaches 2^32, and no difference but confirm's passes below 0
pub no_sum_wraps : OfEveryRun (λ g ws cs. NoSumWraps g (words_after g.edition ws cs))
no_sum_wraps ws g cs made =
    let a = accepted ws g made in
    safe_after g a.limits (kind_of g a.limits) (made_related g a.limits (kind_of g a.limits) ws a) cs

-- no call finds the pool unfit, and no commit that matches is refused
pub never_unfit : OfEveryRun NeverUnfit
never_unfit ws g cs made f =
    let a = accepted ws g made in
    fine_at g a.limits (kind_of g a.limits) (made_related g a.limits (kind_of g a.limits) ws a) cs f
