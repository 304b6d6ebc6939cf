-- Paper 02, K4: "Models now put value 0 as a spacer between feed tanks, and planners don't want those counted as waiting. Distance
-- from now on counts held items whose value isn't 0. A spacer's own take has a distance too. On the one-at-a-time list the reported
-- number skips spacers, while the limit on items passed over still counts them all."
-- So there are two counts. Of a pool's held items they are `distance_of` and `passed_of` (specs/Held), of the sequential specification's
-- `reported_by` and `passed_by` (specs/Sequential): the first is what an answer reports, the second is what a bound is on. How they
-- stand to each other and to the answers is stated here, first of any list of items, then of every list of calls from a new pool.
use Rattle.std.specs.Prelude.{ℕ, ◌+◌, ◌≤◌, ◌<◌, ◌≡◌, ◌≢◌, Bool, false, List}
use Rattle.std.proofs.Math.Option.{none, some}
use Rattle.laws.specs.Choice.{cond}
use Rattle.rules.specs.Answers.{number_of}
use Rattle.rules.specs.Apply.{stamp_in_cell, taken_of}
use Rattle.rules.specs.Held.{Item, is_spacer, passed_over, reported, count_items, passed_of, distance_of}
use Rattle.rules.specs.Measures.{Measures}
use Rattle.rules.specs.Sequential.{taking, Contents, Fed, Given, give, bound_by, passed_by, reported_by}
use Rattle.rules.specs.Run.{Call, begin_put, begin_take, step, set_size, call_of, measures_at, stamp_in, distance_in}
use Rattle.rules.specs.Statement.{All}
use Rattle.rules.specs.Consequences.{words_after}
use Rattle.rules.specs.declared.Settings.{Settings}
use Rattle.rules.specs.declared.Row.{Row}
use Rattle.rules.specs.declared.Stamp.{Stamp}
use Rattle.rules.specs.Answers.{Answered}

-- ---- the two counts, of any list of items
-- a spacer that a take of stamp s passes over
abbrev pub spacer_passed : ℕ → ℕ → Item → Bool
spacer_passed kind s x = cond (is_spacer x) (passed_over kind s x) false

-- what is passed over is what is reported, and the spacers
abbrev pub PassedInTwo : Type 0
PassedInTwo =
    (kind s : ℕ) (xs : List Item)
    → count_items (passed_over kind s) xs ≡ count_items (reported kind s) xs + count_items (spacer_passed kind s) xs

-- so the number reported is never above, in a pool's words and on the list
pub record NeverAbove (g : Settings) : Type 0 where
  pub held : (ws : List ℕ) (s : Stamp) → distance_of ws g s ≤ passed_of ws g s
  pub listed : (q : Contents) (stamp : ℕ) → reported_by g q stamp ≤ passed_by g q stamp

-- of spacers alone nothing is reported, however many are passed over
abbrev pub SpacersReportNothing : Type 0
SpacersReportNothing = (kind s : ℕ) (xs : List Item) → All (λ (x : Item). x.value ≡ 0) xs → count_items (reported kind s) xs ≡ 0

-- ---- "a spacer's own take has a distance too"
-- whatever value lies in the row's cell, the answer's distance is that of its stamp
abbrev pub EveryTakeHasDistance : Type 0
EveryTakeHasDistance =
    (ws : List ℕ) (g : Settings) (j : ℕ) (row : Row) → distance_in (taken_of ws g j row) ≡ distance_of ws g (stamp_in_cell ws g j row)

-- ---- "on the one-at-a-time list"
-- a take that answers 2 with a stamp
abbrev pub fed_take : Measures → ℕ → Fed
fed_take m stamp = record { operation = taking; number = 2; stamp = stamp; measures = m }

-- "the reported number skips spacers, while the limit on items passed over still counts them all": what a take is given
abbrev pub GivenBoth : Type 0
GivenBoth =
    (each : ℕ) (g : Settings) (q : Contents) (m : Measures) (stamp : ℕ) (r : Given) → give each g q (fed_take m stamp) ≡ some r
    → (r.distance ≡ reported_by g q stamp) × (passed_by g q stamp ≤ bound_by g each m.size)

-- so a take that would pass over more is not allowed, even if all that it passes over are spacers, of which 0 is reported
abbrev pub NotAllowedBeyond : Type 0
NotAllowedBeyond =
    (each : ℕ) (g : Settings) (q : Contents) (m : Measures) (stamp : ℕ) → bound_by g each m.size < passed_by g q stamp
    → give each g q (fed_take m stamp) ≡ none

-- ---- every list of calls from a new pool, and then a take
-- what a step of worker i answers after it
abbrev pub answer_after : ℕ → List ℕ → List Call → ℕ → Answered
answer_after e ws cs i = (call_of e (words_after e ws cs) (step i)).answer

-- both counts are of the pool just before: the distance is what is reported there, and what is passed over is within a bound
pub record TakenWithin (most : ℕ) (g : Settings) (ws : List ℕ) (a : Answered) : Type 0 where
  pub reports : distance_in a ≡ distance_of ws g (record { 0 = stamp_in a })
  pub passes : passed_of ws g (record { 0 = stamp_in a }) ≤ most

-- what it is held to
abbrev pub measures_after : ℕ → List ℕ → List Call → ℕ → Measures
measures_after e ws cs i = measures_at (words_after e ws cs) (step i) (answer_after e ws cs i)

abbrev pub TakesWithin : (Settings → ℕ) → Settings → List ℕ → List Call → Type 0
TakesWithin each g ws cs =
    (i : ℕ) → number_of (answer_after g.edition ws cs i) ≡ 2
    → TakenWithin (bound_by g (each g) (measures_after g.edition ws cs i).size) g (words_after g.edition ws cs) (answer_after g.edition ws cs i)

-- where no call begins a put of 0, all that is passed over is reported
abbrev pub NoSpacer : Call → Type 0
NoSpacer (begin_put i v) = v ≢ 0
NoSpacer (begin_take i) = Unit {0}
NoSpacer (step i) = Unit {0}
NoSpacer (set_size width depth) = Unit {0}

abbrev pub AllReported : Settings → List ℕ → List Call → Type 0
AllReported g ws cs =
    All NoSpacer cs → (i : ℕ) → number_of (answer_after g.edition ws cs i) ≡ 2
    → distance_in (answer_after g.edition ws cs i) ≡ passed_of (words_after g.edition ws cs) g (record { 0 = stamp_in (answer_after g.edition ws cs i) })
