-- No figure closer than the exact one (rules, specs/Newer) is a bound: there is a list of calls from make after which a take passes over
-- just so many newer items, whatever the settings of a stack with two workers. It reports them all, so no closer figure is a bound on
-- what is reported either.
use Rattle.std.specs.Prelude.{ℕ, ◌+◌, ◌*◌, ◌≤◌, ◌<◌, ◌≡◌, List}
use Rattle.rules.specs.Answers.{number_of}
use Rattle.rules.specs.Consequences.{words_after}
use Rattle.rules.specs.Held.{passed_of}
use Rattle.rules.specs.Make.{make_of}
use Rattle.rules.specs.Run.{Call, stamp_in, distance_in}
use Rattle.rules.specs.Newer.{framework_bound, exact_bound}
use Rattle.rules.specs.Spacers.{answer_after}
use Rattle.rules.specs.declared.Settings.{Settings}

-- a list of calls, and then a step of a worker that takes an item past `most` others, and reports them all
pub record Passes (g : Settings) (ws : List ℕ) (most : ℕ) : Type 0 where
  pub calls : List Call
  pub worker : ℕ
  pub taken : number_of (answer_after g.edition ws calls worker) ≡ 2
  pub passes : passed_of (words_after g.edition ws calls) g (record { 0 = stamp_in (answer_after g.edition ws calls worker) }) ≡ most
  pub reports : distance_in (answer_after g.edition ws calls worker) ≡ most

-- every stack that make accepts with two workers or more has such a list, with the exact figure
abbrev pub Reached : Type 0
Reached =
    (ws : List ℕ) (g : Settings) → number_of (make_of ws g).answer ≡ 0 → g.kind ≡ 1 → 2 ≤ g.workers
    → Passes g (make_of ws g).words (exact_bound g)

-- and so the framework paper's figure is exceeded where it is the lower one, by a take of some run
abbrev pub FrameworkExceeded : Type 0
FrameworkExceeded =
    (ws : List ℕ) (g : Settings) → number_of (make_of ws g).answer ≡ 0 → g.kind ≡ 1 → 2 ≤ g.width → 2 ≤ g.workers → g.shift < g.depth
    → g.depth + 3 * g.shift ≤ g.rows
    → (most : ℕ) × Passes g (make_of ws g).words most × (framework_bound g < most)
