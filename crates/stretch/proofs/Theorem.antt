-- K7: a stretch of a queue's run without a final answer has at most (n - 1) max(5w + 1, 4w + 3) + w + 4 counted steps, and 2w + 3 where there
-- is one worker; so of any 6n(w + 1) + 1 counted steps in a row one gives a final answer.
use mathlib.Core.Path.{◌≡◌}
use mathlib.Core.Bool.{true}
use mathlib.Core.List.{List}
use Prim.Native.Nat.{ℕ, ◌+◌, ◌-◌, ◌*◌, ◌≤◌, ◌<◌, max}
use native.Mathlib.Nat.{mul-le-mul_left, mul-le-mul_right}
use native.Mathlib.Omega.{arith}
use lib.Dec.{eqb}
use borrow.Author.Tests.{eqb-true, eqb-false}
use Rattle.laws.specs.Choice.{cases}
use Rattle.rules.specs.Limits.{settings_fit}
use Rattle.rules.specs.Sequential.{Contents, no_items}
use Rattle.rules.specs.Run.{Event}
use Rattle.stretch.specs.Stretch.{k7_stretch, exact_stretch, stretch, counted_steps, Finishes, K7, StretchExact}
use Rattle.stretch.proofs.Types.{Settings}
use Rattle.rules.proofs.counts.Sums.{times_pred}
use Rattle.rules.proofs.machine.Good.{Good, good}
use Rattle.rules.proofs.words.Made.{accepted}
use Rattle.rules.proofs.Transfer.{made_whole, made_related}
use Rattle.rules.proofs.BothKinds.{kind_of}
use Rattle.rules.proofs.Course.{At, settings_at, HoldsAt, Course, made_at, course_take, course_drop, calls_course}
use Rattle.stretch.proofs.Past.{good_at, PastAt, past_kept, past_first}
use Rattle.stretch.proofs.Within.{owed_worst, owed_calm, finishes_beyond}

-- ---- the figures
module _ (g : Settings) (good : Good g) (kind : g.kind ≡ 0) where
  width1 : 1 ≤ g.width
  width1 = good.bounds.width1

  one_worker : g.workers ≡ 1 → (c m n : ℕ) → m ≤ n → (g.workers - 1) * c + m ≤ n
  one_worker e c m n l = rw e (omega arith)

  worst_is : owed_worst g ≡ max (5 * g.width + 1) (4 * g.width + 3)
  worst_is = omega arith

  -- with a worker more than one, what takes owe less is at least w - 1 in all
  room : 2 ≤ g.workers → (g.workers - 1) * owed_calm g + (2 * g.width + 3) ≤ (g.workers - 1) * owed_worst g + (g.width + 4)
  room several =
      let step : owed_calm g + (g.width - 1) ≤ owed_worst g = omega (arith, width1) in
      let all : (g.workers - 1) * (owed_calm g + (g.width - 1)) ≤ (g.workers - 1) * owed_worst g = mul-le-mul_left (g.workers - 1) step in
      let parts : (g.workers - 1) * (owed_calm g + (g.width - 1)) ≡ (g.workers - 1) * owed_calm g + (g.workers - 1) * (g.width - 1) = omega arith in
      let once : 1 * (g.width - 1) ≤ (g.workers - 1) * (g.width - 1) = mul-le-mul_right (g.width - 1) (omega arith) in
      omega (arith, width1)

  with_a_put : (g.workers - 1) * owed_worst g + (g.width + 4) ≤ exact_stretch g
  with_a_put =
      cases (λ (n : ℕ). (g.workers - 1) * owed_worst g + (g.width + 4) ≤ n) (eqb g.workers 1) _ _
      (λ e. one_worker (eqb-true _ _ e) (owed_worst g) _ _ (omega (arith, width1)))
      (λ e. rw worst_is (omega arith))

  with_none : (g.workers - 1) * owed_calm g + (2 * g.width + 3) ≤ exact_stretch g
  with_none =
      cases (λ (n : ℕ). (g.workers - 1) * owed_calm g + (2 * g.width + 3) ≤ n) (eqb g.workers 1) _ _
      (λ e. one_worker (eqb-true _ _ e) (owed_calm g) _ _ (omega arith))
      (λ e. rw worst_is at (room (omega (arith, good.bounds.workers1, eqb-false g.workers 1 e))))

-- ---- the theorem
module _ (g : Settings) (kind : g.kind ≡ 0) where
  -- from any state that a new queue comes to
  pub finishes_within : (x : At g) (q : Contents) → HoldsAt g x q → PastAt g kind x → {es : List Event} → Course g x es → exact_stretch g < counted_steps es → Finishes es
  finishes_within x q h past r many =
      finishes_beyond g kind x q h past r (exact_stretch g) (with_a_put (settings_at g x) (good_at g kind x) kind) (with_none (settings_at g x) (good_at g kind x) kind) many

  -- every stretch of a run is one from such a state
  pub stretches : (limits : settings_fit g ≡ true) {es : List Event} → Course g (made_at g limits) es → (p m : ℕ) → exact_stretch g < counted_steps (stretch p m es)
      → Finishes (stretch p m es)
  stretches limits course p m many =
      let r = course_drop g (PastAt g kind) (past_kept g kind) (made_at g limits) no_items (made_whole g limits (kind_of g limits)) (past_first g kind limits) course p in
      finishes_within r.start r.list r.holds r.so (course_take g r.course m) many

pub stretch_exact : StretchExact
stretch_exact ws g cs made kind =
    let a = accepted ws g made in
    stretches g kind a.limits (calls_course g (made_at g a.limits) (made_related g a.limits (kind_of g a.limits) ws a) cs)

-- K7's figure is not below it
pub exact_k7 : (g : Settings) → Good g → exact_stretch g ≤ k7_stretch g
exact_k7 g h =
    cases (λ (n : ℕ). n ≤ 6 * g.workers * (g.width + 1)) (eqb g.workers 1) _ _
    (λ e. let one : g.workers ≡ 1 = eqb-true _ _ e in rw one (omega arith))
    (λ e.
    let all : (g.workers - 1) * each + each ≡ g.workers * each = times_pred g.workers each h.bounds.workers1 in
    let l : g.workers * each ≤ g.workers * (6 * (g.width + 1)) = mul-le-mul_left g.workers (omega arith) in
    omega (arith, h.bounds.width1))
  where
    each : ℕ
    each = max (5 * g.width + 1) (4 * g.width + 3)

pub k7 : K7
k7 ws g cs made kind p m many =
    let h = good g (accepted ws g made).limits in
    stretch_exact ws g cs made kind p m (omega (arith, exact_k7 g h))
