-- K3: a worker left by itself ends its operation within w + 5 steps (a queue's put), 3w + 3 (a queue's take), or the greater of 2w + 8 and
-- 3w + 4 (a stack's put or take), and so within 3w + 8.
use mathlib.Core.Path.{◌≡◌, refl}
use mathlib.Core.List.{List}
use Prim.Native.Nat.{ℕ, suc, ◌+◌, ◌*◌, ◌≤◌}
use native.Mathlib.Decide.{ℕ_discrete}
use native.Mathlib.Omega.{arith}
use lib.ListN.{replicate}
use lib.Dec.{eqb}
use borrow.Author.Tests.{eqb-true, eqb-false}
use Rattle.laws.specs.Choice.{cases}
use Rattle.rules.specs.Answers.{number_of}
use Rattle.rules.specs.Limits.{step_limit}
use Rattle.rules.specs.Make.{make_of, in_edition}
use Rattle.rules.specs.Sequential.{Operation, putting, taking}
use Rattle.rules.specs.Run.{Call, begin_put, begin_take, step, begin, call_of, Event, run}
use Rattle.rules.specs.Consequences.{words_after}
use Rattle.solo.specs.Solo.{k3_steps, queue_steps, stack_steps, solo_steps, Begun, after_begin, Solo, EndsWithin, SoloWithin, K3, SoloExact, PlainWithin, PlainK3, PlainExact}
use Rattle.solo.proofs.Types.{Settings, Side, Putting, Taking}
use Rattle.rules.proofs.machine.Machine.{next_in}
use Rattle.rules.proofs.BothKinds.{kind_of}
use Rattle.rules.proofs.words.Made.{accepted}
use Rattle.rules.proofs.Transfer.{Related, next_related, made_related, related_after}
use Rattle.rules.proofs.Course.{At, settings_at, kind_at, next_at, Course, calls_course}
use Rattle.solo.proofs.Law.{queue_begun, stack_begun}
use Rattle.solo.proofs.Moved.{begun_by, begun_of}
use Rattle.solo.proofs.Solo.{begun_ends}
use Rattle.solo.proofs.Forms.{by_position, ends_later, plain, steps_length, steps_own, steps_before_law, steps_solo}

abbrev side_of : Operation → Side
side_of (putting v) = Putting
side_of taking = Taking

-- what is claimed of one run
abbrev EndsSolo : ℕ → ℕ → List ℕ → ℕ → Operation → List Call → Type 0
EndsSolo ed n ws i o ds = Begun ed ws i o n → Solo i (after_begin ed ws i o ds) → EndsWithin i n (after_begin ed ws i o ds)

later : (ed n m : ℕ) → n ≤ m → (ws : List ℕ) (i : ℕ) (o : Operation) (ds : List Call) → EndsSolo ed n ws i o ds → EndsSolo ed m ws i o ds
later ed n m l ws i o ds ends b solo = ends_later l (ends (record { accepted = b.accepted; enough = omega (arith, b.enough) }) solo)

-- the figures are one more than what a begin leaves
queue_figure : (g : Settings) (o : Operation) → suc (queue_begun g (side_of o)) ≤ queue_steps g o
queue_figure g (putting v) = omega arith
queue_figure g taking = omega arith

stack_figure : (g : Settings) (o : Operation) → suc (stack_begun g (side_of o)) ≤ stack_steps g
stack_figure g o = omega arith

figure : (g : Settings) (o : Operation) → suc (begun_of g (side_of o)) ≤ solo_steps g o
unfolding begun_by
figure g o = by (ℕ_discrete g.kind 0)
  where
    by : (d : Dec (g.kind ≡ 0)) → suc (begun_by g d (side_of o)) ≤ solo_steps g o
    by (yes e) = cases (λ (n : ℕ). suc (queue_begun g (side_of o)) ≤ n) (eqb g.kind 0) _ _ (λ t. queue_figure g o) (λ t. absurd (eqb-false _ _ t e))
    by (no n) = cases (λ (m : ℕ). suc (stack_begun g (side_of o)) ≤ m) (eqb g.kind 0) _ _ (λ t. absurd (n (eqb-true _ _ t))) (λ t. stack_figure g o)

-- it asks for no edition
steps_same : (g : Settings) (e : ℕ) (o : Operation) → solo_steps (in_edition e g) o ≡ solo_steps g o
steps_same g e (putting v) = refl
steps_same g e taking = refl

-- ---- from any place of a pool's course: after a begin there, with so many steps left in the step count
module _ (g : Settings) (x : At g) {ws : List ℕ} (r : Related (settings_at g x) x.limits (kind_at g x) ws x.state) (i : ℕ) where
  abbrev h : Settings
  h = settings_at g x

  module _ (o : Operation) (b : Begun x.edition ws i o (solo_steps g o)) where
    most : suc (begun_of h (side_of o)) ≤ solo_steps g o
    most = rw (steps_same g x.edition o) at (figure h o)

    accepted_in : number_of (next_in h x.state (begin i o)).answer ≡ 0
    accepted_in = rw (next_related h x.limits (kind_at g x) r (begin i o)).answer at b.accepted

    enough_in : x.state.steps + suc (begun_of h (side_of o)) ≤ step_limit
    enough_in = omega (arith, most, b.enough, r.says.steps)

  pub ends_solo : (o : Operation) → Begun x.edition ws i o (solo_steps g o) → {es : List Event} → Course g (next_at g x (begin i o)).state es → Solo i es
      → EndsWithin i (solo_steps g o) es
  unfolding next_in
  ends_solo (putting v) b course solo =
      ends_later (most (putting v) b)
      (by_position (begun_ends g x r.list r.whole i Putting v (begin_put i v) refl (accepted_in (putting v) b) (enough_in (putting v) b) course solo))
  ends_solo taking b course solo =
      ends_later (most taking b)
      (by_position (begun_ends g x r.list r.whole i Taking 0 (begin_take i) refl (accepted_in taking b) (enough_in taking b) course solo))

pub solo_exact : SoloExact
solo_exact ws g cs made i o ds b solo =
    let a = accepted ws g made in
    let k = kind_of g a.limits in
    let there = related_after g a.limits k (made_related g a.limits k ws a) cs in
    let x : At g = record { edition = g.edition; limits = a.limits; state = there.state } in
    ends_solo g x there.related i o b (calls_course g (next_at g x (begin i o)).state (next_related g a.limits k there.related (begin i o)).related ds) solo

-- each figure is within 3w + 8
pub exact_k3 : (g : Settings) (o : Operation) → solo_steps g o ≤ k3_steps g o
exact_k3 g o = cases (λ n. n ≤ 3 * g.width + 8) (eqb g.kind 0) (queue_steps g o) (stack_steps g) (λ e. queue o) (λ e. omega arith)
  where
    queue : (p : Operation) → queue_steps g p ≤ 3 * g.width + 8
    queue (putting v) = omega arith
    queue taking = omega arith

pub k3 : K3
k3 ws g cs made i o ds = later g.edition (solo_steps g o) (k3_steps g o) (exact_k3 g o) (words_after g.edition (make_of ws g).words cs) i o ds (solo_exact ws g cs made i o ds)

-- ---- plain
plain_within : (most : Settings → Operation → ℕ) → ((g : Settings) (o : Operation) → 1 ≤ most g o) → SoloWithin most → PlainWithin most
plain_within most some within ws g cs made i o b =
    let n : ℕ = most g o in
    let begun : List ℕ = (call_of g.edition (words_after g.edition (make_of ws g).words cs) (begin i o)).words in
    plain i n (run g.edition begun (replicate n (step i))) (steps_length g.edition i begun n) (steps_own g.edition i begun n) (steps_before_law g.edition i begun n)
    (within ws g cs made i o (replicate n (step i)) b (steps_solo g.edition i begun n)) (some g o)

pub plain_k3 : PlainK3
plain_k3 = plain_within k3_steps (λ g o. omega arith) k3

pub plain_exact : PlainExact
plain_exact = plain_within solo_steps some solo_exact
  where
    queue : (g : Settings) (p : Operation) → 1 ≤ queue_steps g p
    queue g (putting v) = omega arith
    queue g taking = omega arith

    some : (g : Settings) (o : Operation) → 1 ≤ solo_steps g o
    some g o = cases (λ n. 1 ≤ n) (eqb g.kind 0) (queue_steps g o) (stack_steps g) (λ e. queue g o) (λ e. omega arith)
