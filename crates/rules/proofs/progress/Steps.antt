-- A worker's step, for either kind. A measure says of a state, a number n, an index and a phase that a worker there makes at most n more
-- steps before the one that gives its final answer: a stack's while it steps alone, a queue's while nobody gives a final answer. A step
-- gives that answer, or it goes on with one less.
use mathlib.Core.Path.{◌≡◌, refl, sym, subst}
use mathlib.Core.Logic.{◌≢◌}
use Prim.Native.Nat.{ℕ, suc, ◌-◌, ◌≤◌, ◌<◌}
use native.Mathlib.Omega.{arith}
use lib.Dec.{ltb}
use borrow.Author.Tests.{ltb-true, ltb-false}
use Rattle.laws.specs.Choice.{cases}
use Rattle.laws.specs.Wrap.{add32}
use Rattle.rules.specs.Answers.{number_of, not_fit}
use Rattle.rules.specs.Worker.{phase_of, encode, fresh, zero_slot}
use Rattle.rules.specs.Effects.{refused_of, moved_of, finished_of, nothing_for, next_of}
use Rattle.rules.specs.Read.{miss_of}
use Rattle.rules.specs.Run.{Final}
use Rattle.rules.proofs.Types.{Settings, Side, Putting, Taking, Phase, Window, Worker, Slot, View, Effect}
use Rattle.rules.specs.declared.Answer.TheVariants.{Moving}
use Rattle.rules.proofs.counts.Sums.{upd_same}
use Rattle.rules.proofs.counts.Wraps.{add32_suc}
use Rattle.rules.proofs.order.Law.{Next}
use Rattle.rules.proofs.order.Gives.{final_empty, final_full}
use Rattle.rules.proofs.machine.Machine.{Frame, State, next, sub_in, view_in, phase_in, apply_in, apply_in_by, turned_in, apply_moved}
use Rattle.rules.proofs.machine.Phases.{worker, encode_index, window_phase}
use Rattle.rules.proofs.machine.Calls.{begun}
use Rattle.std.specs.Prelude.{Ok}
use Rattle.rules.specs.declared.Refusal.TheVariants.{NotFit}

abbrev pub Measure : Type 1
Measure = State → ℕ → ℕ → Phase → Type 0

-- the measure of a worker whose slot was just written
pub at_slot : (g : Settings) (M : Measure) (t : State) (i n : ℕ) (k : Worker) (kept : Slot) → t.slot i ≡ encode g k kept
    → phase_of g (encode g k kept) ≡ k.phase → M t n k.index k.phase → M t n (sub_in t i) (phase_in g t i)
at_slot g M t i n k kept slot back left =
    let x : Slot = encode g k kept in
    let there : M t n x.index k.phase = subst (λ (m : ℕ). M t n m k.phase) (sym (encode_index g k kept)) left in
    let in_phase : M t n x.index (phase_of g x) = subst (λ (p : Phase). M t n x.index p) (sym back) there in
    subst (λ (y : Slot). M t n y.index (phase_of g y)) (sym slot) in_phase

-- and of one that has just begun
pub at_begun : (g : Settings) (M : Measure) (s : State) (i n : ℕ) (side : Side) (v : ℕ) → M (begun g s i side v) n (sub_in s i) (Window side)
    → M (begun g s i side v) n (sub_in (begun g s i side v) i) (phase_in g (begun g s i side v) i)
at_begun g M s i n side v left =
    at_slot g M (begun g s i side v) i n (worker v (sub_in s i) (Window side)) zero_slot (upd_same s.slot i (fresh g v (sub_in s i) (Window side)))
    (window_phase g side v (sub_in s i) zero_slot) left

-- worker i's slot, as a step writes it that goes on to phase p at an index
abbrev pub written : Settings → State → ℕ → ℕ → Phase → Slot → Slot
written g s i index p kept = encode g (worker (s.slot i).value index p) kept

-- and one that starts again
abbrev pub restarted : Settings → State → ℕ → Side → Slot
restarted g s i side = written g s i (sub_in s i) (Window side) (s.slot i)

module _ (g : Settings) (M : Measure) (s : State) (i n : ℕ) where
  -- a step that gives no final answer
  pub record Goes (o : Next State) : Type 0 where
    pub answer : number_of o.answer ≡ 0
    pub steps : o.state.steps ≡ suc s.steps
    pub some : 1 ≤ n
    pub left : M o.state (n - 1) (sub_in o.state i) (phase_in g o.state i)

  pub data Result (o : Next State) : Type 0 where
    finishes : Final o.answer → Result o
    goes : Goes o → Result o

  -- ---- on to phase p at an index: nothing that is shared changes, or the windows do
  turned_on : (top mark : ℕ) (f : Frame) (index : ℕ) (p : Phase) (kept : Slot) → phase_of g (written g s i index p kept) ≡ p → 1 ≤ n
      → M (turned_in s i top mark f (written g s i index p kept)) (n - 1) index p → Goes (next (Ok Moving) (turned_in s i top mark f (written g s i index p kept)))
  turned_on top mark f index p kept back some left =
      let x : Slot = written g s i index p kept in
      record {
        answer = refl;
        steps = refl;
        some = some;
        left = at_slot g M (turned_in s i top mark f x) i (n - 1) (worker (s.slot i).value index p) kept (upd_same s.slot i x) back left;
      }

  pub moves_on : (index : ℕ) (p : Phase) (kept : Slot) → phase_of g (written g s i index p kept) ≡ p → 1 ≤ n
      → M (turned_in s i s.top s.mark s.frame (written g s i index p kept)) (n - 1) index p → Goes (apply_in g s i (moved_of g (view_in g s i) index p kept))
  moves_on index p kept back some left = rw (apply_moved g s i index p kept) (turned_on s.top s.mark s.frame index p kept back some left)

  pub shifts_on : (side : Side) (top mark : ℕ) (f : Frame) (o : Next State) → o ≡ next (Ok Moving) (turned_in s i top mark f (restarted g s i side)) → 1 ≤ n
      → M (turned_in s i top mark f (restarted g s i side)) (n - 1) (sub_in s i) (Window side) → Goes o
  shifts_on side top mark f o is some left =
      rw is (turned_on top mark f (sub_in s i) (Window side) (s.slot i) (window_phase g side (s.slot i).value (sub_in s i) (s.slot i)) some left)

  -- ---- the answer of a pass that found no place
  pub finds_nothing : (side : Side) (index : ℕ) → Result (apply_in g s i (finished_of g (view_in g s i) (nothing_for side) index))
  unfolding apply_in apply_in_by
  finds_nothing Putting index = finishes final_full
  finds_nothing Taking index = finishes final_empty

-- ---- a commit by its tests, where it is known that it is not refused
module _ (g : Settings) (s : State) (i : ℕ) (P : Next State → Type 0) where
  abbrev pub Unless : Effect → Type 0
  Unless e = number_of (apply_in g s i e).answer ≢ not_fit → P (apply_in g s i e)

  pub unless_refused : Unless (refused_of (view_in g s i) NotFit)
  unfolding apply_in apply_in_by
  unless_refused able = absurd (able refl)

-- ---- a miss: the pass goes on, or it has read every one of w subs
pub miss_cases : (g : Settings) (w : ℕ) → w ≤ 16 → (v : View) (P : Effect → Type 0) (scan : ℕ) (again : ℕ → Phase) (after : Phase) (kept : Slot) → scan < w
    → (suc scan < w → P (moved_of g v (next_of w v.worker.index) (again (suc scan)) kept))
    → (suc scan ≡ w → P (moved_of g v (next_of w v.worker.index) after kept)) → P (miss_of g w v scan (again (add32 scan 1)) after kept)
unfolding miss_of
miss_cases g w few v P scan again after kept l on end =
    rw (add32_suc scan (omega arith))
    (cases P (ltb (suc scan) w) _ _ (λ b. on (ltb-true _ _ b)) (λ b. end (omega (arith, ltb-false (suc scan) w b))))
