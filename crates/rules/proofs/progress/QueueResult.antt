-- What a queue's step does: it goes on, with less left (QueueLeft), and changes nothing that is shared or moves a window that every sub in its
-- width has reached; or it gives the final answer, and its worker is idle.
use mathlib.Core.Path.{◌≡◌, ap, ◌∙◌}
use Prim.Native.Nat.{ℕ, ◌-◌, ◌≤◌, ◌<◌}
use Rattle.rules.specs.Worker.{phase_of, fresh, zero_slot}
use Rattle.rules.specs.Effects.{moved_of, finished_of, nothing_for}
use Rattle.rules.specs.Sequential.{Operation, putting, taking}
use Rattle.rules.specs.Run.{Final}
use Rattle.rules.proofs.Types.{Settings, Side, Putting, Taking, Phase, Idle, Slot}
use Rattle.rules.proofs.counts.Sums.{upd, upd_same}
use Rattle.rules.proofs.order.Law.{Next, Status, idle, pending, tried}
use Rattle.rules.proofs.order.Gives.{final_empty, final_full}
use Rattle.rules.proofs.machine.Machine.{State, view_in, phase_in, apply_in, turned_in, raised_of, dropped_of, apply_moved, apply_empty, apply_full}
use Rattle.rules.proofs.machine.Phases.{worker, OfQueue, queue_phase_law}
use Rattle.rules.proofs.machine.Turns.{status_in}
use Rattle.rules.proofs.progress.Steps.{written, Goes, Result, finishes, goes, moves_on}
use Rattle.rules.proofs.progress.QueueLeft.{put_now, take_now, Low, Behind, queue_left}

-- 1 for a put under way
abbrev pub put_of : Operation → ℕ
put_of (putting v) = 1
put_of taking = 0

abbrev pub open_put : Status → ℕ
open_put idle = 0
open_put (pending o) = put_of o
open_put (tried o) = put_of o

abbrev pub put_in : Settings → State → ℕ → ℕ
put_in g s i = open_put (status_in g s i)

-- ---- a step that is not final: the pool is as it was, or a put moves the put window, or a take the take window, which every sub in its width had
-- reached and is now below
pub data Moved (g : Settings) (s : State) (i : ℕ) (t : State) : Type 0 where
  still : (x : Slot) → t ≡ turned_in s i s.top s.mark s.frame x → Moved g s i t
  up : (top : ℕ) (x : Slot) → t ≡ turned_in s i top s.mark (raised_of s.frame s.next.width top) x → put_in g s i ≡ 1
      → (Low (put_now s.frame) s.first → ⊥) → Low (put_now (raised_of s.frame s.next.width top)) s.first → Moved g s i t
  on : (mark : ℕ) (x : Slot) → t ≡ turned_in s i s.top mark (dropped_of s.frame) x → Behind s
      → (Low (take_now s.frame) s.second → ⊥) → Low (take_now (dropped_of s.frame)) s.second → Moved g s i t

-- ---- a final one: after a put's, some sub has a row in the put window; a take's leaves the windows and every last put row
abbrev pub Filled : State → Type 0
Filled s = (j : ℕ) × (j < (put_now s.frame).width) × ((put_now s.frame).bottom < s.first j)

pub data Ended (g : Settings) (s : State) (i : ℕ) (t : State) : Type 0 where
  filled : Filled t → Ended g s i t
  taken : put_in g s i ≡ 0 → t.frame ≡ s.frame → t.first ≡ s.first → Ended g s i t

-- ---- either
pub data QueueResult (g : Settings) (L : ℕ) (s : State) (i n : ℕ) (o : Next State) : Type 0 where
  moves : Goes g (queue_left g L) s i n o → Moved g s i o.state → QueueResult g L s i n o
  ends : Final o.answer → phase_in g o.state i ≡ Idle → Ended g s i o.state → QueueResult g L s i n o

-- of which K3 wants what its worker has left
pub result : {g : Settings} {L : ℕ} {s : State} {i n : ℕ} {o : Next State} → QueueResult g L s i n o → Result g (queue_left g L) s i n o
result (moves x m) = goes x
result (ends f e m) = finishes f

module _ (g : Settings) (kind : g.kind ≡ 0) (L : ℕ) (s : State) (i n : ℕ) where
  -- on to a phase of a queue
  pub queue_on : (index : ℕ) (p : Phase) → OfQueue g p → (kept : Slot) → 1 ≤ n → queue_left g L s (n - 1) index p
      → QueueResult g L s i n (apply_in g s i (moved_of g (view_in g s i) index p kept))
  queue_on index p of kept some left =
      moves (moves_on g (queue_left g L) s i n index p kept (queue_phase_law g kind (worker (s.slot i).value index p) of kept) some left)
      (still (written g s i index p kept) (ap (λ (o : Next State). o.state) (apply_moved g s i index p kept)))

  -- a worker that has given its answer
  pub rests : (slots : ℕ → Slot) (index : ℕ) → phase_of g (upd slots i (fresh g 0 index Idle) i) ≡ Idle
  rests slots index =
      ap (λ (x : Slot). phase_of g x) (upd_same slots i (fresh g 0 index Idle)) ∙ queue_phase_law g kind (worker 0 index Idle) tt zero_slot

  -- the answer of a pass that found no place
  pub queue_nothing : (side : Side) (index : ℕ) → Ended g s i (turned_in s i s.top s.mark s.frame (fresh g 0 index Idle))
      → QueueResult g L s i n (apply_in g s i (finished_of g (view_in g s i) (nothing_for side) index))
  queue_nothing Putting index e = rw (apply_full g s i index) (ends final_full (rests s.slot index) e)
  queue_nothing Taking index e = rw (apply_empty g s i index) (ends final_empty (rests s.slot index) e)
