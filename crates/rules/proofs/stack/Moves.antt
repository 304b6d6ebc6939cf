-- The law of a step, for the ways in which a step can end. What is left to a phase is the pool's part of the invariant, what its worker
-- knows afterwards, and that the others know as much as before. Most steps change nothing that is shared, and these only walk.
use mathlib.Core.Path.{◌≡◌, refl}
use Prim.Native.Nat.{ℕ, ◌≤◌, ◌<◌}
use native.Mathlib.Nat.{le_refl}
use native.Mathlib.Omega.{arith}
use Rattle.rules.specs.Limits.{step_limit}
use Rattle.rules.specs.Worker.{encode}
use Rattle.rules.specs.Effects.{moved_of, restart_of}
use Rattle.rules.specs.Sequential.{Contents}
use Rattle.rules.specs.Run.{step}
use Rattle.rules.proofs.Types.{Settings, Side, Phase, Window, Worker, Slot, Effect}
use Rattle.rules.proofs.counts.Sums.{upd}
use Rattle.rules.proofs.order.Law.{Next, pending}
use Rattle.rules.proofs.machine.Machine.{State, sub_in, view_in, phase_in, apply_in, turned_in, apply_moved}
use Rattle.rules.proofs.machine.Phases.{OfStack, operation_of, status_of, worker, stack_phase_law}
use Rattle.rules.proofs.machine.Good.{Good}
use Rattle.rules.proofs.machine.Turns.{Common, Turned}
use Rattle.rules.proofs.machine.Ways.{Snap, Written, each_after, by_walk}
use Rattle.rules.proofs.stack.Inv.{Ghost, sight, Pool, Knows, Inv, versions_in}

-- ---- the step at hand: worker i's in state s, not refused before its rule, with q on the list
pub record Stepping (g : Settings) (s : State) (q : Contents) (i : ℕ) : Type 0 where
  pub good : Good g
  pub kind : g.kind ≡ 1
  pub common : Common g s
  pub inv : Inv g s q
  pub time : s.steps < step_limit

-- ---- steps that change nothing that is shared
-- the worker at an index in a phase, and the state in which it is there and all else is as it was
abbrev pub moves : State → ℕ → ℕ → Phase → Worker
moves s i index p = worker (s.slot i).value index p

abbrev pub still : Settings → State → ℕ → Worker → Slot → State
still g s i k kept = turned_in s i s.top s.mark s.frame (encode g k kept)

-- worker i is written with a phase of the stack, and no version has fallen
pub written : (g : Settings) → g.kind ≡ 1 → (s : State) (i : ℕ) (k : Worker) (kept : Slot) (t : State) → OfStack k.phase
    → t.slot ≡ upd s.slot i (encode g k kept) → ((j : ℕ) → s.second j ≤ t.second j) → Written g versions_in s i k t
written g kind s i k kept t of slots up = record { kept = kept; slots = slots; phase = stack_phase_law g kind k of kept; grown = up }

module _ {g : Settings} {s : State} {q : Contents} {i : ℕ} (a : Stepping g s q i) where
  abbrev pub Steps : Next State → Type 0
  Steps o = Turned g (Inv g) (Snap g versions_in) s q (step i) o

  abbrev pub On : Effect → Type 0
  On x = Steps (apply_in g s i x)

  -- what the worker knows in its phase
  pub known : {p : Phase} → phase_in g s i ≡ p → Knows g (sight s) a.inv.ghost (sub_in s i) p
  known e = rw e at (a.inv.knows i)

  pub inv_after : {t : State} {k : Worker} {q' : Contents} → Written g versions_in s i k t → (ghost : Ghost) → Pool g t q' ghost
      → ((j : ℕ) (p : Phase) → Knows g (sight s) a.inv.ghost (sub_in s j) p → Knows g (sight t) ghost (sub_in s j) p)
      → Knows g (sight t) ghost k.index k.phase → Inv g t q'
  inv_after {t} w ghost pool same own =
      record { ghost = ghost; pool = pool; knows = each_after w (Knows g (sight t) ghost) own (λ j. same j (phase_in g s j) (a.inv.knows j)) }

  pub moved : (k : Worker) (kept : Slot) → OfStack k.phase → Written g versions_in s i k (still g s i k kept)
  moved k kept of = written g a.kind s i k kept (still g s i k kept) of refl (λ j. le_refl _)

  pub inv_still : (k : Worker) (kept : Slot) → OfStack k.phase → Knows g (sight s) a.inv.ghost k.index k.phase → Inv g (still g s i k kept) q
  inv_still k kept of own =
      let o = a.inv.pool in
      inv_after (moved k kept of) a.inv.ghost
      (record {
        window = o.window;
        corridor = o.corridor;
        eras = o.eras;
        few = record { puts = o.few.puts; changes = omega (arith, o.few.changes); steps = a.time };
        stamps = o.stamps;
        pairs = o.pairs;
        holding = record { held = o.holding.held; count = o.holding.count };
      }) (λ j p h. h) own

  -- a step within an operation that is not tried yet
  pub walk : {p₀ : Phase} → phase_in g s i ≡ p₀ → (side : Side) → status_of (s.slot i).value p₀ ≡ pending (operation_of side (s.slot i).value)
      → (index : ℕ) (p : Phase) (kept : Slot) → status_of (s.slot i).value p ≡ pending (operation_of side (s.slot i).value) → OfStack p
      → Knows g (sight s) a.inv.ghost index p → On (moved_of g (view_in g s i) index p kept)
  walk e side u index p kept v of own =
      let k : Worker = moves s i index p in
      rw (apply_moved g s i index p kept) (by_walk (moved k kept of) e u v (inv_still k kept of own))

  -- a restart, from whatever index
  pub restart : {p₀ : Phase} → phase_in g s i ≡ p₀ → (side : Side) → status_of (s.slot i).value p₀ ≡ pending (operation_of side (s.slot i).value)
      → (index : ℕ) → On (restart_of g (view_in g s i) index side)
  restart e side u index = walk e side u index (Window side) (s.slot i) refl tt tt
