-- The interface between a kind's proof and the theorem.
--
-- A kind, the queue (g.kind ≡ 0) or the stack (1), has to make a `Kind g` for settings `Good g`:
--   Inv s q        the invariant: what holds of a pool from make in state s whose finished operations left q on the
--                  sequential specification's list
--   Snap s₀ q₀ i s what links worker i, now in confirm in state s, to the state s₀ and list q₀ just before the step at
--                  which it was tried, its linearization point if it wins
--   at_first       the invariant of a new pool
--   begins         a begin keeps the invariant, and the other workers' links
--   steps          the law of one step that is not refused before its rule: one of the cases of `Turn` (order/Law) for
--                  `apply_in g s i (rule_of g (view_in g s i))`
--   counts, holding, safe, full    what follows from the invariant for words and corollaries
--
-- What is given besides: `Common g s`, that each slot is fit (index and scan below the width, a phase's number of the kind)
-- and the step count at most 4,000,000,000. It is kept by every call whatever the kind, so a kind's Inv does not hold it.
--
-- How a step is taken apart: unfold `rule_of`, split on the phase by a function of (p : Phase) and `phase_in g s i ≡ p`,
-- unfold `rule_by` and that phase's rule, and split each `cond` by `cases` (laws, Choice), with
-- P = λ e. Turned s q (step i) (apply_in g s i e). Then the effect is written out: `apply_moved`,
-- `apply_shifted`, `apply_empty`, `apply_full` (Machine) say what `apply_in` makes of it, and `apply_in apply_in_by` unfold for
-- a landed or removed item. A slot `encode k o` is in phase `k.phase` by `queue_phase_law` or `stack_phase_law` (Phases), with
-- `encode_value` and `encode_index`; so Inv best speaks of `phase_in g s i` and of `(s.slot i).index`, never of the other words.
-- Sums: `add32_is`, `add32_suc`, `sub32_is` (Wraps). Passes: `Summed`, `Pass` (Passes). The list: `Holds` (Held)
-- and `find_row` (Find), with `below_in g s` as the rows not held: `queue_below`, `stack_below` (Cells). Stamps: `Stamped` (Stamps).
-- What the specification gives: `gives_put`, `gives_taken`, `gives_empty`, `gives_full` (Gives).
-- How a step may end, for both kinds, with `Snap` as the pass of a worker in confirm: `by_walk`, `by_try` and the others (Ways).
use mathlib.Core.Path.{◌≡◌, refl, sym, ap, ◌∙◌}
use mathlib.Core.Logic.{◌≢◌}
use mathlib.Core.Bool.{true, false}
use Prim.Native.Nat.{ℕ, suc, ◌+◌, ◌*◌, ◌^◌, ◌≤◌, ◌<◌}
use native.Mathlib.Omega.{arith}
use lib.Dec.{eqb}
use Rattle.rules.specs.Full.{unset_places}
use Rattle.rules.specs.Measures.{seen_size}
use Rattle.laws.specs.Choice.{cases, both, both_true}
use Rattle.rules.specs.Limits.{deepest, most_live, step_limit, windowed, size_fit}
use Rattle.rules.specs.Windows.{has_windows, level_of}
use Rattle.rules.specs.Answers.{number_of, not_fit}
use Rattle.rules.specs.Worker.{fresh, zero_slot, phase_of}
use Rattle.rules.specs.Effects.{take_window}
use Rattle.rules.specs.Held.{reported}
use Rattle.rules.specs.Fit.{SubFits, SizeFits}
use Rattle.rules.specs.Step.{rule_of}
use Rattle.rules.specs.Sequential.{Contents, no_items, reported_by, least_by, least_full}
use Rattle.rules.specs.Run.{Call, begin_put, begin_take, step, set_size, begin}
use Rattle.rules.specs.Consequences.{NoWrap}
use Rattle.rules.proofs.Types.{Settings, Size, Side, Putting, Taking, Idle, Window, QueueCommit, Span, Slot}
use Rattle.rules.proofs.Fitness.{WorkerFits, size_fits}
use Rattle.rules.proofs.Numbered.{number_high}
use Rattle.rules.specs.declared.Answer.TheVariants.{Moving}
use Rattle.rules.proofs.counts.Sums.{upd, upd_same, upd_other}
use Rattle.rules.proofs.order.Law.{Next, Status, pending, Turn, refused, passes, opened, walks, tries, stays, loses, ends, wins}
use Rattle.rules.proofs.machine.Machine.{Frame, State, top_of, mark_of, next, size_at, sub_in, view_in, phase_in, below_in, distance_in, apply_in, step_in, begin_in, with_size, set_size_in, next_in, made_in, places_in}
use Rattle.rules.proofs.machine.Calls.{Called, refuses, does, Steps, Begins, step_called, begun, begin_called}
use Rattle.rules.proofs.machine.Slots.{Blank}
use Rattle.rules.proofs.machine.Phases.{operation_of, status_of, WindowIn, worker, idle_phase, window_phase, encode_value}
use Rattle.rules.proofs.counts.Held.{Holds, held_count}
use Rattle.std.specs.Prelude.{Ok}

-- ---- what every pool from make has, of either kind
pub record Common (g : Settings) (s : State) : Type 0 where
  pub slots : (i : ℕ) → WorkerFits g (s.slot i)
  pub blank : (i : ℕ) → Blank g (s.slot i)
  pub steps_few : s.steps ≤ step_limit

-- the take window's bottom
abbrev pub bottom_in : State → ℕ
bottom_in s = s.frame.base s.frame.head

-- ---- what a kind shows besides its law of a step
-- no row is higher: so many steps, and the rows of a window
abbrev pub few_rows : ℕ
few_rows = step_limit + deepest

-- a queue's windows, where they have sizes of their own
-- row r of sub j is in the live window k
pub record InLive (f : Frame) (k j r : ℕ) : Type 0 where
  pub from_head : f.head ≤ k
  pub to_tail : k ≤ f.tail
  pub wide : j < f.wide k
  pub above : f.base k < r
  pub up_to : r ≤ f.base (suc k)

pub record LiveFits (g : Settings) (s : State) : Type 0 where
  pub order : s.frame.head ≤ s.frame.tail
  pub live : s.frame.tail < s.frame.head + most_live
  pub top : s.top ≡ top_of s.frame
  pub mark : s.mark ≡ mark_of s.frame
  pub size : (k : ℕ) → s.frame.head ≤ k → k ≤ s.frame.tail → SizeFits g (size_at s.frame k)
  pub next : SizeFits g s.next
  pub set_most : s.set ≤ 1

pub record Framed (g : Settings) (s : State) : Type 0 where
  pub fits : LiveFits g s
  pub top_few : s.top ≤ few_rows
  pub put_le : (j : ℕ) → s.first j ≤ s.top
  -- the held rows that have an item are those of the live windows
  pub there : (k j r : ℕ) → InLive s.frame k j r → s.second j < r → r ≤ s.first j → 1 ≤ (s.item j r).stamp
  pub below : (j r : ℕ) → 1 ≤ (s.item j r).stamp → r ≤ s.first j
  pub place : (j r : ℕ) → s.second j < r → 1 ≤ (s.item j r).stamp → (k : ℕ) × InLive s.frame k j r

-- what a take finds: a row of its sub has an item, and its window is the take window
abbrev pub ItemIn : Settings → State → ℕ → ℕ → Type 0
ItemIn g s i r = (1 ≤ (s.item (sub_in s i) r).stamp) × (seen_size g (s.slot i) ≡ size_at s.frame s.frame.head)

-- a take that is at its commit finds its item
abbrev pub Finds : Settings → State → ℕ → Type 0
Finds g s i =
    (window : Span) (seen : ℕ) → phase_in g s i ≡ QueueCommit Taking window seen → s.second (sub_in s i) ≡ seen
    → level_of g (s.second (sub_in s i)) window.bottom < s.first (sub_in s i)
    → ItemIn g s i (suc (level_of g (s.second (sub_in s i)) window.bottom))

-- a put that is at its commit goes above the take window's bottom
abbrev pub Clears : Settings → State → ℕ → Type 0
Clears g s i =
    (window : Span) (seen : ℕ) → phase_in g s i ≡ QueueCommit Putting window seen → s.first (sub_in s i) ≡ seen
    → (take_window (view_in g s i)).bottom ≤ window.bottom

-- the counts of each sub are fit and few, and each row held has an item
pub record Counts (g : Settings) (s : State) : Type 0 where
  pub sub : (j : ℕ) → j < g.width → SubFits g (bottom_in s) (s.first j) (s.second j)
  pub first_few : (j : ℕ) → j < g.width → s.first j ≤ few_rows
  pub second_few : (j : ℕ) → j < g.width → s.second j ≤ few_rows
  pub bottom_few : (i : ℕ) → WindowIn (λ window. window.bottom ≤ few_rows) (phase_in g s i)
  pub stamped : has_windows g ≡ false → (j r : ℕ) → j < g.width → below_in g s j < r → r ≤ s.first j → 1 ≤ (s.item j r).stamp
  pub windows : has_windows g ≡ true → Framed g s
  pub finds : has_windows g ≡ true → (i : ℕ) → Finds g s i
  pub clears : has_windows g ≡ true → (i : ℕ) → Clears g s i

-- the specification's list is what the subs hold, and its count the puts made
pub record Holding (g : Settings) (s : State) (q : Contents) : Type 0 where
  pub held : Holds g.width (below_in g s) s.first s.item q.items
  pub count : q.count ≡ s.puts

-- the machine's distance is that of the list
pub distance_held : (g : Settings) (s : State) (q : Contents) (stamp : ℕ) → ((j : ℕ) → j < g.width → below_in g s j ≤ s.first j)
    → Holds g.width (below_in g s) s.first s.item q.items → distance_in g s stamp ≡ reported_by g q stamp
unfolding distance_in
distance_held g s q stamp o h = sym (held_count h o (reported g.kind stamp))

-- no sum that a step adds up reaches 2^32, no difference but confirm's passes below 0, and no commit that matches is refused
pub record Safe (g : Settings) (s : State) : Type 0 where
  pub puts : s.puts + 1 < 2 ^ 32
  pub top : s.top + 2 * deepest < 2 ^ 32
  pub mark : s.mark + deepest < 2 ^ 32
  pub first : (j : ℕ) → j < g.width → s.first j + 1 < 2 ^ 32
  pub second : (j : ℕ) → j < g.width → s.second j + 1 < 2 ^ 32
  pub rule : (i : ℕ) → NoWrap g (view_in g s i) (phase_in g s i)
  pub able : (i : ℕ) → number_of (apply_in g s i (rule_of g (view_in g s i))).answer ≢ not_fit

-- ---- where a step answers "full"
-- each place of the windows after the take window is held; where windows have no sizes of their own, or none was set, there are so many of them as demand 3 says, or
-- as there is room for
pub record FullAt (g : Settings) (s : State) : Type 0 where
  pub held : has_windows g ≡ true → (k j r : ℕ) → s.frame.head < k → InLive s.frame k j r → (s.second j < r) × (r ≤ s.first j)
  pub own : has_windows g ≡ false → least_by g (places_in g s) ≡ least_full g
  pub unset : has_windows g ≡ true → s.set ≡ 0 → places_in g s ≡ unset_places g

-- ---- how far worker i's operation is
abbrev pub status_in : Settings → State → ℕ → Status
status_in g s i = status_of (s.slot i).value (phase_in g s i)

-- the worker whose slot was changed, and any other
pub status_here : (g : Settings) (f : ℕ → Slot) (i : ℕ) (x : Slot)
    → status_of (upd f i x i).value (phase_of g (upd f i x i)) ≡ status_of x.value (phase_of g x)
status_here g f i x = ap (λ (y : Slot). status_of y.value (phase_of g y)) (upd_same f i x)

pub status_other : (g : Settings) (f : ℕ → Slot) (i : ℕ) (x : Slot) (j : ℕ) → j ≢ i
    → status_of (upd f i x j).value (phase_of g (upd f i x j)) ≡ status_of (f j).value (phase_of g (f j))
status_other g f i x j n = ap (λ (y : Slot). status_of y.value (phase_of g y)) (upd_other f i x j n)

-- ---- a kind
abbrev pub Turned : (g : Settings) → (State → Contents → Type 0) → (State → Contents → ℕ → State → Type 0)
    → State → Contents → Call → Next State → Type 0
Turned g Inv Snap s q c o = Turn g (next_in g) (status_in g) Inv Snap s q c o

pub record Kind (g : Settings) : Type 1 where
  pub Inv : State → Contents → Type 0
  pub Snap : State → Contents → ℕ → State → Type 0
  pub at_first : Inv (made_in g) no_items
  pub begins : (s : State) (q : Contents) → Common g s → Inv s q → (i : ℕ) → phase_in g s i ≡ Idle
      → (side : Side) (v : ℕ) → Inv (begun g s i side v) q
  pub begins_kept : (s : State) (i : ℕ) (side : Side) (v : ℕ) (j : ℕ) → j ≢ i
      → (s₀ : State) (q₀ : Contents) → Snap s₀ q₀ j s → Snap s₀ q₀ j (begun g s i side v)
  pub steps : (s : State) (q : Contents) → Common g s → Inv s q → (i : ℕ) → i < g.workers → s.steps < step_limit
      → Turned g Inv Snap s q (step i) (apply_in g s i (rule_of g (view_in g s i)))
  -- a size call of a queue
  pub resizes : (s : State) (q : Contents) → Inv s q → has_windows g ≡ true → (size : Size) → SizeFits g size → Inv (with_size s size) q
  pub resizes_kept : (s : State) (size : Size) (j : ℕ) (s₀ : State) (q₀ : Contents) → Snap s₀ q₀ j s → Snap s₀ q₀ j (with_size s size)
  pub counts : (s : State) (q : Contents) → Inv s q → Counts g s
  pub holding : (s : State) (q : Contents) → Inv s q → Holding g s q
  pub safe : (s : State) (q : Contents) → Common g s → Inv s q → Safe g s
  pub full : (s : State) (q : Contents) → Common g s → Inv s q → (i : ℕ) → number_of (apply_in g s i (rule_of g (view_in g s i))).answer ≡ 4 → FullAt g s

-- ---- the law of one call
module _ (g : Settings) (k : Kind g) where
  abbrev CallTurn : State → Contents → Call → Next State → Type 0
  CallTurn s q c o = Turned g k.Inv k.Snap s q c o

  turn_step : (s : State) (q : Contents) → Common g s → k.Inv s q → (i : ℕ) → CallTurn s q (step i) (step_in g s i)
  turn_step s q common inv i = by (step_called g s i)
    where
      by : {o : Next State} → Called s (Steps g s i) (apply_in g s i (rule_of g (view_in g s i))) o → CallTurn s q (step i) o
      by (refuses n l unable e) = rw e (refused (number_high n) refl)
      by (does able e) = rw e (k.steps s q common inv i able.worker able.time)

  begun_status : (side : Side) (v x : ℕ)
      → status_of (fresh g v x (Window side)).value (phase_of g (fresh g v x (Window side))) ≡ pending (operation_of side v)
  begun_status side v x =
      rw (window_phase g side v x zero_slot, encode_value g (worker v x (Window side)) zero_slot) refl

  turn_begin : (s : State) (q : Contents) → Common g s → k.Inv s q → (i : ℕ) (side : Side) (v : ℕ) (c : Call) → c ≡ begin i (operation_of side v)
      → CallTurn s q c (begin_in g s i side v)
  turn_begin s q common inv i side v c u = by (begin_called g s i side v)
    where
      opens : phase_in g s i ≡ Idle → CallTurn s q c (next (Ok Moving) (begun g s i side v))
      opens p =
          opened i (operation_of side v) u refl (ap (status_of (s.slot i).value) p)
          (status_here g s.slot i _ ∙ begun_status side v (sub_in s i))
          (record {
            same = λ j n. status_other g s.slot i _ j n;
            kept = λ j n s₀ q₀ z. k.begins_kept s i side v j n s₀ q₀ z;
          })
          (k.begins s q common inv i p side v)

      by : {o : Next State} → Called s (Begins g s i) (next (Ok Moving) (begun g s i side v)) o → CallTurn s q c o
      by (refuses n l unable e) = rw e (refused (number_high n) refl)
      by (does able e) = rw e (opens (idle_phase g (s.slot i) able.idle))

  turn_size : (s : State) (q : Contents) → k.Inv s q → (width depth : ℕ) → CallTurn s q (set_size width depth) (set_size_in g s (record { width = width; depth = depth }))
  unfolding set_size_in
  turn_size s q inv width depth =
      let size : Size = record { width = width; depth = depth } in
      cases Of (windowed g) _ _
      (λ a. cases Of (both (eqb g.kind 0) (size_fit g size)) _ _
      (λ e.
      let t = both_true (eqb g.kind 0) (size_fit g size) e in
      let has : has_windows g ≡ true = rw (a, t.0) refl in
      passes (λ j u. no_step j width depth u) refl
      (record { same = λ j. refl; kept = λ j s₀ q₀ z. k.resizes_kept s size j s₀ q₀ z })
      (k.resizes s q inv has size (size_fits g size t.1)))
      (λ e. refused (omega arith) refl))
      (λ a. refused (omega arith) refl)
    where
      Of : Next State → Type 0
      Of o = CallTurn s q (set_size width depth) o

      no_step : (j width depth : ℕ) → set_size width depth ≡ step j → ⊥
      no_step j width depth e = let z : ◌≡◌ {A = ℕ} 0 1 = cc in omega arith

  pub turn : (s : State) (q : Contents) → Common g s → k.Inv s q → (c : Call) → CallTurn s q c (next_in g s c)
  unfolding next_in
  turn s q common inv (begin_put i v) = turn_begin s q common inv i Putting v (begin_put i v) refl
  turn s q common inv (begin_take i) = turn_begin s q common inv i Taking 0 (begin_take i) refl
  turn s q common inv (step i) = turn_step s q common inv i
  turn s q common inv (set_size width depth) = turn_size s q inv width depth

  -- a refused call changes nothing
  pub refused_same : (s : State) (q : Contents) → Common g s → k.Inv s q → (c : Call) → 4 < number_of (next_in g s c).answer → (next_in g s c).state ≡ s
  refused_same s q common inv c l = by (turn s q common inv c)
    where
      by : CallTurn s q c (next_in g s c) → (next_in g s c).state ≡ s
      by (refused n e) = e
      by (passes no_step n same h) = absurd (omega arith)
      by (opened i op u n a b w h) = absurd (omega arith)
      by (walks i op u n a b w h) = absurd (omega arith)
      by (tries i op u n a b w h z) = absurd (omega arith)
      by (stays i op u n a b w h z) = absurd (omega arith)
      by (loses i op u n a b w h) = absurd (omega arith)
      by (ends i op u n a b w q' give h) = absurd (omega (arith, n.high))
      by (wins i op u n m a b w h z) = absurd (omega (arith, n.high))
