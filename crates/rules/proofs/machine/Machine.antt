-- The abstract machine, for both kinds: a pool as functions in place of words, so that a proof meets no offset and no length.
-- It goes by the same `rule_of` as the words do. An item stays at its sub and row for good, taken or not; the words forget it
-- when its cell is used again, which is why words and machine are joined over the held rows alone. A queue's windows keep their numbers for
-- good, from 0 at make: window k has bottom `base k`, top `base (suc k)` and width `wide k`; the live ones are those from `head`, the take
-- window, to `tail`, the put window. Of a stack the frame says nothing.
use mathlib.Core.Path.{◌≡◌, refl, ap}
use mathlib.Core.Logic.{◌≢◌}
use mathlib.Core.Bool.{Bool}
use Prim.Native.Nat.{ℕ, suc, ◌+◌, ◌-◌, ◌*◌, ◌%◌}
use lib.Dec.{ltb, leb, eqb}
use Rattle.laws.specs.Choice.{cond, both}
use Rattle.rules.specs.Limits.{step_limit, windowed, size_fit}
use Rattle.rules.specs.Held.{Item, rows_below, reported}
use Rattle.rules.specs.Measures.{no_measures, measured, seen_size}
use Rattle.rules.specs.Make.{new_mark}
use Rattle.rules.specs.Windows.{has_windows, size_of, no_size, own_sizes}
use Rattle.rules.specs.Worker.{fresh, idle_phase, phase_of, decode, encode}
use Rattle.rules.specs.Effects.{hop_of, moved_of, restart_of, finished_of}
use Rattle.rules.specs.Commit.{lost_of}
use Rattle.rules.specs.Shift.{shifted_of}
use Rattle.rules.specs.Step.{rule_of}
use Rattle.rules.specs.Run.{Call, begin_put, begin_take, step, set_size}
use Rattle.rules.proofs.Types.{Settings, Size, Sizes, Side, Putting, Taking, Phase, Idle, Window, Slot, View, Effect, Outcome, Answered}
use Rattle.rules.specs.declared.Outcome.TheVariants.{Refused as Stays, Moving as Moves, Lost, Shifted, Raised, Dropped, Landed, Removed, Empty as NoItem, Full as NoRoom}
use Rattle.rules.specs.declared.Answer.TheVariants.{Moving, Put, Taken, Empty, Full}
use Rattle.rules.proofs.counts.Sums.{upd, upd_other, upd_self, sum_n}
use Rattle.rules.proofs.counts.Held.{rows_of}
use Rattle.rules.proofs.order.Law.{Next}
use Rattle.std.specs.Prelude.{Ok, Err}
use Rattle.rules.specs.declared.Refusal.TheVariants.{NoSuchWorker, NotFit, OffSize, StepsSpent, WorkerBusy, WorkerIdle}

pub record Frame : Type 0 where
  pub base : ℕ → ℕ
  pub wide : ℕ → ℕ
  pub head : ℕ
  pub tail : ℕ

-- the top of the put window, and of the take window
abbrev pub top_of : Frame → ℕ
top_of f = f.base (suc f.tail)

abbrev pub mark_of : Frame → ℕ
mark_of f = f.base (suc f.head)

-- a new put window, of a width and with its top
abbrev pub raised_of : Frame → ℕ → ℕ → Frame
raised_of f width top =
    record { base = upd f.base (suc (suc f.tail)) top; wide = upd f.wide (suc f.tail) width; head = f.head; tail = suc f.tail }

-- the take window goes on to the next one
abbrev pub dropped_of : Frame → Frame
dropped_of f = record { base = f.base; wide = f.wide; head = suc f.head; tail = f.tail }

-- the words of a pool, the settings apart; `item` by sub and row. Failed commits are not among them: no rule reads them, and what the words say of
-- them is shown of the words (Collisions)
pub record State : Type 0 where
  pub steps : ℕ
  pub puts : ℕ
  pub top : ℕ
  pub mark : ℕ
  -- the size of the next put window, and whether one was ever set
  pub next : Size
  pub set : ℕ
  pub frame : Frame
  pub first : ℕ → ℕ
  pub second : ℕ → ℕ
  pub item : ℕ → ℕ → Item
  pub slot : ℕ → Slot

abbrev pub next : Answered → State → Next State
next a s = record { answer = a; measures = no_measures; state = s }

-- ---- the windows' sizes
-- of window k
abbrev pub size_at : Frame → ℕ → Size
size_at f k = record { width = f.wide k; depth = f.base (suc k) - f.base k }

-- what a worker reads of them
abbrev pub sizes_at : State → Sizes
sizes_at s =
    record {
      put = size_at s.frame s.frame.tail;
      take = size_at s.frame s.frame.head;
      after = cond (ltb s.frame.head s.frame.tail) (size_at s.frame (suc s.frame.head)) no_size;
      next = s.next;
      live = suc s.frame.tail - s.frame.head;
    }

unfoldable pub sizes_in : Settings → State → Sizes
sizes_in g s = cond (has_windows g) (sizes_at s) (own_sizes g)

-- ---- the places of window k, and how many are in the n windows from k on
abbrev pub places_at : Frame → ℕ → ℕ
places_at f k = f.wide k * (f.base (suc k) - f.base k)

unfoldable pub places_from : Frame → ℕ → ℕ → ℕ
places_from f k n = sum_n (λ m. places_at f (k + m)) n

-- the places in the windows after the take window
abbrev pub places_after : Frame → ℕ
places_after f = places_from f (suc f.head) (f.tail - f.head)

unfoldable pub places_in : Settings → State → ℕ
places_in g s = cond (has_windows g) (places_after s.frame) (g.width * (s.top - s.mark))

-- an answer of worker i's step in state s, with what it is held to
abbrev pub answered : Settings → State → ℕ → Answered → State → Next State
answered g s i a t = record { answer = a; measures = measured (seen_size g (s.slot i)) (places_in g s) a; state = t }

-- the sub that worker i is at
abbrev pub sub_in : State → ℕ → ℕ
sub_in s i = (s.slot i).index

abbrev pub view_in : Settings → State → ℕ → View
view_in g s i =
    record {
      top = s.top;
      mark = s.mark;
      sizes = sizes_in g s;
      puts = s.puts;
      first = s.first (sub_in s i);
      second = s.second (sub_in s i);
      worker = decode g (s.slot i);
      kept = s.slot i;
    }

abbrev pub phase_in : Settings → State → ℕ → Phase
phase_in g s i = phase_of g (s.slot i)

-- the row up to which the rows of sub j are not held
abbrev pub below_in : Settings → State → ℕ → ℕ
below_in g s j = rows_below g (s.second j)

-- the held rows of sub j that have an item which passes a test
abbrev pub count_in : Settings → State → (Item → Bool) → ℕ → ℕ
count_in g s p j = rows_of s.item p s.first j - rows_of s.item p (below_in g s) j

-- the distance of a take of a stamp
unfoldable pub distance_in : Settings → State → ℕ → ℕ
distance_in g s stamp = sum_n (count_in g s (reported g.kind stamp)) g.width

-- all that worker i's step read, as it is afterwards, and the step counted; with the windows then in a frame
abbrev pub framed_in : State → ℕ → Effect → Frame → State
framed_in s i e f =
    record {
      steps = suc s.steps;
      puts = e.puts;
      top = e.top;
      mark = e.mark;
      next = s.next;
      set = s.set;
      frame = f;
      first = upd s.first (sub_in s i) e.first;
      second = upd s.second (sub_in s i) e.second;
      item = s.item;
      slot = upd s.slot i e.slot;
    }

-- with no window moved
abbrev pub after_in : State → ℕ → Effect → State
after_in s i e = framed_in s i e s.frame

-- an item at its sub and row
abbrev pub with_item : State → ℕ → ℕ → Item → State
with_item s j row x =
    record {
      steps = s.steps;
      puts = s.puts;
      top = s.top;
      mark = s.mark;
      next = s.next;
      set = s.set;
      frame = s.frame;
      first = s.first;
      second = s.second;
      item = upd s.item j (upd (s.item j) row x);
      slot = s.slot;
    }

abbrev pub taken_in : Settings → State → ℕ → ℕ → Answered
taken_in g s j row =
    Ok (Taken (s.item j row).value j (record { 0 = row }) (record { 0 = (s.item j row).stamp }) (distance_in g s (s.item j row).stamp))

unfoldable pub apply_in_by : Settings → State → ℕ → Effect → Outcome → Next State
apply_in_by g s i e (Stays n) = next (Err n) s
apply_in_by g s i e Moves = next (Ok Moving) (after_in s i e)
apply_in_by g s i e Lost = next (Ok Moving) (after_in s i e)
apply_in_by g s i e Shifted = next (Ok Moving) (after_in s i e)
apply_in_by g s i e Raised = next (Ok Moving) (framed_in s i e (raised_of s.frame s.next.width e.top))
apply_in_by g s i e Dropped = next (Ok Moving) (framed_in s i e (dropped_of s.frame))
apply_in_by g s i e (Landed value row stamp) =
    next (Ok (Put value (sub_in s i) row stamp)) (after_in (with_item s (sub_in s i) row.0 (record { value = value; stamp = stamp.0 })) i e)
apply_in_by g s i e (Removed row) = answered g s i (taken_in g s (sub_in s i) row.0) (after_in s i e)
apply_in_by g s i e NoItem = next (Ok Empty) (after_in s i e)
apply_in_by g s i e NoRoom = answered g s i (Ok Full) (after_in s i e)

unfoldable pub apply_in : Settings → State → ℕ → Effect → Next State
apply_in g s i e = apply_in_by g s i e e.outcome

-- ---- one call
unfoldable pub step_in : Settings → State → ℕ → Next State
step_in g s i =
    cond (leb g.workers i) (next (Err NoSuchWorker) s)
    (cond (eqb (s.slot i).number idle_phase) (next (Err WorkerIdle) s)
    (cond (leb step_limit s.steps) (next (Err StepsSpent) s)
    (apply_in g s i (rule_of g (view_in g s i)))))

-- worker i in another slot, with the steps counted, the window words and the frame given; nothing else changed
abbrev pub slot_in : State → ℕ → ℕ → ℕ → ℕ → Frame → Slot → State
slot_in s i steps top mark f x =
    record {
      steps = steps;
      puts = s.puts;
      top = top;
      mark = mark;
      next = s.next;
      set = s.set;
      frame = f;
      first = s.first;
      second = s.second;
      item = s.item;
      slot = upd s.slot i x;
    }

abbrev pub with_slot : State → ℕ → Slot → State
with_slot s i x = slot_in s i s.steps s.top s.mark s.frame x

unfoldable pub begin_in : Settings → State → ℕ → Side → ℕ → Next State
begin_in g s i side value =
    cond (leb g.workers i) (next (Err NoSuchWorker) s)
    (cond (eqb (s.slot i).number idle_phase)
    (cond (leb step_limit s.steps) (next (Err StepsSpent) s)
    (next (Ok Moving) (with_slot s i (fresh g value (sub_in s i) (Window side)))))
    (next (Err WorkerBusy) s))

-- another size of the next put window
abbrev pub with_size : State → Size → State
with_size s size =
    record {
      steps = s.steps;
      puts = s.puts;
      top = s.top;
      mark = s.mark;
      next = size;
      set = 1;
      frame = s.frame;
      first = s.first;
      second = s.second;
      item = s.item;
      slot = s.slot;
    }

unfoldable pub set_size_in : Settings → State → Size → Next State
set_size_in g s size =
    cond (windowed g) (cond (both (eqb g.kind 0) (size_fit g size)) (next (Ok Moving) (with_size s size)) (next (Err OffSize) s)) (next (Err NotFit) s)

unfoldable pub next_in : Settings → State → Call → Next State
next_in g s (begin_put i v) = begin_in g s i Putting v
next_in g s (begin_take i) = begin_in g s i Taking 0
next_in g s (step i) = step_in g s i
next_in g s (set_size width depth) = set_size_in g s (record { width = width; depth = depth })

-- a new pool
unfoldable pub made_in : Settings → State
made_in g =
    record {
      steps = 0;
      puts = 0;
      top = g.depth;
      mark = new_mark g;
      next = size_of g;
      set = 0;
      frame = record { base = λ k. k * g.depth; wide = λ k. g.width; head = 0; tail = 0 };
      first = λ j. 0;
      second = λ j. 0;
      item = λ j r. record { value = 0; stamp = 0 };
      slot = λ i. record { number = 0; value = 0; index = i % g.width; window = 0; extra = 0; scan = 0; seen = 0; sum = 0; bottom = 0; width = 0 };
    }

-- ---- steps that change no sub: the window words, the frame and the worker's slot alone
abbrev pub turned_in : State → ℕ → ℕ → ℕ → Frame → Slot → State
turned_in s i top mark f x = slot_in s i (suc s.steps) top mark f x

-- an effect that keeps the sub's two words keeps all of them
after_turned : (s : State) (i top mark : ℕ) (f : Frame) (x : Slot)
    → ◌≡◌ {A = State} (record {
      steps = suc s.steps;
      puts = s.puts;
      top = top;
      mark = mark;
      next = s.next;
      set = s.set;
      frame = f;
      first = upd s.first (sub_in s i) (s.first (sub_in s i));
      second = upd s.second (sub_in s i) (s.second (sub_in s i));
      item = s.item;
      slot = upd s.slot i x;
    }) (turned_in s i top mark f x)
after_turned s i top mark f x = rw (upd_self s.first (sub_in s i), upd_self s.second (sub_in s i)) refl

module _ (g : Settings) (s : State) (i : ℕ) where
  pub apply_moved : (index : ℕ) (p : Phase) (kept : Slot)
      → apply_in g s i (moved_of g (view_in g s i) index p kept)
      ≡ next (Ok Moving) (turned_in s i s.top s.mark s.frame (encode g (record { value = (s.slot i).value; index = index; phase = p }) kept))
  unfolding apply_in apply_in_by
  apply_moved index p kept = ap (next (Ok Moving)) (after_turned s i s.top s.mark s.frame _)

  -- a commit that failed is a restart: that it is counted is not seen here
  pub lost_restarts : (side : Side) → apply_in g s i (lost_of g (view_in g s i) side) ≡ apply_in g s i (restart_of g (view_in g s i) (hop_of g (sub_in s i)) side)
  unfolding apply_in apply_in_by
  lost_restarts side = refl

  abbrev restarted : Side → Slot
  restarted side = encode g (record { value = (s.slot i).value; index = sub_in s i; phase = Window side }) (s.slot i)

  pub apply_shifted : (side : Side) (top mark : ℕ)
      → apply_in g s i (shifted_of g (view_in g s i) Shifted side top mark) ≡ next (Ok Moving) (turned_in s i top mark s.frame (restarted side))
  unfolding apply_in apply_in_by
  apply_shifted side top mark = ap (next (Ok Moving)) (after_turned s i top mark s.frame _)

  pub apply_raised : (top : ℕ)
      → apply_in g s i (shifted_of g (view_in g s i) Raised Putting top s.mark)
      ≡ next (Ok Moving) (turned_in s i top s.mark (raised_of s.frame s.next.width top) (restarted Putting))
  unfolding apply_in apply_in_by
  apply_raised top = ap (next (Ok Moving)) (after_turned s i top s.mark (raised_of s.frame s.next.width top) _)

  pub apply_dropped : (mark : ℕ)
      → apply_in g s i (shifted_of g (view_in g s i) Dropped Taking s.top mark)
      ≡ next (Ok Moving) (turned_in s i s.top mark (dropped_of s.frame) (restarted Taking))
  unfolding apply_in apply_in_by
  apply_dropped mark = ap (next (Ok Moving)) (after_turned s i s.top mark (dropped_of s.frame) _)

  pub apply_empty : (index : ℕ)
      → apply_in g s i (finished_of g (view_in g s i) NoItem index) ≡ next (Ok Empty) (turned_in s i s.top s.mark s.frame (fresh g 0 index Idle))
  unfolding apply_in apply_in_by
  apply_empty index = ap (next (Ok Empty)) (after_turned s i s.top s.mark s.frame _)

  pub apply_full : (index : ℕ)
      → apply_in g s i (finished_of g (view_in g s i) NoRoom index) ≡ answered g s i (Ok Full) (turned_in s i s.top s.mark s.frame (fresh g 0 index Idle))
  unfolding apply_in apply_in_by
  apply_full index = ap (answered g s i (Ok Full)) (after_turned s i s.top s.mark s.frame _)

  -- ---- any step leaves the other workers' slots
  apply_other_by : (e : Effect) (j : ℕ) → j ≢ i → (o : Outcome) → (apply_in_by g s i e o).state.slot j ≡ s.slot j
  unfolding apply_in_by
  apply_other_by e j n (Stays m) = refl
  apply_other_by e j n Moves = upd_other s.slot i e.slot j n
  apply_other_by e j n Lost = upd_other s.slot i e.slot j n
  apply_other_by e j n Shifted = upd_other s.slot i e.slot j n
  apply_other_by e j n Raised = upd_other s.slot i e.slot j n
  apply_other_by e j n Dropped = upd_other s.slot i e.slot j n
  apply_other_by e j n (Landed value row stamp) = upd_other s.slot i e.slot j n
  apply_other_by e j n (Removed row) = upd_other s.slot i e.slot j n
  apply_other_by e j n NoItem = upd_other s.slot i e.slot j n
  apply_other_by e j n NoRoom = upd_other s.slot i e.slot j n

  pub apply_other : (e : Effect) (j : ℕ) → j ≢ i → (apply_in g s i e).state.slot j ≡ s.slot j
  unfolding apply_in
  apply_other e j n = apply_other_by e j n e.outcome
