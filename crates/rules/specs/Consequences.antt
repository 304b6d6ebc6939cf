-- What follows from demand 3, or along with it, of every list of calls from a new pool, as statements.
use Rattle.std.specs.Prelude.{ℕ, ◌+◌, ◌*◌, ◌^◌, ◌≤◌, ◌<◌, ◌≡◌, ◌≢◌, Bool, true, false, get_or, eqb}
use mathlib.Core.List.{List, [], ◌∷◌, ◌++◌, Memᴰ}
use Rattle.rules.specs.declared.Size.{Size}
use Rattle.laws.specs.Choice.{cond}
use Rattle.rules.specs.Answers.{too_few_words, not_fit, number_of}
use Rattle.rules.specs.Layout.{steps_at, puts_at, top_at, mark_at, first_of, second_of, worker_at}
use Rattle.rules.specs.Effects.{view_of, take_window, stack_window, window_version, last_put, last_taken, items_held, sub_version}
use Rattle.rules.specs.Windows.{size_of, level_of, has_windows}
use Rattle.rules.specs.Limits.{windowed, deepest}
use Rattle.rules.specs.Held.{Item, held_items, count_items}
use Rattle.rules.specs.Make.{make_of}
use Rattle.rules.specs.Sequential.{bound_by, least_by, least_full}
use Rattle.rules.specs.Run.{Call, begin_put, begin_take, step, set_size, call_of, Event, run, at, value_in, stamp_in, distance_in}
use Rattle.rules.specs.Statement.{Placement, OneAtATimeWithin}
use Rattle.rules.specs.declared.Settings.{Settings}
use Rattle.rules.specs.declared.Side.TheVariants.{Putting, Taking}
use Rattle.rules.specs.declared.Phase.{Phase}
use Rattle.rules.specs.declared.Phase.TheVariants.{Idle, Window, QueuePutRead, QueueTakeRead, StackRead, Check, QueueCommit, StackCommit, QueueShift, StackShift, QueueConfirm, StackConfirm}
use Rattle.rules.specs.declared.View.{View}
use Rattle.rules.specs.Answers.{Answered}

-- the words after a list of calls
unfoldable pub words_after : ℕ → List ℕ → List Call → List ℕ
words_after e ws [] = ws
words_after e ws (c ∷ cs) = words_after e (call_of e ws c).words cs

-- a claim about the words of a new pool and any list of calls on it
abbrev pub OfEveryRun : (Settings → List ℕ → List Call → Type 0) → Type 0
OfEveryRun P =
    (ws : List ℕ) (g : Settings) (cs : List Call) → number_of (make_of ws g).answer ≡ 0 → P g (make_of ws g).words cs

-- ---- no item is lost or invented, a spacer no more than another: what is held and what was taken is what was put
-- the item of an answer with a given number
abbrev pub item_in : ℕ → Answered → List Item
item_in n a = cond (eqb (number_of a) n) (record { value = value_in a; stamp = stamp_in a } ∷ []) []

-- the items of the answers 1, or 2, of a run
unfoldable pub items_in : ℕ → List Event → List Item
items_in n [] = []
items_in n (x ∷ xs) = item_in n x.answer ++ items_in n xs

abbrev pub NothingLost : Settings → List ℕ → List Call → Type 0
NothingLost g ws cs =
    (p : Item → Bool)
    → count_items p (held_items (words_after g.edition ws cs) g) + count_items p (items_in 2 (run g.edition ws cs)) ≡ count_items p (items_in 1 (run g.edition ws cs))

-- ---- no stamp is handed out twice, neither by a put nor by a take
abbrev pub has_stamp : ℕ → Item → Bool
has_stamp stamp x = eqb x.stamp stamp

abbrev pub StampsOnce : Settings → List ℕ → List Call → Type 0
StampsOnce g ws cs =
    (stamp : ℕ)
    → (count_items (has_stamp stamp) (items_in 1 (run g.edition ws cs)) ≤ 1) × (count_items (has_stamp stamp) (items_in 2 (run g.edition ws cs)) ≤ 1)

-- ---- each distance reported is within a bound, in a queue by the sizes of the take's own window; so is what is passed over, spacers too: specs/Spacers,
-- `TakesWithin`
abbrev pub DistanceWithin : (Settings → ℕ) → Settings → Event → Type 0
DistanceWithin each g e = distance_in e.answer ≤ bound_by g (each g) e.measures.size

abbrev pub WithinBound : (Settings → ℕ) → Settings → List ℕ → List Call → Type 0
WithinBound each g ws cs =
    (i f : ℕ) → (at (run g.edition ws cs) f).call ≡ step i → number_of (at (run g.edition ws cs) f).answer ≡ 2
    → DistanceWithin each g (at (run g.edition ws cs) f)

-- where windows have no sizes of their own, that window has the pool's size
abbrev pub OwnSizes : Settings → List ℕ → List Call → Type 0
OwnSizes g ws cs =
    (i f : ℕ) → has_windows g ≡ false → (at (run g.edition ws cs) f).call ≡ step i → number_of (at (run g.edition ws cs) f).answer ≡ 2
    → (at (run g.edition ws cs) f).measures.size ≡ size_of g

-- else it has the pool's size, or one that was set by a call that was not refused: whatever test these pass, it passes
abbrev pub SetSizes : (Size → Bool) → List Event → Type 0
SetSizes p es = (f width depth : ℕ) → (at es f).call ≡ set_size width depth → number_of (at es f).answer ≡ 0 → p (record { width = width; depth = depth }) ≡ true

abbrev pub KnownSizes : (Size → Bool) → List Event → Type 0
KnownSizes p es = SetSizes p es → (i f : ℕ) → (at es f).call ≡ step i → number_of (at es f).answer ≡ 2 → p (at es f).measures.size ≡ true

abbrev pub SizesKnown : Settings → List ℕ → List Call → Type 0
SizesKnown g ws cs = (p : Size → Bool) → p (size_of g) ≡ true → KnownSizes p (run g.edition ws cs)

-- and "full" is answered with w (R - d) places after a queue's take window
abbrev pub OwnPlaces : Settings → List ℕ → List Call → Type 0
OwnPlaces g ws cs =
    (i f : ℕ) → has_windows g ≡ false → (at (run g.edition ws cs) f).call ≡ step i → number_of (at (run g.edition ws cs) f).answer ≡ 4
    → least_by g (at (run g.edition ws cs) f).measures.places ≡ least_full g

-- ---- an operation that finished before another began stands before it in the order
abbrev pub InRealTime : (each : ℕ) → (g : Settings) → (es : List Event) → OneAtATimeWithin each g es → Type 0
InRealTime each g es r =
    (x y : Placement) → Memᴰ x r.order → Memᴰ y r.order → x.finished < y.begun → x.chosen < y.chosen

-- ---- no sum that a step adds up reaches 2^32, and no difference that it takes, but confirm's, passes below 0
-- by the rule that a worker in a phase takes next; "next" is an index below w, and a cell's row is at least 1
abbrev pub NoWrap : Settings → View → Phase → Type 0
NoWrap g v Idle = Unit {0}
-- window: nothing is added up
NoWrap g v (Window side) = Unit {0}
-- read: what is read joins the sum, and a miss is counted; a queue's take counts a bare sub, a stack's looks above the seen window - d. Where windows
-- have sizes of their own, "these sums may pass 2^32 even in a pool from make"
NoWrap g v (QueuePutRead window scan) = scan + 1 < 2 ^ 32
NoWrap g v (QueueTakeRead window bare scan sum) = (windowed g ≡ false → sum + last_put v < 2 ^ 32) × (bare + 1 < 2 ^ 32) × (scan + 1 < 2 ^ 32)
NoWrap g v (StackRead side window version scan sum) = (sum + (sub_version v).0 < 2 ^ 32) × (scan + 1 < 2 ^ 32) × (g.depth ≤ window)
-- check: nothing is added up
NoWrap g v (Check side version seen) = Unit {0}
-- commit: the row is the next above a level, or the counts change by one, and a put's stamp is the next; a stack's take leaves held - 1
NoWrap g v (QueueCommit Putting window seen) = (last_taken v ≤ last_put v) × (level_of g (last_put v) window.bottom + 1 < 2 ^ 32) × (v.puts + 1 < 2 ^ 32)
NoWrap g v (QueueCommit Taking window seen) = level_of g (last_taken v) window.bottom + 1 < 2 ^ 32
NoWrap g v (StackCommit Putting seen) = (items_held v + 1 < 2 ^ 32) × ((sub_version v).0 + 1 < 2 ^ 32) × (v.puts + 1 < 2 ^ 32)
NoWrap g v (StackCommit Taking seen) = ((sub_version v).0 ≡ seen.0 → 1 ≤ items_held v) × ((sub_version v).0 + 1 < 2 ^ 32)
-- shift: P and T grow by a window's depth, and a queue's put looks at the rows from the take window's bottom, which is T less that window's depth, to
-- the new top; G grows or falls by s, and its version grows
NoWrap g v (QueueShift Putting window) =
    (v.top + v.sizes.next.depth < 2 ^ 32) × (v.sizes.take.depth ≤ v.mark) × ((take_window v).bottom ≤ v.top + v.sizes.next.depth)
NoWrap g v (QueueShift Taking window) = v.mark + v.sizes.after.depth < 2 ^ 32
NoWrap g v (StackShift Putting version scan sum) = (stack_window v + g.shift < 2 ^ 32) × ((window_version v).0 + 1 < 2 ^ 32)
NoWrap g v (StackShift Taking version scan sum) = (g.shift ≤ stack_window v) × ((window_version v).0 + 1 < 2 ^ 32)
-- confirm: a sub is counted; what is left of the sum may pass below 0
NoWrap g v (QueueConfirm window scan sum) = scan + 1 < 2 ^ 32
NoWrap g v (StackConfirm side scan sum) = scan + 1 < 2 ^ 32

pub record NoSumWraps (g : Settings) (ws : List ℕ) : Type 0 where
  -- every step not refused is counted
  pub steps : get_or ws steps_at 0 + 1 < 2 ^ 32
  -- puts made, and each count or version of a sub, whoever is at it
  pub puts : get_or ws puts_at 0 + 1 < 2 ^ 32
  pub first : (j : ℕ) → j < g.width → first_of ws j + 1 < 2 ^ 32
  pub second : (j : ℕ) → j < g.width → second_of ws j + 1 < 2 ^ 32
  -- P or G, and T or G's version
  pub top : get_or ws top_at 0 + 2 * deepest < 2 ^ 32
  pub mark : get_or ws mark_at 0 + deepest < 2 ^ 32
  -- what each worker's next step adds up or takes away
  pub rule : (i : ℕ) → i < g.workers → NoWrap g (view_of ws g (worker_at g i)) (view_of ws g (worker_at g i)).worker.phase

-- ---- no call finds the pool unfit, and no commit that matches is refused
-- a call that an edition has: sizes are set from edition 2 on
abbrev pub OfEdition : Settings → Call → Type 0
OfEdition g (begin_put i v) = Unit {0}
OfEdition g (begin_take i) = Unit {0}
OfEdition g (step i) = Unit {0}
OfEdition g (set_size width depth) = windowed g ≡ true

abbrev pub NeverUnfit : Settings → List ℕ → List Call → Type 0
NeverUnfit g ws cs =
    (f : ℕ) → OfEdition g (at (run g.edition ws cs) f).call → (number_of (at (run g.edition ws cs) f).answer ≢ too_few_words) × (number_of (at (run g.edition ws cs) f).answer ≢ not_fit)
