-- Paper 02, K6, the statements: "Old to new to old gives the needed words exactly, and operations under way go on: edition 0, by the rules before K5,
-- and edition 1 give the same answers to the same later begins and steps." The move itself is in specs/Move; the rules before K5 are the same
-- definitions at edition 0. What is said of going on in step speaks of these two editions, in which every window has the pool's own size. With moves to
-- edition 2 and back (K8) answers may differ, and what goes on holding, demand 3 first, is said of the run over all moves itself, at the end.
use Rattle.std.specs.Prelude.{ℕ, zero, suc, ◌+◌, ◌*◌, ◌≤◌, ◌<◌, ◌≡◌, ◌≢◌, Bool, true, List, [], ◌∷◌, ◌++◌, get_or, set, length, eqb, Ok}
use Rattle.std.proofs.Math.Seq.{paste}
use Rattle.laws.specs.Choice.{cond}
use Rattle.rules.specs.Answers.{Out, out, number_of}
use Rattle.rules.specs.Layout.{edition_at, settings_of, worker_words, slot_words, workers_at, worker_at, lost_at, cell_words, cells_at, needed}
use Rattle.rules.specs.Limits.{settings_fit}
use Rattle.rules.specs.Fit.{Fit, checked_of}
use Rattle.rules.specs.Held.{Item, held_items, count_items}
use Rattle.rules.specs.Make.{make_of, in_edition}
use Rattle.turnaround.specs.Move.{move_of}
use Rattle.rounds.specs.Dispatch.{DispatchOut, dispatch_of}
use Rattle.untouched.specs.Untouched.{Beyond}
use Rattle.rules.specs.Sequential.{Operation, demand3_rows}
use Rattle.rules.specs.Run.{Call, begin, call_of, Event, event_of, run}
use Rattle.rules.specs.Statement.{All, OneAtATimeWithin}
use Rattle.rules.specs.Newer.{exact_rows}
use Rattle.solo.specs.Solo.{Begun, Solo, EndsWithin, k3_steps, solo_steps}
use Rattle.rules.specs.Consequences.{words_after, OfEveryRun, items_in, KnownSizes, NoSumWraps}
use Rattle.rules.specs.Spacers.{TakesWithin}
use Rattle.rules.specs.Full.{FullMeans}
use Rattle.rules.specs.Windows.{size_of}
use Rattle.rules.specs.declared.Settings.{Settings}
use Rattle.rules.specs.declared.Size.{Size}
use Rattle.rules.specs.declared.Answer.TheVariants.{Moving}

-- ---- one pool in two areas
-- the pool of settings g in `ws` is the pool of settings h in `vs`, of the other of the two editions or of the same, but for the workers' cards,
-- which no rule reads: the words of the head but the edition, of the subs, of each worker up to its sum, and of the cells
pub record SamePool (g : Settings) (ws : List ℕ) (h : Settings) (vs : List ℕ) : Type 0 where
  pub same : h ≡ in_edition h.edition g
  -- K6's editions: these words of a worker are then all that the rules read, and no word lies behind the cells
  pub old_one : g.edition < 2
  pub old_two : h.edition < 2
  pub settings_one : settings_of ws ≡ g
  pub settings_two : settings_of vs ≡ h
  pub enough_one : needed g ≤ length ws
  pub enough_two : needed h ≤ length vs
  pub head : (m : ℕ) → m < workers_at g → m ≢ edition_at → get_or vs m 0 ≡ get_or ws m 0
  pub worker : (i k : ℕ) → i < g.workers → k < slot_words → get_or vs (worker_at h i + k) 0 ≡ get_or ws (worker_at g i + k) 0
  pub cell : (m : ℕ) → m < cell_words * (g.width * g.rows) → get_or vs (cells_at h + m) 0 ≡ get_or ws (cells_at g + m) 0

-- where its settings are within limits, it holds the same items
abbrev pub SameItems : Type 0
SameItems = (g : Settings) (ws : List ℕ) (h : Settings) (vs : List ℕ) → SamePool g ws h vs → settings_fit g ≡ true → held_items vs h ≡ held_items ws g

-- ---- what a move that answers 0 has done
pub record Moved (a b : ℕ) (from : List ℕ) (g : Settings) (to vs : List ℕ) : Type 0 where
  -- it was a fit pool of edition a, and is one of edition b
  pub fit_before : checked_of a from ≡ Fit g
  pub fit_after : checked_of b vs ≡ Fit (in_edition b g)
  -- the words of the head but the edition, of the subs and of the cells are kept, and of the workers those that both editions have
  pub head : (m : ℕ) → m < workers_at g → m ≢ edition_at → get_or vs m 0 ≡ get_or from m 0
  pub kept : (i k : ℕ) → i < g.workers → k < worker_words a → k < worker_words b → get_or vs (worker_at (in_edition b g) i + k) 0 ≡ get_or from (worker_at g i + k) 0
  pub cell : (m : ℕ) → m < cell_words * (g.width * g.rows) → get_or vs (cells_at (in_edition b g) + m) 0 ≡ get_or from (cells_at g + m) 0
  -- of K6's editions it is the same pool, and "forward, the new words are zero"; those of edition 2 are in specs/Widening
  pub pool : a < 2 → b < 2 → SamePool g from (in_edition b g) vs
  pub new : b < 2 → (i k : ℕ) → i < g.workers → worker_words a ≤ k → k < worker_words b → get_or vs (worker_at (in_edition b g) i + k) 0 ≡ 0
  -- the target's words beyond the needed ones are as they were
  pub beyond : Beyond (needed (in_edition b g)) to vs

abbrev pub MoveDoes : Type 0
MoveDoes =
    (a b : ℕ) (from to : List ℕ) → number_of (move_of a b from to).answer ≡ 0 → Moved a b from (settings_of from) to (move_of a b from to).words

-- "Words beyond the needed ones are never touched", of any move's target, whatever it answers; its source is lent for reading
abbrev pub MoveKeeps : Type 0
MoveKeeps = (a b : ℕ) (from to : List ℕ) → Beyond (needed (in_edition b (settings_of from))) to (move_of a b from to).words

-- ---- there and back
-- "Old to new to old gives the needed words exactly": for every source that moves on, and any areas that are long enough, the last one has the
-- source's needed words at its front, and behind them what it held
abbrev pub OldToNewToOld : Type 0
OldToNewToOld =
    (from middle to : List ℕ) → number_of (move_of 0 1 from middle).answer ≡ 0 → needed (settings_of from) ≤ length to
    → move_of 1 0 (move_of 0 1 from middle).words to ≡ out (Ok Moving) (paste to 0 from (needed (settings_of from)))

-- the words with the first n workers' cards 0
unfoldable pub without_cards : List ℕ → Settings → ℕ → List ℕ
without_cards ws g zero = ws
without_cards ws g (suc i) = set (without_cards ws g i) (lost_at (worker_at g i)) 0

-- back and on again gives the needed words of edition 1, but that each worker's card is 0
abbrev pub NewToOldToNew : Type 0
NewToOldToNew =
    (from middle to : List ℕ) → number_of (move_of 1 0 from middle).answer ≡ 0 → needed (settings_of from) ≤ length to
    → move_of 0 1 (move_of 1 0 from middle).words to
    ≡ out (Ok Moving) (paste to 0 (without_cards from (settings_of from) (settings_of from).workers) (needed (settings_of from)))

-- ---- in step
-- the same calls on one pool in two areas have the same answers, one by one, refusals included, and leave one pool
pub record InStep (g : Settings) (ws : List ℕ) (h : Settings) (vs : List ℕ) (cs : List Call) : Type 0 where
  pub answers : run h.edition vs cs ≡ run g.edition ws cs
  pub later : SamePool g (words_after g.edition ws cs) h (words_after h.edition vs cs)

-- of all words, of pools that no make gave as well; and where both are of one edition, no answer depends on a card. A size call is refused in both
abbrev pub Lockstep : Type 0
Lockstep = (g : Settings) (ws : List ℕ) (h : Settings) (vs : List ℕ) (cs : List Call) → SamePool g ws h vs → InStep g ws h vs cs

-- "operations under way go on", in whichever phase the move found them: after a move, either way
abbrev pub OperationsGoOn : Type 0
OperationsGoOn =
    (a b : ℕ) (from to : List ℕ) (cs : List Call) → a < 2 → b < 2 → number_of (move_of a b from to).answer ≡ 0
    → InStep (settings_of from) from (in_edition b (settings_of from)) (move_of a b from to).words cs

-- so do the dispatcher's turns: whom it names, from whichever worker and with whichever count
pub record DispatchInStep (g : Settings) (one : DispatchOut) (h : Settings) (two : DispatchOut) : Type 0 where
  pub result : two.result ≡ one.result
  pub later : SamePool g one.words h two.words

abbrev pub DispatchLockstep : Type 0
DispatchLockstep =
    (g : Settings) (ws : List ℕ) (h : Settings) (vs : List ℕ) (i steps : ℕ) → SamePool g ws h vs
    → DispatchInStep g (dispatch_of g.edition ws i steps) h (dispatch_of h.edition vs i steps)

-- ---- over the years
-- what a site does with a pool: begins, steps and size calls, by the calls of the pool's edition, and moves from an edition to another into an area
pub data Act : Type 0 where
  call : Call → Act
  move : ℕ → ℕ → List ℕ → Act

-- a pool where it lies: its edition and its words
pub record Place : Type 0 where
  pub edition : ℕ
  pub words : List ℕ

abbrev pub here : Settings → List ℕ → Place
here g ws = record { edition = g.edition; words = ws }

-- a move that is refused leaves it where it was
abbrev pub moved_to : Place → ℕ → Out → Place
moved_to p b o = cond (eqb (number_of o.answer) 0) (record { edition = b; words = o.words }) p

abbrev pub place_after : Place → Act → Place
place_after p (call c) = record { edition = p.edition; words = (call_of p.edition p.words c).words }
place_after p (move a b area) = moved_to p b (move_of a b p.words area)

unfoldable pub place_over : Place → List Act → Place
place_over p [] = p
place_over p (x ∷ xs) = place_over (place_after p x) xs

-- the calls among the acts, and the run of them as one list, wherever the pool lies
abbrev pub call_in : Act → List Call
call_in (call c) = c ∷ []
call_in (move a b area) = []

unfoldable pub calls_in : List Act → List Call
calls_in [] = []
calls_in (x ∷ xs) = call_in x ++ calls_in xs

abbrev pub event_in : Place → Act → List Event
event_in p (call c) = event_of p.words c (call_of p.edition p.words c).answer ∷ []
event_in p (move a b area) = []

unfoldable pub run_over : Place → List Act → List Event
run_over p [] = []
run_over p (x ∷ xs) = event_in p x ++ run_over (place_after p x) xs

-- K6's moves: none leads to edition 2
abbrev pub Low : Act → Type 0
Low (call c) = Unit {0}
Low (move a b area) = b < 2

-- no call sees such a move: the run from a place on, over any number of moves, is that of the pool in `ws`, which never moves, and it ends as that pool
pub record Unseen (g : Settings) (ws : List ℕ) (p : Place) (xs : List Act) : Type 0 where
  pub answers : run_over p xs ≡ run g.edition ws (calls_in xs)
  pub ends : SamePool g (words_after g.edition ws (calls_in xs)) (in_edition (place_over p xs).edition g) (place_over p xs).words

abbrev pub MovesUnseen : Type 0
MovesUnseen = (g : Settings) (ws : List ℕ) (xs : List Act) → g.edition < 2 → All Low xs → checked_of g.edition ws ≡ Fit g → Unseen g ws (here g ws) xs

-- a claim about a new pool of edition 0 or 1, and any calls and moves of it between these
abbrev pub OfEveryLowTurnaround : (Settings → List ℕ → List Act → Type 0) → Type 0
OfEveryLowTurnaround P =
    (ws : List ℕ) (g : Settings) (xs : List Act) → g.edition < 2 → All Low xs → number_of (make_of ws g).answer ≡ 0 → P g (make_of ws g).words xs

-- whatever is so of the run of every list of calls on a new pool is so over any such moves
abbrev pub RunsOverMoves : Type 1
RunsOverMoves =
    (P : Settings → List Event → Type 0) → OfEveryRun (λ g ws cs. P g (run g.edition ws cs)) → OfEveryLowTurnaround (λ g ws xs. P g (run_over (here g ws) xs))

-- ---- over all editions
-- Paper 02, K8: "demand 3 goes on holding over a move", from edition 1 to 2 and back too. Editions 1 and 2 may answer differently, so the run is not that
-- of a pool that never moves: what follows is said of the run itself. A claim about a new pool of edition 0, 1 or 2, and any calls and moves of it
abbrev pub OfEveryTurnaround : (Settings → List ℕ → List Act → Type 0) → Type 0
OfEveryTurnaround P = (ws : List ℕ) (g : Settings) (xs : List Act) → number_of (make_of ws g).answer ≡ 0 → P g (make_of ws g).words xs

-- demand 3: the calls have one order, as one run; with a bound on the newer items of each other sub of a stack
abbrev pub OrderOverMoves : (Settings → ℕ) → Type 0
OrderOverMoves each = OfEveryTurnaround (λ g ws xs. OneAtATimeWithin (each g) g (run_over (here g ws) xs))

abbrev pub Demand3OverMoves : Type 0
Demand3OverMoves = OrderOverMoves demand3_rows

-- and with the closest one
abbrev pub ExactOverMoves : Type 0
ExactOverMoves = OrderOverMoves exact_rows

-- and no item is lost or invented: what is held where the pool lies in the end, and what was taken, is what was put
abbrev pub NothingLostOverMoves : Type 0
NothingLostOverMoves = OfEveryTurnaround (λ g ws xs.
    (p : Item → Bool)
    → count_items p (held_items (place_over (here g ws) xs).words (in_edition (place_over (here g ws) xs).edition g)) + count_items p (items_in 2 (run_over (here g ws) xs))
    ≡ count_items p (items_in 1 (run_over (here g ws) xs)))

-- and the size that a take is held to is the pool's, or one that was set: whatever test these pass, it passes
abbrev pub SizesKnownOverMoves : Type 0
SizesKnownOverMoves = OfEveryTurnaround (λ g ws xs. (p : Size → Bool) → p (size_of g) ≡ true → KnownSizes p (run_over (here g ws) xs))

-- and wherever it lies it is as every pool from make is: fit; a take counts what it reports and passes over just before it, within the closest bound; "full"
-- means that every place after the take window is held; and no sum of a step wraps but those that may
pub record Sound (h : Settings) (ws : List ℕ) : Type 0 where
  pub fit : checked_of h.edition ws ≡ Fit h
  pub takes : TakesWithin exact_rows h ws []
  pub full : FullMeans h ws []
  pub sums : NoSumWraps h ws

abbrev pub SoundOverMoves : Type 0
SoundOverMoves = OfEveryTurnaround (λ g ws xs. Sound (in_edition (place_over (here g ws) xs).edition g) (place_over (here g ws) xs).words)

-- K3 with moves before the begin and after it: how soon the operation of a worker ends that alone steps from then on
abbrev pub SoloFrom : Place → ℕ → Operation → ℕ → List Act → Type 0
SoloFrom p i o n ys =
    Begun p.edition p.words i o n → Solo i (run_over (place_after p (call (begin i o))) ys) → EndsWithin i n (run_over (place_after p (call (begin i o))) ys)

abbrev pub SoloOverMoves : (Settings → Operation → ℕ) → Type 0
SoloOverMoves most = OfEveryTurnaround (λ g ws xs. (i : ℕ) (o : Operation) (ys : List Act) → SoloFrom (place_over (here g ws) xs) i o (most g o) ys)

abbrev pub K3OverMoves : Type 0
K3OverMoves = SoloOverMoves k3_steps × SoloOverMoves solo_steps
