-- K6 and K8 by hand: a pool with two operations under way, word for word before a move and after it, either way; and what a move of it answers where something is
-- wrong with the source or the target, with every two faults of which the number tells which was found first.
use Rattle.std.specs.Prelude.{ℕ, ◌+◌, List, [], ◌∷◌, ◌++◌, ◌≡◌, set, replicate, take as cut, Ok}
use Rattle.rules.specs.Answers.{out, refuse, number_of}
use Rattle.rules.specs.Layout.{stride_at, edition_at}
use Rattle.turnaround.specs.Move.{move_of}
use Rattle.rules.specs.declared.Answer.TheVariants.{Moving}
use Rattle.rules.specs.declared.Refusal.TheVariants.{TooFewWords, WrongEdition}

-- a queue of width 1, depth 1, two rows and two workers; 7 steps counted, 1 put made, P = 2, T = 1
abbrev head_of : ℕ → List ℕ
head_of edition = 0 ∷ 1 ∷ 1 ∷ 1 ∷ 2 ∷ 2 ∷ 7 ∷ 1 ∷ 2 ∷ 1 ∷ 0 ∷ edition ∷ []

-- one item put, none taken
abbrev subs : List ℕ
subs = 1 ∷ 0 ∷ []

-- worker 0 is at its put's read, and worker 1 at its take's commit, with a word of every sort left from earlier
abbrev putter : List ℕ
putter = 2 ∷ 6 ∷ 0 ∷ 2 ∷ 14 ∷ 0 ∷ 16 ∷ 17 ∷ []

abbrev taker : List ℕ
taker = 12 ∷ 21 ∷ 0 ∷ 23 ∷ 24 ∷ 0 ∷ 0 ∷ 27 ∷ []

-- the item that is held, and what an earlier one left
abbrev cells : List ℕ
cells = 5 ∷ 1 ∷ 32 ∷ 33 ∷ []

abbrev old : List ℕ
old = head_of 0 ++ subs ++ putter ++ taker ++ cells

-- with the workers' cards
abbrev new : ℕ → ℕ → List ℕ
new a b = head_of 1 ++ subs ++ putter ++ (a ∷ []) ++ taker ++ (b ∷ []) ++ cells

-- an area of n words that held something
abbrev area : ℕ → List ℕ
area n = replicate n 99

-- ---- what a move answers
abbrev forward : List ℕ → ℕ → ℕ
forward from n = number_of (move_of 0 1 from (area n)).answer

abbrev backward : List ℕ → ℕ → ℕ
backward from n = number_of (move_of 1 0 from (area n)).answer

-- with a stride off limits; with an edition; with worker 0's scan off limits
abbrev strayed : List ℕ → List ℕ
strayed ws = set ws stride_at 1

abbrev labelled : ℕ → List ℕ → List ℕ
labelled e ws = set ws edition_at e

abbrev unfit : List ℕ → List ℕ
unfit ws = set ws 19 1

abbrev pub MovesByHand : Type 0
MovesByHand =
    -- "Forward, the new words are zero": 34 words, then 36, and two more in the area
    (move_of 0 1 old (area 38) ≡ out (Ok Moving) (new 0 0 ++ area 2))
    -- "backward, they are dropped"
    × (move_of 1 0 (new 8 9) (area 38) ≡ out (Ok Moving) (old ++ area 4))
    -- words beyond the source's needed ones are nobody's
    × (move_of 0 1 (old ++ area 2) (area 36) ≡ out (Ok Moving) (new 0 0))
    × (move_of 1 0 (new 8 9 ++ area 2) (area 34) ≡ out (Ok Moving) old)
    -- a refusal leaves the target as it was
    × (move_of 0 1 (new 8 9) (area 38) ≡ refuse WrongEdition (area 38))
    × (move_of 1 0 old (area 38) ≡ refuse WrongEdition (area 38))
    × (move_of 0 1 old (area 35) ≡ refuse TooFewWords (area 35))
    × (move_of 1 0 (new 8 9) (area 33) ≡ refuse TooFewWords (area 33))
    -- whatever else word 11 holds
    × (forward (labelled 7 old) 38 ≡ 31)
    × (backward (labelled 7 (new 8 9)) 38 ≡ 31)
    × (forward (labelled 4294967295 old) 38 ≡ 31)
    -- the first 12 words before the settings and the stride
    × (forward (cut 11 (strayed old)) 38 ≡ 21)
    -- these before the edition, the needed words and the target's length
    × (forward (strayed (labelled 7 old)) 38 ≡ 23)
    × (forward (cut 12 (strayed old)) 38 ≡ 23)
    × (forward (strayed old) 0 ≡ 23)
    -- the edition before the needed words, the rest of the fitness and the target's length
    × (forward (cut 12 (labelled 7 old)) 38 ≡ 31)
    × (backward (cut 35 (labelled 0 (new 8 9))) 38 ≡ 31)
    × (forward (labelled 7 (unfit old)) 38 ≡ 31)
    × (forward (labelled 1 old) 0 ≡ 31)
    -- the needed words before the rest of the fitness
    × (forward (cut 33 (unfit old)) 38 ≡ 21)
    × (backward (cut 35 (unfit (new 8 9))) 38 ≡ 21)
    -- that before the target's length
    × (forward (unfit old) 0 ≡ 23)
    × (backward (unfit (new 8 9)) 33 ≡ 23)

-- ---- edition 2
-- the same pool: each worker has seen a window of the pool's size, one row below its top, and P is one window above T
abbrev wide : ℕ → ℕ → List ℕ
wide a b =
    head_of 2 ++ subs ++ putter ++ (a ∷ 1 ∷ 1 ∷ []) ++ taker ++ (b ∷ 22 ∷ 1 ∷ []) ++ cells ++ (1 ∷ 1 ∷ 0 ∷ 2 ∷ 1 ∷ 1 ∷ 1 ∷ 1 ∷ []) ++ replicate 28 0

-- a queue of depth 2 and so many rows in its sub, of one idle worker that has 7 in every other word: P and T, and the last rows put and taken
abbrev deep : ℕ → ℕ → ℕ → ℕ → ℕ → ℕ → List ℕ
deep edition rows top mark put taken =
    0 ∷ 1 ∷ 2 ∷ 2 ∷ rows ∷ 1 ∷ 7 ∷ 1 ∷ top ∷ mark ∷ 0 ∷ edition ∷ put ∷ taken ∷ 0 ∷ 7 ∷ 0 ∷ 7 ∷ 7 ∷ 0 ∷ 7 ∷ 7 ∷ 7 ∷ []

-- of edition 1
abbrev shallow : ℕ → ℕ → ℕ → ℕ → List ℕ
shallow top mark put taken = deep 1 4 top mark put taken ++ replicate 8 0

-- of edition 2, with a next size, whether it was set, and the depth of its one window
abbrev sized : ℕ → ℕ → ℕ → ℕ → ℕ → ℕ → ℕ → List ℕ
sized rows mark put taken next set depth =
    deep 2 rows mark mark put taken ++ (7 ∷ 7 ∷ []) ++ replicate (rows + rows) 0 ++ (1 ∷ next ∷ set ∷ 1 ∷ 1 ∷ depth ∷ []) ++ replicate 30 0

-- a stack of edition 1, and of edition 2, of one worker past its window phase
abbrev stack : ℕ → List ℕ → List ℕ → List ℕ
stack edition seen windows = 1 ∷ 1 ∷ 1 ∷ 1 ∷ 2 ∷ 1 ∷ 7 ∷ 1 ∷ 1 ∷ 3 ∷ 0 ∷ edition ∷ 1 ∷ 3 ∷ 2 ∷ 6 ∷ 0 ∷ 1 ∷ 3 ∷ 0 ∷ 16 ∷ 17 ∷ 8 ∷ seen ++ (5 ∷ 1 ∷ 32 ∷ 33 ∷ []) ++ windows

abbrev on : List ℕ → ℕ → ℕ
on from n = number_of (move_of 1 2 from (area n)).answer

abbrev back : List ℕ → ℕ → ℕ
back from n = number_of (move_of 2 1 from (area n)).answer

abbrev pub WideMovesByHand : Type 0
WideMovesByHand =
    -- "Forward, a line's next size, each live window and the seen window of a worker past its window phase get the pool's sizes": 36 words, then 76
    (move_of 1 2 (new 8 9) (area 78) ≡ out (Ok Moving) (wide 8 9 ++ area 2))
    -- "backward, what edition 1 hasn't is dropped"
    × (move_of 2 1 (wide 8 9) (area 38) ≡ out (Ok Moving) (new 8 9 ++ area 2))
    -- a stack has zeros, and an idle worker too
    × (move_of 1 2 (stack 1 [] []) (area 65) ≡ out (Ok Moving) (stack 2 (0 ∷ 0 ∷ []) (replicate 36 0)))
    × (move_of 2 1 (stack 2 (0 ∷ 0 ∷ []) (replicate 36 0)) (area 27) ≡ out (Ok Moving) (stack 1 [] []))
    × (move_of 1 2 (shallow 2 2 1 0) (area 69) ≡ out (Ok Moving) (deep 2 4 2 2 1 0 ++ (0 ∷ 0 ∷ []) ++ replicate 8 0 ++ (1 ∷ 2 ∷ 0 ∷ 1 ∷ 1 ∷ 2 ∷ []) ++ replicate 30 0))
    -- no move leads past an edition
    × (move_of 0 2 old (area 78) ≡ refuse WrongEdition (area 78))
    × (move_of 2 0 (wide 8 9) (area 78) ≡ refuse WrongEdition (area 78))
    × (move_of 1 2 (wide 8 9) (area 78) ≡ refuse WrongEdition (area 78))
    × (move_of 2 1 (new 8 9) (area 78) ≡ refuse WrongEdition (area 78))
    -- P minus T 0 to 15 times d: 16 windows, 17, none; and half of one
    × (on (set (new 8 9) 8 16) 76 ≡ 0)
    × (on (set (new 8 9) 8 17) 76 ≡ 33)
    × (on (set (new 8 9) 8 0) 76 ≡ 33)
    × (on (shallow 4 2 1 0) 69 ≡ 0)
    × (on (shallow 3 2 1 0) 69 ≡ 33)
    -- T, or a window seen past the window phase, below d; a worker at the window phase may have any
    × (on (shallow 1 1 1 0) 69 ≡ 33)
    × (on (set (new 8 9) 17 0) 76 ≡ 33)
    × (on (set (set (new 8 9) 17 0) 14 1) 76 ≡ 0)
    -- subs that wouldn't fit: one item is held, in the row of the take window's bottom
    × (on (shallow 3 3 2 0) 69 ≡ 0)
    × (on (shallow 3 3 1 0) 69 ≡ 33)
    -- back: no size was set, the next one is the pool's, so is the live one
    × (back (sized 4 2 1 0 2 0 2) 31 ≡ 0)
    × (back (sized 4 2 1 0 2 1 2) 31 ≡ 33)
    × (back (sized 4 2 1 0 1 0 2) 31 ≡ 33)
    × (back (sized 4 2 2 2 2 0 1) 31 ≡ 33)
    -- R is a multiple of d, which is asked for before the edition where edition 1 is moved from
    × (back (sized 5 2 1 0 2 0 2) 33 ≡ 33)
    × (on (sized 5 2 1 0 2 0 2) 69 ≡ 23)
    -- the window seen: its bottom, and its width
    × (back (set (wide 8 9) 23 0) 36 ≡ 33)
    × (back (set (set (wide 8 9) 23 0) 14 1) 36 ≡ 0)
    -- subs that don't fit edition 1: rows below the take window's bottom hold nothing in edition 2
    × (back (sized 4 12 12 8 2 0 2) 31 ≡ 0)
    × (back (sized 4 12 12 7 2 0 2) 31 ≡ 33)
    -- 33 after the edition and the fitness, and before the target's length
    × (on (labelled 7 (set (new 8 9) 8 17)) 76 ≡ 31)
    × (on (unfit (set (new 8 9) 8 17)) 76 ≡ 23)
    × (on (set (new 8 9) 8 17) 0 ≡ 33)
    × (on (new 8 9) 75 ≡ 21)
    × (back (sized 4 2 1 0 2 1 2) 0 ≡ 33)
    × (back (wide 8 9) 35 ≡ 21)
