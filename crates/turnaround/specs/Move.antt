-- Paper 02, K6 and K8, a move: "Move edition 0 to 1 and back, between two lent word areas. Forward, the new words are zero; backward, they are dropped."
-- "Pools move on from edition 1", to edition 2, "except a line" of some sorts; "they move back only if" nothing is lost. The source is only read. A move is one
-- from an edition `a` to an edition `b`: `move_of 0 1`, `move_of 1 0`, `move_of 1 2` and `move_of 2 1` are the four that ship.
use Rattle.std.specs.Prelude.{ℕ, zero, suc, ◌+◌, ◌-◌, ◌*◌, ◌/◌, ◌%◌, ◌≤◌, ◌<◌, ◌≡◌, Bool, true, List, [], ◌∷◌, get_or, set, drop, length, ltb, leb, eqb, Ok}
use Rattle.std.proofs.Math.Seq.{paste}
use Rattle.std.proofs.lemmas.List.Edits.{sets}
use Rattle.laws.specs.Choice.{cond, both, all, all_below}
use Rattle.rules.specs.Answers.{Out, out, refuse, excepted}
use Rattle.rules.specs.Layout.{top_at, mark_at, edition_at, first_of, second_of, worker_words, workers_at, worker_at, phase_at, window_at, cell_words, cells_at, windows_at, set_at, pair_at, windows_words, needed}
use Rattle.rules.specs.Limits.{Bounds, most_live}
use Rattle.rules.specs.Windows.{has_windows, next_size, live_of, nth_size}
use Rattle.rules.specs.Worker.{slot_at}
use Rattle.rules.specs.Make.{shipped, in_edition}
use Rattle.rules.specs.NewWord.{new_word}
use Rattle.rules.specs.Fit.{sub_fit, past_window, Checked, Unfit, Fit, source_checked}
use Rattle.rules.specs.declared.Settings.{Settings}
use Rattle.rules.specs.declared.Size.{Size}
use Rattle.rules.specs.declared.Slot.{Slot}
use Rattle.rules.specs.declared.Answer.TheVariants.{Moving}
use Rattle.rules.specs.declared.Refusal.TheVariants.{Excepted, TooFewWords, WrongEdition}

-- ---- which pools move
-- an edition on, or one back, up to the edition of the shipped calls
abbrev pub leads : ℕ → ℕ → Bool
leads a b = both (leb a shipped) (both (leb b shipped) (cond (eqb b (a + 1)) true (eqb a (b + 1))))

-- P minus T
abbrev pub apart : List ℕ → ℕ
apart ws = get_or ws top_at 0 - get_or ws mark_at 0

-- "whose subs wouldn't fit", "its subs fit edition 1": by the rule of the edition that it is moved to, over the bottom of a take window of the pool's depth
abbrev pub subs_fit_in : List ℕ → Settings → Bool
subs_fit_in ws h = all_below h.width (λ j. sub_fit h (get_or ws mark_at 0 - h.depth) (first_of ws j) (second_of ws j))

-- on: no "window seen past the window phase, is below d"
abbrev pub seen_on : Settings → Slot → Bool
seen_on g s = cond (past_window s.number) (leb g.depth s.window) true

-- "except a line whose P minus T isn't 0 to 15 times d, whose T, or a window seen past the window phase, is below d, or whose subs wouldn't fit"; these are
-- whole numbers
abbrev pub on_limits : List ℕ → Settings → Settings → List Bool
on_limits ws g h =
    leb (get_or ws mark_at 0) (get_or ws top_at 0) ∷ leb (apart ws) ((most_live - 1) * g.depth) ∷ eqb (apart ws % g.depth) 0 ∷
    leb g.depth (get_or ws mark_at 0) ∷
    all_below g.workers (λ i. seen_on g (slot_at g ws (worker_at g i))) ∷
    subs_fit_in ws h ∷ []

-- the pool's size
abbrev pub own_size : Settings → Size → Bool
own_size g size = both (eqb size.width g.width) (eqb size.depth g.depth)

-- back: a window seen past the window phase is as wide as the pool, and its top is d above its bottom
abbrev pub seen_back : Settings → Slot → Bool
seen_back g s = cond (past_window s.number) (both (eqb s.width g.width) (eqb (s.bottom + g.depth) s.window)) true

-- "only if no next size was ever set, a line's R is a multiple of d, its sizes (next, live, seen past the window phase) are the pool's, and its subs fit
-- edition 1"
abbrev pub back_limits : List ℕ → Settings → Settings → List Bool
back_limits ws g h =
    eqb (get_or ws (set_at g) 0) 0 ∷ eqb (g.rows % g.depth) 0 ∷
    own_size g (next_size ws g) ∷ all_below (live_of ws g) (λ k. own_size g (nth_size ws g k)) ∷
    all_below g.workers (λ i. seen_back g (slot_at g ws (worker_at g i))) ∷
    subs_fit_in ws h ∷ []

-- a queue that is given windows of their own sizes, and one that had them; every other fit pool moves: a stack has no windows, and a set word of 0
unfoldable pub may_move : List ℕ → Settings → Settings → Bool
may_move ws g h = cond (has_windows h) (all (on_limits ws g h)) (cond (has_windows g) (all (back_limits ws g h)) true)

-- ---- the words
-- word k of worker i, in an edition that may have more of them than the pool's: what a new one is stands in crates/rules (specs/NewWord)
abbrev pub word_in : List ℕ → Settings → ℕ → ℕ → ℕ
word_in ws g i k = cond (ltb k (worker_words g.edition)) (get_or ws (worker_at g i + k) 0) (new_word g (slot_at g ws (worker_at g i)) k)

-- the first k words of worker i, from a pool of settings g to its place in one of settings h
unfoldable pub worker_moved : List ℕ → Settings → List ℕ → Settings → ℕ → ℕ → List ℕ
worker_moved from g to h i zero = to
worker_moved from g to h i (suc k) = set (worker_moved from g to h i k) (worker_at h i + k) (word_in from g i k)

-- all of the workers below n
unfoldable pub workers_moved : List ℕ → Settings → List ℕ → Settings → ℕ → List ℕ
workers_moved from g to h zero = to
workers_moved from g to h (suc i) = worker_moved from g (workers_moved from g to h i) h i (worker_words h.edition)

-- the head and the subs, but for the edition
unfoldable pub head_moved : List ℕ → Settings → List ℕ → Settings → List ℕ
head_moved from g to h = set (paste to 0 from (workers_at g)) edition_at h.edition

-- the cells
unfoldable pub cells_moved : List ℕ → Settings → List ℕ → Settings → List ℕ
cells_moved from g to h = paste to (cells_at h) (drop (cells_at g) from) (cell_words * (g.width * g.rows))

-- how many windows of the pool's depth there are from the take window to the put window
abbrev pub own_live : List ℕ → Settings → ℕ
own_live ws h = apart ws / h.depth + 1

-- so many words from a place on are zero
unfoldable pub cleared : List ℕ → ℕ → ℕ → List ℕ
cleared ws at zero = ws
cleared ws at (suc n) = set (cleared ws at n) (at + n) 0

-- so many live windows have the pool's size
unfoldable pub own_pairs : List ℕ → Settings → ℕ → List ℕ
own_pairs ws h zero = ws
own_pairs ws h (suc k) = sets (own_pairs ws h k) (pair_at h k) (h.width ∷ h.depth ∷ [])

-- the words behind the cells: "a line's next size, each live window .. get the pool's sizes", no size was set, and "other new words are zero"
unfoldable pub windows_moved : List ℕ → List ℕ → Settings → List ℕ
windows_moved from to h =
    let none = cleared to (windows_at h) (windows_words h.edition) in
    cond (has_windows h) (own_pairs (sets none (windows_at h) (h.width ∷ h.depth ∷ 0 ∷ own_live from h ∷ [])) h (own_live from h)) none

-- "all else is kept"; "backward, what edition 1 hasn't is dropped"
unfoldable pub moved_words : List ℕ → Settings → List ℕ → Settings → List ℕ
moved_words from g to h = windows_moved from (cells_moved from g (workers_moved from g (head_moved from g to h) h g.workers) h) h

-- what a queue has that moves on to an edition with windows of their own sizes
pub record MovesOn (from : List ℕ) (g : Settings) : Type 0 where
  pub order : get_or from mark_at 0 ≤ get_or from top_at 0
  pub most : apart from ≤ (most_live - 1) * g.depth
  pub whole : apart from % g.depth ≡ 0
  pub deep : g.depth ≤ get_or from mark_at 0
  pub seen : (i : ℕ) → i < g.workers → past_window (get_or from (phase_at (worker_at g i)) 0) ≡ true → g.depth ≤ get_or from (window_at (worker_at g i)) 0

-- two settings that differ in their edition alone, and words enough for either: what a move of a fit pool is given
pub record Areas (from : List ℕ) (g : Settings) (to : List ℕ) (h : Settings) : Type 0 where
  pub bounds : Bounds g
  pub same : h ≡ in_edition h.edition g
  pub source : needed g ≤ length from
  pub target : needed h ≤ length to
  pub on : has_windows h ≡ true → MovesOn from g

-- ---- the call
-- "any other move back, or an excepted move on, with 33 after the source's fitness"; "then the target's length"
unfoldable pub fit_move : List ℕ → Settings → List ℕ → Settings → Out
fit_move from g to h =
    cond (may_move from g h) (cond (ltb (length to) (needed h)) (refuse TooFewWords to) (out (Ok Moving) (moved_words from g to h))) (refuse Excepted to)

unfoldable pub checked_move : ℕ → List ℕ → Checked → List ℕ → Out
checked_move b from (Unfit n) to = refuse n to
checked_move b from (Fit g) to = fit_move from g to (in_edition b g)

-- the answer, and the target's words: "A move answers 0 and leaves the source as it was". No move leads past an edition
unfoldable pub move_of : ℕ → ℕ → List ℕ → List ℕ → Out
move_of a b from to = cond (leads a b) (checked_move b from (source_checked a from) to) (refuse WrongEdition to)
