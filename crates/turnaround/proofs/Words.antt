-- Each word that a move leaves in its target: the source's words, each at its place in the new edition; where the old edition has no word, what a new one
-- is given; and what was there behind the needed ones.
use Prim.Native.Nat.{ℕ, zero, suc, ◌+◌, ◌*◌, ◌≤◌, ◌<◌}
use mathlib.Core.Path.{◌≡◌, refl, ap, ◌∙◌}
use mathlib.Core.Logic.{◌≢◌, ◌⊎◌, inl, inr}
use mathlib.Core.Bool.{true, false}
use mathlib.Core.List.{List}
use native.Mathlib.Nat.{zero-add}
use native.Mathlib.Decide.{ℕ_discrete}
use native.Mathlib.Omega.{arith}
use lib.ListN.{get_or, drop, length, length-drop}
use lib.Seq.{get_or-set_same, get_or-set_other, get_or-drop, paste}
use borrow.Author.Tests.{lt-ltb, le-ltb}
use Rattle.laws.specs.Choice.{cond, cond_both}
use Rattle.rules.specs.Layout.{stride_at, edition_at, settings_of, worker_words, slot_words, lost_word, value_word, index_word, window_word, extra_word, scan_word, seen_word, sum_word, bottom_word, width_word, workers_at, worker_at, cell_words, cells_at, windows_at, windows_words, set_at, first_of, second_of, needed}
use Rattle.rules.specs.Limits.{windowed, most_live}
use Rattle.rules.specs.Make.{in_edition}
use Rattle.rules.specs.Windows.{has_windows, size_of, no_size, next_size, live_of, nth_size}
use Rattle.rules.specs.Worker.{slot_at}
use Rattle.rules.specs.NewWord.{new_word}
use Rattle.turnaround.specs.Move.{word_in, worker_moved, workers_moved, head_moved, cells_moved, own_live, moved_words}
use Rattle.untouched.specs.Untouched.{Beyond}
use Rattle.turnaround.proofs.Types.{Settings}
use Rattle.rules.proofs.Workers.{word_lt, worker_within, workers_apart, words_two, windowed_is}
use Rattle.strides.proofs.Alike.{settings_alike}
use Rattle.turnaround.proofs.Only.{Only, no_store, one_store, copy_only, copied}
use Rattle.rules.proofs.machine.Moved.{slot_moved}
use Rattle.turnaround.proofs.Windows.{windows_only, windows_blank, next_own, set_none, live_own, size_own, size_none}

-- ---- the workers
module _ (from : List ℕ) (g h : Settings) where
  worker_only : (i n high : ℕ) {ws : List ℕ} → worker_at h i + n ≤ high → Only (worker_at h i) high ws (worker_moved from g ws h i n)
  unfolding worker_moved
  worker_only i zero high l = no_store (worker_at h i) high _
  worker_only i (suc n) high l = one_store (worker_at h i) high (worker_at h i + n) _ (omega arith) (omega arith) (worker_only i n high (omega arith))

  worker_moved_word : (i n k : ℕ) (ws : List ℕ) → k < n → worker_at h i + n ≤ length ws → get_or (worker_moved from g ws h i n) (worker_at h i + k) 0 ≡ word_in from g i k
  unfolding worker_moved
  worker_moved_word i zero k ws l a = absurd (omega arith)
  worker_moved_word i (suc n) k ws l a = elim (ℕ_discrete k n) [
    | yes y ↦ rw y (get_or-set_same (worker_moved from g ws h i n) (worker_at h i + n) (word_in from g i n) 0 (rw (worker_only i n (worker_at h i + n) {ws = ws} (omega arith)).long (omega arith)))
    | no z ↦ get_or-set_other (worker_moved from g ws h i n) (worker_at h i + n) (worker_at h i + k) (word_in from g i n) 0 (λ u. z (omega arith)) ∙ worker_moved_word i n k ws (omega arith) (omega arith)
  ]

  workers_only : (n : ℕ) {ws : List ℕ} → n ≤ h.workers → Only (workers_at h) (cells_at h) ws (workers_moved from g ws h n)
  unfolding workers_moved
  workers_only zero l = no_store (workers_at h) (cells_at h) _
  workers_only (suc i) {ws} l = more (worker_only i (worker_words h.edition) (cells_at h) (worker_within h i l)) (workers_only i (omega arith))
    where
      beside : (m : ℕ) → (m < workers_at h) ⊎ (cells_at h ≤ m) → (m < worker_at h i) ⊎ (cells_at h ≤ m)
      beside m (inl a) = inl (omega arith)
      beside m (inr a) = inr a

      more : {us vs : List ℕ} → Only (worker_at h i) (cells_at h) us vs → Only (workers_at h) (cells_at h) ws us → Only (workers_at h) (cells_at h) ws vs
      more s t = record { long = s.long ∙ t.long; off = λ m o. s.off m (beside m o) ∙ t.off m o }

  workers_moved_word : (n i k : ℕ) (ws : List ℕ) → n ≤ h.workers → i < n → k < worker_words h.edition → cells_at h ≤ length ws
      → get_or (workers_moved from g ws h n) (worker_at h i + k) 0 ≡ word_in from g i k
  unfolding workers_moved
  workers_moved_word zero i k ws l a b long = absurd (omega arith)
  workers_moved_word (suc n) i k ws l a b long = elim (ℕ_discrete i n) [
    | yes y ↦
        rw y (worker_moved_word n (worker_words h.edition) k _ b (rw (workers_only n {ws = ws} (omega arith)).long (omega (arith, worker_within h n l))))
    | no z ↦
        (worker_only n (worker_words h.edition) (cells_at h) (worker_within h n l)).off _ (inl (omega (arith, workers_apart h i n (omega arith))))
        ∙ workers_moved_word n i k ws (omega arith) (omega arith) b long
  ]

-- where no window has a size of its own, a worker has no words of one
pub low_words : (e : ℕ) → e < 2 → worker_words e ≤ lost_word + 1
unfolding worker_words
low_words zero l = omega arith
low_words (suc zero) l = omega arith
low_words (suc (suc e)) l = absurd (omega arith)

-- ---- all of them
module _ (from : List ℕ) (g : Settings) (to : List ℕ) (b : ℕ) (source : needed g ≤ length from) (target : needed (in_edition b g) ≤ length to)
    (few : has_windows (in_edition b g) ≡ true → own_live from g ≤ most_live) where
  abbrev h : Settings
  h = in_edition b g

  abbrev with_head : List ℕ
  with_head = head_moved from g to h

  abbrev with_workers : List ℕ
  with_workers = workers_moved from g with_head h g.workers

  abbrev with_cells : List ℕ
  with_cells = cells_moved from g with_workers h

  abbrev moved : List ℕ
  moved = moved_words from g to h

  copy_head : Only 0 (workers_at g) to (paste to 0 from (workers_at g))
  copy_head = copy_only to 0 from (workers_at g) (workers_at g) (omega arith) (omega arith) (omega arith)

  head_only : Only 0 (workers_at g) to with_head
  unfolding head_moved
  head_only = one_store 0 (workers_at g) edition_at b (omega arith) (omega arith) copy_head

  with_workers_only : Only (workers_at g) (cells_at h) with_head with_workers
  with_workers_only = workers_only from g h g.workers (omega arith)

  with_workers_long : length with_workers ≡ length to
  with_workers_long = with_workers_only.long ∙ head_only.long

  cells_only : Only (cells_at h) (windows_at h) with_workers with_cells
  unfolding cells_moved
  cells_only =
      copy_only with_workers (cells_at h) (drop (cells_at g) from) (windows_at h) (cell_words * (g.width * g.rows)) (omega arith) (rw with_workers_long (omega arith))
      (rw (length-drop (cells_at g) from) (omega arith))

  with_cells_long : length with_cells ≡ length to
  with_cells_long = cells_only.long ∙ with_workers_long

  room : needed h ≤ length with_cells
  room = rw with_cells_long target

  rest_only : Only (windows_at h) (needed h) with_cells moved
  unfolding moved_words
  rest_only = windows_only from with_cells h room few

  -- each word
  pub head_word : (m : ℕ) → m < workers_at g → m ≢ edition_at → get_or moved m 0 ≡ get_or from m 0
  unfolding head_moved
  head_word m l n =
      rest_only.off m (inl (omega arith))
      ∙ cells_only.off m (inl (omega arith))
      ∙ with_workers_only.off m (inl l)
      ∙ get_or-set_other (paste to 0 from (workers_at g)) edition_at m b 0 n
      ∙ (rw (zero-add m) at (copied to 0 from (workers_at g) m l (omega arith) (omega arith)))

  pub edition_word : get_or moved edition_at 0 ≡ b
  unfolding head_moved
  edition_word =
      rest_only.off edition_at (inl (omega arith))
      ∙ cells_only.off edition_at (inl (omega arith))
      ∙ with_workers_only.off edition_at (inl (omega arith))
      ∙ get_or-set_same (paste to 0 from (workers_at g)) edition_at b 0 (rw copy_head.long (omega arith))

  pub moved_word : (i k : ℕ) → i < g.workers → k < worker_words b → get_or moved (worker_at h i + k) 0 ≡ word_in from g i k
  moved_word i k l a =
      rest_only.off _ (inl (omega (arith, worker_within h i l)))
      ∙ cells_only.off _ (inl (omega (arith, worker_within h i l)))
      ∙ workers_moved_word from g h g.workers i k with_head (omega arith) l a (rw head_only.long (omega arith))

  pub cell_word : (m : ℕ) → m < cell_words * (g.width * g.rows) → get_or moved (cells_at h + m) 0 ≡ get_or from (cells_at g + m) 0
  unfolding cells_moved
  cell_word m l =
      rest_only.off _ (inl (omega arith))
      ∙ copied with_workers (cells_at h) (drop (cells_at g) from) (cell_words * (g.width * g.rows)) m l (rw with_workers_long (omega arith)) (rw (length-drop (cells_at g) from) (omega arith))
      ∙ get_or-drop (cells_at g) from m 0

  pub moved_beyond : Beyond (needed h) to moved
  moved_beyond =
      record {
        length_same = rest_only.long ∙ with_cells_long;
        same = λ m l. rest_only.off m (inr l) ∙ cells_only.off m (inr (omega arith)) ∙ with_workers_only.off m (inr (omega arith)) ∙ head_only.off m (inr (omega arith));
      }

  pub moved_long : needed h ≤ length moved
  moved_long = rw moved_beyond.length_same target

  pub kept_word : (i k : ℕ) → i < g.workers → k < worker_words g.edition → k < worker_words b → get_or moved (worker_at h i + k) 0 ≡ get_or from (worker_at g i + k) 0
  unfolding cond
  kept_word i k l a z = rw (moved_word i k l z, lt-ltb _ _ a) refl

  pub new_word_law : (i k : ℕ) → i < g.workers → worker_words g.edition ≤ k → k < worker_words b
      → get_or moved (worker_at h i + k) 0 ≡ new_word g (slot_at g from (worker_at g i)) k
  unfolding cond
  new_word_law i k l a z = rw (moved_word i k l z, le-ltb k (worker_words g.edition) a) refl

  pub moved_settings : settings_of from ≡ g → settings_of moved ≡ h
  moved_settings is =
      let low : (m : ℕ) → m < edition_at → get_or moved m 0 ≡ get_or from m 0 = λ m l. head_word m (omega arith) (λ u. omega arith) in
      settings_alike from moved _ b (λ m l. low m (omega arith)) (low stride_at (omega arith)) edition_word ∙ ap (in_edition b) is

  pub first_kept : (j : ℕ) → j < g.width → first_of moved j ≡ first_of from j
  first_kept j l = head_word _ (omega arith) (λ u. omega arith)

  pub second_kept : (j : ℕ) → j < g.width → second_of moved j ≡ second_of from j
  second_kept j l = head_word _ (omega arith) (λ u. omega arith)

  -- a worker's slot
  pub moved_slot : (windowed h ≡ true → g.edition < 2) → (i : ℕ) → i < g.workers → slot_at h moved (worker_at h i) ≡ slot_moved g h (slot_at g from (worker_at g i))
  unfolding slot_at
  moved_slot old i l =
      let word : (k : ℕ) → k < slot_words → get_or moved (worker_at h i + k) 0 ≡ get_or from (worker_at g i + k) 0 =
      λ k a. kept_word i k l (word_lt g.edition k a) (word_lt b k a) in
      let o = slot_at g from (worker_at g i) in
      let seen : (k : ℕ) → lost_word < k → k ≤ width_word → cond (windowed h) (get_or moved (worker_at h i + k) 0) 0 ≡ cond (windowed h) (new_word g o k) 0 =
      λ k m n. cond_both (λ (x y : ℕ). x ≡ y) (windowed h)
      (λ w. new_word_law i k l (omega (arith, low_words g.edition (old w))) (omega (arith, words_two b (windowed_is h w)))) (λ w. refl) in
      let z : (m : ℕ) → m + 0 ≡ m = λ m. omega arith in
      let number : get_or moved (worker_at h i) 0 ≡ get_or from (worker_at g i) 0 = rw (z (worker_at h i), z (worker_at g i)) at (word 0 (omega arith)) in
      λ u. record {
        number = number u;
        value = word value_word (omega arith) u;
        index = word index_word (omega arith) u;
        window = word window_word (omega arith) u;
        extra = word extra_word (omega arith) u;
        scan = word scan_word (omega arith) u;
        seen = word seen_word (omega arith) u;
        sum = word sum_word (omega arith) u;
        bottom = seen bottom_word (omega arith) (omega arith) u;
        width = seen width_word (omega arith) (omega arith) u;
      }

  -- the words behind the cells
  pub moved_blank : has_windows h ≡ false → (k : ℕ) → k < windows_words b → get_or moved (windows_at h + k) 0 ≡ 0
  unfolding moved_words
  moved_blank e k l = windows_blank from with_cells h room e k l

  module _ (has : has_windows h ≡ true) where
    pub moved_next : next_size moved h ≡ size_of g
    unfolding moved_words
    moved_next = next_own from with_cells h room has (few has)

    pub moved_set : get_or moved (set_at h) 0 ≡ 0
    unfolding moved_words
    moved_set = set_none from with_cells h room has (few has)

    pub moved_live : live_of moved h ≡ own_live from g
    unfolding moved_words
    moved_live = live_own from with_cells h room has (few has)

    pub moved_size : (k : ℕ) → k < own_live from g → nth_size moved h k ≡ size_of g
    unfolding moved_words
    moved_size k l = size_own from with_cells h room has (few has) k l

    pub moved_none : (k : ℕ) → own_live from g ≤ k → k < most_live → nth_size moved h k ≡ no_size
    unfolding moved_words
    moved_none k l m = size_none from with_cells h room has (few has) k l m
