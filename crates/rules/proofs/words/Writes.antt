-- What a step's stores leave, and the size call's: the places of a pool's parts do not overlap, so each store is read back at its own place and
-- every other word is as it was. A worker's words but its failed commits are stored as a slot; a shift of a queue's window adds the pair of the next
-- size, or moves every pair down by one.
use mathlib.Core.Path.{◌≡◌, refl, sym, ap, ◌∙◌}
use mathlib.Core.Logic.{◌≢◌, ◌⊎◌, inl, inr}
use mathlib.Core.Bool.{true, false}
use mathlib.Core.List.{List, [], ◌∷◌}
use Prim.Native.Nat.{ℕ, zero, suc, ◌+◌, ◌*◌, ◌-◌, ◌≤◌, ◌<◌}
use native.Mathlib.Decide.{ℕ_discrete}
use native.Mathlib.Omega.{arith}
use lib.ListN.{length, get_or, set, length-set}
use lib.Seq.{get_or-set_same, get_or-set_other, set-get_or, sets, length-sets}
use Rattle.laws.specs.Choice.{cond, cases, cond_both, cond_false}
use Rattle.laws.specs.Wrap.{add32, sub32}
use Rattle.rules.specs.Layout.{head_words, kind_at, width_at, depth_at, shift_at, rows_at, worker_count_at, steps_at, puts_at, top_at, mark_at, stride_at, edition_at, settings_of, sub_at, phase_word, value_word, index_word, window_word, extra_word, scan_word, seen_word, sum_word, lost_word, bottom_word, width_word, worker_words, bottom_at, seen_width_at, second_at, slot_words, cells_at, cell_at, stamp_at, windows_at, next_width_at, next_depth_at, set_at, live_at, pairs_at, pair_words, pair_at, needed}
use Rattle.rules.specs.Limits.{windowed, most_live, Bounds}
use Rattle.rules.specs.Windows.{no_size, next_size, live_of, nth_size, bottom_of}
use Rattle.rules.specs.Worker.{slot_at, put_slot, words_of, seen_words, kept, encode_phase, encode, zero_slot}
use Rattle.rules.specs.Held.{item_at}
use Rattle.rules.specs.Apply.{put_sub, put_shifted, pair_added, put_raised, words_down, pair_gone, put_dropped, put_worker}
use Rattle.rules.specs.Resize.{put_size}
use Rattle.rules.specs.declared.Size.{Size}
use Rattle.rules.proofs.Types.{Settings, Slot, Effect, Worker, Phase, Idle, Window, QueuePutRead, QueueTakeRead, StackRead, Check, QueueCommit, StackCommit, QueueShift, StackShift, QueueConfirm, StackConfirm}
use Rattle.rules.proofs.Workers.{slot_within, words_two, windows_some, windowed_is, Read, read_low}
use Rattle.rules.proofs.Cells.{cell_lt}
use Rattle.rules.proofs.words.Lists.{sets_out, sets_in}

-- ---- the head
-- a place that no step and no begin stores into: of a setting
pub record Still (p : ℕ) : Type 0 where
  pub below : p < head_words
  pub steps : p ≢ steps_at
  pub puts : p ≢ puts_at
  pub top : p ≢ top_at
  pub mark : p ≢ mark_at

pub still_low : (p : ℕ) → p < steps_at → Still p
still_low p l = record { below = omega arith; steps = λ u. omega arith; puts = λ u. omega arith; top = λ u. omega arith; mark = λ u. omega arith }

pub still_high : (p : ℕ) → mark_at < p → p < head_words → Still p
still_high p l h = record { below = h; steps = λ u. omega arith; puts = λ u. omega arith; top = λ u. omega arith; mark = λ u. omega arith }

-- the words there are as they were
abbrev pub HeadKept : List ℕ → List ℕ → Type 0
HeadKept ws vs = (m : ℕ) → Still m → get_or vs m 0 ≡ get_or ws m 0

pub settings_kept : (ws vs : List ℕ) → HeadKept ws vs → settings_of vs ≡ settings_of ws
settings_kept ws vs h =
    λ u. record {
      kind = h kind_at (still_low _ (omega arith)) u;
      width = h width_at (still_low _ (omega arith)) u;
      depth = h depth_at (still_low _ (omega arith)) u;
      shift = h shift_at (still_low _ (omega arith)) u;
      rows = h rows_at (still_low _ (omega arith)) u;
      workers = h worker_count_at (still_low _ (omega arith)) u;
      stride = h stride_at (still_high _ (omega arith) (omega arith)) u;
      edition = h edition_at (still_high _ (omega arith) (omega arith)) u;
    }

-- ---- a run of stores
pub sets_apart : (vs l : List ℕ) (i m : ℕ) → ((k : ℕ) → k < length vs → m ≢ i + k) → get_or (sets l i vs) m 0 ≡ get_or l m 0
sets_apart [] l i m h = refl
sets_apart (v ∷ vs) l i m h =
    sets_apart vs (set l i v) (suc i) m (λ k a u. h (suc k) (omega arith) (omega arith)) ∙ get_or-set_other l i m v 0 (λ u. h 0 (omega arith) (omega arith))

-- ---- a worker's words, but for its failed commits
-- a slot as an edition has it: where there are no words for the rest of the window seen, these are 0
abbrev pub SlotOf : Settings → Slot → Type 0
SlotOf g x = windowed g ≡ false → (x.bottom ≡ 0) × (x.width ≡ 0)

-- those words are read where they are there
read_seen : (g : Settings) (k : ℕ) → windowed g ≡ true → lost_word < k → k ≤ width_word → Read g.edition k
read_seen g k e a b = record { there = omega (arith, words_two g.edition (windowed_is g e)); other = λ u. omega arith }

module _ (g : Settings) (ws : List ℕ) (at : ℕ) (x : Slot) where
  pub slot_length : length (put_slot g ws at x) ≡ length ws
  unfolding put_slot
  slot_length =
      cases (λ (vs : List ℕ). length vs ≡ length ws) (windowed g) _ _
      (λ e. length-sets (sets ws at (words_of x)) (bottom_at at) (seen_words x) ∙ length-sets ws at (words_of x))
      (λ e. length-sets ws at (words_of x))

  pub slot_off : (m : ℕ) → ((k : ℕ) → Read g.edition k → m ≢ at + k) → get_or (put_slot g ws at x) m 0 ≡ get_or ws m 0
  unfolding put_slot
  slot_off m apart =
      let low = sets_apart (words_of x) ws at m (λ k l. apart k (read_low g.edition k l)) in
      cases (λ (vs : List ℕ). get_or vs m 0 ≡ get_or ws m 0) (windowed g) _ _
      (λ e. sets_apart (seen_words x) (sets ws at (words_of x)) (bottom_at at) m
      (λ k l u. apart (bottom_word + k) (read_seen g (bottom_word + k) e (omega arith) (omega arith)) (omega arith)) ∙ low)
      (λ e. low)

  -- what is stored is read back
  module _ (long : at + worker_words g.edition ≤ length ws) where
    pub word_on : (k : ℕ) → k < slot_words → get_or (put_slot g ws at x) (at + k) 0 ≡ get_or (words_of x) k 0
    unfolding put_slot
    word_on k l =
        let low = sets_in (words_of x) ws at k l (omega (arith, slot_within g.edition)) in
        cases (λ (vs : List ℕ). get_or vs (at + k) 0 ≡ get_or (words_of x) k 0) (windowed g) _ _
        (λ e. sets_out (seen_words x) (sets ws at (words_of x)) (bottom_at at) (at + k) (inl (omega arith)) ∙ low)
        (λ e. low)

    seen_on : windowed g ≡ true → (k : ℕ) → k < 2 → get_or (put_slot g ws at x) (bottom_at at + k) 0 ≡ get_or (seen_words x) k 0
    unfolding put_slot cond
    seen_on e k l =
        let there : bottom_at at + 2 ≤ length (sets ws at (words_of x)) = omega (arith, length-sets ws at (words_of x), words_two g.edition (windowed_is g e)) in
        rw e (sets_in (seen_words x) (sets ws at (words_of x)) (bottom_at at) k l there)

    pub slot_on : SlotOf g x → slot_at g (put_slot g ws at x) at ≡ x
    unfolding slot_at
    slot_on own =
        let e : at + 0 ≡ at = omega arith in
        let f : bottom_at at + 0 ≡ bottom_at at = omega arith in
        let h : bottom_at at + 1 ≡ seen_width_at at = omega arith in
        let first : get_or (put_slot g ws at x) at 0 ≡ x.number = rw e at (word_on phase_word (omega arith)) in
        let bottom = cases (λ (n : ℕ). n ≡ x.bottom) (windowed g) _ _ (λ w. rw f at (seen_on w 0 (omega arith))) (λ w. sym (own w).0) in
        let width = cases (λ (n : ℕ). n ≡ x.width) (windowed g) _ _ (λ w. rw h at (seen_on w 1 (omega arith))) (λ w. sym (own w).1) in
        λ u. record {
          number = first u;
          value = word_on value_word (omega arith) u;
          index = word_on index_word (omega arith) u;
          window = word_on window_word (omega arith) u;
          extra = word_on extra_word (omega arith) u;
          scan = word_on scan_word (omega arith) u;
          seen = word_on seen_word (omega arith) u;
          sum = word_on sum_word (omega arith) u;
          bottom = bottom u;
          width = width u;
        }

-- a worker whose words are those of another's, in a pool whose windows are of the same kind
pub slot_same : (g h : Settings) (ws vs : List ℕ) (at to : ℕ) → windowed h ≡ windowed g
    → ((k : ℕ) → Read g.edition k → get_or vs (to + k) 0 ≡ get_or ws (at + k) 0) → slot_at h vs to ≡ slot_at g ws at
unfolding slot_at
slot_same g h ws vs at to alike same =
    let low : (k : ℕ) → k < slot_words → get_or vs (to + k) 0 ≡ get_or ws (at + k) 0 = λ k l. same k (read_low g.edition k l) in
    let seen : (k : ℕ) → lost_word < k → k ≤ width_word → cond (windowed h) (get_or vs (to + k) 0) 0 ≡ cond (windowed g) (get_or ws (at + k) 0) 0 =
    λ k a b. rw alike (cond_both (λ (x y : ℕ). x ≡ y) (windowed g) (λ e. same k (read_seen g k e a b)) (λ e. refl)) in
    let e : at + 0 ≡ at = omega arith in
    let f : to + 0 ≡ to = omega arith in
    let first : get_or vs to 0 ≡ get_or ws at 0 = rw (e, f) at (low 0 (omega arith)) in
    λ u. record {
      number = first u;
      value = low 1 (omega arith) u;
      index = low 2 (omega arith) u;
      window = low 3 (omega arith) u;
      extra = low 4 (omega arith) u;
      scan = low 5 (omega arith) u;
      seen = low 6 (omega arith) u;
      sum = low 7 (omega arith) u;
      bottom = seen bottom_word (omega arith) (omega arith) u;
      width = seen width_word (omega arith) (omega arith) u;
    }

-- or as they were
pub slot_kept : (g : Settings) (ws vs : List ℕ) (at : ℕ) → ((k : ℕ) → Read g.edition k → get_or vs (at + k) 0 ≡ get_or ws (at + k) 0) → slot_at g vs at ≡ slot_at g ws at
slot_kept g ws vs at same = slot_same g g ws vs at at refl same

-- what is read is a slot of its edition, and what a phase is written as is one where the old words are
pub slot_read : (g : Settings) (ws : List ℕ) (at : ℕ) → SlotOf g (slot_at g ws at)
unfolding slot_at cond
slot_read g ws at old = (rw old refl, rw old refl)

pub slot_zero : (g : Settings) → SlotOf g zero_slot
slot_zero g old = (refl, refl)

pub slot_written : (g : Settings) (k : Worker) (o : Slot) → SlotOf g o → SlotOf g (encode g k o)
unfolding encode encode_phase
slot_written g k o own old = go k.phase k.value k.index
  where
    none : (x : ℕ) → kept g x ≡ 0
    none x = rw old (cond_false x 0)

    go : (p : Phase) (v x : ℕ) → ((encode_phase g p v x o).bottom ≡ 0) × ((encode_phase g p v x o).width ≡ 0)
    go Idle v x = own old
    go (Window side) v x = own old
    go (QueuePutRead window scan) v x = (none _, none _)
    go (QueueTakeRead window bare scan sum) v x = (none _, none _)
    go (StackRead side window version scan sum) v x = own old
    go (Check side version seen) v x = own old
    go (QueueCommit side window seen) v x = (none _, none _)
    go (StackCommit side seen) v x = own old
    go (QueueShift side window) v x = (none _, none _)
    go (StackShift side version scan sum) v x = own old
    go (QueueConfirm window scan sum) v x = (none _, none _)
    go (StackConfirm side scan sum) v x = own old

-- an item whose cell's words are as they were
pub item_kept : (g : Settings) (ws vs : List ℕ) → ((m : ℕ) → cells_at g ≤ m → get_or vs m 0 ≡ get_or ws m 0) → (j r : ℕ) → item_at vs g j r ≡ item_at ws g j r
item_kept g ws vs h j r =
    let v = h (cell_at g j r) (omega arith) in let t = h (stamp_at (cell_at g j r)) (omega arith) in
    λ u. record { value = v u; stamp = t u }

-- the cells lie before the windows' words
pub item_kept_below : (g : Settings) → Bounds g → (ws vs : List ℕ) → ((m : ℕ) → cells_at g ≤ m → m < windows_at g → get_or vs m 0 ≡ get_or ws m 0)
    → (j r : ℕ) → j < g.width → item_at vs g j r ≡ item_at ws g j r
item_kept_below g b ws vs h j r l =
    let low = cell_lt g j (sub32 r 1) b l in
    let v = h (cell_at g j r) (omega arith) (omega arith) in
    let t = h (stamp_at (cell_at g j r)) (omega arith) (omega arith) in
    λ u. record { value = v u; stamp = t u }

-- ---- the shared words and the sub's
abbrev Apart : ℕ → ℕ → Type 0
Apart m n = m ≢ n

module _ (ws : List ℕ) (j : ℕ) (e : Effect) where
  abbrev stamped : List ℕ
  stamped = set ws 7 e.puts

  abbrev topped : List ℕ
  topped = set stamped 8 e.top

  abbrev marked : List ℕ
  marked = set topped 9 e.mark

  abbrev firsts : List ℕ
  firsts = set marked (sub_at j) e.first

  abbrev pub shared_set : List ℕ
  shared_set = set firsts (second_at j) e.second

  shared_off : (m : ℕ) → m ≢ puts_at → m ≢ top_at → m ≢ mark_at → m ≢ sub_at j → m ≢ second_at j → get_or shared_set m 0 ≡ get_or ws m 0
  shared_off m b c d f h = simp get_or-set_other

  shared_length : length shared_set ≡ length ws
  shared_length = simp length-set

  module _ (long : second_at j < length ws) where
    shared_puts : get_or shared_set 7 0 ≡ e.puts
    shared_puts =
        let b : Apart puts_at 8 = λ u. omega arith in let c : Apart puts_at 9 = λ u. omega arith in
        let d : Apart puts_at (sub_at j) = λ u. omega arith in let f : Apart puts_at (second_at j) = λ u. omega arith in
        simp get_or-set_other (get_or-set_same ws 7 e.puts 0 (omega arith))

    shared_top : get_or shared_set 8 0 ≡ e.top
    shared_top =
        let c : Apart top_at 9 = λ u. omega arith in
        let d : Apart top_at (sub_at j) = λ u. omega arith in let f : Apart top_at (second_at j) = λ u. omega arith in
        simp get_or-set_other (get_or-set_same stamped 8 e.top 0 (simp length-set (omega arith)))

    shared_mark : get_or shared_set 9 0 ≡ e.mark
    shared_mark =
        let d : Apart mark_at (sub_at j) = λ u. omega arith in let f : Apart mark_at (second_at j) = λ u. omega arith in
        simp get_or-set_other (get_or-set_same topped 9 e.mark 0 (simp length-set (omega arith)))

    shared_first : get_or shared_set (sub_at j) 0 ≡ e.first
    shared_first =
        let f : Apart (sub_at j) (second_at j) = λ u. omega arith in
        simp get_or-set_other (get_or-set_same marked (sub_at j) e.first 0 (simp length-set (omega arith)))

    shared_second : get_or shared_set (second_at j) 0 ≡ e.second
    shared_second = get_or-set_same firsts (second_at j) e.second 0 (simp length-set (omega arith))

-- ---- an outcome that leaves some of them alone stores the others: to store those too, as they are, would change nothing
pub set_kept : (xs : List ℕ) (m x : ℕ) → get_or xs m 0 ≡ x → set xs m x ≡ xs
set_kept xs m x h = ap (λ (y : ℕ). set xs m y) (sym h) ∙ set-get_or xs m 0

module _ (ws : List ℕ) (j : ℕ) (e : Effect) where
  abbrev pub SamePuts : Type 0
  SamePuts = get_or ws puts_at 0 ≡ e.puts

  abbrev pub SameTop : Type 0
  SameTop = (get_or ws top_at 0 ≡ e.top) × (get_or ws mark_at 0 ≡ e.mark)

  abbrev pub SameSub : Type 0
  SameSub = (get_or ws (sub_at j) 0 ≡ e.first) × (get_or ws (second_at j) 0 ≡ e.second)

  pub still_shared : SamePuts → SameTop → SameSub → ws ≡ shared_set ws j e
  still_shared p t f =
      let b = set_kept ws 8 e.top t.0 in
      let c = set_kept ws 9 e.mark t.1 in
      let d = set_kept ws (sub_at j) e.first f.0 in
      let k = set_kept ws (second_at j) e.second f.1 in
      rw (set_kept ws 7 e.puts p, b, c, d, k) refl

  pub shifted_shared : SamePuts → SameSub → put_shifted ws e ≡ shared_set ws j e
  unfolding put_shifted
  shifted_shared p f =
      let moved : List ℕ = set (set ws 8 e.top) 9 e.mark in
      let off : (m : ℕ) → m ≢ top_at → m ≢ mark_at → get_or moved m 0 ≡ get_or ws m 0 = λ m y z. simp get_or-set_other in
      let d : set moved (sub_at j) e.first ≡ moved = set_kept moved (sub_at j) e.first (off (sub_at j) (λ u. omega arith) (λ u. omega arith) ∙ f.0) in
      let k : set moved (second_at j) e.second ≡ moved =
      set_kept moved (second_at j) e.second (off (second_at j) (λ u. omega arith) (λ u. omega arith) ∙ f.1) in
      rw (set_kept ws 7 e.puts p, d, k) refl

  pub landed_shared : SameTop → put_sub (set ws puts_at e.puts) j e ≡ shared_set ws j e
  unfolding put_sub
  landed_shared t =
      let off : (m : ℕ) → m ≢ puts_at → get_or (stamped ws j e) m 0 ≡ get_or ws m 0 = λ m y. simp get_or-set_other in
      let b : topped ws j e ≡ stamped ws j e = set_kept (stamped ws j e) 8 e.top (off 8 (λ u. omega arith) ∙ t.0) in
      let c : set (stamped ws j e) 9 e.mark ≡ stamped ws j e = set_kept (stamped ws j e) 9 e.mark (off 9 (λ u. omega arith) ∙ t.1) in
      rw (b, c) refl

  pub removed_shared : SamePuts → SameTop → put_sub ws j e ≡ shared_set ws j e
  unfolding put_sub
  removed_shared p t =
      let b = set_kept ws 8 e.top t.0 in
      let c = set_kept ws 9 e.mark t.1 in
      rw (set_kept ws 7 e.puts p, b, c) refl

-- ---- a queue's windows
-- sizes whose two words are those of others
pub size_same : (ws vs : List ℕ) (g : Settings) (k l : ℕ) → get_or vs (pair_at g k) 0 ≡ get_or ws (pair_at g l) 0 → get_or vs (pair_at g k + 1) 0 ≡ get_or ws (pair_at g l + 1) 0
    → nth_size vs g k ≡ nth_size ws g l
size_same ws vs g k l w d = λ u. record { width = w u; depth = d u }

pub next_same : (ws vs : List ℕ) (g : Settings) → get_or vs (next_width_at g) 0 ≡ get_or ws (next_width_at g) 0 → get_or vs (next_depth_at g) 0 ≡ get_or ws (next_depth_at g) 0
    → next_size vs g ≡ next_size ws g
next_same ws vs g w d = λ u. record { width = w u; depth = d u }

-- a put window raised: the words before the number of live windows are as they were, but for the top
module _ (ws : List ℕ) (g : Settings) (e : Effect) where
  abbrev at : ℕ
  at = pair_at g (live_of ws g)

  added_length : length (cond (windowed g) (pair_added ws g) ws) ≡ length ws
  unfolding pair_added
  added_length = cases (λ (vs : List ℕ). length vs ≡ length ws) (windowed g) _ _ (λ w. simp length-set) (λ w. refl)

  pub raised_length : length (put_raised ws g e) ≡ length ws
  unfolding put_raised
  raised_length = length-set (cond (windowed g) (pair_added ws g) ws) top_at e.top ∙ added_length

  pub raised_below : (m : ℕ) → m ≢ top_at → m < live_at g → get_or (put_raised ws g e) m 0 ≡ get_or ws m 0
  unfolding put_raised pair_added
  raised_below m n l =
      let a : m ≢ at = λ u. omega arith in
      let b : m ≢ at + 1 = λ u. omega arith in
      let c : m ≢ live_at g = λ u. omega arith in
      cases (λ (vs : List ℕ). get_or (set vs top_at e.top) m 0 ≡ get_or ws m 0) (windowed g) _ _ (λ w. simp get_or-set_other) (λ w. simp get_or-set_other)

  pub raised_top : top_at < length ws → get_or (put_raised ws g e) top_at 0 ≡ e.top
  unfolding put_raised
  raised_top l = get_or-set_same (cond (windowed g) (pair_added ws g) ws) top_at e.top 0 (omega (arith, added_length))

  -- where windows have sizes of their own, one more is live, and it has the next size
  module _ (has : windowed g ≡ true) (room : live_of ws g < most_live) (long : needed g ≤ length ws) where
    abbrev widths : List ℕ
    widths = set ws at (next_size ws g).width

    abbrev pairs : List ℕ
    pairs = set widths (at + 1) (next_size ws g).depth

    abbrev added : List ℕ
    added = set pairs (live_at g) (live_of ws g + 1)

    pair_there : pair_at g (live_of ws g) + 1 < length ws
    pair_there = omega (arith, windows_some g.edition (windowed_is g has))

    raised_at : (m : ℕ) → head_words ≤ m → get_or (put_raised ws g e) m 0 ≡ get_or added m 0
    unfolding put_raised pair_added cond
    raised_at m l = rw has (get_or-set_other added top_at m e.top 0 (λ u. omega arith))

    pub raised_live : live_of (put_raised ws g e) g ≡ live_of ws g + 1
    raised_live = raised_at (live_at g) (omega arith) ∙ get_or-set_same pairs (live_at g) _ 0 (simp length-set (omega (arith, pair_there)))

    pub raised_size : (k : ℕ) → k ≢ live_of ws g → nth_size (put_raised ws g e) g k ≡ nth_size ws g k
    raised_size k n =
        size_same ws (put_raised ws g e) g k k
        (off (pair_at g k) (omega arith) (λ u. n (omega arith)) (λ u. omega arith)) (off (pair_at g k + 1) (omega arith) (λ u. omega arith) (λ u. n (omega arith)))
      where
        off : (m : ℕ) → live_at g < m → m ≢ at → m ≢ at + 1 → get_or (put_raised ws g e) m 0 ≡ get_or ws m 0
        off m a x y =
            let z : m ≢ live_at g = λ u. omega arith in
            raised_at m (omega arith) ∙ simp get_or-set_other

    pub raised_last : nth_size (put_raised ws g e) g (live_of ws g) ≡ next_size ws g
    raised_last =
        let a : at ≢ at + 1 = λ u. omega arith in
        let b : at ≢ live_at g = λ u. omega arith in
        let c : at + 1 ≢ live_at g = λ u. omega arith in
        let w : get_or added at 0 ≡ (next_size ws g).width = simp get_or-set_other (get_or-set_same ws at (next_size ws g).width 0 (omega (arith, pair_there))) in
        let d : get_or added (at + 1) 0 ≡ (next_size ws g).depth = simp get_or-set_other (get_or-set_same widths (at + 1) (next_size ws g).depth 0 (simp length-set pair_there)) in
        let w' = raised_at at (omega arith) ∙ w in
        let d' = raised_at (at + 1) (omega arith) ∙ d in
        λ u. record { width = w' u; depth = d' u }

    -- the bottoms up to the old top are as they were, and the new window's top is its own depth above it
    pub raised_bottom : 1 ≤ live_of ws g → (k : ℕ) → k ≤ live_of ws g → bottom_of (put_raised ws g e) g k ≡ bottom_of ws g k
    unfolding bottom_of
    raised_bottom some zero l = rw (raised_below mark_at (λ u. omega arith) (omega arith)) (ap (λ (x : Size). get_or ws mark_at 0 - x.depth) (raised_size 0 (λ u. omega arith)))
    raised_bottom some (suc k) l = rw (raised_bottom some k (omega arith)) (ap (λ (x : Size). bottom_of ws g k + x.depth) (raised_size k (λ u. omega arith)))

    pub raised_bottom_last : 1 ≤ live_of ws g → bottom_of (put_raised ws g e) g (suc (live_of ws g)) ≡ bottom_of ws g (live_of ws g) + (next_size ws g).depth
    unfolding bottom_of
    raised_bottom_last some =
        rw (raised_bottom some (live_of ws g) (omega arith)) (ap (λ (x : Size). bottom_of ws g (live_of ws g) + x.depth) raised_last)

-- each word of a run is the one two places behind it
down_length : (ws : List ℕ) (at k : ℕ) → length (words_down ws at k) ≡ length ws
unfolding words_down
down_length ws at zero = refl
down_length ws at (suc k) = length-set (words_down ws at k) (at + k) _ ∙ down_length ws at k

down_out : (ws : List ℕ) (at k m : ℕ) → (m < at) ⊎ (at + k ≤ m) → get_or (words_down ws at k) m 0 ≡ get_or ws m 0
unfolding words_down
down_out ws at zero m o = refl
down_out ws at (suc k) m (inl l) = get_or-set_other (words_down ws at k) (at + k) m _ 0 (λ u. omega arith) ∙ down_out ws at k m (inl l)
down_out ws at (suc k) m (inr l) = get_or-set_other (words_down ws at k) (at + k) m _ 0 (λ u. omega arith) ∙ down_out ws at k m (inr (omega arith))

down_in : (ws : List ℕ) (at k i : ℕ) → i < k → at + k ≤ length ws → get_or (words_down ws at k) (at + i) 0 ≡ get_or ws (at + i + pair_words) 0
unfolding words_down
down_in ws at zero i l long = absurd (omega arith)
down_in ws at (suc k) i l long = elim (ℕ_discrete i k) [
  | yes y ↦ rw y (get_or-set_same (words_down ws at k) (at + k) _ 0 (omega (arith, down_length ws at k)))
  | no n ↦ get_or-set_other (words_down ws at k) (at + k) (at + i) _ 0 (λ u. n (omega arith)) ∙ down_in ws at k i (omega arith) (omega arith)
]

-- a take window dropped: the words before the number of live windows are as they were, but for the mark
module _ (ws : List ℕ) (g : Settings) (e : Effect) where
  abbrev moved : List ℕ
  moved = words_down ws (pairs_at g) (pair_words * (most_live - 1))

  abbrev end : ℕ
  end = pair_at g (most_live - 1)

  gone_length : length (cond (windowed g) (pair_gone ws g) ws) ≡ length ws
  unfolding pair_gone
  gone_length =
      cases (λ (vs : List ℕ). length vs ≡ length ws) (windowed g) _ _
      (λ w. simp length-set (down_length ws (pairs_at g) (pair_words * (most_live - 1)))) (λ w. refl)

  pub dropped_length : length (put_dropped ws g e) ≡ length ws
  unfolding put_dropped
  dropped_length = length-set (cond (windowed g) (pair_gone ws g) ws) mark_at e.mark ∙ gone_length

  pub dropped_below : (m : ℕ) → m ≢ mark_at → m < live_at g → get_or (put_dropped ws g e) m 0 ≡ get_or ws m 0
  unfolding put_dropped pair_gone
  dropped_below m n l =
      let a : m ≢ end = λ u. omega arith in
      let b : m ≢ end + 1 = λ u. omega arith in
      let c : m ≢ live_at g = λ u. omega arith in
      cases (λ (vs : List ℕ). get_or (set vs mark_at e.mark) m 0 ≡ get_or ws m 0) (windowed g) _ _
      (λ w. simp get_or-set_other (down_out ws (pairs_at g) (pair_words * (most_live - 1)) m (inl (omega arith)))) (λ w. simp get_or-set_other)

  pub dropped_mark : mark_at < length ws → get_or (put_dropped ws g e) mark_at 0 ≡ e.mark
  unfolding put_dropped
  dropped_mark l = get_or-set_same (cond (windowed g) (pair_gone ws g) ws) mark_at e.mark 0 (omega (arith, gone_length))

  -- where windows have sizes of their own, one less is live, and each size is the one of the next window
  module _ (has : windowed g ≡ true) (long : needed g ≤ length ws) where
    abbrev narrow : List ℕ
    narrow = set moved end 0

    abbrev cleared : List ℕ
    cleared = set narrow (end + 1) 0

    abbrev gone : List ℕ
    gone = set cleared (live_at g) (live_of ws g - 1)

    last_there : end + 1 < length moved
    last_there = omega (arith, windows_some g.edition (windowed_is g has), down_length ws (pairs_at g) (pair_words * (most_live - 1)))

    dropped_at : (m : ℕ) → head_words ≤ m → get_or (put_dropped ws g e) m 0 ≡ get_or gone m 0
    unfolding put_dropped pair_gone cond
    dropped_at m l = rw has (get_or-set_other gone mark_at m e.mark 0 (λ u. omega arith))

    pub dropped_live : live_of (put_dropped ws g e) g ≡ live_of ws g - 1
    dropped_live = dropped_at (live_at g) (omega arith) ∙ get_or-set_same cleared (live_at g) _ 0 (simp length-set (omega (arith, last_there)))

    pub dropped_size : (k : ℕ) → suc k < most_live → nth_size (put_dropped ws g e) g k ≡ nth_size ws g (suc k)
    dropped_size k l =
        size_same ws (put_dropped ws g e) g k (suc k)
        (word (pair_words * k) (pair_at g k) (pair_at g (suc k)) (omega arith) (omega arith) (omega arith))
        (word (pair_words * k + 1) (pair_at g k + 1) (pair_at g (suc k) + 1) (omega arith) (omega arith) (omega arith))
      where
        word : (i m n : ℕ) → i < pair_words * (most_live - 1) → pairs_at g + i ≡ m → m + pair_words ≡ n → get_or (put_dropped ws g e) m 0 ≡ get_or ws n 0
        word i m n a p q =
            let x : m ≢ end = λ u. omega arith in
            let y : m ≢ end + 1 = λ u. omega arith in
            let z : m ≢ live_at g = λ u. omega arith in
            let down = down_in ws (pairs_at g) (pair_words * (most_live - 1)) i a (omega (arith, windows_some g.edition (windowed_is g has))) in
            dropped_at m (omega arith) ∙ simp get_or-set_other (rw (p, q) at down)

    pub dropped_last : nth_size (put_dropped ws g e) g (most_live - 1) ≡ no_size
    dropped_last =
        let a : end ≢ end + 1 = λ u. omega arith in
        let b : end ≢ live_at g = λ u. omega arith in
        let c : end + 1 ≢ live_at g = λ u. omega arith in
        let w : get_or gone end 0 ≡ 0 = simp get_or-set_other (get_or-set_same moved end 0 0 (omega (arith, last_there))) in
        let d : get_or gone (end + 1) 0 ≡ 0 = simp get_or-set_other (get_or-set_same narrow (end + 1) 0 0 (simp length-set last_there)) in
        let w' = dropped_at end (omega arith) ∙ w in
        let d' = dropped_at (end + 1) (omega arith) ∙ d in
        λ u. record { width = w' u; depth = d' u }

    -- each bottom is the one of the next window
    pub dropped_bottom : (nth_size ws g 0).depth ≤ get_or ws mark_at 0 → e.mark ≡ get_or ws mark_at 0 + (nth_size ws g 1).depth
        → (k : ℕ) → k < most_live → bottom_of (put_dropped ws g e) g k ≡ bottom_of ws g (suc k)
    unfolding bottom_of
    dropped_bottom low to zero l =
        let mark = dropped_mark (omega arith) in
        let depth = ap (λ (x : Size). x.depth) (dropped_size 0 (omega arith)) in
        omega arith
    dropped_bottom low to (suc k) l = rw (dropped_bottom low to k (omega arith)) (ap (λ (x : Size). bottom_of ws g (suc k) + x.depth) (dropped_size k l))

-- a size set: three words change
module _ (ws : List ℕ) (g : Settings) (size : Size) where
  pub sized_length : length (put_size ws g size) ≡ length ws
  unfolding put_size
  sized_length = simp length-set

  pub sized_off : (m : ℕ) → m ≢ next_width_at g → m ≢ next_depth_at g → m ≢ set_at g → get_or (put_size ws g size) m 0 ≡ get_or ws m 0
  unfolding put_size
  sized_off m a b c = simp get_or-set_other

  module _ (long : set_at g < length ws) where
    pub sized_set : get_or (put_size ws g size) (set_at g) 0 ≡ 1
    unfolding put_size
    sized_set = get_or-set_same (set (set ws (next_width_at g) size.width) (next_depth_at g) size.depth) (set_at g) 1 0 (simp length-set long)

    pub sized_next : next_size (put_size ws g size) g ≡ size
    unfolding put_size
    sized_next =
        let a : next_width_at g ≢ next_depth_at g = λ u. omega arith in
        let b : next_width_at g ≢ set_at g = λ u. omega arith in
        let c : next_depth_at g ≢ set_at g = λ u. omega arith in
        let w : get_or (put_size ws g size) (next_width_at g) 0 ≡ size.width = simp get_or-set_other (get_or-set_same ws (next_width_at g) size.width 0 (omega arith)) in
        let d : get_or (put_size ws g size) (next_depth_at g) 0 ≡ size.depth =
        simp get_or-set_other (get_or-set_same (set ws (next_width_at g) size.width) (next_depth_at g) size.depth 0 (simp length-set (omega arith))) in
        λ u. record { width = w u; depth = d u }

-- ---- all that a step may store: the worker's words lie above its sub's
module _ (g : Settings) (ws : List ℕ) (at j : ℕ) (e : Effect) where
  abbrev shared : List ℕ
  shared = shared_set ws j e

  abbrev counted : List ℕ
  counted = set shared 6 (add32 (get_or shared 6 0) 1)

  abbrev pub all_set : List ℕ
  all_set = put_worker shared g at e

  pub all_length : length all_set ≡ length ws
  unfolding put_worker
  all_length = slot_length g counted at e.slot ∙ length-set shared 6 _ ∙ shared_length ws j e

  pub all_off : (m : ℕ) → m ≢ steps_at → m ≢ puts_at → m ≢ top_at → m ≢ mark_at → m ≢ sub_at j → m ≢ second_at j
      → ((k : ℕ) → Read g.edition k → m ≢ at + k) → get_or all_set m 0 ≡ get_or ws m 0
  unfolding put_worker
  all_off m a b c d f h apart = slot_off g counted at e.slot m apart ∙ simp get_or-set_other

  module _ (above : second_at j < at) (long : at + worker_words g.edition ≤ length ws) where
    pub all_steps : get_or all_set steps_at 0 ≡ add32 (get_or ws steps_at 0) 1
    unfolding put_worker
    all_steps =
        slot_off g counted at e.slot 6 (λ k r u. omega arith) ∙ get_or-set_same shared 6 _ 0 (simp length-set (omega arith))
        ∙ ap (λ (x : ℕ). add32 x 1) (shared_off ws j e 6 (λ u. omega arith) (λ u. omega arith) (λ u. omega arith) (λ u. omega arith) (λ u. omega arith))

    shared_at : (m : ℕ) → m ≢ steps_at → m < at → get_or all_set m 0 ≡ get_or shared m 0
    unfolding put_worker
    shared_at m a l = slot_off g counted at e.slot m (λ k r u. omega arith) ∙ simp get_or-set_other

    pub all_puts : get_or all_set puts_at 0 ≡ e.puts
    all_puts = shared_at 7 (λ u. omega arith) (omega arith) ∙ shared_puts ws j e (omega arith)

    pub all_top : get_or all_set top_at 0 ≡ e.top
    all_top = shared_at 8 (λ u. omega arith) (omega arith) ∙ shared_top ws j e (omega arith)

    pub all_mark : get_or all_set mark_at 0 ≡ e.mark
    all_mark = shared_at 9 (λ u. omega arith) (omega arith) ∙ shared_mark ws j e (omega arith)

    pub all_first : get_or all_set (sub_at j) 0 ≡ e.first
    all_first = shared_at (sub_at j) (λ u. omega arith) (omega arith) ∙ shared_first ws j e (omega arith)

    pub all_second : get_or all_set (second_at j) 0 ≡ e.second
    all_second = shared_at (second_at j) (λ u. omega arith) (omega arith) ∙ shared_second ws j e (omega arith)

    pub all_slot : SlotOf g e.slot → slot_at g all_set at ≡ e.slot
    unfolding put_worker
    all_slot own = slot_on g counted at e.slot (simp length-set (omega arith)) own
