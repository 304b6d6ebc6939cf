-- There and back: a word of a pool is one of the head or the subs, of a worker, or of the cells; a move keeps each, but the edition, which the move back
-- restores, and the workers' words that one of the editions does not have.
use Prim.Native.Nat.{ℕ, zero, suc, ◌+◌, ◌-◌, ◌*◌, ◌≤◌, ◌<◌}
use mathlib.Core.Path.{◌≡◌, refl, sym, ap, subst, ◌∙◌}
use mathlib.Core.Logic.{◌≢◌, inr}
use mathlib.Core.Bool.{Bool, true, false}
use mathlib.Core.List.{List}
use native.Mathlib.Nat.{zero-add, mul-zero, mul-suc}
use native.Mathlib.Decide.{ℕ_discrete, dec_lt}
use native.Mathlib.Omega.{arith}
use lib.ListN.{get_or, length, length-set}
use lib.Seq.{get_or-set_same, get_or-set_other, ext_get_or, paste, length-paste}
use lib.Dec.{leb, eqb}
use borrow.Author.Tests.{lt-ltb, le-ltb}
use Rattle.laws.specs.Choice.{cond, both_true}
use Rattle.rules.specs.Answers.{out}
use Rattle.rules.specs.Layout.{edition_at, settings_of, worker_words, slot_words, lost_word, bottom_word, workers_at, worker_at, lost_at, cell_words, cells_at, needed}
use Rattle.rules.specs.Limits.{most_live}
use Rattle.rules.specs.Windows.{has_windows}
use Rattle.rules.specs.Make.{shipped, in_edition}
use Rattle.turnaround.specs.Move.{leads, may_move, word_in, own_live, moved_words, move_of}
use Rattle.untouched.specs.Untouched.{Beyond}
use Rattle.turnaround.specs.Turnaround.{Moved, without_cards, OldToNewToOld, NewToOldToNew}
use Rattle.rules.specs.declared.Answer.TheVariants.{Moving}
use Rattle.turnaround.proofs.Types.{Settings}
use Rattle.rules.proofs.Workers.{word_lt, words_none, words_one, windows_none, read_low, worker_within, same_worker, lost_apart}
use Rattle.rules.proofs.machine.Slots.{has_none}
use Rattle.turnaround.proofs.Stores.{windowed_old}
use Rattle.turnaround.proofs.Only.{copy_only, copied}
use Rattle.turnaround.proofs.Words.{edition_word, moved_word}
use Rattle.turnaround.proofs.Fits.{Movable, source_pool, source_long, few_live}
use Rattle.turnaround.proofs.Moved.{new_zero, moved_is, move_accepted, move_accepts}
use Rattle.std.specs.Prelude.{Ok}

-- ---- where a needed word lies
data Part (g : Settings) (m : ℕ) : Type 0 where
  in_head : m < workers_at g → Part g m
  in_worker : (i k : ℕ) → i < g.workers → k < worker_words g.edition → m ≡ worker_at g i + k → Part g m
  in_cells : (n : ℕ) → n < cell_words * (g.width * g.rows) → m ≡ cells_at g + n → Part g m

-- of n rows of c words each
row_of : (c n q : ℕ) → q < c * n → (i : ℕ) × (k : ℕ) × (i < n) × (k < c) × (q ≡ c * i + k)
row_of c zero q l = absurd (omega (arith, mul-zero c))
row_of c (suc n) q l = elim (dec_lt q (c * n)) [
  | yes y ↦ let r = row_of c n q y in (r.0, r.1, omega (arith, r.2), r.3, r.4)
  | no z ↦ (n, q - c * n, omega arith, omega (arith, mul-suc c n), omega arith)
]

part : (g : Settings) (m : ℕ) → g.edition < 2 → m < needed g → Part g m
part g m old l = elim (dec_lt m (workers_at g)) [
  | yes y ↦ in_head y
  | no z ↦ elim (dec_lt m (cells_at g)) [
    | yes y ↦ let r = row_of (worker_words g.edition) g.workers (m - workers_at g) (omega arith) in in_worker r.0 r.1 r.2 r.3 (omega (arith, r.4))
    | no x ↦ in_cells (m - cells_at g) (omega (arith, windows_none g.edition old)) (omega arith)
  ]
]

-- ---- a pool moved on, and back again
-- a move that leads on leads back
leads_back : (a b : ℕ) → leads a b ≡ true → leads b a ≡ true
unfolding cond
leads_back a b e =
    let t = both_true (leb a shipped) _ e in
    let r = both_true (leb b shipped) _ t.1 in
    rw (r.0, t.0) (by (eqb b (a + 1)) refl (eqb a (b + 1)) refl r.1)
  where
    by : (x : Bool) → eqb b (a + 1) ≡ x → (y : Bool) → eqb a (b + 1) ≡ y → cond x true y ≡ true → cond y true x ≡ true
    by true u true v z = refl
    by true u false v z = refl
    by false u true v z = refl
    by false u false v z = z

module _ (b : ℕ) (from : List ℕ) (g : Settings) (middle to : List ℕ) (old : g.edition < 2) (on : Movable b from g middle)
    (back : needed g ≤ length to) (may : may_move (moved_words from g middle (in_edition b g)) (in_edition b g) g ≡ true) where
  abbrev h : Settings
  h = in_edition b g

  abbrev there : List ℕ
  there = moved_words from g middle h

  abbrev again : List ℕ
  again = moved_words there h to g

  there_is : Moved g.edition b from g middle there
  there_is = moved_is b from g middle on

  movable_back : Movable g.edition there h to
  movable_back = record { fit = there_is.fit_after; leads_on = leads_back g.edition b on.leads_on; may = may; long = back }

  goes_back : move_of b g.edition there to ≡ out (Ok Moving) again
  goes_back = move_accepts g.edition there h to movable_back

  again_is_moved : Moved b g.edition there h to again
  again_is_moved = moved_is g.edition there h to movable_back

  enough_there : needed h ≤ length there
  enough_there = source_long g.edition there h to movable_back

  few_there : has_windows g ≡ true → own_live there h ≤ most_live
  few_there = few_live g.edition there h to movable_back

  -- the words of a list that has at each place what is there after both moves
  module _ (ws : List ℕ) (long : needed g ≤ length ws)
      (head : (m : ℕ) → m < workers_at g → get_or ws m 0 ≡ get_or from m 0)
      (word : (i k : ℕ) → i < g.workers → k < worker_words g.edition → get_or ws (worker_at g i + k) 0 ≡ word_in there h i k)
      (cell : (m : ℕ) → m < cell_words * (g.width * g.rows) → get_or ws (cells_at g + m) 0 ≡ get_or from (cells_at g + m) 0) where
    at_part : (m : ℕ) → Part g m → get_or again m 0 ≡ get_or ws m 0
    at_part m (in_head l) = elim (ℕ_discrete m edition_at) [
      | yes y ↦
          rw y
          (edition_word there h to g.edition enough_there back few_there
          ∙ sym (ap (λ (f : Settings). f.edition) (source_pool b from g middle on).settings)
          ∙ sym (head edition_at (omega arith)))
      | no n ↦ again_is_moved.head m l n ∙ there_is.head m l n ∙ sym (head m l)
    ]
    at_part m (in_worker i k l a e) = rw e (moved_word there h to g.edition enough_there back few_there i k l a ∙ sym (word i k l a))
    at_part m (in_cells n l e) =
        rw e (again_is_moved.cell n l ∙ there_is.cell n l ∙ sym (cell n l))

    again_is : again ≡ paste to 0 ws (needed g)
    again_is =
        ext_get_or 0 again (paste to 0 ws (needed g)) (beyond.length_same ∙ sym (length-paste to 0 ws (needed g) (omega arith) long)) (λ m l. elim (dec_lt m (needed g)) [
          | yes y ↦ at_part m (part g m old y) ∙ sym (rw (zero-add m) at (copied to 0 ws (needed g) m y (omega arith) long))
          | no z ↦ beyond.same m (omega arith) ∙ sym ((copy_only to 0 ws (needed g) (needed g) (omega arith) (omega arith) long).off m (inr (omega arith)))
        ])
      where
        beyond : Beyond (needed g) to again
        beyond = again_is_moved.beyond

    pub there_and_back : move_of b g.edition there to ≡ out (Ok Moving) (paste to 0 ws (needed g))
    there_and_back = goes_back ∙ ap (out (Ok Moving)) again_is

-- what the pool that was moved on has of a worker, where the editions have it
pub word_kept : (b : ℕ) (from : List ℕ) (g : Settings) (middle : List ℕ) → Movable b from g middle
    → (i k : ℕ) → i < g.workers → k < worker_words g.edition → k < worker_words b
    → word_in (moved_words from g middle (in_edition b g)) (in_edition b g) i k ≡ get_or from (worker_at g i + k) 0
unfolding cond
word_kept b from g middle on i k l a z = rw (lt-ltb k (worker_words b) z) ((moved_is b from g middle on).kept i k l a z)

-- and where the one between has not: a card
word_dropped : (from : List ℕ) (h : Settings) (i k : ℕ) → worker_words h.edition ≤ k → k < bottom_word → word_in from h i k ≡ 0
unfolding cond
word_dropped from h i k l z = rw (le-ltb k (worker_words h.edition) l) (new_zero h _ k z)

-- between editions without windows of their own sizes every fit pool moves
may_low : (from : List ℕ) (g h : Settings) → g.edition < 2 → h.edition < 2 → may_move from g h ≡ true
unfolding may_move cond
may_low from g h old new = rw (has_none h (windowed_old h new), has_none g (windowed_old g old)) refl

pub old_to_new_to_old : OldToNewToOld
old_to_new_to_old from middle to none long =
    let w = move_accepted 0 1 from middle none in
    let g = settings_of from in
    let on = w.movable in
    let zero : g.edition ≡ 0 = w.edition in
    let old : g.edition < 2 = omega arith in
    let few = words_none g.edition zero in
    let same = there_and_back 1 from g middle to old on long (may_low _ (in_edition 1 g) g (omega arith) old) from (source_long 1 from g middle on) (λ m l. refl)
    (λ i k l a. sym (word_kept 1 from g middle on i k l a (word_lt 1 k (omega arith)))) (λ m l. refl) in
    rw w.is (subst (λ (a : ℕ). move_of 1 a (moved_words from g middle (in_edition 1 g)) to ≡ out (Ok Moving) (paste to 0 from (needed g))) zero same)

-- ---- without cards
module _ (from : List ℕ) (g : Settings) (cards : lost_word < worker_words g.edition) where
  without_long : (n : ℕ) → length (without_cards from g n) ≡ length from
  unfolding without_cards
  without_long zero = refl
  without_long (suc n) = length-set (without_cards from g n) (lost_at (worker_at g n)) 0 ∙ without_long n

  without_off : (n m : ℕ) → ((i : ℕ) → i < n → m ≢ lost_at (worker_at g i)) → get_or (without_cards from g n) m 0 ≡ get_or from m 0
  unfolding without_cards
  without_off zero m h = refl
  without_off (suc n) m h =
      get_or-set_other (without_cards from g n) (lost_at (worker_at g n)) m 0 0 (h n (omega arith)) ∙ without_off n m (λ i l. h i (omega arith))

  without_on : (n i : ℕ) → n ≤ g.workers → i < n → cells_at g ≤ length from → get_or (without_cards from g n) (lost_at (worker_at g i)) 0 ≡ 0
  unfolding without_cards
  without_on zero i a l long = absurd (omega arith)
  without_on (suc n) i a l long = elim (ℕ_discrete i n) [
    | yes y ↦
        rw y (get_or-set_same (without_cards from g n) (lost_at (worker_at g n)) 0 0 (rw (without_long n) (omega (arith, worker_within g n a))))
    | no z ↦
        get_or-set_other (without_cards from g n) (lost_at (worker_at g n)) (lost_at (worker_at g i)) 0 0 (λ u. z (same_worker g i n lost_word lost_word cards cards u))
        ∙ without_on n i (omega arith) (omega arith) long
  ]

pub new_to_old_to_new : NewToOldToNew
new_to_old_to_new from middle to none long =
    let w = move_accepted 1 0 from middle none in
    let g = settings_of from in
    let on = w.movable in
    let one : g.edition ≡ 1 = w.edition in
    let old : g.edition < 2 = omega arith in
    let nine = words_one g.edition one in
    let eight = words_none 0 refl in
    let enough = source_long 0 from g middle on in
    let cards : lost_word < worker_words g.edition = omega arith in
    let there = moved_words from g middle (in_edition 0 g) in
    let ws = without_cards from g g.workers in
    let word : (i k : ℕ) → i < g.workers → k < worker_words g.edition → get_or ws (worker_at g i + k) 0 ≡ word_in there (in_edition 0 g) i k =
    λ i k l a. elim (dec_lt k slot_words) [
      | yes y ↦
          without_off from g cards g.workers _ (λ j m. lost_apart g j i k cards (read_low g.edition k y))
          ∙ sym (word_kept 0 from g middle on i k l a (omega arith))
      | no z ↦
          let last : k ≡ lost_word = omega arith in
          rw last (without_on from g cards g.workers i (omega arith) l (omega arith) ∙ sym (word_dropped there (in_edition 0 g) i lost_word (omega arith) (omega arith)))
    ] in
    let same = there_and_back 0 from g middle to old on long (may_low _ (in_edition 0 g) g (omega arith) old) ws (rw (without_long from g cards g.workers) enough)
    (λ m l. without_off from g cards g.workers m (λ i a u. omega arith)) word
    (λ m l. without_off from g cards g.workers _ (λ i a u. omega (arith, worker_within g i a))) in
    rw w.is (subst (λ (a : ℕ). move_of 0 a there to ≡ out (Ok Moving) (paste to 0 ws (needed g))) one same)
