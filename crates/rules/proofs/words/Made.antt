-- The words of a make that was not refused say the machine's new pool.
use mathlib.Core.Path.{◌≡◌, refl, sym, ap, ◌∙◌}
use mathlib.Core.Logic.{◌≢◌, ◌⊎◌, inl, inr}
use mathlib.Core.Bool.{Bool, true, false}
use mathlib.Core.List.{List, [], ◌∷◌}
use Prim.Native.Nat.{ℕ, zero, suc, ◌+◌, ◌-◌, ◌*◌, ◌%◌, ◌≤◌, ◌<◌}
use native.Mathlib.Nat.{zero-add}
use native.Mathlib.Decide.{ℕ_discrete}
use native.Mathlib.Omega.{arith}
use lib.ListN.{length, get_or, length-set}
use lib.Seq.{get_or-set_same, get_or-set_other, sets, length-sets}
use lib.Dec.{ltb}
use borrow.Author.Tests.{ltb-false}
use Rattle.laws.specs.Choice.{cond, cases, both_true}
use Rattle.rules.specs.Answers.{out, refuse, number_of}
use Rattle.rules.specs.Layout.{worker_at, cells_at, needed, kind_at, width_at, depth_at, shift_at, rows_at, worker_count_at, steps_at, puts_at, top_at, mark_at, stride_at, edition_at, head_words, phase_word, value_word, index_word, window_word, extra_word, scan_word, seen_word, sum_word, slot_words, lost_word, bottom_word, width_word, index_at, lost_at, worker_words, windows_at, next_width_at, next_depth_at, pair_words, pair_at}
use Rattle.rules.specs.Limits.{settings_fit, windowed, most_live}
use Rattle.rules.specs.Windows.{has_windows, no_size, nth_size}
use Rattle.rules.specs.Worker.{slot_at}
use Rattle.rules.specs.Make.{zeroed, new_head, new_windows, indexed, made_words, make_of}
use Rattle.rules.proofs.Types.{Settings}
use Rattle.rules.specs.declared.Answer.TheVariants.{Moving}
use Rattle.rules.proofs.Workers.{slot_within, word_lt, words_two, windows_some, windowed_is, read_low, worker_within, workers_apart, same_worker, lost_apart}
use Rattle.rules.proofs.machine.Machine.{made_in}
use Rattle.rules.proofs.words.Lists.{sets_out, sets_in}
use Rattle.rules.proofs.words.Says.{Says, WindowsSay}
use Rattle.std.specs.Prelude.{Ok}
use Rattle.rules.specs.declared.Refusal.TheVariants.{OffLimits, TooFewWords}

-- ---- a make that was not refused
pub record Accepted (ws : List ℕ) (g : Settings) : Type 0 where
  pub limits : settings_fit g ≡ true
  pub enough : needed g ≤ length ws
  pub words : (make_of ws g).words ≡ made_words ws g

accepted_by : (ws : List ℕ) (g : Settings) (a b : Bool)
    → number_of (cond a (cond b (refuse TooFewWords ws) (out (Ok Moving) (made_words ws g))) (refuse OffLimits ws)).answer ≡ 0
    → (a ≡ true) × (b ≡ false) × ((cond a (cond b (refuse TooFewWords ws) (out (Ok Moving) (made_words ws g))) (refuse OffLimits ws)).words ≡ made_words ws g)
unfolding cond
accepted_by ws g true true e = absurd (omega arith)
accepted_by ws g true false e = (refl, refl, refl)
accepted_by ws g false b e = absurd (omega arith)

pub accepted : (ws : List ℕ) (g : Settings) → number_of (make_of ws g).answer ≡ 0 → Accepted ws g
unfolding make_of
accepted ws g e =
    let t = accepted_by ws g (settings_fit g) (ltb (length ws) (needed g)) e in
    record { limits = t.0; enough = ltb-false _ _ t.1; words = t.2 }

-- ---- its words
zeroed_length : (ws : List ℕ) (n : ℕ) → length (zeroed ws n) ≡ length ws
unfolding zeroed
zeroed_length ws zero = refl
zeroed_length ws (suc n) = length-set (zeroed ws n) n 0 ∙ zeroed_length ws n

zeroed_at : (ws : List ℕ) (n m : ℕ) → n ≤ length ws → m < n → get_or (zeroed ws n) m 0 ≡ 0
unfolding zeroed
zeroed_at ws zero m l h = absurd (omega arith)
zeroed_at ws (suc n) m l h = elim (ℕ_discrete m n) [
  | yes e ↦ rw e (get_or-set_same (zeroed ws n) n 0 0 (rw (zeroed_length ws n) (omega arith)))
  | no ne ↦ get_or-set_other (zeroed ws n) n m 0 0 ne ∙ zeroed_at ws n m (omega arith) (omega arith)
]

indexed_length : (ws : List ℕ) (g : Settings) (n : ℕ) → length (indexed ws g n) ≡ length ws
unfolding indexed
indexed_length ws g zero = refl
indexed_length ws g (suc n) = length-set (indexed ws g n) (index_at (worker_at g n)) (n % g.width) ∙ indexed_length ws g n

indexed_off : (ws : List ℕ) (g : Settings) (n m : ℕ) → ((i : ℕ) → i < n → m ≢ index_at (worker_at g i)) → get_or (indexed ws g n) m 0 ≡ get_or ws m 0
unfolding indexed
indexed_off ws g zero m h = refl
indexed_off ws g (suc n) m h =
    get_or-set_other (indexed ws g n) (index_at (worker_at g n)) m (n % g.width) 0 (h n (omega arith)) ∙ indexed_off ws g n m (λ i l. h i (omega arith))

indexed_at : (ws : List ℕ) (g : Settings) (n i : ℕ) → worker_at g n ≤ length ws → i < n → get_or (indexed ws g n) (index_at (worker_at g i)) 0 ≡ i % g.width
unfolding indexed
indexed_at ws g zero i l h = absurd (omega arith)
indexed_at ws g (suc n) i l h = elim (ℕ_discrete i n) [
  | yes e ↦ rw e (get_or-set_same (indexed ws g n) (index_at (worker_at g n)) (n % g.width) 0 (rw (indexed_length ws g n) (omega (arith, apart, slot_within g.edition))))
  | no ne ↦
      get_or-set_other (indexed ws g n) (index_at (worker_at g n)) (index_at (worker_at g i)) (n % g.width) 0 (λ u. ne (same_worker g i n index_word index_word among among u))
      ∙ indexed_at ws g n i (omega (arith, apart)) (omega arith)
]
  where
    apart : worker_at g n + worker_words g.edition ≤ worker_at g (suc n)
    apart = workers_apart g n (suc n) (omega arith)

    among : index_word < worker_words g.edition
    among = word_lt g.edition index_word (omega arith)

module _ (ws : List ℕ) (g : Settings) (enough : needed g ≤ length ws) where
  abbrev topped : List ℕ
  topped = sets (zeroed ws (needed g)) 0 (new_head g)

  abbrev headed : List ℕ
  headed = sets topped (windows_at g) (new_windows g)

  abbrev made : List ℕ
  made = indexed headed g g.workers

  topped_length : length topped ≡ length ws
  topped_length = length-sets (zeroed ws (needed g)) 0 (new_head g) ∙ zeroed_length ws (needed g)

  headed_length : length headed ≡ length ws
  headed_length = length-sets topped (windows_at g) (new_windows g) ∙ topped_length

  -- words 0 to 11
  head : (m : ℕ) → m < head_words → get_or made m 0 ≡ get_or (new_head g) m 0
  head m l =
      let a : get_or topped (0 + m) 0 ≡ get_or (new_head g) m 0 = sets_in (new_head g) (zeroed ws (needed g)) 0 m l (rw (zeroed_length ws (needed g)) (omega arith)) in
      indexed_off headed g g.workers m (λ i k u. omega arith) ∙ sets_out (new_windows g) topped (windows_at g) m (inl (omega arith)) ∙ (rw (zero-add m) at a)

  -- a needed word beyond them, but a worker's index and a window's
  rest_word : (m : ℕ) → head_words ≤ m → m < needed g → get_or topped m 0 ≡ 0
  rest_word m a b = sets_out (new_head g) (zeroed ws (needed g)) 0 m (inr (omega arith)) ∙ zeroed_at ws (needed g) m enough b

  zero_word : (m : ℕ) → head_words ≤ m → m < needed g → ((i : ℕ) → i < g.workers → m ≢ index_at (worker_at g i)) → (m < windows_at g) ⊎ (windows_at g + length (new_windows g) ≤ m) → get_or made m 0 ≡ 0
  zero_word m a b h o = indexed_off headed g g.workers m h ∙ sets_out (new_windows g) topped (windows_at g) m o ∙ rest_word m a b

  -- the words of the windows
  window_word_law : (k : ℕ) → windows_at g + k < needed g → get_or made (windows_at g + k) 0 ≡ get_or headed (windows_at g + k) 0
  window_word_law k l = indexed_off headed g g.workers (windows_at g + k) (λ i m u. omega (arith, worker_within g i m, slot_within g.edition))

  made_slot : (i : ℕ) → i < g.workers → slot_at g made (worker_at g i) ≡ (made_in g).slot i
  unfolding slot_at made_in
  made_slot i l =
      let inside : worker_at g i + worker_words g.edition ≤ cells_at g = worker_within g i l in
      let any : (k : ℕ) → k < worker_words g.edition → k ≢ index_word → get_or made (worker_at g i + k) 0 ≡ 0 =
      λ k a n. zero_word (worker_at g i + k) (omega arith) (omega (arith, inside)) (λ m b u. n (index_only m k a u)) (inl (omega (arith, inside))) in
      let word : (k : ℕ) → k < slot_words → k ≢ index_word → get_or made (worker_at g i + k) 0 ≡ 0 = λ k a n. any k (word_lt g.edition k a) n in
      let seen : (k : ℕ) → lost_word < k → k ≤ width_word → cond (windowed g) (get_or made (worker_at g i + k) 0) 0 ≡ 0 =
      λ k a b. cases (λ (x : ℕ). x ≡ 0) (windowed g) _ _ (λ e. any k (omega (arith, words_two g.edition (windowed_is g e))) (λ z. omega arith)) (λ e. refl) in
      let zero_first : worker_at g i + 0 ≡ worker_at g i = omega arith in
      let number : get_or made (worker_at g i) 0 ≡ 0 = rw zero_first at (word phase_word (omega arith) (λ z. omega arith)) in
      let index = indexed_at headed g g.workers i (rw headed_length (omega arith)) l in
      λ u. record {
        number = number u;
        value = word value_word (omega arith) (λ z. omega arith) u;
        index = index u;
        window = word window_word (omega arith) (λ z. omega arith) u;
        extra = word extra_word (omega arith) (λ z. omega arith) u;
        scan = word scan_word (omega arith) (λ z. omega arith) u;
        seen = word seen_word (omega arith) (λ z. omega arith) u;
        sum = word sum_word (omega arith) (λ z. omega arith) u;
        bottom = seen bottom_word (omega arith) (omega arith) u;
        width = seen width_word (omega arith) (omega arith) u;
      }
    where
      index_only : (m k : ℕ) → k < worker_words g.edition → worker_at g i + k ≡ index_at (worker_at g m) → k ≡ index_word
      index_only m k a u =
          let one : i ≡ m = same_worker g i m k index_word a (word_lt g.edition index_word (omega arith)) u in
          let here : worker_at g m + k ≡ index_at (worker_at g m) = rw one at u in
          omega arith

  -- no commit has failed
  pub made_card : (i : ℕ) → i < g.workers → lost_word < worker_words g.edition → get_or (made_words ws g) (lost_at (worker_at g i)) 0 ≡ 0
  unfolding made_words
  made_card i l cards =
      zero_word (lost_at (worker_at g i)) (omega arith) (omega (arith, worker_within g i l))
      (λ m b u. lost_apart g i m index_word cards (read_low g.edition index_word (omega arith)) (sym u)) (inl (omega (arith, worker_within g i l)))

  no_windows : has_windows g ≡ false → length (new_windows g) ≡ 0
  unfolding cond
  no_windows none = rw none refl

  abbrev first_windows : List ℕ
  first_windows = g.width ∷ g.depth ∷ 0 ∷ 1 ∷ g.width ∷ g.depth ∷ []

  new_windows_law : has_windows g ≡ true → new_windows g ≡ first_windows
  unfolding cond
  new_windows_law has = rw has refl

  -- one window is live, of the pool's size, and it is the next one's too
  made_windows : has_windows g ≡ true → WindowsSay g made (made_in g)
  unfolding made_in
  made_windows has =
      let more = windows_some g.edition (windowed_is g (both_true (windowed g) _ has).0) in
      let put : (k : ℕ) → k < 6 → get_or made (windows_at g + k) 0 ≡ get_or first_windows k 0 =
      λ k l. window_word_law k (omega arith) ∙ ap (λ (xs : List ℕ). get_or (sets topped (windows_at g) xs) (windows_at g + k) 0) (new_windows_law has)
      ∙ sets_in first_windows topped (windows_at g) k l (rw topped_length (omega arith)) in
      let beyond : (k : ℕ) → 6 ≤ k → k < 36 → get_or made (windows_at g + k) 0 ≡ 0 =
      λ k l m. window_word_law k (omega arith) ∙ ap (λ (xs : List ℕ). get_or (sets topped (windows_at g) xs) (windows_at g + k) 0) (new_windows_law has)
      ∙ sets_out first_windows topped (windows_at g) (windows_at g + k) (inr (omega arith)) ∙ rest_word (windows_at g + k) (omega arith) (omega arith) in
      let at_zero : windows_at g + 0 ≡ windows_at g = omega arith in
      let w : get_or made (next_width_at g) 0 ≡ g.width = rw at_zero at (put 0 (omega arith)) in
      let d : get_or made (next_depth_at g) 0 ≡ g.depth = put 1 (omega arith) in
      record {
        next = λ u. record { width = w u; depth = d u };
        set = put 2 (omega arith);
        live = put 3 (omega arith);
        size = λ k l. only k (omega arith) (put 4 (omega arith)) (put 5 (omega arith));
        none = λ k l m. past k (omega arith) m beyond;
      }
    where
      only : (k : ℕ) → k ≡ 0 → get_or made (windows_at g + 4) 0 ≡ g.width → get_or made (windows_at g + 5) 0 ≡ g.depth
          → nth_size made g k ≡ record { width = g.width; depth = suc (0 + k) * g.depth - (0 + k) * g.depth }
      only k z w d =
          let a : pair_at g k ≡ windows_at g + 4 = omega arith in
          let b : pair_at g k + 1 ≡ windows_at g + 5 = omega arith in
          let deep : suc (0 + k) * g.depth - (0 + k) * g.depth ≡ g.depth = rw z (omega arith) in
          let w' : get_or made (pair_at g k) 0 ≡ g.width = rw a w in
          let d' : get_or made (pair_at g k + 1) 0 ≡ g.depth = rw b d in
          rw deep (λ u. record { width = w' u; depth = d' u })

      past : (k : ℕ) → 1 ≤ k → k < most_live → ((k : ℕ) → 6 ≤ k → k < 36 → get_or made (windows_at g + k) 0 ≡ 0) → nth_size made g k ≡ no_size
      past k l m beyond =
          let a : pair_at g k ≡ windows_at g + (4 + pair_words * k) = omega arith in
          let b : pair_at g k + 1 ≡ windows_at g + (5 + pair_words * k) = omega arith in
          let w : get_or made (pair_at g k) 0 ≡ 0 = rw a (beyond (4 + pair_words * k) (omega arith) (omega arith)) in
          let d : get_or made (pair_at g k + 1) 0 ≡ 0 = rw b (beyond (5 + pair_words * k) (omega arith) (omega arith)) in
          λ u. record { width = w u; depth = d u }

  pub made_says : Says g (made_words ws g) (made_in g)
  unfolding made_words made_in
  made_says =
      record {
        long = rw (indexed_length headed g g.workers, headed_length) enough;
        settings = λ u. record {
          kind = head kind_at (omega arith) u;
          width = head width_at (omega arith) u;
          depth = head depth_at (omega arith) u;
          shift = head shift_at (omega arith) u;
          rows = head rows_at (omega arith) u;
          workers = head worker_count_at (omega arith) u;
          stride = head stride_at (omega arith) u;
          edition = head edition_at (omega arith) u;
        };
        steps = head steps_at (omega arith);
        puts = head puts_at (omega arith);
        top = head top_at (omega arith);
        mark = head mark_at (omega arith);
        first = λ j l. zero_word _ (omega arith) (omega arith) (λ i k u. omega arith) (inl (omega arith));
        second = λ j l. zero_word _ (omega arith) (omega arith) (λ i k u. omega arith) (inl (omega arith));
        slot = made_slot;
        cell = λ j r l a b y. absurd (omega arith);
        windows = made_windows;
        blank = λ none k l.
            let short : length (new_windows g) ≡ 0 = no_windows none in
            window_word_law k (omega arith) ∙ sets_out (new_windows g) topped (windows_at g) (windows_at g + k) (inr (omega arith)) ∙ rest_word (windows_at g + k) (omega arith) (omega arith);
      }
