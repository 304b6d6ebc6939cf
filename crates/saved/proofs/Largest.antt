-- A move looks at no word beyond those that the largest pool of its editions needs: with the first n words of the source, n as many as that, it is what
-- it is with all of them. Either the source has no more, or each word that the check and the move read is among the first n.
use Prim.Native.Nat.{ℕ, zero, suc, ◌+◌, ◌-◌, ◌*◌, ◌%◌, ◌≤◌, ◌<◌}
use mathlib.Core.Bool.{Bool, true, false}
use mathlib.Core.Path.{◌≡◌, refl, sym, ap, subst, ◌∙◌}
use mathlib.Core.List.{List, [], ◌∷◌}
use native.Mathlib.Nat.{le_refl, mul-le-mul}
use native.Mathlib.Decide.{dec_lt}
use native.Mathlib.Omega.{arith}
use lib.ListN.{take, drop, length, get_or}
use lib.Seq.{take_all, take-take, get_or-take, length-take-le}
use lib.Dec.{ltb, leb, eqb}
use borrow.Author.Tests.{le-ltb, ltb-true, leb-true, eqb-true}
use Rattle.laws.specs.Choice.{cond, both, all, cond_false, cond_both, both_true, all_holds, all_below, all_below_same}
use Rattle.rules.specs.Answers.{Out, refuse}
use Rattle.rules.specs.Layout.{head_words, top_at, mark_at, first_at, first_of, second_at, second_of, worker_words, workers_at, worker_at, cell_words, cells_at, next_width_at, next_depth_at, set_at, live_at, pair_at, windows_at, windows_words, needed, most_words, settings_of}
use Rattle.rules.specs.Limits.{settings_fit, windowed, size_fit, most_live, Bounds}
use Rattle.rules.specs.Windows.{has_windows, next_size, live_of, nth_size, bottom_of, higher, level_of}
use Rattle.rules.specs.Worker.{slot_at}
use Rattle.rules.specs.Make.{shipped, in_edition}
use Rattle.rules.specs.Fit.{Checked, Unfit, Fit, FitPool, sub_fit, subs_fit, workers_fit, no_size_fit, pair_fit, sizes_fit, tops_fit, windows_fit, body_checked, head_checked, checked_by, source_checked}
use Rattle.turnaround.specs.Move.{leads, subs_fit_in, seen_on, on_limits, own_size, seen_back, back_limits, may_move, word_in, worker_moved, workers_moved, head_moved, cells_moved, windows_moved, moved_words, fit_move, checked_move, move_of}
use Rattle.rules.specs.declared.Refusal.{Refusal}
use Rattle.rules.specs.declared.Settings.{Settings}
use Rattle.rules.proofs.Fitness.{settings_bounds, fit_with_other, fit_pool}
use Rattle.rules.proofs.Workers.{words_few, windows_few, windows_some, windowed_is, word_within}
use Rattle.rules.proofs.words.Writes.{settings_kept, slot_kept}
use Rattle.rules.specs.declared.Refusal.TheVariants.{NotFit, TooFewWords, WrongEdition}

pub needed_most : (g : Settings) → Bounds g → needed g ≤ most_words shipped
unfolding worker_words windows_words
needed_most g b =
    let workers = mul-le-mul {n₁ = worker_words g.edition} {m₁ = g.workers} (words_few g.edition) b.workers32 in
    omega (arith, windows_few g.edition, b.width16, b.cells)

-- the second of two tests is asked only where the first holds
both_under : (b : Bool) {x y : Bool} → (b ≡ true → x ≡ y) → both b x ≡ both b y
both_under true e = e refl
both_under false e = refl

-- a part that ends within the first n
part_taken : (c m n : ℕ) (ws : List ℕ) → c + m ≤ n → take m (drop c (take n ws)) ≡ take m (drop c ws)
part_taken zero m n ws l = take-take m n ws (omega arith)
part_taken (suc c) m zero ws l = absurd (omega arith)
part_taken (suc c) m (suc n) [] l = refl
part_taken (suc c) m (suc n) (x ∷ ws) l = part_taken c m n ws (omega arith)

module _ (n : ℕ) (ws : List ℕ) (more : n ≤ length ws) where
  abbrev first : List ℕ
  first = take n ws

  size : length first ≡ n
  size = length-take-le n ws more

  long : (k : ℕ) → k ≤ n → ltb (length first) k ≡ ltb (length ws) k
  long k l = rw (le-ltb (length first) k (omega (arith, size)), le-ltb (length ws) k (omega arith)) refl

  module _ (g : Settings) (fits : needed g ≤ n) where
    word : (m : ℕ) → m < needed g → get_or first m 0 ≡ get_or ws m 0
    word m l = get_or-take n ws m 0 (omega arith)

    first_taken : (j : ℕ) → j < g.width → first_of first j ≡ first_of ws j
    first_taken j l = word (first_at j) (omega arith)

    second_taken : (j : ℕ) → j < g.width → second_of first j ≡ second_of ws j
    second_taken j l = word (second_at j) (omega arith)

    slot_taken : (i : ℕ) → i < g.workers → slot_at g first (worker_at g i) ≡ slot_at g ws (worker_at g i)
    slot_taken i l = slot_kept g ws first (worker_at g i) (λ k r. word (worker_at g i + k) (word_within g i k (needed g) l r.there (le_refl _)))

    -- ---- the windows
    module _ (w : windowed g ≡ true) where
      some : windows_words g.edition ≡ 36
      some = windows_some g.edition (windowed_is g w)

      next_taken : next_size first g ≡ next_size ws g
      next_taken = let a = word (next_width_at g) (omega (arith, some)) in let b = word (next_depth_at g) (omega (arith, some)) in λ u. record { width = a u; depth = b u }

      set_taken : get_or first (set_at g) 0 ≡ get_or ws (set_at g) 0
      set_taken = word (set_at g) (omega (arith, some))

      live_taken : live_of first g ≡ live_of ws g
      live_taken = word (live_at g) (omega (arith, some))

      size_taken : (k : ℕ) → k < most_live → nth_size first g k ≡ nth_size ws g k
      size_taken k l = let a = word (pair_at g k) (omega (arith, some)) in let b = word (pair_at g k + 1) (omega (arith, some)) in λ u. record { width = a u; depth = b u }

      bottom_taken : (k : ℕ) → k ≤ most_live → bottom_of first g k ≡ bottom_of ws g k
      unfolding bottom_of
      bottom_taken zero l = let mark = word mark_at (omega arith) in λ u. mark u - (size_taken 0 (omega arith) u).depth
      bottom_taken (suc k) l = λ u. bottom_taken k (omega arith) u + (size_taken k l u).depth

      sizes_taken : all (sizes_fit first g) ≡ all (sizes_fit ws g)
      sizes_taken =
          let pairs : all_below most_live (pair_fit first g) ≡ all_below most_live (pair_fit ws g) =
          all_below_same most_live _ _ (λ k l u. cond (ltb k (live_taken u)) (size_fit g (size_taken k l u)) (no_size_fit (size_taken k l u))) in
          λ u. all (leb 1 (live_taken u) ∷ leb (live_taken u) most_live ∷ size_fit g (next_taken u) ∷ pairs u ∷ [])

      tops_taken : live_of ws g ≤ most_live → all (tops_fit first g) ≡ all (tops_fit ws g)
      tops_taken few =
          let mark = word mark_at (omega arith) in
          let top = word top_at (omega arith) in
          let lead : bottom_of first g (live_of first g) ≡ bottom_of ws g (live_of ws g) = ap (bottom_of first g) live_taken ∙ bottom_taken (live_of ws g) few in
          λ u. all (leb (size_taken 0 (omega arith) u).depth (mark u) ∷ eqb (lead u) (top u) ∷ [])

      some_taken : both (leb (get_or first (set_at g) 0) 1) (both (all (sizes_fit first g)) (all (tops_fit first g)))
          ≡ both (leb (get_or ws (set_at g) 0) 1) (both (all (sizes_fit ws g)) (all (tops_fit ws g)))
      some_taken =
          rw (set_taken, sizes_taken)
          (ap (both (leb (get_or ws (set_at g) 0) 1))
          (both_under (all (sizes_fit ws g)) (λ e. tops_taken (leb-true _ _ (all_holds (sizes_fit ws g) e).1.0))))

    -- ---- the check
    -- the subs by their bottom, where that is looked at
    sub_taken : (j : ℕ) → j < g.width → sub_fit g (bottom_of first g 0) (first_of ws j) (second_of ws j) ≡ sub_fit g (bottom_of ws g 0) (first_of ws j) (second_of ws j)
    unfolding sub_fit level_of
    sub_taken j l = go (windowed g) refl
      where
        go : (b : Bool) → windowed g ≡ b → sub_fit g (bottom_of first g 0) (first_of ws j) (second_of ws j) ≡ sub_fit g (bottom_of ws g 0) (first_of ws j) (second_of ws j)
        go true w = rw (bottom_taken w 0 (omega arith)) refl
        go false old = rw (old, cond_false (higher (second_of ws j) (bottom_of first g 0)) (second_of ws j), cond_false (higher (second_of ws j) (bottom_of ws g 0)) (second_of ws j)) refl

    subs_taken : subs_fit first g ≡ subs_fit ws g
    unfolding subs_fit
    subs_taken = all_below_same g.width _ _ (λ j l. rw (first_taken j l, second_taken j l) (sub_taken j l))

    workers_taken : workers_fit first g ≡ workers_fit ws g
    unfolding workers_fit
    workers_taken = all_below_same g.workers _ _ (λ i l. rw (slot_taken i l) refl)

    windows_taken : windows_fit first g ≡ windows_fit ws g
    unfolding windows_fit
    windows_taken =
        cond_both (λ (x y : Bool). x ≡ y) (has_windows g) (λ has. some_taken (both_true (windowed g) _ has).0)
        (λ none. all_below_same (windows_words g.edition) _ _ (λ k l. rw (word (windows_at g + k) (omega arith)) refl))

    body_taken : body_checked first g ≡ body_checked ws g
    unfolding body_checked
    body_taken = rw (long (needed g) fits, windows_taken, subs_taken, workers_taken) refl

    -- ---- the move
    module _ (h : Settings) where
      -- which pools move: of a fit one no more windows are looked at than there are pairs
      asked_taken : h.width ≡ g.width → subs_fit_in first h ≡ subs_fit_in ws h
      asked_taken wide =
          let mark = word mark_at (omega arith) in
          all_below_same h.width _ _ (λ j l. rw (first_taken j (omega arith), second_taken j (omega arith), mark) refl)

      on_taken : h.width ≡ g.width → all (on_limits first g h) ≡ all (on_limits ws g h)
      on_taken wide =
          let mark = word mark_at (omega arith) in
          let top = word top_at (omega arith) in
          let seen : all_below g.workers (λ i. seen_on g (slot_at g first (worker_at g i))) ≡ all_below g.workers (λ i. seen_on g (slot_at g ws (worker_at g i))) =
          all_below_same g.workers _ _ (λ i l. rw (slot_taken i l) refl) in
          rw (asked_taken wide, seen, mark, top) refl

      back_taken : h.width ≡ g.width → windowed g ≡ true → live_of ws g ≤ most_live → all (back_limits first g h) ≡ all (back_limits ws g h)
      back_taken wide w few =
          let seen : all_below g.workers (λ i. seen_back g (slot_at g first (worker_at g i))) ≡ all_below g.workers (λ i. seen_back g (slot_at g ws (worker_at g i))) =
          all_below_same g.workers _ _ (λ i l. rw (slot_taken i l) refl) in
          let live : all_below (live_of first g) (λ k. own_size g (nth_size first g k)) ≡ all_below (live_of ws g) (λ k. own_size g (nth_size ws g k)) =
          ap (λ (m : ℕ). all_below m (λ k. own_size g (nth_size first g k))) (live_taken w)
          ∙ all_below_same (live_of ws g) _ _ (λ k l u. own_size g (size_taken w k (omega arith) u)) in
          λ u. all (eqb (set_taken w u) 0 ∷ eqb (g.rows % g.depth) 0 ∷ own_size g (next_taken w u) ∷ live u ∷ seen u ∷ asked_taken wide u ∷ [])

      may_taken : h.width ≡ g.width → FitPool g ws → may_move first g h ≡ may_move ws g h
      unfolding may_move
      may_taken wide pool =
          cond_both Same (has_windows h) (λ has. on_taken wide)
          (λ none. cond_both Same (has_windows g) (λ had. back_taken wide (both_true (windowed g) _ had).0 (pool.windows had).live16) (λ none. refl))
        where
          Same : Bool → Bool → Type 0
          Same x y = x ≡ y

      word_taken : (i k : ℕ) → i < g.workers → word_in first g i k ≡ word_in ws g i k
      word_taken i k l =
          rw (slot_taken i l)
          (cond_both (λ (x y : ℕ). x ≡ y) (ltb k (worker_words g.edition)) (λ e. word (worker_at g i + k) (word_within g i k (needed g) l (ltb-true _ _ e) (le_refl _))) (λ e. refl))

      worker_taken : (to : List ℕ) (i k : ℕ) → i < g.workers → worker_moved first g to h i k ≡ worker_moved ws g to h i k
      unfolding worker_moved
      worker_taken to i zero l = refl
      worker_taken to i (suc k) l = rw (worker_taken to i k l, word_taken i k l) refl

      all_taken : (to : List ℕ) (i : ℕ) → i ≤ g.workers → workers_moved first g to h i ≡ workers_moved ws g to h i
      unfolding workers_moved
      all_taken to zero l = refl
      all_taken to (suc i) l = rw (all_taken to i (omega arith), worker_taken (workers_moved ws g to h i) i (worker_words h.edition) l) refl

      head_taken : (to : List ℕ) → head_moved first g to h ≡ head_moved ws g to h
      unfolding head_moved
      head_taken to = rw (take-take (workers_at g) n ws (omega arith)) refl

      cells_taken : (to : List ℕ) → cells_moved first g to h ≡ cells_moved ws g to h
      unfolding cells_moved
      cells_taken to = rw (part_taken (cells_at g) (cell_words * (g.width * g.rows)) n ws (omega arith)) refl

      windows_moved_taken : (to : List ℕ) → windows_moved first to h ≡ windows_moved ws to h
      unfolding windows_moved
      windows_moved_taken to = let mark = word mark_at (omega arith) in let top = word top_at (omega arith) in rw (mark, top) refl

      moved_taken : (to : List ℕ) → moved_words first g to h ≡ moved_words ws g to h
      unfolding moved_words
      moved_taken to =
          ap (λ (vs : List ℕ). windows_moved first vs h) (rw (head_taken to, all_taken (head_moved ws g to h) g.workers (omega arith)) (cells_taken _)) ∙ windows_moved_taken _

  module _ (enough : most_words shipped ≤ n) where
    settings_taken : settings_of first ≡ settings_of ws
    settings_taken = settings_kept ws first (λ m s. get_or-take n ws m 0 (omega (arith, s.below)))

    settings_checked : (other : Refusal) (e : ℕ) (g : Settings) → head_checked other e first g ≡ head_checked other e ws g
    unfolding head_checked
    settings_checked other e g =
        cond_both Same (settings_fit (in_edition e g))
        (λ b. cond_both Same (eqb g.edition e)
        (λ own.
        let is = eqb-true g.edition e own in
        let fit : settings_fit g ≡ true = subst (λ (x : ℕ). settings_fit (in_edition x g) ≡ true) (sym is) b in
        body_taken g (omega (arith, needed_most g (settings_bounds g fit))))
        (λ own. refl))
        (λ b. refl)
      where
        Same : Checked → Checked → Type 0
        Same x y = x ≡ y

    checked_taken : (other : Refusal) (e : ℕ) → checked_by other e first ≡ checked_by other e ws
    unfolding checked_by
    checked_taken other e =
        rw (long head_words (omega arith))
        (ap (cond (ltb (length ws) head_words) (Unfit TooFewWords)) (ap (head_checked other e first) settings_taken ∙ settings_checked other e (settings_of ws)))

    move_taken : (a b : ℕ) (to : List ℕ) → move_of a b first to ≡ move_of a b ws to
    unfolding move_of checked_move fit_move
    move_taken a b to = rw (checked_taken WrongEdition a) (ap (λ (o : Out). cond (leads a b) o (refuse WrongEdition to)) (go (source_checked a ws) refl))
      where
        go : (c : Checked) → source_checked a ws ≡ c → checked_move b first c to ≡ checked_move b ws c to
        go (Unfit m) e = refl
        go (Fit g) e =
            let pool = fit_pool a ws g (fit_with_other WrongEdition NotFit a ws g e) in
            let fits : needed g ≤ n = omega (arith, needed_most g pool.bounds) in
            rw (may_taken g fits (in_edition b g) refl pool, moved_taken g fits (in_edition b g) to) refl

pub largest_enough : (a b n : ℕ) (ws to : List ℕ) → most_words shipped ≤ n → move_of a b (take n ws) to ≡ move_of a b ws to
largest_enough a b n ws to enough = elim (dec_lt (length ws) n) [
  | yes x ↦ rw (take_all n ws (omega arith)) refl
  | no x ↦ move_taken n ws (omega arith) enough a b to
]
