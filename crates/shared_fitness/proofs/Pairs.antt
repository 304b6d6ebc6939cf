-- The pairs of a queue's windows. Beyond the live ones they are zero where each word behind the live pairs is.
use Rattle.std.proofs.Common.{◌≡◌, ℕ, ◌+◌, ◌-◌, ◌*◌, ◌/◌, ◌%◌, ◌<◌, ◌≤◌, Bool, true, false, eqb, List, get_or, sym, refl, ◌∙◌, arith, le-ltb, lt-ltb}
use Rattle.std.proofs.lemmas.Bool.{false≢true}
use Rattle.std.proofs.Math.Decide.{ℕ_discrete}
use Rattle.laws.specs.Choice.{cond_true, cond_false, both_true, all_below, all_below_at, all_below_same}
use Rattle.laws.specs.Looks.{all_hold, all_from}
use Rattle.rules.specs.Fit.{no_size_fit, pair_fit}
use Rattle.rules.specs.Layout.{pair_at}
use Rattle.rules.specs.Limits.{most_live, size_fit}
use Rattle.rules.specs.Windows.{live_of, nth_size}
use Rattle.rules.specs.declared.Settings.{Settings}

module _ (ws : List ℕ) (g : Settings) where
  -- ---- the pair of a live window, and one beyond
  pub pair_live : (k : ℕ) → k < live_of ws g → pair_fit ws g k ≡ size_fit g (nth_size ws g k)
  pair_live k l = rw (lt-ltb k (live_of ws g) l) (cond_true _ _)

  pub pair_beyond : (k : ℕ) → live_of ws g ≤ k → pair_fit ws g k ≡ no_size_fit (nth_size ws g k)
  pair_beyond k l = rw (le-ltb k (live_of ws g) l) (cond_false _ _)

  -- ---- the words behind the pair of a window
  abbrev pub no_word : ℕ → ℕ → Bool
  no_word m i = eqb (get_or ws (pair_at g m + i) 0) 0

  -- how many there are
  abbrev pub words_behind : ℕ → ℕ
  words_behind m = pair_at g most_live - pair_at g m

  module _ (m : ℕ) (most : m ≤ most_live) where
    -- where they are zero, no pair has a size
    pub none_behind : all_below (words_behind m) (no_word m) ≡ true → (k : ℕ) → m ≤ k → k < most_live → no_size_fit (nth_size ws g k) ≡ true
    none_behind e k l h =
        let one : (i n : ℕ) → i < words_behind m → pair_at g m + i ≡ n → eqb (get_or ws n 0) 0 ≡ true = λ i n a b. rw b at (all_below_at (words_behind m) (no_word m) i a e) in
        rw (one (2 * (k - m)) (pair_at g k) (omega arith) (omega arith), one (2 * (k - m) + 1) (pair_at g k + 1) (omega arith) (omega arith)) refl

    -- and where no pair has one, they are zero
    pub behind_none : ((k : ℕ) → m ≤ k → k < most_live → no_size_fit (nth_size ws g k) ≡ true) → all_below (words_behind m) (no_word m) ≡ true
    behind_none h = all_hold (words_behind m) (no_word m) each
      where
        each : (i : ℕ) → i < words_behind m → no_word m i ≡ true
        each i l =
            let k = m + i / 2 in
            let t = both_true (eqb (nth_size ws g k).width 0) (eqb (nth_size ws g k).depth 0) (h k (omega arith) (omega arith)) in
            elim (ℕ_discrete (i % 2) 0) [
              | yes y ↦ let here : pair_at g k ≡ pair_at g m + i = omega arith in rw here at t.0
              | no n ↦ let here : pair_at g k + 1 ≡ pair_at g m + i = omega arith in rw here at t.1
            ]

  -- ---- live windows, and none beyond
  module _ (most : live_of ws g ≤ most_live) where
    abbrev live_fit : Bool
    live_fit = all_below (live_of ws g) (λ k. size_fit g (nth_size ws g k))

    pub pairs_live : all_below (words_behind (live_of ws g)) (no_word (live_of ws g)) ≡ true → all_below most_live (pair_fit ws g) ≡ live_fit
    pairs_live e =
        all_from (live_of ws g) most_live (pair_fit ws g) most (λ k l h. pair_beyond k l ∙ none_behind (live_of ws g) most e k l h)
        ∙ all_below_same (live_of ws g) _ _ (λ k l. pair_live k l)

    pub pairs_behind : all_below (words_behind (live_of ws g)) (no_word (live_of ws g)) ≡ false → all_below most_live (pair_fit ws g) ≡ false
    pairs_behind e = go (all_below most_live (pair_fit ws g)) refl
      where
        go : (b : Bool) → all_below most_live (pair_fit ws g) ≡ b → b ≡ false
        go false h = refl
        go true h =
            let each : (k : ℕ) → live_of ws g ≤ k → k < most_live → no_size_fit (nth_size ws g k) ≡ true =
            λ k l m. sym (pair_beyond k l) ∙ all_below_at most_live (pair_fit ws g) k m h in
            absurd (false≢true (sym e ∙ behind_none (live_of ws g) most each))
