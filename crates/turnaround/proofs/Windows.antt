-- The words behind the cells that a move leaves: of a queue in an edition with windows of their own sizes the next size, no size set, the live windows and
-- a pair for each, all of the pool's size; every other one is zero.
use Prim.Native.Nat.{ℕ, zero, suc, ◌+◌, ◌*◌, ◌≤◌, ◌<◌}
use mathlib.Core.Path.{◌≡◌, refl, ◌∙◌}
use mathlib.Core.Logic.{◌⊎◌, inl, inr}
use mathlib.Core.Bool.{Bool, true, false}
use mathlib.Core.List.{List, [], ◌∷◌}
use native.Mathlib.Decide.{ℕ_discrete}
use native.Mathlib.Omega.{arith}
use lib.ListN.{get_or, length}
use lib.Seq.{get_or-set_same, get_or-set_other, sets, length-sets}
use Rattle.laws.specs.Choice.{cond, both_true}
use Rattle.rules.specs.Layout.{windows_at, set_at, pairs_at, pair_words, pair_at, windows_words, needed}
use Rattle.rules.specs.Limits.{windowed, most_live}
use Rattle.rules.specs.Windows.{has_windows, size_of, no_size, next_size, live_of, nth_size}
use Rattle.turnaround.specs.Move.{own_live, cleared, own_pairs, windows_moved}
use Rattle.turnaround.proofs.Types.{Settings, Size}
use Rattle.rules.proofs.Workers.{windows_some, windowed_is}
use Rattle.rules.proofs.words.Lists.{sets_out, sets_in}
use Rattle.turnaround.proofs.Only.{Only, no_store, one_store}

-- ---- so many words zero
pub cleared_only : (ws : List ℕ) (at n high : ℕ) → at + n ≤ high → Only at high ws (cleared ws at n)
unfolding cleared
cleared_only ws at zero high l = no_store at high ws
cleared_only ws at (suc n) high l = one_store at high (at + n) 0 (omega arith) (omega arith) (cleared_only ws at n high (omega arith))

pub cleared_zero : (ws : List ℕ) (at n k : ℕ) → k < n → at + n ≤ length ws → get_or (cleared ws at n) (at + k) 0 ≡ 0
unfolding cleared
cleared_zero ws at zero k l long = absurd (omega arith)
cleared_zero ws at (suc n) k l long = elim (ℕ_discrete k n) [
  | yes y ↦ rw y (get_or-set_same (cleared ws at n) (at + n) 0 0 (omega (arith, (cleared_only ws at n (at + n) (omega arith)).long)))
  | no z ↦ get_or-set_other (cleared ws at n) (at + n) (at + k) 0 0 (λ u. z (omega arith)) ∙ cleared_zero ws at n k (omega arith) (omega arith)
]

-- ---- a run of stores
sets_only : (vs : List ℕ) (ws : List ℕ) (at low high : ℕ) → low ≤ at → at + length vs ≤ high → Only low high ws (sets ws at vs)
sets_only vs ws at low high a b =
    record { long = length-sets ws at vs; off = λ m o. sets_out vs ws at m (beside m o) }
  where
    beside : (m : ℕ) → (m < low) ⊎ (high ≤ m) → (m < at) ⊎ (at + length vs ≤ m)
    beside m (inl l) = inl (omega arith)
    beside m (inr l) = inr (omega arith)

after : {low high : ℕ} {us vs ws : List ℕ} → Only low high us vs → Only low high vs ws → Only low high us ws
after s t = record { long = t.long ∙ s.long; off = λ m o. t.off m o ∙ s.off m o }

-- ---- the pairs
module _ (h : Settings) where
  abbrev own : List ℕ
  own = h.width ∷ h.depth ∷ []

  pairs_only : (ws : List ℕ) (n : ℕ) → n ≤ most_live → Only (pairs_at h) (pair_at h most_live) ws (own_pairs ws h n)
  unfolding own_pairs
  pairs_only ws zero l = no_store (pairs_at h) (pair_at h most_live) ws
  pairs_only ws (suc n) l =
      after (pairs_only ws n (omega arith)) (sets_only own (own_pairs ws h n) (pair_at h n) (pairs_at h) (pair_at h most_live) (omega arith) (omega arith))

  -- the two words of a pair
  pair_is : (ws : List ℕ) (k : ℕ) (size : Size) → get_or ws (pair_at h k) 0 ≡ size.width → get_or ws (pair_at h k + 1) 0 ≡ size.depth → nth_size ws h k ≡ size
  pair_is ws k size a b = λ u. record { width = a u; depth = b u }

  pub pair_own : (ws : List ℕ) (n k : ℕ) → k < n → n ≤ most_live → pair_at h most_live ≤ length ws → nth_size (own_pairs ws h n) h k ≡ size_of h
  unfolding own_pairs
  pair_own ws zero k l m long = absurd (omega arith)
  pair_own ws (suc n) k l m long = elim (ℕ_discrete k n) [
    | yes y ↦
        let inside : pair_at h n + 2 ≤ length (own_pairs ws h n) = omega (arith, (pairs_only ws n (omega arith)).long) in
        let z : pair_at h n + 0 ≡ pair_at h n = omega arith in
        let w = sets_in own (own_pairs ws h n) (pair_at h n) 0 (omega arith) inside in
        let d = sets_in own (own_pairs ws h n) (pair_at h n) 1 (omega arith) inside in
        rw y (pair_is (sets (own_pairs ws h n) (pair_at h n) own) n (size_of h) (rw z at w) d)
    | no z ↦
        let old = pair_own ws n k (omega arith) (omega arith) long in
        let off : (x : ℕ) → x < 2 → get_or (sets (own_pairs ws h n) (pair_at h n) own) (pair_at h k + x) 0 ≡ get_or (own_pairs ws h n) (pair_at h k + x) 0 =
        λ x y. sets_out own (own_pairs ws h n) (pair_at h n) (pair_at h k + x) (inl (omega arith)) in
        let e : pair_at h k + 0 ≡ pair_at h k = omega arith in
        pair_is (sets (own_pairs ws h n) (pair_at h n) own) k (nth_size (own_pairs ws h n) h k) (rw e at (off 0 (omega arith))) (off 1 (omega arith)) ∙ old
  ]

  pair_beyond : (ws : List ℕ) (n k : ℕ) → n ≤ k → nth_size (own_pairs ws h n) h k ≡ nth_size ws h k
  unfolding own_pairs
  pair_beyond ws zero k l = refl
  pair_beyond ws (suc n) k l =
      let off : (m : ℕ) → get_or (sets (own_pairs ws h n) (pair_at h n) own) (pair_at h k + m) 0 ≡ get_or (own_pairs ws h n) (pair_at h k + m) 0 =
      λ m. sets_out own (own_pairs ws h n) (pair_at h n) (pair_at h k + m) (inr (omega arith)) in
      let e : pair_at h k + 0 ≡ pair_at h k = omega arith in
      pair_is (sets (own_pairs ws h n) (pair_at h n) own) k (nth_size (own_pairs ws h n) h k) (rw e at (off 0)) (off 1) ∙ pair_beyond ws n k (omega arith)

-- ---- all of them
module _ (from to : List ℕ) (h : Settings) (long : needed h ≤ length to) where
  abbrev none : List ℕ
  none = cleared to (windows_at h) (windows_words h.edition)

  abbrev four : List ℕ
  four = h.width ∷ h.depth ∷ 0 ∷ own_live from h ∷ []

  abbrev begun : List ℕ
  begun = sets none (windows_at h) four

  none_only : Only (windows_at h) (needed h) to none
  none_only = cleared_only to (windows_at h) (windows_words h.edition) (needed h) (omega arith)

  none_zero : (k : ℕ) → k < windows_words h.edition → get_or none (windows_at h + k) 0 ≡ 0
  none_zero k l = cleared_zero to (windows_at h) (windows_words h.edition) k l long

  abbrev moved : List ℕ
  moved = windows_moved from to h

  -- a stack's, and those of an edition that has none
  blank_is : has_windows h ≡ false → moved ≡ none
  unfolding windows_moved cond
  blank_is e = rw e refl

  pub windows_blank : has_windows h ≡ false → (k : ℕ) → k < windows_words h.edition → get_or moved (windows_at h + k) 0 ≡ 0
  windows_blank e k l = rw (blank_is e) (none_zero k l)

  -- a queue's
  module _ (has : has_windows h ≡ true) (few : own_live from h ≤ most_live) where
    some : windows_words h.edition ≡ 36
    some = windows_some h.edition (windowed_is h (both_true (windowed h) _ has).0)

    has_is : moved ≡ own_pairs begun h (own_live from h)
    unfolding windows_moved cond
    has_is = rw has refl

    begun_long : length begun ≡ length to
    begun_long = length-sets none (windows_at h) four ∙ none_only.long

    begun_only : Only (windows_at h) (needed h) to begun
    begun_only = after none_only (sets_only four none (windows_at h) (windows_at h) (needed h) (omega arith) (omega (arith, some)))

    within : {us vs : List ℕ} → Only (pairs_at h) (pair_at h most_live) us vs → Only (windows_at h) (needed h) us vs
    within s = record { long = s.long; off = λ m o. s.off m (beside m o) }
      where
        beside : (m : ℕ) → (m < windows_at h) ⊎ (needed h ≤ m) → (m < pairs_at h) ⊎ (pair_at h most_live ≤ m)
        beside m (inl l) = inl (omega arith)
        beside m (inr l) = inr (omega (arith, some))

    some_only : Only (windows_at h) (needed h) to moved
    some_only = rw has_is (after begun_only (within (pairs_only h begun (own_live from h) few)))

    -- the first four
    word : (k : ℕ) → k < 4 → get_or moved (windows_at h + k) 0 ≡ get_or four k 0
    word k l =
        rw has_is
        ((pairs_only h begun (own_live from h) few).off (windows_at h + k) (inl (omega arith))
        ∙ sets_in four none (windows_at h) k l (omega (arith, some, none_only.long)))

    pub next_own : next_size moved h ≡ size_of h
    next_own =
        let z : windows_at h + 0 ≡ windows_at h = omega arith in
        let w : get_or moved (windows_at h) 0 ≡ h.width = rw z at (word 0 (omega arith)) in
        let d : get_or moved (windows_at h + 1) 0 ≡ h.depth = word 1 (omega arith) in
        λ u. record { width = w u; depth = d u }

    pub set_none : get_or moved (set_at h) 0 ≡ 0
    set_none = word 2 (omega arith)

    pub live_own : live_of moved h ≡ own_live from h
    live_own = word 3 (omega arith)

    pub size_own : (k : ℕ) → k < own_live from h → nth_size moved h k ≡ size_of h
    size_own k l = rw has_is (pair_own h begun (own_live from h) k l few (omega (arith, some, begun_long)))

    pub size_none : (k : ℕ) → own_live from h ≤ k → k < most_live → nth_size moved h k ≡ no_size
    size_none k l m =
        let zero : (n : ℕ) → 4 ≤ n → n < 36 → get_or begun (windows_at h + n) 0 ≡ 0 =
        λ n a b. sets_out four none (windows_at h) (windows_at h + n) (inr (omega arith)) ∙ none_zero n (omega (arith, some)) in
        let a : pair_at h k ≡ windows_at h + (4 + pair_words * k) = omega arith in
        let b : pair_at h k + 1 ≡ windows_at h + (5 + pair_words * k) = omega arith in
        let w : get_or begun (pair_at h k) 0 ≡ 0 = rw a (zero (4 + pair_words * k) (omega arith) (omega arith)) in
        let d : get_or begun (pair_at h k + 1) 0 ≡ 0 = rw b (zero (5 + pair_words * k) (omega arith) (omega arith)) in
        rw has_is (pair_beyond h begun (own_live from h) k l ∙ (λ u. record { width = w u; depth = d u }))

  pub windows_only : (has_windows h ≡ true → own_live from h ≤ most_live) → Only (windows_at h) (needed h) to moved
  windows_only few = go (has_windows h) refl
    where
      go : (b : Bool) → has_windows h ≡ b → Only (windows_at h) (needed h) to moved
      go true e = some_only e (few e)
      go false e = rw (blank_is e) none_only
