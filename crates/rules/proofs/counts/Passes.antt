-- What a pass has summed up, and its confirmation, of any counts that only grow: a queue's last put rows, a stack's versions. The sums are modulo
-- 2^32, and may wrap. The first pass reads each count once, none below a floor (a queue's seen bottom; 0); the second subtracts later readings, none
-- smaller. Nothing is left only if no count has changed in between, provided that the second readings do not exceed the first by 2^32 in all: so what
-- the first pass saw was all true at once, at its end.
use mathlib.Core.Path.{◌≡◌, refl, ◌∙◌}
use mathlib.Core.Logic.{◌≢◌, ◌⊎◌, inl, inr}
use Prim.Native.Nat.{ℕ, suc, ◌+◌, ◌*◌, ◌^◌, ◌%◌, ◌≤◌, ◌<◌}
use native.Mathlib.Nat.{le_refl, le_trans}
use native.Mathlib.Decide.{ℕ_discrete}
use native.Mathlib.Omega.{arith}
use Rattle.laws.specs.Wrap.{add32, sub32}
use Rattle.rules.specs.Effects.{next_of}
use Rattle.rules.proofs.counts.Sums.{upd, upd_same, upd_other, upd_all, sum_n, sum_le, sum_bump, sum_zero, sum_tight, sum_within}
use Rattle.rules.proofs.counts.Visits.{Visited, visited_none, visited_all, visited_here, visited_next, visited_still, visited_just}

-- what was read of the visited subs, with 0 for the others; `floor` is the least that can be read
pub record Summed (w floor : ℕ) (count : ℕ → ℕ) (index scan sum : ℕ) : Type 0 where
  pub reads : ℕ → ℕ
  pub low : (j : ℕ) → j < w → reads j ≤ count j
  pub high : (j : ℕ) → j < w → Visited w index scan j → floor ≤ reads j
  pub unread : (j : ℕ) → j < w → ¬ (Visited w index scan j) → reads j ≡ 0
  pub sum_is : sum ≡ sum_n reads w % 2 ^ 32

abbrev pub summed_start : (w floor : ℕ) (count : ℕ → ℕ) (index : ℕ) → Summed w floor count index 0 0
summed_start w floor count index =
    record {
      reads = λ j. 0;
      low = λ j l. omega arith;
      high = λ j l v. absurd (visited_none l v);
      unread = λ j l v. refl;
      sum_is = omega (arith, sum_zero w);
    }

abbrev pub summed_grow : {w floor : ℕ} {count count' : ℕ → ℕ} {index scan sum : ℕ} → ((j : ℕ) → count j ≤ count' j)
    → Summed w floor count index scan sum → Summed w floor count' index scan sum
summed_grow up k =
    record { reads = k.reads; low = λ j l. le_trans (k.low j l) (up j); high = k.high; unread = k.unread; sum_is = k.sum_is }

-- a sum is at most that of the present counts
pub summed_le : {w floor : ℕ} {count : ℕ → ℕ} {index scan sum : ℕ} → Summed w floor count index scan sum → sum ≤ sum_n count w
summed_le {w} {floor} {count} k = omega (arith, k.sum_is, sum_le k.reads count w k.low)

module _ (w floor : ℕ) (count : ℕ → ℕ) (index scan sum : ℕ) (li : index < w) (ls : scan < w) (above : floor ≤ count index)
    (k : Summed w floor count index scan sum) where
  abbrev reads' : ℕ → ℕ
  reads' = upd k.reads index (count index)

  off : (j : ℕ) → j ≢ index → reads' j ≡ k.reads j
  off j n = upd_other k.reads index (count index) j n

  here : reads' index ≡ count index
  here = upd_same k.reads index (count index)

  -- the sub at the index is not yet in it
  not_yet : k.reads index ≡ 0
  not_yet = k.unread index li (λ v. visited_here ls v)

  high : (j : ℕ) → j < w → Visited w (next_of w index) (suc scan) j → floor ≤ reads' j
  high j l v = elim (ℕ_discrete j index) [ yes e ↦ rw e (omega (arith, here)) | no n ↦ rw (off j n) (old (visited_next w li l v) n) ]
    where
      old : ((j ≡ index) ⊎ Visited w index scan j) → j ≢ index → floor ≤ k.reads j
      old (inl e) n = absurd (n e)
      old (inr u) n = k.high j l u

  -- one sub more is read
  pub summed_more : Summed w floor count (next_of w index) (suc scan) (add32 sum (count index))
  summed_more =
      let grew : sum_n reads' w ≡ sum_n k.reads w + count index =
      sum_bump k.reads reads' w index (count index) li (λ j l n. off j n) (omega (arith, here, not_yet)) in
      record {
        reads = reads';
        low = λ j l. upd_all (λ i (v : ℕ). v ≤ count i) k.reads index (count index) j (λ e. rw e (le_refl _)) (λ n. k.low j l);
        high = high;
        unread = λ j l nv. off j (λ e. nv (rw e (visited_just w li))) ∙ k.unread j l (λ v. nv (visited_still w li v));
        sum_is = omega (arith, k.sum_is, grew);
      }

  pub summed_here : summed_more.reads index ≡ count index
  unfolding summed_more
  summed_here = here

  pub summed_off : (j : ℕ) → j ≢ index → summed_more.reads j ≡ k.reads j
  unfolding summed_more
  summed_off j n = off j n

-- from the end of the first pass, where the counts were h₀ and `Said` holds if all that was read was still so, to the confirm,
-- where the counts are h, the subs visited anew have been subtracted and `sum` is left
pub record Pass (w floor : ℕ) (Said : Type 0) (h₀ h : ℕ → ℕ) (index scan sum : ℕ) : Type 0 where
  pub reads : ℕ → ℕ
  pub again : ℕ → ℕ
  pub least : (j : ℕ) → j < w → floor ≤ reads j
  pub low : (j : ℕ) → j < w → reads j ≤ h₀ j
  pub grown : (j : ℕ) → h₀ j ≤ h j
  pub high : (j : ℕ) → j < w → again j ≤ h j
  pub seen : (j : ℕ) → j < w → Visited w index scan j → h₀ j ≤ again j
  pub unread : (j : ℕ) → j < w → ¬ (Visited w index scan j) → again j ≡ 0
  pub sum_fits : sum < 2 ^ 32
  pub sum_is : (sum + sum_n again w) % 2 ^ 32 ≡ sum_n reads w % 2 ^ 32
  pub said : ((j : ℕ) → j < w → reads j ≡ h₀ j) → Said

pub pass_start : {w floor : ℕ} {Said : Type 0} {count : ℕ → ℕ} {index sum : ℕ} → index < w → (k : Summed w floor count index w sum)
    → (((j : ℕ) → j < w → k.reads j ≡ count j) → Said) → Pass w floor Said count count index 0 sum
pass_start {w} {floor} {Said} {count} {index} {sum} li k said =
    record {
      reads = k.reads;
      again = λ j. 0;
      least = λ j l. k.high j l (visited_all li l);
      low = k.low;
      grown = λ j. le_refl _;
      high = λ j l. omega arith;
      seen = λ j l v. absurd (visited_none l v);
      unread = λ j l v. refl;
      sum_fits = omega (arith, k.sum_is);
      sum_is = omega (arith, k.sum_is, sum_zero w);
      said = said;
    }

pub pass_grow : {w floor : ℕ} {Said : Type 0} {h₀ h h' : ℕ → ℕ} {index scan sum : ℕ} → ((j : ℕ) → h j ≤ h' j)
    → Pass w floor Said h₀ h index scan sum → Pass w floor Said h₀ h' index scan sum
pass_grow up k =
    record {
      reads = k.reads;
      again = k.again;
      least = k.least;
      low = k.low;
      grown = λ j. le_trans (k.grown j) (up j);
      high = λ j l. le_trans (k.high j l) (up j);
      seen = k.seen;
      unread = k.unread;
      sum_fits = k.sum_fits;
      sum_is = k.sum_is;
      said = k.said;
    }

-- one sub more is confirmed
pub pass_more : {w floor : ℕ} {Said : Type 0} {h₀ h : ℕ → ℕ} (index scan sum : ℕ) → h index < 2 ^ 32 → index < w → scan < w
    → Pass w floor Said h₀ h index scan sum → Pass w floor Said h₀ h (next_of w index) (suc scan) (sub32 sum (h index))
pass_more {w} {floor} {Said} {h₀} {h} index scan sum small li ls k =
    record {
      reads = k.reads;
      again = again';
      least = k.least;
      low = k.low;
      grown = k.grown;
      high = λ j l. upd_all (λ i (v : ℕ). v ≤ h i) k.again index (h index) j (λ e. rw e (le_refl _)) (λ n. k.high j l);
      seen = seen;
      unread = λ j l nv. off j (λ e. nv (rw e (visited_just w li))) ∙ k.unread j l (λ v. nv (visited_still w li v));
      sum_fits = omega arith;
      sum_is = omega (arith, k.sum_is, grew);
      said = k.said;
    }
  where
    again' : ℕ → ℕ
    again' = upd k.again index (h index)

    at_index : again' index ≡ h index
    at_index = upd_same k.again index (h index)

    off : (j : ℕ) → j ≢ index → again' j ≡ k.again j
    off j n = upd_other k.again index (h index) j n

    grew : sum_n again' w ≡ sum_n k.again w + h index
    grew =
        sum_bump k.again again' w index (h index) li (λ j l n. off j n)
        (omega (arith, at_index, k.unread index li (λ v. visited_here ls v)))

    seen : (j : ℕ) → j < w → Visited w (next_of w index) (suc scan) j → h₀ j ≤ again' j
    seen j l v = elim (ℕ_discrete j index) [
      | yes e ↦ rw e (omega (arith, at_index, k.grown index))
      | no n ↦ rw (off j n) (old (visited_next w li l v) n)
    ]
      where
        old : ((j ≡ index) ⊎ Visited w index scan j) → j ≢ index → h₀ j ≤ k.again j
        old (inl e) n = absurd (n e)
        old (inr u) n = k.seen j l u

-- all subs confirmed and nothing left: at the end of the first pass all was as read, if the second readings do not exceed the
-- first by 2^32 in all
module _ {w floor : ℕ} {Said : Type 0} {h₀ h : ℕ → ℕ} {index sum : ℕ} (li : index < w) (k : Pass w floor Said h₀ h index w sum) where
  up : (j : ℕ) → j < w → k.reads j ≤ k.again j
  up j l = omega (arith, k.low j l, k.seen j l (visited_all li l))

  pass_end : sum_n k.again w < sum_n k.reads w + 2 ^ 32 → sum ≡ 0 → Said
  pass_end close e = k.said (λ j l. omega (arith, k.low j l, k.seen j l (visited_all li l), same j l))
    where
      same : (j : ℕ) → j < w → k.reads j ≡ k.again j
      same = sum_tight k.reads k.again w up (omega (arith, k.sum_is, close, sum_le k.reads k.again w up))

  -- no count is now more than `deep` above the floor, so the second readings are at most w * deep above the first
  pub pass_near : (deep : ℕ) → w * deep < 2 ^ 32 → ((j : ℕ) → j < w → h j ≤ floor + deep) → sum ≡ 0 → Said
  pass_near deep small near =
      pass_end (omega (arith, sum_within k.again k.reads w deep (λ j l. omega (arith, k.high j l, near j l, k.least j l))))

  -- the counts are few in all
  pub pass_few : sum_n h w < 2 ^ 32 → sum ≡ 0 → Said
  pass_few few = pass_end (omega (arith, sum_le k.again h w k.high))
