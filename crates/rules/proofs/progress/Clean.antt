-- A pass whose reads are all still true: its sum is that of the present counts, modulo 2^32, so its confirm ends at 0. Where nothing is
-- committed a pass stays so.
use mathlib.Core.Path.{◌≡◌, ◌∙◌}
use mathlib.Core.Logic.{◌≢◌, ◌⊎◌, inl, inr}
use Prim.Native.Nat.{ℕ, suc, ◌+◌, ◌^◌, ◌%◌, ◌<◌}
use native.Mathlib.Decide.{ℕ_discrete}
use native.Mathlib.Omega.{arith}
use Rattle.laws.specs.Wrap.{add32, sub32}
use Rattle.rules.specs.Effects.{next_of}
use Rattle.rules.proofs.counts.Sums.{sum_n, sum_ext}
use Rattle.rules.proofs.counts.Visits.{Visited, visited_none, visited_all, visited_next}
use Rattle.rules.proofs.counts.Passes.{Summed, summed_start, summed_more, summed_here, summed_off}

-- what was read of each visited sub is its present count
pub record Clean (w : ℕ) (count : ℕ → ℕ) (index scan sum : ℕ) : Type 0 where
  pub summed : Summed w 0 count index scan sum
  pub exact : (j : ℕ) → j < w → Visited w index scan j → summed.reads j ≡ count j

-- a pass that has read nothing yet
pub clean_none : {w floor : ℕ} {count : ℕ → ℕ} {index sum : ℕ} → Summed w floor count index 0 sum → Clean w count index 0 sum
clean_none k =
    record {
      summed = record { reads = k.reads; low = k.low; high = λ j l v. omega arith; unread = k.unread; sum_is = k.sum_is };
      exact = λ j l v. absurd (visited_none l v);
    }

pub clean_start : (w : ℕ) (count : ℕ → ℕ) (index : ℕ) → Clean w count index 0 0
clean_start w count index = clean_none (summed_start w 0 count index)

-- one sub more
pub clean_more : {w : ℕ} (count : ℕ → ℕ) (index : ℕ) {scan sum : ℕ} → index < w → scan < w
    → Clean w count index scan sum → Clean w count (next_of w index) (suc scan) (add32 sum (count index))
clean_more {w} count index {scan} {sum} li ls k = record { summed = more; exact = exact }
  where
    more : Summed w 0 count (next_of w index) (suc scan) (add32 sum (count index))
    more = summed_more w 0 count index scan sum li ls (omega arith) k.summed

    before : {j : ℕ} → j ≢ index → ((j ≡ index) ⊎ Visited w index scan j) → Visited w index scan j
    before n (inl e) = absurd (n e)
    before n (inr x) = x

    exact : (j : ℕ) → j < w → Visited w (next_of w index) (suc scan) j → more.reads j ≡ count j
    exact j l v = elim (ℕ_discrete j index) [
      | yes e ↦ rw e (summed_here w 0 count index scan sum li ls (omega arith) k.summed)
      | no n ↦ summed_off w 0 count index scan sum li ls (omega arith) k.summed j n ∙ k.exact j l (before n (visited_next w li l v))
    ]

-- all subs are read
pub clean_all : {w : ℕ} {count : ℕ → ℕ} {index sum : ℕ} → index < w → Clean w count index w sum → sum ≡ sum_n count w % 2 ^ 32
clean_all {w} {count} li k = omega (arith, k.summed.sum_is, sum_ext k.summed.reads count w (λ j l. k.exact j l (visited_all li l)))

-- ---- confirm: what is left is the sum of the counts of the subs not confirmed yet
pub record Rest (w : ℕ) (count : ℕ → ℕ) (index scan sum : ℕ) : Type 0 where
  pub done : ℕ
  pub clean : Clean w count index scan done
  pub fits : sum < 2 ^ 32
  pub rest : (sum + done) % 2 ^ 32 ≡ sum_n count w % 2 ^ 32

pub rest_start : {w : ℕ} {count : ℕ → ℕ} {index sum : ℕ} → index < w → Clean w count index w sum → Rest w count index 0 sum
rest_start {w} {count} {index} li k =
    record { done = 0; clean = clean_start w count index; fits = omega (arith, clean_all li k); rest = omega (arith, clean_all li k) }

pub rest_more : {w : ℕ} (count : ℕ → ℕ) (index : ℕ) {scan sum : ℕ} → index < w → scan < w → count index < 2 ^ 32
    → Rest w count index scan sum → Rest w count (next_of w index) (suc scan) (sub32 sum (count index))
rest_more count index li ls small k =
    record {
      done = add32 k.done (count index);
      clean = clean_more count index li ls k.clean;
      fits = omega arith;
      rest = omega (arith, k.rest);
    }

pub rest_end : {w : ℕ} {count : ℕ → ℕ} {index sum : ℕ} → index < w → Rest w count index w sum → sum ≡ 0
rest_end li k = omega (arith, k.fits, k.rest, clean_all li k.clean)
