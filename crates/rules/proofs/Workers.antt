-- Where the workers' words lie, however many words an edition gives a worker: those that the rules read are among them, each worker's lie before
-- the cells, and two workers' lie apart.
use Prim.Native.Nat.{ℕ, zero, suc, ◌+◌, ◌*◌, ◌≤◌, ◌<◌}
use mathlib.Core.Path.{◌≡◌, refl}
use mathlib.Core.Logic.{◌≢◌}
use mathlib.Core.Bool.{true, false}
use mathlib.Core.List.{List}
use native.Mathlib.Nat.{le_trans, mul-le-mul, mul-le-mul_left}
use native.Mathlib.Decide.{ℕ_discrete, dec_lt}
use native.Mathlib.Omega.{arith}
use lib.ListN.{length}
use borrow.Author.Tests.{leb-true, leb-false}
use Rattle.rules.specs.Layout.{head_words, sub_words, worker_words, slot_words, lost_word, width_word, windows_words, worker_at, lost_at, cells_at, pair_at, needed, Lent}
use Rattle.rules.specs.Limits.{widest, most_workers, most_live, windowed, Bounds}
use Rattle.rules.specs.declared.Settings.{Settings}

-- ---- one worker's
pub slot_within : (e : ℕ) → slot_words ≤ worker_words e
unfolding worker_words
slot_within zero = omega arith
slot_within (suc zero) = omega arith
slot_within (suc (suc e)) = omega arith

-- a word that the rules read
pub word_lt : (e k : ℕ) → k < slot_words → k < worker_words e
word_lt e k l = le_trans l (slot_within e)

-- from edition 1 on there is the next as well, and from edition 2 on there are two of the window seen
pub words_none : (e : ℕ) → e ≡ 0 → worker_words e ≡ slot_words
unfolding worker_words
words_none e z = rw z refl

pub words_one : (e : ℕ) → e ≡ 1 → worker_words e ≡ lost_word + 1
unfolding worker_words
words_one e z = rw z refl

pub words_two : (e : ℕ) → 2 ≤ e → worker_words e ≡ width_word + 1
unfolding worker_words
words_two zero l = absurd (omega arith)
words_two (suc zero) l = absurd (omega arith)
words_two (suc (suc e)) l = refl

pub words_lost : (e : ℕ) → 1 ≤ e → lost_word < worker_words e
unfolding worker_words
words_lost zero l = absurd (omega arith)
words_lost (suc zero) l = omega arith
words_lost (suc (suc e)) l = omega arith

-- so many at the most
pub words_few : (e : ℕ) → worker_words e ≤ width_word + 1
unfolding worker_words
words_few zero = omega arith
words_few (suc zero) = omega arith
words_few (suc (suc e)) = omega arith

-- and as many words of windows
pub windows_none : (e : ℕ) → e < 2 → windows_words e ≡ 0
unfolding windows_words
windows_none zero l = refl
windows_none (suc zero) l = refl
windows_none (suc (suc e)) l = absurd (omega arith)

pub windows_some : (e : ℕ) → 2 ≤ e → windows_words e ≡ 36
unfolding windows_words
windows_some zero l = absurd (omega arith)
windows_some (suc zero) l = absurd (omega arith)
windows_some (suc (suc e)) l = refl

pub windows_few : (e : ℕ) → windows_words e ≤ 36
unfolding windows_words
windows_few zero = omega arith
windows_few (suc zero) = omega arith
windows_few (suc (suc e)) = omega arith

-- whether an edition has them
pub windowed_is : (g : Settings) → windowed g ≡ true → 2 ≤ g.edition
unfolding windowed
windowed_is g e = leb-true _ _ e

pub windowed_not : (g : Settings) → windowed g ≡ false → g.edition < 2
unfolding windowed
windowed_not g e = leb-false _ _ e

-- the pairs of all windows are among the needed words
pub pairs_within : (g : Settings) (n : ℕ) → windowed g ≡ true → needed g ≤ n → pair_at g most_live ≤ n
pairs_within g n w l = omega (arith, windows_some g.edition (windowed_is g w))

-- ---- the words that the rules read: a worker's but its failed commits
pub record Read (e k : ℕ) : Type 0 where
  pub there : k < worker_words e
  pub other : k ≢ lost_word

pub read_low : (e k : ℕ) → k < slot_words → Read e k
read_low e k l = record { there = word_lt e k l; other = λ u. omega arith }

-- where no window has a size of its own, they are the first eight
pub low_read : (e k : ℕ) → e < 2 → Read e k → k < slot_words
unfolding worker_words
low_read zero k l r = omega (arith, r.there)
low_read (suc zero) k l r = elim (ℕ_discrete k lost_word) [ yes y ↦ absurd (r.other y) | no n ↦ omega (arith, r.there) ]
low_read (suc (suc e)) k l r = absurd (omega arith)

-- ---- all of them
-- those of the workers below n are at least those of worker i and of the ones below it
product_le : (k i n : ℕ) → i < n → k * i + k ≤ k * n
product_le k i n l = omega (arith, mul-le-mul_left {m = suc i} {n = n} k l)

pub worker_within : (g : Settings) (i : ℕ) → i < g.workers → worker_at g i + worker_words g.edition ≤ cells_at g
worker_within g i l = omega (arith, product_le (worker_words g.edition) i g.workers l)

-- so a word of a worker of the pool's is among the needed ones
pub word_within : (g : Settings) (i k n : ℕ) → i < g.workers → k < worker_words g.edition → needed g ≤ n → worker_at g i + k < n
word_within g i k n l m long = omega (arith, worker_within g i l)

pub worker_lent : (g : Settings) (ws : List ℕ) (i : ℕ) → i < g.workers → needed g ≤ length ws → Lent g ws (worker_at g i)
worker_lent g ws i l long =
    let within = worker_within g i l in
    record { enough = long; low = omega arith; high = within; slot = omega (arith, slot_within g.edition) }

-- the cells begin within so many words
pub cells_low : (g : Settings) → Bounds g → cells_at g ≤ head_words + sub_words * widest + (width_word + 1) * most_workers
cells_low g b = omega (arith, b.width16, mul-le-mul {n₁ = worker_words g.edition} {m₁ = g.workers} (words_few g.edition) b.workers32)

pub workers_apart : (g : Settings) (m i : ℕ) → m < i → worker_at g m + worker_words g.edition ≤ worker_at g i
workers_apart g m i l = omega (arith, product_le (worker_words g.edition) m i l)

-- a word of one worker is a word of no other
pub same_worker : (g : Settings) (i m k l : ℕ) → k < worker_words g.edition → l < worker_words g.edition → worker_at g i + k ≡ worker_at g m + l → i ≡ m
same_worker g i m k l a b e = elim (dec_lt i m) [
  | yes x ↦ absurd (omega (arith, workers_apart g i m x))
  | no x ↦ elim (dec_lt m i) [ yes y ↦ absurd (omega (arith, workers_apart g m i y)) | no y ↦ omega arith ]
]

-- and what the rules read of one is not what they read of another
pub slots_apart : (g : Settings) (i m k l : ℕ) → Read g.edition k → Read g.edition l → m ≢ i → worker_at g m + k ≢ worker_at g i + l
slots_apart g i m k l a b n u = n (same_worker g m i k l a.there b.there u)

-- where failed commits are counted, no rule reads
pub lost_apart : (g : Settings) (i m k : ℕ) → lost_word < worker_words g.edition → Read g.edition k → worker_at g m + k ≢ lost_at (worker_at g i)
lost_apart g i m k counts r u =
    let one : m ≡ i = same_worker g m i k lost_word r.there counts u in
    let here : worker_at g i + k ≡ lost_at (worker_at g i) = rw one at u in
    r.other (omega arith)
