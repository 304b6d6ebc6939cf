-- What stands at a word position, told from the number of bytes: a whole word where four bytes are left, a cut one where fewer are, and nothing past them.
-- Each by walking down the bytes four at a time, as `reads_of` does.
use Rattle.std.proofs.Common.{◌≡◌, ℕ, zero, suc, ◌+◌, ◌*◌, ◌<◌, ◌≤◌, List, [], ◌∷◌, length, get_or, refl, arith, w32}
use Rattle.std.specs.Int.{from_le_bytes}
use Rattle.std.specs.Simd.{first_chunks}
use Rattle.runfile.specs.Words.{word_bytes, word_of, reads_of, read_at}
use Rattle.runfile.specs.declared.word.Read.TheVariants.{Word, Cut, End}

-- the definition's word is the library's of four bytes
word_of_four : (a b c d : ℕ) → word_of a b c d ≡ from_le_bytes w32 (a ∷ b ∷ c ∷ d ∷ [])
word_of_four a b c d = omega arith

-- the words are the chunks of four bytes
pub whole_word : (bytes : List ℕ) (n at : ℕ) → word_bytes * n ≤ length bytes → at < n
    → read_at bytes at ≡ Word (from_le_bytes w32 (get_or (first_chunks word_bytes n bytes) at []))
unfolding read_at reads_of
whole_word [] (suc n) at l h = absurd (omega arith)
whole_word (a ∷ []) (suc n) at l h = absurd (omega arith)
whole_word (a ∷ b ∷ []) (suc n) at l h = absurd (omega arith)
whole_word (a ∷ b ∷ c ∷ []) (suc n) at l h = absurd (omega arith)
whole_word (a ∷ b ∷ c ∷ d ∷ rest) (suc n) zero l h = simp (word_of_four a b c d)
whole_word (a ∷ b ∷ c ∷ d ∷ rest) (suc n) (suc at) l h = whole_word rest n at (omega arith) (omega arith)
whole_word bytes zero at l h = absurd (omega arith)

pub cut_word : (bytes : List ℕ) (at : ℕ) → word_bytes * at < length bytes → length bytes < word_bytes * at + word_bytes → read_at bytes at ≡ Cut
unfolding read_at reads_of
cut_word [] at l h = absurd (omega arith)
cut_word (a ∷ []) zero l h = refl
cut_word (a ∷ []) (suc at) l h = absurd (omega arith)
cut_word (a ∷ b ∷ []) zero l h = refl
cut_word (a ∷ b ∷ []) (suc at) l h = absurd (omega arith)
cut_word (a ∷ b ∷ c ∷ []) zero l h = refl
cut_word (a ∷ b ∷ c ∷ []) (suc at) l h = absurd (omega arith)
cut_word (a ∷ b ∷ c ∷ d ∷ rest) zero l h = absurd (omega arith)
cut_word (a ∷ b ∷ c ∷ d ∷ rest) (suc at) l h = cut_word rest at (omega arith) (omega arith)

pub past_words : (bytes : List ℕ) (at : ℕ) → length bytes ≤ word_bytes * at → read_at bytes at ≡ End
unfolding read_at reads_of
past_words [] at h = refl
past_words (a ∷ bytes) zero h = absurd (omega arith)
past_words (a ∷ []) (suc at) h = refl
past_words (a ∷ b ∷ []) (suc at) h = refl
past_words (a ∷ b ∷ c ∷ []) (suc at) h = refl
past_words (a ∷ b ∷ c ∷ d ∷ rest) (suc at) h = past_words rest at (omega arith)
