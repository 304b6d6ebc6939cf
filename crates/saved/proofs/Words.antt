-- The words of bytes: what a reader finds at a position tells whether the words reach there, and which word it is.
-- The bytes of words: four for each word, so that a word put behind those of the words before it makes the bytes of one word more.
use Rattle.std.proofs.Common.{◌≡◌, ℕ, zero, suc, ◌+◌, ◌*◌, ◌<◌, ◌≤◌, List, [], ◌∷◌, ◌++◌, length, get_or, take, drop, refl, sym, ap, ◌∙◌, drop-cons, arith}
use Rattle.std.proofs.Math.ListN.{set}
use Rattle.std.proofs.Math.Seq.{take-suc, append_snoc}
use Rattle.std.proofs.lemmas.List.{length-take-le, take_at, drop_at, drop-drop, set_at}
use Rattle.std.proofs.lemmas.Slice.{put_mid-paste}
use borrow.Rule.Slice.PartMut.{put_mid}
use Rattle.runfile.specs.Words.{word_bytes, word_of, bytes_of, reads_of, read_at}
use Rattle.runfile.specs.declared.word.Read.{Read}
use Rattle.runfile.specs.declared.word.Read.TheVariants.{Word, Cut, End}
use Rattle.saved.specs.Bytes.{whole_words, words_in, bytes_for}

-- ---- words
-- what is found at a position of these words
abbrev pub Found : List ℕ → ℕ → Read → Type 0
Found words at (Word word) = (at < length words) × (get_or words at 0 ≡ word)
Found words at Cut = length words ≤ at
Found words at End = length words ≤ at

pub found : (bytes : List ℕ) (at : ℕ) → Found (words_in bytes) at (read_at bytes at)
unfolding read_at reads_of words_in whole_words
found [] at = omega arith
found (a ∷ []) zero = omega arith
found (a ∷ []) (suc at) = omega arith
found (a ∷ b ∷ []) zero = omega arith
found (a ∷ b ∷ []) (suc at) = omega arith
found (a ∷ b ∷ c ∷ []) zero = omega arith
found (a ∷ b ∷ c ∷ []) (suc at) = omega arith
found (a ∷ b ∷ c ∷ d ∷ rest) zero = (omega arith, refl)
found (a ∷ b ∷ c ∷ d ∷ rest) (suc at) = next (word_of a b c d) (words_in rest) at (read_at rest at) (found rest at)
  where
    next : (word : ℕ) (words : List ℕ) (at : ℕ) (read : Read) → Found words at read → Found (word ∷ words) (suc at) read
    next word words at (Word x) f = (omega arith, f.1)
    next word words at Cut f = omega arith
    next word words at End f = omega arith

-- the first n words are at the front; the next one is stored
pub front_next : (words area : List ℕ) (n : ℕ) → n < length words → n < length area → set (take n words ++ drop n area) n (get_or words n 0) ≡ take (suc n) words ++ drop (suc n) area
front_next words area n more room =
    let p = take n words in
    let x = get_or words n 0 in
    rw (drop-cons area n 0 room, take-suc words n 0 more)
    (set_at p (get_or area n 0) (drop (suc n) area) x n (length-take-le n words (omega arith)) ∙ sym (append_snoc p x (drop (suc n) area)))

-- ---- bytes
pub bytes_length : (words : List ℕ) → length (bytes_for words) ≡ word_bytes * length words
unfolding bytes_for
bytes_length [] = refl
bytes_length (word ∷ words) = let e = bytes_length words in omega arith

bytes_append : (xs ys : List ℕ) → bytes_for (xs ++ ys) ≡ bytes_for xs ++ bytes_for ys
unfolding bytes_for
bytes_append [] ys = refl
bytes_append (x ∷ xs) ys = rw (bytes_append xs ys) refl

one_word : (word : ℕ) → bytes_for (word ∷ []) ≡ bytes_of word
unfolding bytes_for
one_word word = refl

-- the first k words are put; the next one is
pub put_next : (words out part : List ℕ) (k width : ℕ) → k < length words → word_bytes * k + word_bytes ≤ length out → width ≡ word_bytes → part ≡ bytes_of (get_or words k 0)
    → put_mid (word_bytes * k) width (bytes_for (take k words) ++ drop (word_bytes * k) out) part ≡ bytes_for (take (suc k) words) ++ drop (word_bytes * suc k) out
put_next words out part k width more room wide here =
    let p = bytes_for (take k words) in
    let n = word_bytes * k in
    let l = p ++ drop n out in
    let four = bytes_of (get_or words k 0) in
    let size : length p ≡ n = bytes_length (take k words) ∙ ap (λ (x : ℕ). word_bytes * x) (length-take-le k words (omega arith)) in
    let one : bytes_for (take (suc k) words) ≡ p ++ four =
    rw (take-suc words k 0 more) (bytes_append (take k words) (get_or words k 0 ∷ []) ∙ ap (λ (x : List ℕ). p ++ x) (one_word (get_or words k 0))) in
    let rest : drop (n + word_bytes) l ≡ drop (n + word_bytes) out =
    sym (drop-drop word_bytes n l) ∙ ap (drop word_bytes) (drop_at p (drop n out) n size) ∙ drop-drop word_bytes n out in
    let at : word_bytes * suc k ≡ n + word_bytes = omega arith in
    put_mid-paste n width l part four word_bytes here (sym wide) refl ∙ (rw (take_at p (drop n out) n size, rest, one, at) refl)
