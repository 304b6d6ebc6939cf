-- The words of a run file's bytes: 32 bits each, low byte first.
use Rattle.std.specs.Prelude.{ℕ, ◌+◌, ◌*◌, ◌/◌, ◌%◌, ◌^◌, List, [], ◌∷◌, get_or}
use Rattle.runfile.specs.declared.word.Read.{Read}
use Rattle.runfile.specs.declared.word.Read.TheVariants.{Word, Cut, End}

-- the bytes of a word
abbrev pub word_bytes : ℕ
word_bytes = 4

-- the bits where a word's bytes begin
abbrev pub byte_bit : ℕ → ℕ
byte_bit k = 8 * k

-- the word of its bytes
abbrev pub word_of : ℕ → ℕ → ℕ → ℕ → ℕ
word_of a b c d = a + 2 ^ byte_bit 1 * b + 2 ^ byte_bit 2 * c + 2 ^ byte_bit 3 * d

-- and back: the low byte, and the bytes
abbrev pub low_byte : ℕ → ℕ
low_byte x = x % 2 ^ byte_bit 1

abbrev pub bytes_of : ℕ → List ℕ
bytes_of word = low_byte word ∷ low_byte (word / 2 ^ byte_bit 1) ∷ low_byte (word / 2 ^ byte_bit 2) ∷ low_byte (word / 2 ^ byte_bit 3) ∷ []

-- what a reader finds, word after word: the whole words, and a cut one where one to three bytes are left
unfoldable pub reads_of : List ℕ → List Read
reads_of [] = []
reads_of (a ∷ []) = Cut ∷ []
reads_of (a ∷ b ∷ []) = Cut ∷ []
reads_of (a ∷ b ∷ c ∷ []) = Cut ∷ []
reads_of (a ∷ b ∷ c ∷ d ∷ rest) = Word (word_of a b c d) ∷ reads_of rest

-- what stands at word position `at`; past all of them the end
unfoldable pub read_at : List ℕ → ℕ → Read
read_at bytes at = get_or (reads_of bytes) at End
