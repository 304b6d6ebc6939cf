-- A saved pool is a file of words: the words of its bytes, and the bytes of words.
use Rattle.std.specs.Prelude.{ℕ, List, [], ◌∷◌, ◌++◌, length, drop}
use Rattle.runfile.specs.Words.{bytes_of, reads_of}
use Rattle.runfile.specs.declared.word.Read.{Read}
use Rattle.runfile.specs.declared.word.Read.TheVariants.{Word, Cut, End}

-- the words among what a reader finds: a cut one is none
unfoldable pub whole_words : List Read → List ℕ
whole_words [] = []
whole_words (Word word ∷ reads) = word ∷ whole_words reads
whole_words (Cut ∷ reads) = whole_words reads
whole_words (End ∷ reads) = whole_words reads

unfoldable pub words_in : List ℕ → List ℕ
words_in bytes = whole_words (reads_of bytes)

unfoldable pub bytes_for : List ℕ → List ℕ
bytes_for [] = []
bytes_for (word ∷ words) = bytes_of word ++ bytes_for words

-- these at the front of an area, and behind them what it held
abbrev pub fronted : List ℕ → List ℕ → List ℕ
fronted xs area = xs ++ drop (length xs) area
