-- THE ACCOUNT of a program that reads a file in pieces: which bytes it has read and which it has written, and that what it has written, with what its
-- output holds and what is still to come, is what is printed of the file, however the file goes on.
-- The code holds neither list. It holds how many bytes each has, counted where they are read and written, so that the account is of all of them.
use Rattle.std.specs.Prelude.{ℕ, ◌+◌, ◌*◌, ◌%◌, ◌^◌, ◌<◌, Bool, true, List, [], ◌++◌, ◌≡◌, length}
use Rattle.runfile.specs.Words.{word_bytes}
use Rattle.printing.specs.Print.{print_of}
use Rattle.printing.specs.declared.printed.Mode.{Mode}
use Rattle.pieces.specs.Stretch.{Stretched}
use Rattle.pieces.specs.Progress.{Progress}

-- how many bytes, as the code counts them
abbrev pub Counts : ℕ → List ℕ → Type 0
Counts n bytes = n ≡ length bytes % 2 ^ 64

-- a program in the mode `m`, which has `read` and `written` so many bytes: `piece` is what lies in its input, from a whole word of the file on, the
-- last of it if the input has ended; `s` is how far it is in that piece, with the pool's words and the output
pub record Account (m : Mode) (read written : ℕ) (ended : Bool) (piece : List ℕ) (s : Stretched) : Type 0 where
  pub bytes : List ℕ
  pub text : List ℕ
  pub bytes_read : Counts read bytes
  pub text_written : Counts written text
  -- the words before the piece
  pub front : List ℕ
  pub words : ℕ
  pub front_words : length front ≡ word_bytes * words
  pub front_piece : bytes ≡ front ++ piece
  -- whatever more is read, nothing once the input has ended
  pub progress : (more : List ℕ) → (ended ≡ true → more ≡ []) → length (bytes ++ more) < 2 ^ 64 → Progress m (bytes ++ more) (words + s.stretch.at) text s

-- WHAT A PROGRAM HAS DONE that printed all: there are as many bytes as it read, and as many as it wrote, and these are what is printed of a file that
-- begins with those; of just those if the input has ended
pub record AllPrinted (m : Mode) (read written : ℕ) (ended : Bool) : Type 0 where
  pub bytes : List ℕ
  pub text : List ℕ
  pub bytes_read : Counts read bytes
  pub text_written : Counts written text
  pub prints : (more : List ℕ) → (ended ≡ true → more ≡ []) → length (bytes ++ more) < 2 ^ 64 → text ≡ print_of m (bytes ++ more)
