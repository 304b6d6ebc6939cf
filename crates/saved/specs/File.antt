-- A file with a saved pool, moved from an edition to another.
use Rattle.std.specs.Prelude.{ℕ, Result, Ok, Err, List, [], length, take, replicate, eqb}
use Rattle.laws.specs.Choice.{cond}
use Rattle.rules.specs.Answers.{Out, number_of, refusal_number}
use Rattle.rules.specs.Layout.{settings_of, needed, most_words}
use Rattle.rules.specs.Make.{shipped}
use Rattle.turnaround.specs.Move.{move_of}
use Rattle.saved.specs.Bytes.{words_in, bytes_for, fronted}
use Rattle.rules.specs.declared.Refusal.{Refusal}

-- the number of a move, and the bytes of the file that it makes
pub record Saved : Type 0 where
  pub number : ℕ
  pub bytes : List ℕ

abbrev pub saved : ℕ → List ℕ → Saved
saved n bytes = record { number = n; bytes = bytes }

-- the words of a pool, without those beyond the needed ones
abbrev pub pool_words : List ℕ → List ℕ
pool_words ws = take (needed (settings_of ws)) ws

-- a move that is refused makes no file
unfoldable pub saved_by : Out → Saved
saved_by o = saved (number_of o.answer) (cond (eqb (number_of o.answer) 0) (bytes_for (pool_words o.words)) [])

-- the words of the file, moved into as many as the largest pool needs
unfoldable pub saved_of : ℕ → ℕ → List ℕ → Saved
saved_of a b bytes = saved_by (move_of a b (words_in bytes) (replicate (most_words shipped) 0))

-- what is told of a move, its number and how many bytes its file has, and the lent bytes after it
pub record Filed : Type 0 where
  pub number : ℕ
  pub used : ℕ
  pub out : List ℕ

abbrev pub filed : Result ℕ Refusal → List ℕ → Filed
filed (Ok used) out = record { number = 0; used = used; out = out }
filed (Err refusal) out = record { number = refusal_number refusal; used = 0; out = out }

-- the file stands at their front
abbrev pub filed_in : List ℕ → Saved → Filed
filed_in out s = record { number = s.number; used = length s.bytes; out = fronted s.bytes out }
