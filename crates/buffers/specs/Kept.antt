-- THE ACCOUNT OF A RUN: each step keeps the account of what is read and printed (crates/pieces, specs/Account), and none forgets what could
-- not be read or written.
use Rattle.std.specs.Prelude.{◌≡◌, ℕ, ◌+◌, ◌-◌, ◌%◌, ◌^◌, true, List, ◌==◌}
use Rattle.printing.specs.declared.printed.Mode.{Mode}
use Rattle.pieces.specs.Stretch.{stretched}
use Rattle.pieces.specs.Account.{Account}
use Rattle.pieces.specs.declared.stretch.Stretch.{Stretch}
use Rattle.buffers.specs.declared.run.Run.{Run}

-- the account of a run, with the piece in its input, the pool's words and the output
abbrev pub AccountOf : Mode → Run → List ℕ → List ℕ → List ℕ → Type 0
AccountOf m run piece ws out = Account m run.read run.written run.ended piece (stretched run.stretch ws out)

-- it is kept from a run to another
abbrev pub Keeps : Mode → Run → List ℕ → List ℕ → List ℕ → Run → List ℕ → List ℕ → List ℕ → Type 0
Keeps m before piece ws out after piece' ws' out' = AccountOf m before piece ws out → AccountOf m after piece' ws' out'

-- a stretch whose output is used anew, and one at the start of a piece
abbrev pub emptied : Stretch → Stretch
emptied s = record { printer = s.printer; at = s.at; used = 0; complete = s.complete }

abbrev pub at_start : Stretch → Stretch
at_start s = record { printer = s.printer; at = 0; used = s.used; complete = s.complete }

-- ---- what a step may not change
-- a step that reads nothing leaves all that a read sets
pub record ReadsNothing (before after : Run) : Type 0 where
  pub read : after.read ≡ before.read
  pub reads : after.reads ≡ before.reads
  pub ended : after.ended ≡ before.ended
  pub unread : after.unread ≡ before.unread

-- one that writes nothing leaves all that a write sets
pub record WritesNothing (before after : Run) : Type 0 where
  pub written : after.written ≡ before.written
  pub unwritten : after.unwritten ≡ before.unwritten

-- and no step forgets what could not be read or written
pub record Remembers (before after : Run) : Type 0 where
  pub unread : before.unread ≡ true → after.unread ≡ true
  pub unwritten : before.unwritten ≡ true → after.unwritten ≡ true

-- ---- the steps
-- what is used of the output is handed to be written, all of it, once
pub record FlushedTo (before after : Run) : Type 0 where
  pub stretch : after.stretch ≡ emptied before.stretch
  pub written : after.written ≡ (before.written + before.stretch.used) % 2 ^ 64
  pub reading : ReadsNothing before after
  pub remembers : Remembers before after

-- the input is read, behind what was carried over, and the read is counted
pub record Read (before after : Run) : Type 0 where
  pub stretch : after.stretch ≡ before.stretch
  pub carried : after.carried ≡ before.carried
  pub reads : after.reads ≡ (before.reads + 1) % 2 ^ 64
  pub writing : WritesNothing before after

-- `n` bytes; a read of no bytes is the end of the input
pub record Fed (before : Run) (n : ℕ) (after : Run) : Type 0 where
  pub reading : Read before after
  pub read : after.read ≡ (before.read + n) % 2 ^ 64
  pub ended : after.ended ≡ (n == 0)
  pub unread : after.unread ≡ before.unread

-- or it can't be read
pub record Unfed (before after : Run) : Type 0 where
  pub reading : Read before after
  pub read : after.read ≡ before.read
  pub ended : after.ended ≡ before.ended
  pub unread : after.unread ≡ true

-- as many reads as a program counts
abbrev pub most_reads : ℕ
most_reads = 2 ^ 64 - 1
