-- THE LOOP: what is left of the input after a piece, when a run is over, and what the program is proved to do (`Ran`).
use Rattle.std.specs.Prelude.{ℕ, Bool, true, false, List, ◌⊎◌, ◌≡◌, take}
use Rattle.laws.specs.Choice.{cond}
use Rattle.printing.specs.declared.printed.Mode.{Mode}
use Rattle.pieces.specs.Stretch.{new_stretch}
use Rattle.pieces.specs.Account.{AllPrinted}
use Rattle.buffers.specs.Kept.{AccountOf, most_reads}
use Rattle.buffers.specs.declared.run.Run.{Run}

-- after a piece and before the next read: what was carried over is what is left of the input, unless it has ended
pub record Left (m : Mode) (run : Run) (src ws out : List ℕ) : Type 0 where
  pub piece : List ℕ
  pub carried : run.ended ≡ false → piece ≡ take run.carried src
  pub account : AccountOf m run piece ws out

-- ---- a run
abbrev pub new_run : Run
new_run =
    record { stretch = new_stretch; carried = 0; read = 0; reads = 0; written = 0; ended = false; unread = false; unwritten = false }

-- a run is over once all is printed, the input has ended, or what is to be read or written can't be
unfoldable pub over : Run → Bool
over r = cond r.stretch.complete true (cond r.ended true (cond r.unread true r.unwritten))

-- WHAT THE PROGRAM IS PROVED TO DO, in the mode `m`, where `r` is the run at its end
pub record Ran (m : Mode) (r : Run) : Type 0 where
  -- it stops nowhere but where the run is over: all is printed, the input has ended, or what is to be read or written can't be. Or it has read more often than
  -- any computer can
  pub stops : (over r ≡ true) ⊎ (r.reads ≡ most_reads)
  -- where the input has ended all is printed
  pub completes : r.ended ≡ true → r.stretch.complete ≡ true
  -- once all is printed, the bytes that it handed to be written are what is printed of the bytes that it read
  pub prints : r.stretch.complete ≡ true → AllPrinted m r.read r.written r.ended
