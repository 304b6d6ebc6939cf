-- WHAT THE MOVER WRITES: nothing but the pool that it read, moved, or the first bytes of that where a write fails. So no byte where the move is refused.
-- Where the stream that it reads says which bytes it has left to give, what it read are the first of those; where the stream that it writes to says which
-- bytes it holds, it holds what it wrote behind what it held.
use Rattle.std.specs.Prelude.{ℕ, List, Option, take}
use Rattle.std.specs.Io.KnownBytes.{Consumes, Appends}
use Rattle.saved.specs.File.{saved_of}

pub record MovesInput (old new : ℕ) (left left' held held' : Option (List ℕ)) : Type 0 where
  pub bytes : List ℕ
  pub wrote : ℕ
  pub reads : Consumes left left' bytes
  pub writes : Appends held held' (take wrote (saved_of old new bytes).bytes)
