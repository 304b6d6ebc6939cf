-- What a read behind the first `at` bytes of an area takes of a stream, where the bytes that the stream has left are known: those that it brought, and that
-- now stand behind them, no more and no fewer. A read that brought no byte, though there was room, found the stream at its end. One that failed takes none.
use Rattle.std.specs.Prelude.{ℕ, List, Option, Result, drop}
use Rattle.std.specs.Io.KnownBytes.{ReadConsumes}

abbrev pub ReadBehind : {E : Type 0} → Option (List ℕ) → Option (List ℕ) → ℕ → Result ℕ E → List ℕ → Type 0
ReadBehind old new at r area = ReadConsumes old new r (drop at area)
