-- `runfile::word::word_at` meets its contract: a chunk of four bytes is the word of the definition. Where there is none, the lemmas that the function names
-- tell what is left. Assumes nothing.
use Rattle.std.proofs.Common.{arith, length, ◌/◌, []}
use Rattle.runfile.specs.Words.{word_bytes}
use Rattle.runfile.proofs.Words.{whole_word}
use Rattle.runfile.proofs.word.word_at.Goals as goal

pub returns-in-Some : goal.returns-in-Some
returns-in-Some c =
    let bytes = c.args.bytes.now in
    let at_chunk = c.in-Some.ensures.lookup.3 in
    let whole = whole_word bytes (length bytes / word_bytes) c.args.at (omega arith) (omega (arith, at_chunk.0, c.as_chunks.ensures.front_len)) in
    grind (arith, whole, at_chunk.1 [], c.as_chunks.ensures.front, c.from_le_bytes.ensures)
