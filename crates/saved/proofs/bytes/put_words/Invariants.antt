-- `saved::bytes::put_words` meets its contract: the bytes of the first k words stand before the others.
use Rattle.std.proofs.Common.{◌≡◌, ◌*◌, ◌++◌, take, drop}
use Rattle.saved.specs.Bytes.{bytes_for}
use Rattle.saved.proofs.bytes.put_words.Given as goal

abbrev pub invariant-loop-k : goal.invariant-loop-k
invariant-loop-k l = l.out ≡ bytes_for (take l.k l.words) ++ drop (4 * l.k) l.initial.out
