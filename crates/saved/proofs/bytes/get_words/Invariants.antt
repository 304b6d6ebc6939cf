-- `saved::bytes::get_words` meets its contract: the first n words of the bytes stand before the others lent. Where no word is found there are no more.
use Rattle.std.proofs.Common.{◌≡◌, ◌≤◌, ◌++◌, length, take, drop}
use Rattle.saved.specs.Bytes.{words_in}
use Rattle.saved.proofs.bytes.get_words.Given as goal

abbrev pub invariant-loop-n : goal.invariant-loop-n
invariant-loop-n l = record { most : l.n ≤ length (words_in l.src); front : l.words ≡ take l.n (words_in l.src) ++ drop l.n l.initial.words }
