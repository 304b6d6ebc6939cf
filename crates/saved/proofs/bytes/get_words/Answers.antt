-- `saved::bytes::get_words` meets its contract: the first n words of the bytes stand before the others lent. Where no word is found there are no more.
use Rattle.std.proofs.Common.{◌≡◌, ℕ, ◌+◌, ◌≤◌, List, ◌++◌, length, get_or, take, drop, refl, sym, subst, ◌∙◌, add-one, arith}
use Rattle.std.proofs.Math.ListN.{set}
use Rattle.std.proofs.lemmas.List.{take_all, length-take-le, set-get_or}
use Rattle.runfile.specs.declared.word.Read.{Read}
use Rattle.runfile.specs.declared.word.Read.TheVariants.{Word, Cut, End}
use Rattle.saved.specs.Bytes.{words_in}
use Rattle.saved.proofs.Words.{Found, found, front_next}
use Rattle.saved.proofs.bytes.get_words.Goals as goal

-- where the reader yields no word
no_word : (words : List ℕ) (at : ℕ) (read : Read) → ((x : ℕ) → ¬ (read ≡ Word x)) → Found words at read → length words ≤ at
no_word words at (Word word) h f = absurd (h word refl)
no_word words at Cut h f = f
no_word words at End h f = f

pub returns-in_default : goal.returns-in_default
returns-in_default c =
    let l = c.loop-n in
    let a = c.args in
    let words = words_in a.src.now in
    let f : Found words l.n c.word_at.result = rw c.word_at.ensures (found a.src.now l.n) in
    let past : length words ≤ l.n = no_word words l.n c.word_at.result c.in_default.not-Word f in
    let first : take (length a.words.now) words ≡ take l.n words =
    take_all (length a.words.now) words (omega arith) ∙ sym (take_all l.n words past) in
    let same : set l.words l.n (get_or l.words l.n 0) ≡ l.words = set-get_or l.words l.n 0 in
    rw (first, length-take-le l.n words l.invariant.most, same) (record { words_after = l.invariant.front; value = (refl, omega arith) })

pub loop-n-preserved : goal.loop-n-preserved
loop-n-preserved c =
    let l = c.loop-n in
    let a = c.args in
    let words = words_in a.src.now in
    let x = c.in-Word.word in
    let f : Found words l.n (Word x) =
    subst (Found words l.n) (sym c.word_at.ensures ∙ c.in-Word.is) (found a.src.now l.n) in
    let more : set l.words l.n x ≡ take (l.n + 1) words ++ drop (l.n + 1) a.words.now =
    rw (l.invariant.front, ← f.1, add-one) (front_next words a.words.now l.n f.0 (omega arith)) in
    record { most = omega arith; front = more }
