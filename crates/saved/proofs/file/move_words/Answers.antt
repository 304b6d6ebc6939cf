-- `saved::file::move_words` meets its contract: the words read are the file's first ones, as many as the largest pool needs, and a move looks at no others.
use Rattle.std.proofs.Common.{◌≡◌, ℕ, List, take, sym, ap, ◌∙◌, arith}
use Rattle.std.proofs.lemmas.List.{take_at}
use Rattle.rules.specs.Layout.{worker_words, windows_words}
use Rattle.turnaround.specs.Move.{move_of}
use Rattle.saved.specs.Bytes.{words_in}
use Rattle.saved.proofs.Largest.{largest_enough}
use Rattle.saved.proofs.file.move_words.Goals as goal

pub returns : goal.returns
unfolding worker_words windows_words
returns c =
    let a = c.args in
    let to = a.to.now in
    let words = words_in a.src.now in
    let g = c.get_words-n in
    let first : take g.result g.new.words ≡ take 8624 words = rw g.ensures.words_after (take_at (take 8624 words) _ g.result (sym g.ensures.value.0)) in
    c.move_pool.ensures ∙ ap (λ (ws : List ℕ). move_of a.old a.new ws to) first ∙ largest_enough a.old a.new 8624 words to (omega arith)
