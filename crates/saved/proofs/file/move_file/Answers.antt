-- `saved::file::move_file` meets its contract: a refusal saves nothing, and of a move that is not refused the bytes of the needed words are saved, for which the
-- output has room.
use Rattle.std.proofs.Common.{◌≡◌, ℕ, List, Ok, sym, ap, subst, ◌∙◌, arith}
use Rattle.std.proofs.Math.ListN.{replicate}
use Rattle.std.proofs.lemmas.Result.{err_from_is_err_and}
use Rattle.rules.specs.Answers.{Out, number_of}
use Rattle.rules.specs.Layout.{worker_words, windows_words, settings_of}
use Rattle.turnaround.specs.Move.{move_of}
use Rattle.saved.specs.Bytes.{words_in, bytes_for}
use Rattle.saved.specs.File.{saved, saved_of, pool_words, filed, filed_in}
use Rattle.saved.proofs.Largest.{needed_most}
use Rattle.saved.proofs.Moving.{refused_nothing, moved_zero, moved_bytes, MovedPool, moved_pool}
use Rattle.saved.proofs.file.move_file.Goals as goal

pub returns-in_err-move_words-clause-out_after : goal.returns-in_err-move_words-clause-out_after
unfolding worker_words windows_words saved_of
returns-in_err-move_words-clause-out_after c =
    let a = c.args in
    let o = move_of a.old a.new (words_in a.src.now) (replicate 8624 0) in
    let answer : c.move_words.result ≡ o.answer = ap (λ (x : Out). x.answer) c.move_words.ensures in
    let p = err_from_is_err_and c.from_residual.result c.from_residual.ensures.1 in
    rw (p.1, p.2) (ap (filed_in a.out.now) (sym (refused_nothing o _ (sym answer ∙ c.in_err-move_words.was))))

pub put_pool-requires-clause-bounds : goal.put_pool-requires-clause-bounds
unfolding worker_words windows_words
put_pool-requires-clause-bounds c =
    let a = c.args in
    let from = words_in a.src.now in
    let o = move_of a.old a.new from (replicate 8624 0) in
    let answer : c.move_words.result ≡ o.answer = ap (λ (x : Out). x.answer) c.move_words.ensures in
    let words : c.move_words.new.to ≡ o.words = ap (λ (x : Out). x.words) c.move_words.ensures in
    let pool = moved_pool a.old a.new from (replicate 8624 0) (moved_zero a.old a.new from (replicate 8624 0) _ (sym answer ∙ c.in_ok-move_words.was)) in
    (subst (λ (ws : List ℕ). MovedPool ws (settings_of ws)) (sym words) pool).bounds

pub put_pool-requires-clause-words_in_bounds : goal.put_pool-requires-clause-words_in_bounds
unfolding worker_words windows_words
put_pool-requires-clause-words_in_bounds c =
    let a = c.args in
    let from = words_in a.src.now in
    let o = move_of a.old a.new from (replicate 8624 0) in
    let answer : c.move_words.result ≡ o.answer = ap (λ (x : Out). x.answer) c.move_words.ensures in
    let words : c.move_words.new.to ≡ o.words = ap (λ (x : Out). x.words) c.move_words.ensures in
    let pool = moved_pool a.old a.new from (replicate 8624 0) (moved_zero a.old a.new from (replicate 8624 0) _ (sym answer ∙ c.in_ok-move_words.was)) in
    let here = subst (λ (ws : List ℕ). MovedPool ws (settings_of ws)) (sym words) pool in
    (here.enough, omega (arith, needed_most (settings_of c.move_words.new.to) here.bounds))

pub returns-clause-out_after : goal.returns-clause-out_after
unfolding worker_words windows_words saved_of
returns-clause-out_after c =
    let a = c.args in
    let from = words_in a.src.now in
    let o = move_of a.old a.new from (replicate 8624 0) in
    let answer : c.move_words.result ≡ o.answer = ap (λ (x : Out). x.answer) c.move_words.ensures in
    let words : c.move_words.new.to ≡ o.words = ap (λ (x : Out). x.words) c.move_words.ensures in
    let zero : number_of o.answer ≡ 0 = moved_zero a.old a.new from (replicate 8624 0) _ (sym answer ∙ c.in_ok-move_words.was) in
    let p = c.put_pool in
    let put : filed (Ok p.result) p.new.out ≡ filed_in a.out.now (saved 0 (bytes_for (pool_words c.move_words.new.to))) =
    λ u. record { number = 0; used = p.ensures.value.0 u; out = p.ensures.out_after u } in
    let file = ap (λ (ws : List ℕ). saved 0 (bytes_for (pool_words ws))) words ∙ ap (λ (n : ℕ). saved n (bytes_for (pool_words o.words))) (sym zero) ∙ sym (moved_bytes o zero) in
    put ∙ ap (filed_in a.out.now) file
