-- `saved::file::put_pool` meets its contract: the needed words are put, and they are four bytes each. Assumes nothing.
use Prim.Native.Nat.{ℕ, ◌*◌}
use mathlib.Core.Path.{◌≡◌, sym, ap, ◌∙◌}
use native.Mathlib.Omega.{arith}
use lib.ListN.{length, take}
use lib.Seq.{length-take-le}
use Rattle.rules.specs.Layout.{settings_of, needed}
use Rattle.saved.specs.Bytes.{bytes_for}
use Rattle.saved.proofs.Words.{bytes_length}
use Rattle.saved.proofs.file.put_pool.Goals as goal

pub returns-clause-value : goal.returns-clause-value
returns-clause-value c =
    let words = c.args.words.now in
    let w = c.words_needed-n in
    let n = w.result in
    let all : n ≡ needed (settings_of words) = w.ensures ∙ ap needed c.settings.ensures in
    let size : length (bytes_for (take n words)) ≡ 4 * n = bytes_length (take n words) ∙ ap (λ (x : ℕ). 4 * x) (length-take-le n words (omega (arith, c.requires.words_in_bounds.0))) in
    rw (← all) ((sym size, omega (arith, c.requires.words_in_bounds.1)))
