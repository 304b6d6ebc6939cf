-- `shared_fitness::windows::pairs_fit` meets its contract: the pairs beyond the live ones are zero where each of their words is.
use Rattle.shared_fitness.proofs.Pairs.{no_word, words_behind, pairs_live, pairs_behind}
use Rattle.rules.specs.Windows.{live_of}
use Rattle.rules.specs.Limits.{most_live}
use Rattle.std.proofs.Common.{◌≡◌, ℕ, ◌+◌, ◌-◌, ◌*◌, ◌≤◌, Bool, eqb, List, get_or, sym, refl, ◌∙◌}
use Rattle.rules.specs.declared.Settings.{Settings}
use Rattle.rules.specs.Layout.{windows_at}
use Rattle.laws.specs.Choice.{all_below}
use Rattle.shared_fitness.proofs.windows.pairs_fit.Goals as goal

-- what was asked of the words behind the live pairs, by where the windows' words lie
asked : (ws : List ℕ) (g : Settings) {live at : ℕ} {r : Bool} → at ≡ windows_at g → live ≡ live_of ws g
    → r ≡ all_below (at + 4 + 32 - (at + 4 + 2 * live)) (λ k. eqb (get_or ws (at + 4 + 2 * live + k) 0) 0)
    → all_below (words_behind ws g (live_of ws g)) (no_word ws g (live_of ws g)) ≡ r
asked ws g e l z = sym (z ∙ rw (e, l) refl)

pub returns-then-zeros : goal.returns-then-zeros
returns-then-zeros c =
    let a = c.args in
    let p = c.requires.live_le_most_live in
    let most : live_of a.words.now a.g ≤ most_live = rw p.1 at p.0 in
    let none = asked a.words.now a.g c.windows_at-pairs.ensures p.1 c.zeros.ensures ∙ c.if-zeros.true in
    c.live_fit.ensures ∙ rw (pairs_live a.words.now a.g most none, p.1) refl

pub returns-else-zeros : goal.returns-else-zeros
returns-else-zeros c =
    let a = c.args in
    let p = c.requires.live_le_most_live in
    let most : live_of a.words.now a.g ≤ most_live = rw p.1 at p.0 in
    let some = asked a.words.now a.g c.windows_at-pairs.ensures p.1 c.zeros.ensures ∙ c.if-zeros.false in
    c.if-zeros.false ∙ sym (rw (pairs_behind a.words.now a.g most some) refl)
