-- `shared_fitness::subs::subs_fit` meets its contract: the test of each sub, held to the bottom that was read once, is that of `subs_fit`.
use Rattle.std.proofs.Common.{◌≡◌, ℕ, ◌<◌, Bool, true, false, refl, sym, ◌∙◌, rules}
use Rattle.laws.specs.Choice.{all_below, all_below_fails}
use Rattle.laws.specs.Looks.{all_hold}
use Rattle.shared_fitness.proofs.Bottoms.{is_fit, subs_by}
use Rattle.shared_fitness.proofs.subs.subs_fit.Goals as goal

-- an answer that is true where the test holds below a bound, and false where it fails at a number there
answered : (n : ℕ) (p : ℕ → Bool) (r : Bool) → (r ≡ true → (j : ℕ) → j < n → p j ≡ true) → (r ≡ false → (j : ℕ) × (j < n) × (p j ≡ false)) → r ≡ all_below n p
answered n p true each some = sym (all_hold n p (each refl))
answered n p false each some = let t = some refl in sym (all_below_fails n p t.0 t.1 t.2)

pub returns : goal.returns
returns c =
    let a = c.args in
    let fits : c.all_in_fours.result ≡ true → (j : ℕ) → j < a.g.width → is_fit a.words.now a.g c.lowest-bottom.result j ≡ true = λ e j l. let p = c.all_in_fours.ensures.each e j l in search rules in
    let unfit : c.all_in_fours.result ≡ false → (j : ℕ) × (j < a.g.width) × (is_fit a.words.now a.g c.lowest-bottom.result j ≡ false) = λ e. let t = c.all_in_fours.ensures.some e in (t.0, t.1, search rules) in
    answered a.g.width (is_fit a.words.now a.g c.lowest-bottom.result) c.all_in_fours.result fits unfit ∙ subs_by a.words.now a.g _ c.lowest-bottom.ensures
