-- `setup::new::put_new` meets its contract: the words are zeros first, and the calls' promises put together are `made_words`.
use Rattle.std.proofs.Common.{◌≡◌, ℕ, zero, suc, ◌≤◌, List, ◌++◌, length, take, drop, refl, sym, ap, ◌∙◌, add-one, arith}
use Rattle.std.proofs.Math.ListN.{replicate}
use Rattle.std.proofs.lemmas.List.{length-take-le}
use Rattle.std.proofs.lemmas.List.Edits.{sets, fill_none, fill_more}
use Rattle.rules.specs.Layout.{windows_at, needed}
use Rattle.rules.specs.Make.{zeroed, new_head, new_windows, indexed, made_words}
use Rattle.rules.specs.declared.Settings.{Settings}
use Rattle.setup.proofs.new.put_new.Goals as goal

-- the first words filled with zeros
zeros : (ws : List ℕ) (n : ℕ) → n ≤ length ws → replicate n 0 ++ drop n ws ≡ zeroed ws n
unfolding zeroed
zeros ws zero l = sym (fill_none ws 0)
zeros ws (suc n) l = rw (← zeros ws n (omega arith)) (sym (rw add-one at (fill_more n 0 ws (omega arith))))

filled : (ws zs : List ℕ) (n : ℕ) → n ≤ length ws → zs ≡ replicate (length (take n ws)) 0 → zs ++ drop n ws ≡ zeroed ws n
filled ws zs n l e = rw (e, length-take-le n ws l) (zeros ws n l)

-- the head, the windows and the indices over them
made : (ws : List ℕ) (g : Settings) {none head windows all : List ℕ} → none ≡ zeroed ws (needed g) → head ≡ sets none 0 (new_head g)
    → windows ≡ sets head (windows_at g) (new_windows g) → all ≡ indexed windows g g.workers → all ≡ made_words ws g
unfolding made_words
made ws g a b c d = d ∙ (rw (c, b, a) refl)

pub returns : goal.returns
returns c =
    let a = c.args in
    let n = c.requires.needed_words in
    let none = filled a.words.now c.fill.new.self a.n (omega (arith, n.0, n.1)) (c.fill.ensures.after (λ y e. e)) ∙ ap (zeroed a.words.now) n.0 in
    made a.words.now a.g none c.put_head.ensures c.put_windows.ensures c.put_indices.ensures
