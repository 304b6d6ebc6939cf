-- The words of a worker of the shipped edition, each by itself, once the width is told that its index and scan lie below: so the check goes word by word.
use Rattle.std.specs.Prelude.{ℕ, Bool, true, ltb, leb, eqb}
use Rattle.laws.specs.Choice.{cond}
use Rattle.rules.specs.Fit.{phase_fit}
use Rattle.rules.specs.declared.Settings.{Settings}

-- word 0 is the phase, 2 the index, 5 the scan; 9 and 10 are the rest of the window seen, of which a queue's has the width and a stack's none
unfoldable pub word_fit : Settings → ℕ → ℕ → ℕ → Bool
word_fit g width k x =
    cond (eqb k 0) (phase_fit g.kind x)
    (cond (eqb k 2) (ltb x width)
    (cond (eqb k 5) (ltb x width)
    (cond (eqb g.kind 0) (cond (eqb k 10) (leb width g.width) true)
    (cond (ltb k 9) true (eqb x 0)))))
