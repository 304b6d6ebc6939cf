-- `moves::leads_on` meets its contract: its tests are those of the definition, in their order.
use Rattle.std.proofs.Common.{◌≡◌, ℕ, ◌+◌, Bool, true, false, eqb, eq-eqb, ne_eqb, eqb-true, le-leb, refl, ap, ◌∙◌, arith}
use Rattle.std.specs.Int.{abs_diff}
use Rattle.std.proofs.lemmas.Bool.{eqb-false}
use Rattle.laws.specs.Choice.{cond}
use Rattle.moves.proofs.leads_on.Goals as goal

-- two editions are one apart where either is one on from the other
one_apart : (a b : ℕ) → eqb (abs_diff a b) 1 ≡ cond (eqb b (a + 1)) true (eqb a (b + 1))
unfolding cond
one_apart a b = go (eqb b (a + 1)) refl (eqb a (b + 1)) refl
  where
    go : (p : Bool) → eqb b (a + 1) ≡ p → (q : Bool) → eqb a (b + 1) ≡ q → eqb (abs_diff a b) 1 ≡ cond p true q
    go true e q f = eq-eqb (abs_diff a b) 1 (omega (arith, eqb-true b (a + 1) e))
    go false e true f = eq-eqb (abs_diff a b) 1 (omega (arith, eqb-true a (b + 1) f))
    go false e false f = let up = eqb-false b (a + 1) e in let down = eqb-false a (b + 1) f in ne_eqb (abs_diff a b) 1 (λ (z : abs_diff a b ≡ 1). absurd (omega arith))

pub returns-then-new-le-SHIPPED : goal.returns-then-new-le-SHIPPED
returns-then-new-le-SHIPPED c =
    let a = c.args in
    let within = c.if-new-le-SHIPPED.true in
    rw (le-leb _ _ within.0, le-leb _ _ within.1) (ap (λ (n : ℕ). eqb n 1) c.abs_diff.ensures ∙ one_apart a.old a.new)
