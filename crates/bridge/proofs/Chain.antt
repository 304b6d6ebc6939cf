-- What six tests tell that are joined by `&&`: all of their list. Each step of such a chain has the value of the next test where those before it hold, and
-- theirs where one fails.
use Rattle.std.proofs.Common.{◌≡◌, Bool, true, false, [], ◌∷◌, refl, sym, ◌∙◌}
use Rattle.laws.specs.Choice.{both, all, both_one}

pub and_then : {before value next : Bool} → before ≡ true → value ≡ next → value ≡ both before next
and_then e f = rw e f

pub and_else : (next : Bool) {before value : Bool} → before ≡ false → value ≡ before → value ≡ both before next
and_else next e f = rw e (f ∙ e)

grouped : (a b c d e f : Bool) → both (both (both (both (both a b) c) d) e) f ≡ all (a ∷ b ∷ c ∷ d ∷ e ∷ f ∷ [])
grouped true true true true true f = sym (both_one f)
grouped true true true true false f = refl
grouped true true true false e f = refl
grouped true true false d e f = refl
grouped true false c d e f = refl
grouped false b c d e f = refl

pub six : (a b c d e f : Bool) {p q r s t : Bool} → p ≡ both a b → q ≡ both p c → r ≡ both q d → s ≡ both r e → t ≡ both s f
    → t ≡ all (a ∷ b ∷ c ∷ d ∷ e ∷ f ∷ [])
six a b c d e f i j k l m = m ∙ (rw (l, k, j, i) (grouped a b c d e f))
