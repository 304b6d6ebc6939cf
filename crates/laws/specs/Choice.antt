-- Choice by a test, and tests that hold together: all of a list, all below a bound.
use Rattle.std.specs.Prelude.{◌≡◌, ℕ, zero, suc, ◌+◌, ◌<◌, ◌≤◌, Bool, true, false, List, [], ◌∷◌, refl}
use Rattle.std.proofs.lemmas.Bool.{false≢true}
use Rattle.std.proofs.Common.{sym, ◌∙◌, ⊎_elim, eq-or-lt_of_le, add-one, arith}

-- `a` where the test holds, else `b`
unfoldable pub cond : {A : Type 0} → Bool → A → A → A
cond true a b = a
cond false a b = b

pub cond_true : {A : Type 0} (a b : A) → cond true a b ≡ a
unfolding cond
cond_true a b = refl

pub cond_false : {A : Type 0} (a b : A) → cond false a b ≡ b
unfolding cond
cond_false a b = refl

-- a choice by its two cases
pub cases : {A : Type 0} (P : A → Type 0) (b : Bool) (x y : A) → (b ≡ true → P x) → (b ≡ false → P y) → P (cond b x y)
unfolding cond
cases P true x y f g = f refl
cases P false x y f g = g refl

-- one that is made twice, by one test
pub cond_both : {A B : Type 0} (R : A → B → Type 0) (b : Bool) {x y : A} {x' y' : B} → (b ≡ true → R x x') → (b ≡ false → R y y')
    → R (cond b x y) (cond b x' y')
unfolding cond
cond_both R true f g = f refl
cond_both R false f g = g refl

-- what is done to a choice is done to either
pub cond_under : {A B : Type 0} (f : A → B) (b : Bool) (x y : A) → f (cond b x y) ≡ cond b (f x) (f y)
unfolding cond
cond_under f true x y = refl
cond_under f false x y = refl

-- both tests hold
abbrev pub both : Bool → Bool → Bool
both true b = b
both false b = false

-- the test holds at each number below the bound
unfoldable pub all_below : ℕ → (ℕ → Bool) → Bool
all_below zero p = true
all_below (suc n) p = both (all_below n p) (p n)

-- every test of a list holds
abbrev pub all : List Bool → Bool
all [] = true
all (b ∷ bs) = both b (all bs)

abbrev pub Holds : List Bool → Type 0
Holds [] = Unit
Holds (b ∷ bs) = (b ≡ true) × Holds bs

-- ---- laws
pub both_false : (b : Bool) → both b false ≡ false
both_false true = refl
both_false false = refl

pub both_one : (b : Bool) → both b true ≡ b
both_one true = refl
both_one false = refl

pub both_true : (a b : Bool) → both a b ≡ true → (a ≡ true) × (b ≡ true)
both_true true b e = (refl, e)
both_true false b e = absurd (false≢true e)

pub all_holds : (bs : List Bool) → all bs ≡ true → Holds bs
all_holds [] e = tt
all_holds (b ∷ bs) e = let t = both_true b (all bs) e in (t.0, all_holds bs t.1)

pub all_below_none : (p : ℕ → Bool) → all_below 0 p ≡ true
unfolding all_below
all_below_none p = refl

-- one number more, at which the test holds
pub all_below_more : (i : ℕ) (p : ℕ → Bool) → all_below i p ≡ true → p i ≡ true → all_below (i + 1) p ≡ true
unfolding all_below
all_below_more i p h e = rw (add-one, h) e

-- one number below the bound at which the test fails
pub all_below_fails : (n : ℕ) (p : ℕ → Bool) (i : ℕ) → i < n → p i ≡ false → all_below n p ≡ false
unfolding all_below
all_below_fails zero p i h e = absurd (omega arith)
all_below_fails (suc n) p i h e =
    ⊎_elim
    (λ (q : i ≡ n). rw (← q, e) (both_false (all_below i p)))
    (λ (l : i < n). rw (all_below_fails n p i l e))
    (eq-or-lt_of_le (omega arith))

-- the test at a number below the bound
pub all_below_at : (n : ℕ) (p : ℕ → Bool) (i : ℕ) → i < n → all_below n p ≡ true → p i ≡ true
unfolding all_below
all_below_at zero p i h e = absurd (omega arith)
all_below_at (suc n) p i h e =
    let t = both_true (all_below n p) (p n) e in
    ⊎_elim (λ (q : i ≡ n). rw q t.1) (λ (l : i < n). all_below_at n p i l t.0) (eq-or-lt_of_le (omega arith))

-- two tests that agree below the bound
pub all_below_same : (n : ℕ) (p q : ℕ → Bool) → ((i : ℕ) → i < n → p i ≡ q i) → all_below n p ≡ all_below n q
unfolding all_below
all_below_same zero p q h = refl
all_below_same (suc n) p q h = rw (all_below_same n p q (λ i l. h i (omega arith)), h n (omega arith)) refl

-- a test that holds anyway from m on
pub all_below_free : (m n : ℕ) (p : ℕ → Bool) → m ≤ n → ((k : ℕ) → m ≤ k → p k ≡ true) → all_below n p ≡ all_below m p
unfolding all_below
all_below_free m zero p l h = let z : m ≡ 0 = omega arith in rw z refl
all_below_free m (suc n) p l h =
    ⊎_elim
    (λ (q : m ≡ suc n). rw q refl)
    (λ (k : m < suc n). rw (h n (omega arith), both_one (all_below n p)) (all_below_free m n p (omega arith) h))
    (eq-or-lt_of_le l)

-- four numbers more
abbrev pub four_from : ℕ → (ℕ → Bool) → Bool
four_from i p = both (p i) (both (p (i + 1)) (both (p (i + 2)) (p (i + 3))))

pub all_below_four : (i : ℕ) (p : ℕ → Bool) → all_below i p ≡ true → four_from i p ≡ true → all_below (i + 4) p ≡ true
all_below_four i p h e =
    let a = both_true (p i) _ e in
    let b = both_true (p (i + 1)) _ a.1 in
    let c = both_true (p (i + 2)) _ b.1 in
    let one = all_below_more i p h a.0 in
    let two = all_below_more (i + 1) p one b.0 in
    let two' : all_below (i + 2) p ≡ true = rw (← two_is) two in
    let three = all_below_more (i + 2) p two' c.0 in
    let three' : all_below (i + 3) p ≡ true = rw (← three_is) three in
    rw (← four_is) (all_below_more (i + 3) p three' c.1)
  where
    two_is : i + 1 + 1 ≡ i + 2
    two_is = omega arith

    three_is : i + 2 + 1 ≡ i + 3
    three_is = omega arith

    four_is : i + 3 + 1 ≡ i + 4
    four_is = omega arith

pub all_below_four_fails : (n : ℕ) (p : ℕ → Bool) (i : ℕ) → i + 3 < n → four_from i p ≡ false → all_below n p ≡ false
all_below_four_fails n p i l e = go (all_below n p) refl
  where
    go : (b : Bool) → all_below n p ≡ b → all_below n p ≡ false
    go false h = h
    go true h =
        let at : (k : ℕ) → k < n → p k ≡ true = λ k m. all_below_at n p k m h in
        let four : four_from i p ≡ true = rw (at i (omega arith), at (i + 1) (omega arith), at (i + 2) (omega arith), at (i + 3) (omega arith)) refl in
        absurd (false≢true (sym e ∙ four))
