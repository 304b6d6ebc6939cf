-- Functions changed at one place, sums over the subs, and counts over the rows 1 to n. Nothing here knows a pool.
use mathlib.Core.Path.{◌≡◌, refl, sym, ap, ◌∙◌}
use mathlib.Core.Logic.{◌≢◌}
use mathlib.Core.Bool.{Bool, true, false}
use Prim.Native.Nat.{ℕ, zero, suc, ◌+◌, ◌-◌, ◌*◌, ◌≤◌, ◌<◌}
use native.Mathlib.Decide.{ℕ_discrete}
use native.Mathlib.Nat.{add-zero, add-suc, add-sub_of_le}
use native.Mathlib.Omega.{arith}

-- a function changed at one place
unfoldable pub upd : {A : Type 0} → (ℕ → A) → ℕ → A → ℕ → A
upd g i v j = elim (ℕ_discrete j i) [ yes e ↦ v | no n ↦ g j ]

pub upd_same : {A : Type 0} (g : ℕ → A) (i : ℕ) (v : A) → upd g i v i ≡ v
unfolding upd
upd_same {A} g i v = go (ℕ_discrete i i)
  where
    go : (d : Dec (i ≡ i)) → ◌≡◌ {A = A} (elim d [ yes e ↦ v | no n ↦ g i ]) v
    go (yes e) = refl
    go (no n) = absurd (n refl)

pub upd_other : {A : Type 0} (g : ℕ → A) (i : ℕ) (v : A) (j : ℕ) → j ≢ i → upd g i v j ≡ g j
unfolding upd
upd_other {A} g i v j ne = go (ℕ_discrete j i)
  where
    go : (d : Dec (j ≡ i)) → ◌≡◌ {A = A} (elim d [ yes e ↦ v | no n ↦ g j ]) (g j)
    go (yes e) = absurd (ne e)
    go (no n) = refl

-- a fact that holds of the new value and of the old values holds of the changed function
pub upd_all : {A : Type 0} (P : ℕ → A → Type 0) (g : ℕ → A) (i : ℕ) (v : A) (j : ℕ) → (j ≡ i → P j v) → (j ≢ i → P j (g j)) → P j (upd g i v j)
unfolding upd
upd_all {A} P g i v j a b = go (ℕ_discrete j i)
  where
    go : (d : Dec (j ≡ i)) → P j (elim d [ yes e ↦ v | no n ↦ g j ])
    go (yes e) = a e
    go (no n) = b n

-- the sum of f below n
unfoldable pub sum_n : (ℕ → ℕ) → ℕ → ℕ
sum_n f zero = 0
sum_n f (suc n) = sum_n f n + f n

pub sum_ext : (f g : ℕ → ℕ) (n : ℕ) → ((k : ℕ) → k < n → f k ≡ g k) → sum_n f n ≡ sum_n g n
unfolding sum_n
sum_ext f g zero h = refl
sum_ext f g (suc n) h = omega (arith, sum_ext f g n (λ k l. h k (omega arith)), h n (omega arith))

pub sum_le : (f g : ℕ → ℕ) (n : ℕ) → ((k : ℕ) → k < n → f k ≤ g k) → sum_n f n ≤ sum_n g n
unfolding sum_n
sum_le f g zero h = omega arith
sum_le f g (suc n) h = omega (arith, sum_le f g n (λ k l. h k (omega arith)), h n (omega arith))

-- one value grows by c
pub sum_bump : (f g : ℕ → ℕ) (n i c : ℕ) → i < n → ((k : ℕ) → k < n → k ≢ i → g k ≡ f k) → g i ≡ f i + c → sum_n g n ≡ sum_n f n + c
unfolding sum_n
sum_bump f g zero i c l h e = absurd (omega arith)
sum_bump f g (suc n) i c l h e = elim (ℕ_discrete i n) [
  | yes w ↦
      let a : sum_n g n ≡ sum_n f n = sum_ext g f n (λ k m. h k (omega arith) (λ z. omega arith)) in
      let b : g n ≡ f n + c = rw w at e in
      omega arith
  | no ne ↦ omega (arith, sum_bump f g n i c (omega arith) (λ k m. h k (omega arith)) e, h n (omega arith) (λ z. ne (sym z)))
]

-- one value in place of another
pub sum_swap : (f : ℕ → ℕ) (n i x : ℕ) → i < n → sum_n (upd f i x) n + f i ≡ sum_n f n + x
sum_swap f n i x l =
    let to : sum_n (upd f i (f i + x)) n ≡ sum_n f n + x =
    sum_bump f (upd f i (f i + x)) n i x l (λ j m ne. upd_other f i (f i + x) j ne) (upd_same f i (f i + x)) in
    let from : sum_n (upd f i (f i + x)) n ≡ sum_n (upd f i x) n + f i =
    sum_bump (upd f i x) (upd f i (f i + x)) n i (f i) l (λ j m ne. upd_other f i (f i + x) j ne ∙ sym (upd_other f i x j ne))
    (omega (arith, upd_same f i (f i + x), upd_same f i x)) in
    omega arith

-- pointwise below, and no less in all: equal everywhere
pub sum_tight : (f g : ℕ → ℕ) (n : ℕ) → ((k : ℕ) → k < n → f k ≤ g k) → sum_n g n ≤ sum_n f n → (k : ℕ) → k < n → f k ≡ g k
unfolding sum_n
sum_tight f g zero h l k m = absurd (omega arith)
sum_tight f g (suc n) h l k m =
    let below : sum_n f n ≤ sum_n g n = sum_le f g n (λ j z. h j (omega arith)) in
    elim (ℕ_discrete k n) [
      | yes e ↦ rw e (omega (arith, h n (omega arith)))
      | no ne ↦ sum_tight f g n (λ j z. h j (omega arith)) (omega (arith, h n (omega arith))) k (omega arith)
    ]

-- each value within d, and one of them not above: (n - 1) * d in all
pub sum_within : (f g : ℕ → ℕ) (n d : ℕ) → ((k : ℕ) → k < n → f k ≤ g k + d) → sum_n f n ≤ sum_n g n + n * d
unfolding sum_n
sum_within f g zero d h = omega arith
sum_within f g (suc n) d h = omega (arith, sum_within f g n d (λ k l. h k (omega arith)), h n (omega arith))

pub sum_within_but : (f g : ℕ → ℕ) (n d i : ℕ) → i < n → ((k : ℕ) → k < n → f k ≤ g k + d) → f i ≤ g i → sum_n f n + d ≤ sum_n g n + n * d
unfolding sum_n
sum_within_but f g zero d i l h e = absurd (omega arith)
sum_within_but f g (suc n) d i l h e = elim (ℕ_discrete i n) [
  | yes w ↦
      let b : f n ≤ g n = rw w at e in
      omega (arith, sum_within f g n d (λ k m. h k (omega arith)))
  | no ne ↦ omega (arith, sum_within_but f g n d i (omega arith) (λ k m. h k (omega arith)) e, h n (omega arith))
]

-- 1 where the test holds
abbrev pub bit : Bool → ℕ
bit true = 1
bit false = 0

-- how many of the rows 1 to n have g
unfoldable pub up_to_law : (ℕ → Bool) → ℕ → ℕ
up_to_law g zero = 0
up_to_law g (suc n) = up_to_law g n + bit (g (suc n))

pub bit_le : (b : Bool) → bit b ≤ 1
bit_le true = omega arith
bit_le false = omega arith

pub up_to_suc : (g : ℕ → Bool) (n : ℕ) → up_to_law g (suc n) ≡ up_to_law g n + bit (g (suc n))
unfolding up_to_law
up_to_suc g n = refl

pub up_to_ext : (g h : ℕ → Bool) (n : ℕ) → ((r : ℕ) → 1 ≤ r → r ≤ n → g r ≡ h r) → up_to_law g n ≡ up_to_law h n
unfolding up_to_law
up_to_ext g h zero e = refl
up_to_ext g h (suc n) e = omega (arith, up_to_ext g h n (λ r a b. e r a (omega arith)), ap bit (e (suc n) (omega arith) (omega arith)))

-- from row a on, k rows more
pub up_to_more : (g : ℕ → Bool) (a k : ℕ) → (up_to_law g a ≤ up_to_law g (a + k)) × (up_to_law g (a + k) ≤ up_to_law g a + k)
unfolding up_to_law
up_to_more g a zero = rw (add-zero a) (omega arith)
up_to_more g a (suc k) = let ih = up_to_more g a k in let b = bit_le (g (suc (a + k))) in rw (add-suc a k) (omega (arith, ih.0, ih.1))

pub up_to_flat : (g : ℕ → Bool) (a k : ℕ) → ((r : ℕ) → a < r → r ≤ a + k → g r ≡ false) → up_to_law g (a + k) ≡ up_to_law g a
unfolding up_to_law
up_to_flat g a zero h = rw (add-zero a) refl
up_to_flat g a (suc k) h = rw (add-suc a k) (omega (arith, up_to_flat g a k (λ r l m. h r l (omega arith)), ap bit (h (suc (a + k)) (omega arith) (omega arith))))

pub up_to_true : (n : ℕ) → up_to_law (λ r. true) n ≡ n
unfolding up_to_law
up_to_true zero = refl
up_to_true (suc n) = omega (arith, up_to_true n)

-- each value below by c
pub sum_gap : (f g : ℕ → ℕ) (n c : ℕ) → ((k : ℕ) → k < n → f k + c ≤ g k) → sum_n f n + n * c ≤ sum_n g n
unfolding sum_n
sum_gap f g zero c h = omega arith
sum_gap f g (suc n) c h = omega (arith, sum_gap f g n c (λ k l. h k (omega arith)), h n (omega arith))

-- none above, and one below by c
pub sum_gap_at : (f g : ℕ → ℕ) (n i c : ℕ) → i < n → ((k : ℕ) → k < n → f k ≤ g k) → f i + c ≤ g i → sum_n f n + c ≤ sum_n g n
unfolding sum_n
sum_gap_at f g zero i c l h e = absurd (omega arith)
sum_gap_at f g (suc n) i c l h e = elim (ℕ_discrete i n) [
  | yes w ↦ let b : f n + c ≤ g n = rw w at e in omega (arith, sum_le f g n (λ k m. h k (omega arith)))
  | no ne ↦ omega (arith, sum_gap_at f g n i c (omega arith) (λ k m. h k (omega arith)) e, h n (omega arith))
]

-- the sum of the differences
pub sum_sub : (f g : ℕ → ℕ) (n : ℕ) → ((k : ℕ) → k < n → f k ≤ g k) → sum_n (λ k. g k - f k) n + sum_n f n ≡ sum_n g n
unfolding sum_n
sum_sub f g zero h = refl
sum_sub f g (suc n) h = omega (arith, sum_sub f g n (λ k l. h k (omega arith)), h n (omega arith))

pub sum_zero : (n : ℕ) → sum_n (λ k. 0) n ≡ 0
unfolding sum_n
sum_zero zero = refl
sum_zero (suc n) = omega (arith, sum_zero n)

-- the count of rows from a to b, a ≤ b
pub rows_more : (g : ℕ → Bool) (a b : ℕ) → a ≤ b → (up_to_law g a ≤ up_to_law g b) × (up_to_law g b ≤ up_to_law g a + (b - a))
rows_more g a b l = rw (add-sub_of_le l) at (up_to_more g a (b - a))

pub rows_flat : (g : ℕ → Bool) (a b : ℕ) → a ≤ b → ((r : ℕ) → a < r → r ≤ b → g r ≡ false) → up_to_law g b ≡ up_to_law g a
rows_flat g a b l h = rw (add-sub_of_le l) at (up_to_flat g a (b - a) (λ r u v. h r u (omega arith)))

-- rows that all pass
up_to_all : (g : ℕ → Bool) (a k : ℕ) → ((r : ℕ) → a < r → r ≤ a + k → g r ≡ true) → up_to_law g (a + k) ≡ up_to_law g a + k
unfolding up_to_law
up_to_all g a zero h = rw (add-zero a) (omega arith)
up_to_all g a (suc k) h = rw (add-suc a k) (omega (arith, up_to_all g a k (λ r l m. h r l (omega arith)), ap bit (h (suc (a + k)) (omega arith) (omega arith))))

pub rows_all : (g : ℕ → Bool) (a b : ℕ) → a ≤ b → ((r : ℕ) → a < r → r ≤ b → g r ≡ true) → up_to_law g b ≡ up_to_law g a + (b - a)
rows_all g a b l h = rw (add-sub_of_le l) at (up_to_all g a (b - a) (λ r u v. h r u (omega arith)))

-- so many equal ones
pub sum_same : (f : ℕ → ℕ) (n c : ℕ) → ((m : ℕ) → m < n → f m ≡ c) → sum_n f n ≡ n * c
unfolding sum_n
sum_same f zero c h = omega arith
sum_same f (suc n) c h = omega (arith, sum_same f n c (λ m l. h m (omega arith)), h n (omega arith))

pub times_pred : (w d : ℕ) → 1 ≤ w → (w - 1) * d + d ≡ w * d
times_pred zero d l = absurd (omega arith)
times_pred (suc w) d l = let e : suc w - 1 ≡ w = omega arith in rw e (omega arith)

-- a function changed to what it was is itself
pub upd_self : {A : Type 0} (g : ℕ → A) (i : ℕ) → upd g i (g i) ≡ g
upd_self {A} g i = λ u j. one j u
  where
    one : (j : ℕ) → upd g i (g i) j ≡ g j
    one j = upd_all (λ k (v : A). v ≡ g k) g i (g i) j (λ e. ap g (sym e)) (λ n. refl)

-- counts between two rows agree where the rows do
pub up_to_between : (g f : ℕ → Bool) (a k : ℕ) → ((r : ℕ) → a < r → r ≤ a + k → g r ≡ f r) → up_to_law g (a + k) + up_to_law f a ≡ up_to_law f (a + k) + up_to_law g a
unfolding up_to_law
up_to_between g f a zero h = rw (add-zero a) (omega arith)
up_to_between g f a (suc k) h =
    rw (add-suc a k) (omega (arith, up_to_between g f a k (λ r l m. h r l (omega arith)), ap bit (h (suc (a + k)) (omega arith) (omega arith))))

pub up_to_none : (g : ℕ → Bool) → up_to_law g 0 ≡ 0
unfolding up_to_law
up_to_none g = refl

pub sum_none : (f : ℕ → ℕ) → sum_n f 0 ≡ 0
unfolding sum_n
sum_none f = refl

pub sum_more : (f : ℕ → ℕ) (n : ℕ) → sum_n f (suc n) ≡ sum_n f n + f n
unfolding sum_n
sum_more f n = refl
