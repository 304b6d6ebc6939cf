-- The specification's list against the held rows, for both kinds: row r of sub j is held where below j < r ≤ first j and it has an item, which
-- is where its stamp is not 0. They are the same items as counts go: for every test as many pass it on the list as among the held rows. That gives
-- the length, both counts of a take, and that an item is there (Find), and it needs no order of the list and no permutation. A put or a take may
-- pass over rows without an item.
use mathlib.Core.Path.{◌≡◌, refl, sym, ap, ◌∙◌}
use mathlib.Core.Logic.{◌≢◌}
use mathlib.Core.Bool.{Bool, true, false, ◌&&◌}
use mathlib.Core.List.{List, [], ◌∷◌}
use Prim.Native.Nat.{ℕ, suc, ◌+◌, ◌-◌, ◌*◌, ◌≤◌, ◌<◌}
use native.Mathlib.Omega.{arith}
use lib.Dec.{ltb}
use lib.ListN.{length}
use borrow.Author.Tests.{lt-ltb, le-ltb}
use Rattle.laws.specs.Choice.{cond}
use Rattle.rules.specs.Held.{Item, count_items}
use Rattle.rules.proofs.counts.Sums.{sum_n, up_to_law, up_to_suc, up_to_ext, bit, sum_ext, sum_le, sum_bump, sum_sub, sum_same, rows_more, rows_all, rows_flat}
use Rattle.rules.proofs.counts.Stamps.{Added}

-- ---- counts on a list
pub count_none : (p : Item → Bool) → count_items p [] ≡ 0
unfolding count_items
count_none p = refl

bit_is : (b : Bool) → cond b 1 0 ≡ bit b
unfolding cond
bit_is true = refl
bit_is false = refl

pub count_cons : (p : Item → Bool) (x : Item) (xs : List Item) → count_items p (x ∷ xs) ≡ bit (p x) + count_items p xs
unfolding count_items
count_cons p x xs = rw (bit_is (p x)) refl

pub count_all : (xs : List Item) → count_items (λ x. true) xs ≡ length xs
count_all [] = count_none (λ x. true)
count_all (x ∷ xs) = omega (arith, count_cons (λ x. true) x xs, count_all xs)

pub nil_of_length : (xs : List Item) → length xs ≡ 0 → xs ≡ []
nil_of_length [] e = refl
nil_of_length (x ∷ xs) e = absurd (omega arith)

-- ---- the list and the held rows
-- a row has an item
abbrev pub real : Item → Bool
real x = ltb 0 x.stamp

-- the items of the rows 1 to n of sub k that pass a test
abbrev pub rows_of : (ℕ → ℕ → Item) → (Item → Bool) → (ℕ → ℕ) → ℕ → ℕ
rows_of item p n k = up_to_law (λ r. real (item k r) && p (item k r)) (n k)

pub record Holds (w : ℕ) (below first : ℕ → ℕ) (item : ℕ → ℕ → Item) (xs : List Item) : Type 0 where
  pub same : (p : Item → Bool) → count_items p xs + sum_n (rows_of item p below) w ≡ sum_n (rows_of item p first) w

-- the same functions, otherwise written
pub holds_ext : {w : ℕ} {below below' first first' : ℕ → ℕ} {item : ℕ → ℕ → Item} {xs : List Item}
    → ((j : ℕ) → j < w → below j ≡ below' j) → ((j : ℕ) → j < w → first j ≡ first' j)
    → Holds w below first item xs → Holds w below' first' item xs
holds_ext {w} {below} {below'} {first} {first'} {item} {xs} b f h =
    record {
      same = λ p. omega (
        arith,
        h.same p,
        sum_ext (rows_of item p below) (rows_of item p below') w (λ j l. ap (up_to_law (λ r. real (item j r) && p (item j r))) (b j l)),
        sum_ext (rows_of item p first) (rows_of item p first') w (λ j l. ap (up_to_law (λ r. real (item j r) && p (item j r))) (f j l)),
      );
    }

-- a row with a stamp counts by the test, one without never
pub real_row : (p : Item → Bool) (x : Item) → 1 ≤ x.stamp → (real x && p x) ≡ p x
real_row p x l = let e : real x ≡ true = lt-ltb 0 x.stamp l in ap (λ (b : Bool). b && p x) e

pub bit_real : (p : Item → Bool) (x : Item) → 1 ≤ x.stamp → bit (real x && p x) ≡ bit (p x)
bit_real p x l = ap bit (real_row p x l)

pub blank_row : (p : Item → Bool) (x : Item) → x.stamp ≡ 0 → (real x && p x) ≡ false
blank_row p x z = let e : real x ≡ false = le-ltb 0 x.stamp (omega arith) in ap (λ (b : Bool). b && p x) e

-- a test that fails
pub fails_row : (p : Item → Bool) (x : Item) → p x ≡ false → (real x && p x) ≡ false
fails_row p x e = go (real x)
  where
    go : (b : Bool) → (b && p x) ≡ false
    go true = e
    go false = refl

module _ {w : ℕ} {below first : ℕ → ℕ} {item : ℕ → ℕ → Item} {xs : List Item} (h : Holds w below first item xs) where
  -- nothing is held where each sub's last rows are the same
  pub none_held : ((j : ℕ) → j < w → below j ≡ first j) → xs ≡ []
  none_held e =
      nil_of_length xs (omega (
        arith,
        count_all xs,
        h.same (λ x. true),
        sum_ext (rows_of item (λ x. true) below) (rows_of item (λ x. true) first) w (λ j l. ap (up_to_law (λ r. real (item j r) && true)) (e j l)),
      ))

  pub held_count : ((j : ℕ) → j < w → below j ≤ first j) → (p : Item → Bool)
      → count_items p xs ≡ sum_n (λ k. rows_of item p first k - rows_of item p below k) w
  held_count o p =
      omega (
        arith,
        h.same p,
        sum_sub (rows_of item p below) (rows_of item p first) w
            (λ k l. (rows_more (λ r. real (item k r) && p (item k r)) (below k) (first k) (o k l)).0),
      )

  -- as many as some rows that are held
  pub held_least : (f : ℕ → ℕ) → ((j : ℕ) → j < w → rows_of item (λ x. true) below j + f j ≤ rows_of item (λ x. true) first j)
      → sum_n f w ≤ length xs
  held_least f e =
      omega (
        arith,
        count_all xs,
        h.same (λ x. true),
        sum_sub f (rows_of item (λ x. true) first) w (λ j l. omega (arith, e j l)),
        sum_le (rows_of item (λ x. true) below) (λ j. rows_of item (λ x. true) first j - f j) w (λ j l. omega (arith, e j l)),
      )

  -- at least c in each sub
  pub many_held : (c : ℕ) → ((j : ℕ) → j < w → below j + c ≤ first j) → ((j r : ℕ) → j < w → below j < r → r ≤ first j → 1 ≤ (item j r).stamp)
      → w * c ≤ length xs
  many_held c e stamped =
      omega (
        arith,
        sum_same (λ j. c) w c (λ j l. refl),
        held_least (λ j. c) (λ j l. omega (
          arith,
          e j l,
          rows_all (λ r. real (item j r) && true) (below j) (first j) (omega (arith, e j l))
              (λ r a b. real_row (λ x. true) (item j r) (stamped j r l a b)),
        )),
      )

  -- ---- a put
  pub holds_put : {first' : ℕ → ℕ} {item' : ℕ → ℕ → Item} {j row : ℕ} {new : Item} → j < w → ((k : ℕ) → k < w → below k ≤ first k)
      → ((r : ℕ) → first j < r → r < row → (item j r).stamp ≡ 0) → 1 ≤ new.stamp
      → Added first item j row new first' item' → Holds w below first' item' (new ∷ xs)
  holds_put {first'} {item'} {j} {row} {new} lj o blank stamped put = record { same = same }
    where
      row_is : suc (row - 1) ≡ row
      row_is = omega (arith, put.above)

      same : (p : Item → Bool) → count_items p (new ∷ xs) + sum_n (rows_of item' p below) w ≡ sum_n (rows_of item' p first') w
      same p =
          let t : ℕ → ℕ → Bool = λ k r. real (item k r) && p (item k r) in
          let t' : ℕ → ℕ → Bool = λ k r. real (item' k r) && p (item' k r) in
          let keep : (k r : ℕ) → (k ≡ j → r ≢ row) → t' k r ≡ t k r = λ k r n. ap (λ (y : Item). real y && p y) (put.old k r n) in
          let a : sum_n (rows_of item' p below) w ≡ sum_n (rows_of item p below) w =
          sum_ext _ _ w (λ k l. up_to_ext (t' k) (t k) (below k) (λ r u v. keep k r (λ e y. let v' : r ≤ below j = rw e at v in
          let oj : below j ≤ first j = o j lj in omega (arith, put.above)))) in
          let flat : up_to_law (t j) (row - 1) ≡ up_to_law (t j) (first j) =
          rows_flat (t j) (first j) (row - 1) (omega (arith, put.above)) (λ r u v. blank_row p (item j r) (blank r u (omega (arith, put.above)))) in
          let under : up_to_law (t' j) (row - 1) ≡ up_to_law (t j) (row - 1) = up_to_ext (t' j) (t j) (row - 1) (λ r u v. keep j r (λ e y. omega (arith, put.above))) in
          let top : bit (t' j row) ≡ bit (p new) = ap (λ (y : Item). bit (real y && p y)) put.it ∙ bit_real p new stamped in
          let step : up_to_law (t' j) (suc (row - 1)) ≡ up_to_law (t' j) (row - 1) + bit (t' j (suc (row - 1))) = up_to_suc (t' j) (row - 1) in
          let step' : up_to_law (t' j) row ≡ up_to_law (t' j) (row - 1) + bit (t' j row) = rw row_is at step in
          let b : sum_n (rows_of item' p first') w ≡ sum_n (rows_of item p first) w + bit (p new) =
          sum_bump (rows_of item p first) (rows_of item' p first') w j (bit (p new)) lj
          (λ k l n. ap (up_to_law (t' k)) (put.off k n) ∙ up_to_ext (t' k) (t k) (first k) (λ r u v. keep k r (λ e. absurd (n e))))
          (ap (up_to_law (t' j)) put.here ∙ omega arith) in
          omega (arith, h.same p, count_cons p new xs)

  -- ---- a take: row `row` of sub j leaves, the lowest one held
  pub holds_low : {below' : ℕ → ℕ} {others : List Item} (j row : ℕ) → j < w → below j < row → 1 ≤ (item j row).stamp
      → ((r : ℕ) → below j < r → r < row → (item j r).stamp ≡ 0)
      → below' j ≡ row → ((k : ℕ) → k ≢ j → below' k ≡ below k)
      → ((p : Item → Bool) → count_items p xs ≡ bit (p (item j row)) + count_items p others)
      → Holds w below' first item others
  holds_low {below'} {others} j row lj up stamped blank here off out = record { same = same }
    where
      row_is : suc (row - 1) ≡ row
      row_is = omega arith

      same : (p : Item → Bool) → count_items p others + sum_n (rows_of item p below') w ≡ sum_n (rows_of item p first) w
      same p =
          let t : ℕ → ℕ → Bool = λ k r. real (item k r) && p (item k r) in
          let flat : up_to_law (t j) (row - 1) ≡ up_to_law (t j) (below j) =
          rows_flat (t j) (below j) (row - 1) (omega arith) (λ r u v. blank_row p (item j r) (blank r u (omega arith))) in
          let step : up_to_law (t j) (suc (row - 1)) ≡ up_to_law (t j) (row - 1) + bit (t j (suc (row - 1))) = up_to_suc (t j) (row - 1) in
          let step' : up_to_law (t j) row ≡ up_to_law (t j) (row - 1) + bit (t j row) = rw row_is at step in
          let b : sum_n (rows_of item p below') w ≡ sum_n (rows_of item p below) w + bit (p (item j row)) =
          sum_bump (rows_of item p below) (rows_of item p below') w j (bit (p (item j row))) lj
          (λ k l n. ap (up_to_law (t k)) (off k n))
          (ap (up_to_law (t j)) here ∙ omega (arith, bit_real p (item j row) stamped)) in
          omega (arith, h.same p, out p)

  -- ---- a take: the highest row of sub j leaves
  pub holds_top : {first' : ℕ → ℕ} {others : List Item} (j : ℕ) → j < w → 1 ≤ (item j (suc (first' j))).stamp
      → first j ≡ suc (first' j) → ((k : ℕ) → k ≢ j → first' k ≡ first k)
      → ((p : Item → Bool) → count_items p xs ≡ bit (p (item j (suc (first' j)))) + count_items p others)
      → Holds w below first' item others
  holds_top {first'} {others} j lj stamped here off out = record { same = same }
    where
      same : (p : Item → Bool) → count_items p others + sum_n (rows_of item p below) w ≡ sum_n (rows_of item p first') w
      same p =
          let t : ℕ → ℕ → Bool = λ k r. real (item k r) && p (item k r) in
          let b : sum_n (rows_of item p first) w ≡ sum_n (rows_of item p first') w + bit (p (item j (suc (first' j)))) =
          sum_bump (rows_of item p first') (rows_of item p first) w j (bit (p (item j (suc (first' j))))) lj
          (λ k l n. ap (up_to_law (t k)) (sym (off k n)))
          (ap (up_to_law (t j)) here ∙ up_to_suc (t j) (first' j) ∙ omega (arith, bit_real p (item j (suc (first' j))) stamped)) in
          omega (arith, h.same p, out p)
