-- Finding an item on the list by its stamp: one that is there is found, and leaves every count by one. A held row is there; and
-- where no other held row has its stamp, what is found is its item.
use mathlib.Core.Path.{◌≡◌, refl, ap, ◌∙◌}
use mathlib.Core.Bool.{Bool, true, false, not, ◌&&◌}
use mathlib.Core.List.{List, [], ◌∷◌}
use mathlib.Core.Option.{some}
use Prim.Native.Nat.{ℕ, suc, ◌+◌, ◌-◌, ◌≤◌, ◌<◌}
use native.Mathlib.Omega.{arith}
use lib.Dec.{eqb}
use borrow.Author.Tests.{eqb-true, eq-eqb}
use Rattle.laws.specs.Choice.{cond}
use Rattle.rules.specs.Held.{Item, count_items}
use Rattle.rules.specs.Sequential.{Found, find}
use Rattle.rules.proofs.counts.Sums.{sum_n, up_to_law, up_to_suc, bit, sum_ext, sum_gap_at, rows_more, rows_flat}
use Rattle.rules.proofs.counts.Held.{count_none, count_cons, real, rows_of, Holds, bit_real, fails_row}

-- an item with a stamp that is there is found, and taken out of every count
pub record IsFound (stamp : ℕ) (xs : List Item) : Type 0 where
  pub out : Found
  pub found : find stamp xs ≡ some out
  pub stamp_is : out.item.stamp ≡ stamp
  pub counts : (p : Item → Bool) → count_items p xs ≡ bit (p out.item) + count_items p out.others

skip_found : (st : ℕ) (x : Item) (xs : List Item) → eqb x.stamp st ≡ false → IsFound st xs → IsFound st (x ∷ xs)
unfolding find cond
skip_found st x xs t r =
    record {
      out = record { item = r.out.item; others = x ∷ r.out.others };
      found = rw (t, r.found) refl;
      stamp_is = r.stamp_is;
      counts = λ p. omega (arith, r.counts p, count_cons p x xs, count_cons p x r.out.others);
    }

here_found : (st : ℕ) (x : Item) (xs : List Item) → eqb x.stamp st ≡ true → IsFound st (x ∷ xs)
unfolding find cond
here_found st x xs t =
    record { out = record { item = x; others = xs }; found = rw t refl; stamp_is = eqb-true _ _ t; counts = λ p. count_cons p x xs }

pub find_there : (st : ℕ) (xs : List Item) → 1 ≤ count_items (λ x. eqb x.stamp st) xs → IsFound st xs
find_there st [] l = absurd (omega (arith, count_none (λ x. eqb x.stamp st)))
find_there st (x ∷ xs) l = go (eqb x.stamp st) refl (find_there st xs)
  where
    go : (b : Bool) → eqb x.stamp st ≡ b → (1 ≤ count_items (λ x. eqb x.stamp st) xs → IsFound st xs) → IsFound st (x ∷ xs)
    go true t ih = here_found st x xs t
    go false t ih = skip_found st x xs t (ih (omega (arith, ap bit t, count_cons (λ x. eqb x.stamp st) x xs)))

-- a held row whose stamp no other held row has: what the list finds by the stamp is its item
pub record RowFound (it : Item) (xs : List Item) : Type 0 where
  pub out : Found
  pub found : find it.stamp xs ≡ some out
  pub item_is : out.item ≡ it
  pub counts : (p : Item → Bool) → count_items p xs ≡ bit (p it) + count_items p out.others

module _ {w : ℕ} {below first : ℕ → ℕ} {item : ℕ → ℕ → Item} {xs : List Item} (h : Holds w below first item xs)
    (o : (k : ℕ) → k < w → below k ≤ first k) (j r : ℕ) (lj : j < w) (low : below j < r) (high : r ≤ first j) (stamped : 1 ≤ (item j r).stamp)
    (single : (m n : ℕ) → m < w → below m < n → n ≤ first m → (item m n).stamp ≡ (item j r).stamp → item m n ≡ item j r) where
  abbrev it : Item
  it = item j r

  there : 1 ≤ count_items (λ x. eqb x.stamp it.stamp) xs
  there =
      let p : Item → Bool = λ x. eqb x.stamp it.stamp in
      let t : ℕ → ℕ → Bool = λ k n. real (item k n) && p (item k n) in
      let row : suc (r - 1) ≡ r = omega arith in
      let a : up_to_law (t j) (suc (r - 1)) ≡ up_to_law (t j) (r - 1) + bit (t j (suc (r - 1))) = up_to_suc (t j) (r - 1) in
      let a' : up_to_law (t j) r ≡ up_to_law (t j) (r - 1) + bit (t j r) = rw row at a in
      let b = (rows_more (t j) r (first j) high).0 in
      let b' = (rows_more (t j) (below j) (r - 1) (omega arith)).0 in
      let c : bit (t j r) ≡ 1 = bit_real p it stamped ∙ ap bit (eq-eqb it.stamp it.stamp refl) in
      let d : sum_n (rows_of item p below) w + 1 ≤ sum_n (rows_of item p first) w =
      sum_gap_at (rows_of item p below) (rows_of item p first) w j 1 lj
      (λ k l. (rows_more (t k) (below k) (first k) (o k l)).0) (omega (arith, a', b, b', c)) in
      omega (arith, d, h.same p)

  -- the stamp with another value
  abbrev other : Item → Bool
  other x = eqb x.stamp it.stamp && not (eqb x.value it.value)

  not_other : (m n : ℕ) → m < w → below m < n → n ≤ first m → other (item m n) ≡ false
  not_other m n l a b = go (eqb (item m n).stamp it.stamp) refl
    where
      go : (c : Bool) → eqb (item m n).stamp it.stamp ≡ c → (c && not (eqb (item m n).value it.value)) ≡ false
      go false y = refl
      go true y = ap not (eq-eqb _ _ (ap (λ (x : Item). x.value) (single m n l a b (eqb-true _ _ y))))

  none_other : count_items other xs ≡ 0
  none_other = omega (
    arith,
    h.same other,
    sum_ext (rows_of item other first) (rows_of item other below) w
        (λ m l. rows_flat (λ n. real (item m n) && other (item m n)) (below m) (first m) (o m l) (λ n a b. fails_row other (item m n) (not_other m n l a b))),
  )

  module _ (f : IsFound it.stamp xs) where
    found_value : f.out.item.value ≡ it.value
    found_value = go (eqb f.out.item.value it.value) refl
      where
        go : (c : Bool) → eqb f.out.item.value it.value ≡ c → f.out.item.value ≡ it.value
        go true y = eqb-true _ _ y
        go false y =
            let z : other f.out.item ≡ true = rw (y, eq-eqb f.out.item.stamp it.stamp f.stamp_is) refl in
            absurd (omega (arith, ap bit z, f.counts other, none_other))

    found_it : f.out.item ≡ it
    found_it = λ u. record { value = found_value u; stamp = f.stamp_is u }

    is_row : RowFound it xs
    is_row =
        record {
          out = f.out;
          found = f.found;
          item_is = found_it;
          counts = λ p. f.counts p ∙ ap (λ (x : Item). bit (p x) + count_items p f.out.others) found_it;
        }

  pub find_row : RowFound it xs
  find_row = is_row (find_there it.stamp xs there)
