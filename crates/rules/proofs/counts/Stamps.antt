-- The stamps of the rows 1 to first j of each sub, for both kinds: none above the puts made, rising with the row, and no two
-- subs share one. A put gives its row the greatest stamp so far, and nothing else gives a stamp.
use mathlib.Core.Path.{◌≡◌, refl, sym, ap, ◌∙◌}
use mathlib.Core.Logic.{◌≢◌, ◌⊎◌, inl, inr}
use Prim.Native.Nat.{ℕ, suc, ◌≤◌, ◌<◌}
use native.Mathlib.Nat.{le_trans}
use native.Mathlib.Decide.{ℕ_discrete, dec_lt}
use native.Mathlib.Omega.{arith}
use Rattle.rules.specs.Held.{Item}
use Rattle.rules.proofs.counts.Sums.{upd, upd_same, upd_other}

pub record Stamped (w : ℕ) (first : ℕ → ℕ) (item : ℕ → ℕ → Item) (puts : ℕ) : Type 0 where
  pub least : (j r : ℕ) → j < w → 1 ≤ r → r ≤ first j → 1 ≤ (item j r).stamp
  pub low : (j r : ℕ) → j < w → 1 ≤ r → r ≤ first j → (item j r).stamp ≤ puts
  pub rise : (j r r' : ℕ) → j < w → 1 ≤ r → r < r' → r' ≤ first j → (item j r).stamp < (item j r').stamp
  pub apart : (j k r r' : ℕ) → j < w → k < w → j ≢ k → 1 ≤ r → r ≤ first j → 1 ≤ r' → r' ≤ first k → (item j r).stamp ≢ (item k r').stamp

-- an item that is put at its sub and row, and the others
pub item_new : (f : ℕ → ℕ → Item) (j r : ℕ) (v : Item) → upd f j (upd (f j) r v) j r ≡ v
item_new f j r v = ap (λ (h : ℕ → Item). h r) (upd_same f j (upd (f j) r v)) ∙ upd_same (f j) r v

pub item_old : (f : ℕ → ℕ → Item) (j r : ℕ) (v : Item) (k n : ℕ) → (k ≡ j → n ≢ r) → upd f j (upd (f j) r v) k n ≡ f k n
item_old f j r v k n ne = elim (ℕ_discrete k j) [
  | yes e ↦ rw e (ap (λ (h : ℕ → Item). h n) (upd_same f j (upd (f j) r v)) ∙ upd_other (f j) r v n (ne e))
  | no m ↦ ap (λ (h : ℕ → Item). h n) (upd_other f j (upd (f j) r v) k m)
]

-- a put: a row of sub j above its last one is new, and nothing else has changed
pub record Added (first : ℕ → ℕ) (item : ℕ → ℕ → Item) (j row : ℕ) (new : Item) (first' : ℕ → ℕ) (item' : ℕ → ℕ → Item) : Type 0 where
  pub above : first j < row
  pub here : first' j ≡ row
  pub off : (k : ℕ) → k ≢ j → first' k ≡ first k
  pub it : item' j row ≡ new
  pub old : (k r : ℕ) → (k ≡ j → r ≢ row) → item' k r ≡ item k r

pub added : (first : ℕ → ℕ) (item : ℕ → ℕ → Item) (j row : ℕ) (new : Item) → first j < row
    → Added first item j row new (upd first j row) (upd item j (upd (item j) row new))
added first item j row new above =
    record {
      above = above;
      here = upd_same first j row;
      off = λ k n. upd_other first j row k n;
      it = item_new item j row new;
      old = λ k r n. item_old item j row new k r n;
    }

module _ {w : ℕ} {first : ℕ → ℕ} {item : ℕ → ℕ → Item} {puts : ℕ} (o : Stamped w first item puts) where
  -- two rows with one stamp are one row
  pub stamp_once : (j k r r' : ℕ) → j < w → k < w → 1 ≤ r → r ≤ first j → 1 ≤ r' → r' ≤ first k
      → (item k r').stamp ≡ (item j r).stamp → (k ≡ j) × (r' ≡ r)
  stamp_once j k r r' lj lk a b a' b' e = elim (ℕ_discrete k j) [
    | yes y ↦ (y, rows (rw y at b') (rw y at e) (dec_lt r r') (dec_lt r' r))
    | no n ↦ absurd (o.apart k j r' r lk lj n a' b' a b e)
  ]
    where
      rows : r' ≤ first j → (item j r').stamp ≡ (item j r).stamp → Dec (r < r') → Dec (r' < r) → r' ≡ r
      rows l e (yes y) d = absurd (omega (arith, o.rise j r r' lj a y l))
      rows l e (no n) (yes y) = absurd (omega (arith, o.rise j r' r lj a' y b))
      rows l e (no n) (no m) = omega arith

  -- so only one item has it
  pub single : (j r : ℕ) → j < w → 1 ≤ r → r ≤ first j
      → (m n : ℕ) → m < w → 1 ≤ n → n ≤ first m → (item m n).stamp ≡ (item j r).stamp → item m n ≡ item j r
  single j r lj a b m n lm a' b' e =
      let t = stamp_once j m r n lj lm a b a' b' e in
      rw (t.0, t.1) refl

  -- fewer rows
  pub stamped_less : {first' : ℕ → ℕ} → ((j : ℕ) → j < w → first' j ≤ first j) → Stamped w first' item puts
  stamped_less less =
      record {
        least = λ j r l a b. o.least j r l a (le_trans b (less j l));
        low = λ j r l a b. o.low j r l a (le_trans b (less j l));
        rise = λ j r r' l a b c. o.rise j r r' l a b (le_trans c (less j l));
        apart = λ j k r r' lj lk n a b a' b'. o.apart j k r r' lj lk n a (le_trans b (less j lj)) a' (le_trans b' (less k lk));
      }

  -- ---- a put into the next row, with the next stamp
  module _ {first' : ℕ → ℕ} {item' : ℕ → ℕ → Item} {j : ℕ} {new : Item} (put : Added first item j (suc (first j)) new first' item') (stamp : new.stamp ≡ suc puts) where
    kept : (m r : ℕ) → r ≤ first m → item' m r ≡ item m r
    kept m r l = put.old m r (λ e y. let l' : r ≤ first j = rw e at l in omega arith)

    -- a row of now is the new one or an old one
    abbrev pub Row : ℕ → ℕ → Type 0
    Row m r = ((m ≡ j) × (r ≡ suc (first j)) × (item' m r ≡ new)) ⊎ ((r ≤ first m) × (item' m r ≡ item m r))

    pub row_cases : (m r : ℕ) → r ≤ first' m → Row m r
    row_cases m r l = elim (ℕ_discrete m j) [
      | yes y ↦ elim (ℕ_discrete r (suc (first j))) [
        | yes u ↦ inl (y, u, rw (y, u) put.it)
        | no n ↦ let b : r ≤ first m = rw y (let l' : r ≤ first' j = rw y at l in omega (arith, put.here)) in inr (b, kept m r b)
      ]
      | no n ↦ let b : r ≤ first m = omega (arith, put.off m n) in inr (b, kept m r b)
    ]

    pub stamped_put : Stamped w first' item' (suc puts)
    stamped_put = record { least = least; low = low; rise = rise; apart = apart }
      where
        least : (m r : ℕ) → m < w → 1 ≤ r → r ≤ first' m → 1 ≤ (item' m r).stamp
        least m r l a b = go (row_cases m r b)
          where
            go : Row m r → 1 ≤ (item' m r).stamp
            go (inl c) = rw c.2 (omega arith)
            go (inr c) = rw c.1 (o.least m r l a c.0)

        low : (m r : ℕ) → m < w → 1 ≤ r → r ≤ first' m → (item' m r).stamp ≤ suc puts
        low m r l a b = go (row_cases m r b)
          where
            go : Row m r → (item' m r).stamp ≤ suc puts
            go (inl c) = rw c.2 (omega arith)
            go (inr c) = rw c.1 (omega (arith, o.low m r l a c.0))

        rise : (m r r' : ℕ) → m < w → 1 ≤ r → r < r' → r' ≤ first' m → (item' m r).stamp < (item' m r').stamp
        rise m r r' l a b c = go (row_cases m r' c)
          where
            go : Row m r' → (item' m r).stamp < (item' m r').stamp
            go (inl y) =
                let u : r ≤ first m = rw y.0 (omega arith) in
                rw (y.2, kept m r u) (omega (arith, o.low m r l a u))
            go (inr y) = rw (y.1, kept m r (omega (arith, y.0))) (o.rise m r r' l a b y.0)

        apart : (m n r r' : ℕ) → m < w → n < w → m ≢ n → 1 ≤ r → r ≤ first' m → 1 ≤ r' → r' ≤ first' n → (item' m r).stamp ≢ (item' n r').stamp
        apart m n r r' lm ln ne a b a' b' u = go (row_cases m r b) (row_cases n r' b')
          where
            go : Row m r → Row n r' → ⊥
            go (inl c) (inl c') = ne (c.0 ∙ sym c'.0)
            go (inl c) (inr c') = omega (arith, u, ap (λ (y : Item). y.stamp) c.2, ap (λ (y : Item). y.stamp) c'.1, o.low n r' ln a' c'.0)
            go (inr c) (inl c') = omega (arith, u, ap (λ (y : Item). y.stamp) c.1, ap (λ (y : Item). y.stamp) c'.2, o.low m r lm a c.0)
            go (inr c) (inr c') = o.apart m n r r' lm ln ne a c.0 a' c'.0 (sym (ap (λ (y : Item). y.stamp) c.1) ∙ u ∙ ap (λ (y : Item). y.stamp) c'.1)
