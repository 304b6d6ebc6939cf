-- A sub's cells are a ring for its rows. The cells of rows above one another are in at most two straight segments: within R rows
-- the remainder grows with the row up to the last cell, and then goes on from the first. So the list of the segments' cells is that
-- of the rows' remainders, and what lies in them is what the rows hold.
use Prim.Native.Nat.{ℕ, zero, suc, ◌+◌, ◌-◌, ◌%◌, ◌^◌, ◌≤◌, ◌<◌}
use mathlib.Core.Path.{◌≡◌, refl, sym, ap, ◌∙◌}
use mathlib.Core.Logic.{⊎_elim}
use mathlib.Core.List.{List, [], ◌++◌, map, map-append, append_assoc, append-nil}
use native.Mathlib.Nat.{eq-or-lt_of_le, mod-add-mod, mod-eq_of_lt, mod_self, mod-lt, zero-mod, add-zero, add-suc}
use native.Mathlib.Omega.{arith}
use lib.ListN.{get_or, length, length-append, length-map, get_or-append, get_or-map}
use lib.Seq.{get_or_at}
use lib.Dec.{leb, eqb}
use borrow.Author.Tests.{eqb-true, leb-true, leb-false}
use Rattle.laws.specs.Choice.{cases}
use Rattle.laws.specs.Wrap.{sub32}
use Rattle.rules.specs.Layout.{cell_at, sub_cells_at, nth_cell_at}
use Rattle.rules.specs.Held.{items_above}
use Rattle.ring.specs.Segments.{segment, no_cells, only, wrapped, segments_from, segments_above, Within, up_from, cells_of, cell_items}
use Rattle.rules.specs.declared.Settings.{Settings}
use Rattle.rules.specs.declared.Segments.{Segments}

-- ---- numbers one after the other
up_from_length : (n k : ℕ) → length (up_from n k) ≡ k
unfolding up_from
up_from_length n zero = refl
up_from_length n (suc k) = simp length-append (omega (arith, up_from_length n k))

up_from_at : (n k i : ℕ) → i < k → get_or (up_from n k) i 0 ≡ n + i
unfolding up_from
up_from_at n zero i l = absurd (omega arith)
up_from_at n (suc k) i l =
    let long = up_from_length n k in
    ⊎_elim
    (λ (e : i ≡ k). rw e (get_or_at (up_from n k) (n + k) [] 0 k long))
    (λ (m : i < k). get_or-append (up_from n k) _ 0 i (omega arith) ∙ up_from_at n k i m)
    (eq-or-lt_of_le (omega arith))

up_from_split : (n a b : ℕ) → up_from n (a + b) ≡ up_from n a ++ up_from (n + a) b
unfolding up_from
up_from_split n a zero = rw add-zero (sym (append-nil _))
up_from_split n a (suc b) =
    let same : n + (a + b) ≡ n + a + b = omega arith in
    rw (add-suc a b, up_from_split n a b, same, append_assoc) refl

-- ---- remainders
abbrev pub remainders : ℕ → ℕ → ℕ → List ℕ
remainders rows t k = map (λ x. x % rows) (up_from t k)

-- a remainder grows with its number up to the modulus
mod_grows : (t k m : ℕ) → t % m + k < m → (t + k) % m ≡ t % m + k
mod_grows t k m h = sym (mod-add-mod t m k) ∙ mod-eq_of_lt h

-- and is 0 where it meets the modulus
mod_wraps : (t k m : ℕ) → t % m + k ≡ m → (t + k) % m ≡ 0
mod_wraps t k m h = sym (mod-add-mod t m k) ∙ ap (λ (x : ℕ). x % m) h ∙ mod_self m

pub remainders_length : (rows t k : ℕ) → length (remainders rows t k) ≡ k
remainders_length rows t k = length-map (up_from t k) _ ∙ up_from_length t k

pub remainders_at : (rows t k i : ℕ) → i < k → get_or (remainders rows t k) i 0 ≡ (t + i) % rows
remainders_at rows t k i l =
    ap (get_or (remainders rows t k) i) (sym (zero-mod rows))
    ∙ get_or-map (λ x. x % rows) (up_from t k) i 0
    ∙ ap (λ (x : ℕ). x % rows) (up_from_at t k i l)

straight : (rows t k : ℕ) → t % rows + k ≤ rows → remainders rows t k ≡ up_from (t % rows) k
unfolding up_from
straight rows t zero h = refl
straight rows t (suc k) h = map-append _ (up_from t k) _ ∙ rw (straight rows t k (omega arith), mod_grows t k rows (omega arith)) refl

-- ---- the segments
module _ (rows below held : ℕ) (pos : 1 ≤ rows) (few : held ≤ rows) where
  abbrev start : ℕ
  start = below % rows

  abbrev room : ℕ
  room = rows - start

  inside : start < rows
  inside = mod-lt below pos

  -- what holds of no segment, of one that ends at the last cell at most, and of one to the last cell and one from the first on
  by_segments : (P : Segments → Type 0) → (held ≡ 0 → P (only no_cells)) → (held ≤ room → P (only (segment start held)))
      → (room < held → P (wrapped rows start held)) → P (segments_above rows below held)
  unfolding segments_above segments_from
  by_segments P none one two =
      cases P (eqb held 0) _ _ (λ e. none (eqb-true held 0 e))
      (λ _. cases P (leb held room) _ _ (λ e. one (leb-true held room e)) (λ e. two (leb-false held room e)))

  -- their cells are the rows' remainders
  pub segments_cells : cells_of (segments_above rows below held) ≡ remainders rows below held
  unfolding up_from
  segments_cells = by_segments (λ (x : Segments). cells_of x ≡ remainders rows below held) none one two
    where
      none : held ≡ 0 → cells_of (only no_cells) ≡ remainders rows below held
      none e = rw e refl

      one : held ≤ room → cells_of (only (segment start held)) ≡ remainders rows below held
      one h = append-nil _ ∙ sym (straight rows below held (omega (arith, inside)))

      two : room < held → cells_of (wrapped rows start held) ≡ remainders rows below held
      two h =
          let wraps : (below + room) % rows ≡ 0 = mod_wraps below room rows (omega (arith, inside)) in
          let whole : held ≡ room + (held - room) = omega arith in
          let first = straight rows below room (omega (arith, inside)) in
          let rest = straight rows (below + room) (held - room) (omega (arith, wraps, inside)) in
          sym (ap (remainders rows below) whole
          ∙ ap (map (λ x. x % rows)) (up_from_split below room (held - room))
          ∙ map-append _ (up_from below room) _
          ∙ rw (first, rest, wraps) refl)

  -- they lie within the ring, the second below the first
  pub segments_within : Within rows (segments_above rows below held)
  segments_within =
      by_segments (Within rows)
      (λ e. record { first_end = omega arith; first_to_last = λ some. omega arith; second_start = refl; second_end = omega arith })
      (λ h. record { first_end = omega (arith, inside); first_to_last = λ some. omega arith; second_start = refl; second_end = omega arith })
      (λ h. record { first_end = omega (arith, inside); first_to_last = λ some. omega (arith, inside); second_start = refl; second_end = omega (arith, inside) })

-- rows from the first on are one segment from the first cell on
pub segments_from_first : (rows held : ℕ) → 1 ≤ rows → held ≤ rows → segments_above rows 0 held ≡ only (segment 0 held)
segments_from_first rows held pos few =
    by_segments rows 0 held pos few (λ (x : Segments). x ≡ only (segment 0 held))
    (λ e. rw e refl)
    (λ h. rw (zero-mod rows) refl)
    (λ h. absurd (omega (arith, zero-mod rows)))

-- ---- what lies in the cells
-- the items of k rows above row t
pub above_cells : (ws : List ℕ) (g : Settings) (j t k : ℕ) → t + k < 2 ^ 32
    → cell_items ws (sub_cells_at g j) (remainders g.rows t k) ≡ items_above ws g j t k
unfolding items_above up_from
above_cells ws g j t zero few = refl
above_cells ws g j t (suc k) few =
    let row : sub32 (t + k + 1) 1 ≡ t + k = omega arith in
    let cell : nth_cell_at (sub_cells_at g j) ((t + k) % g.rows) ≡ cell_at g j (t + k + 1) = rw row (omega arith) in
    ap (cell_items ws (sub_cells_at g j)) (map-append _ (up_from t k) _)
    ∙ map-append _ (remainders g.rows t k) _
    ∙ rw (above_cells ws g j t k (omega arith), cell) refl
