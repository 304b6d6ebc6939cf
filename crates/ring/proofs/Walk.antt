-- What is counted on the way through the segments: one cell more, the cells of a part of the words, two segments, one band more, one sub more.
use Prim.Native.Nat.{ℕ, zero, suc, ◌+◌, ◌*◌, ◌≤◌, ◌<◌}
use mathlib.Core.Path.{◌≡◌, refl, sym, ap, ◌∙◌}
use mathlib.Core.Bool.{Bool}
use mathlib.Core.List.{List, ◌++◌, map-append}
use native.Mathlib.Numerals.{add-one}
use native.Mathlib.Omega.{arith}
use lib.ListN.{get_or, take, drop}
use lib.Seq.{get_or-drop, get_or-take}
use Rattle.laws.specs.Choice.{cond}
use Rattle.rules.specs.Layout.{cell_words, nth_cell_at, stamp_at}
use Rattle.rules.specs.Held.{Item, cell_item, count_items}
use Rattle.ring.specs.Segments.{up_from, cell_items, walked_band, walked_bands, walked_sub, walked_below}
use Rattle.rules.specs.declared.Settings.{Settings}
use Rattle.rules.proofs.Cells.{count_append}

-- ---- cells
pub cells_none : (p : Item → Bool) (ws : List ℕ) (at n : ℕ) → count_items p (cell_items ws at (up_from n 0)) ≡ 0
unfolding up_from count_items
cells_none p ws at n = refl

pub cells_two : (p : Item → Bool) (ws : List ℕ) (at : ℕ) (cs ds : List ℕ)
    → count_items p (cell_items ws at (cs ++ ds)) ≡ count_items p (cell_items ws at cs) + count_items p (cell_items ws at ds)
cells_two p ws at cs ds = ap (count_items p) (map-append _ cs ds) ∙ count_append p (cell_items ws at cs) (cell_items ws at ds)

-- one cell more from the first word on
pub cells_more : (p : Item → Bool) (ws : List ℕ) (k : ℕ)
    → count_items p (cell_items ws 0 (up_from 0 (k + 1))) ≡ count_items p (cell_items ws 0 (up_from 0 k)) + cond (p (cell_item ws (cell_words * k))) 1 0
unfolding up_from count_items
cells_more p ws k =
    let place : nth_cell_at 0 (0 + k) ≡ cell_words * k = omega arith in
    rw (add-one k) (cells_two p ws 0 (up_from 0 k) _ ∙ rw place (omega arith))

-- the first cells of a part of the words are those from its start on
pub cells_part : (ws : List ℕ) (n at start k : ℕ) → cell_words * k ≤ n
    → cell_items (take n (drop (nth_cell_at at start) ws)) 0 (up_from 0 k) ≡ cell_items ws at (up_from start k)
unfolding up_from
cells_part ws n at start zero h = refl
cells_part ws n at start (suc k) h =
    map-append _ (up_from 0 k) _
    ∙ rw (
      cells_part ws n at start k (omega arith),
      word (nth_cell_at 0 (0 + k)) (nth_cell_at at (start + k)) (omega arith) (omega arith),
      word (stamp_at (nth_cell_at 0 (0 + k))) (stamp_at (nth_cell_at at (start + k))) (omega arith) (omega arith),
    )
    (sym (map-append _ (up_from start k) _))
  where
    word : (i m : ℕ) → i < n → nth_cell_at at start + i ≡ m → get_or (take n (drop (nth_cell_at at start) ws)) i 0 ≡ get_or ws m 0
    word i m l e =
        get_or-take n (drop (nth_cell_at at start) ws) i 0 l
        ∙ get_or-drop (nth_cell_at at start) ws i 0
        ∙ ap (λ (x : ℕ). get_or ws x 0) e

-- ---- bands
pub bands_none : (p : Item → Bool) (ws : List ℕ) (g : Settings) (j : ℕ) → count_items p (walked_bands ws g j 0) ≡ 0
unfolding walked_bands count_items
bands_none p ws g j = refl

pub bands_more : (p : Item → Bool) (ws : List ℕ) (g : Settings) (j k : ℕ)
    → count_items p (walked_bands ws g j (k + 1)) ≡ count_items p (walked_bands ws g j k) + count_items p (walked_band ws g j k)
unfolding walked_bands
bands_more p ws g j k = rw (add-one k) (count_append p (walked_bands ws g j k) (walked_band ws g j k))

-- ---- subs
pub subs_none : (p : Item → Bool) (ws : List ℕ) (g : Settings) → count_items p (walked_below ws g 0) ≡ 0
unfolding walked_below count_items
subs_none p ws g = refl

pub subs_more : (p : Item → Bool) (ws : List ℕ) (g : Settings) (j : ℕ)
    → count_items p (walked_below ws g (j + 1)) ≡ count_items p (walked_below ws g j) + count_items p (walked_sub ws g j)
unfolding walked_below
subs_more p ws g j = rw (add-one j) (count_append p (walked_below ws g j) (walked_sub ws g j))
