-- "Distance": held items of all subs with a smaller stamp (queue) or a greater one (stack) just before the take. Since paper 02's K4
-- it "counts held items whose value isn't 0"; how many are passed over in all is a count of its own.
use Rattle.std.specs.Prelude.{ℕ, zero, suc, ◌+◌, ◌-◌, List, [], ◌∷◌, ◌++◌, Bool, false, get_or, length, ltb, eqb}
use Rattle.laws.specs.Choice.{cond}
use Rattle.rules.specs.Layout.{cell_at, stamp_at, first_of, second_of}
use Rattle.rules.specs.Windows.{has_windows, live_of, nth_size, bottom_of, higher, lower}
use Rattle.rules.specs.Fit.{Checked, Unfit, Fit, checked_of}
use Rattle.rules.specs.declared.Settings.{Settings}
use Rattle.rules.specs.declared.Stamp.{Stamp}

pub record Item : Type 0 where
  pub value : ℕ
  pub stamp : ℕ

-- the item in the cell at a place
abbrev pub cell_item : List ℕ → ℕ → Item
cell_item ws cell = record { value = get_or ws cell 0; stamp = get_or ws (stamp_at cell) 0 }

-- the item in the cell of a row
abbrev pub item_at : List ℕ → Settings → ℕ → ℕ → Item
item_at ws g j row = cell_item ws (cell_at g j row)

-- a sub's rows above `below`, so many
pub record Band : Type 0 where
  pub below : ℕ
  pub rows : ℕ

abbrev pub band_between : ℕ → ℕ → Band
band_between low high = record { below = low; rows = high - low }

-- all that a sub holds, by its two words: in a queue the rows above the taken ones, in a stack all
abbrev pub rows_below : Settings → ℕ → ℕ
rows_below g second = cond (eqb g.kind 0) second 0

abbrev pub sub_band : Settings → ℕ → ℕ → Band
sub_band g first second = band_between (rows_below g second) first

-- what it holds of a window: "a row of a sub at or below the take window's bottom, outside its window's width, or above the put window's top holds
-- nothing"
abbrev pub window_band : List ℕ → Settings → ℕ → ℕ → Band
window_band ws g j k =
    cond (ltb j (nth_size ws g k).width) (band_between (higher (second_of ws j) (bottom_of ws g k)) (lower (first_of ws j) (bottom_of ws g (suc k))))
    (band_between 0 0)

-- where windows have sizes of their own, a band for each live one
unfoldable pub band_count : List ℕ → Settings → ℕ
band_count ws g = cond (has_windows g) (live_of ws g) 1

unfoldable pub band_of : List ℕ → Settings → ℕ → ℕ → Band
band_of ws g j k = cond (has_windows g) (window_band ws g j k) (sub_band g (first_of ws j) (second_of ws j))

-- the items of the k rows of sub j above row t
unfoldable pub items_above : List ℕ → Settings → ℕ → ℕ → ℕ → List Item
items_above ws g j t zero = []
items_above ws g j t (suc k) = items_above ws g j t k ++ (item_at ws g j (t + k + 1) ∷ [])

-- the items of sub j in its bands below m
unfoldable pub held_bands : List ℕ → Settings → ℕ → ℕ → List Item
held_bands ws g j zero = []
held_bands ws g j (suc k) = held_bands ws g j k ++ items_above ws g j (band_of ws g j k).below (band_of ws g j k).rows

unfoldable pub held_sub : List ℕ → Settings → ℕ → List Item
held_sub ws g j = held_bands ws g j (band_count ws g)

-- the items held in the subs below m
unfoldable pub held_below : List ℕ → Settings → ℕ → List Item
held_below ws g zero = []
held_below ws g (suc j) = held_below ws g j ++ held_sub ws g j

abbrev pub held_items : List ℕ → Settings → List Item
held_items ws g = held_below ws g g.width

-- how many items a pool holds; words that are no fit pool hold none
unfoldable pub held_by : List ℕ → Checked → ℕ
held_by ws (Unfit n) = 0
held_by ws (Fit g) = length (held_items ws g)

unfoldable pub held_of : ℕ → List ℕ → ℕ
held_of e ws = held_by ws (checked_of e ws)

-- how many items of a list pass a test
unfoldable pub count_items : (Item → Bool) → List Item → ℕ
count_items p [] = 0
count_items p (x ∷ xs) = cond (p x) 1 0 + count_items p xs

-- "value 0 as a spacer between feed tanks"
abbrev pub is_spacer : Item → Bool
is_spacer x = eqb x.value 0

-- an item that a take of stamp s passes over: older in a queue, newer in a stack; spacers like all others
abbrev pub passed_over : ℕ → ℕ → Item → Bool
passed_over kind s x = cond (eqb kind 0) (ltb x.stamp s) (ltb s x.stamp)

-- one that its distance reports: passed over, and no spacer
abbrev pub reported : ℕ → ℕ → Item → Bool
reported kind s x = cond (is_spacer x) false (passed_over kind s x)

-- the held items that a take of stamp s passes over
unfoldable pub passed_of : List ℕ → Settings → Stamp → ℕ
passed_of ws g s = count_items (passed_over g.kind s.0) (held_items ws g)

-- and its distance
unfoldable pub distance_of : List ℕ → Settings → Stamp → ℕ
distance_of ws g s = count_items (reported g.kind s.0) (held_items ws g)
