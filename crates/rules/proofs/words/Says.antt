-- The relation between words and machine: the words say the machine's state, each at its place, of the cells those of the held rows that have an
-- item, and of the windows those that are live. A distance counted over the words is then the machine's: where windows have sizes of their own it
-- is counted window by window, and a sub's rows between that have no item count for nothing.
use mathlib.Core.Path.{◌≡◌, refl, sym, ap, ◌∙◌}
use mathlib.Core.Bool.{Bool, true, false, ◌&&◌}
use mathlib.Core.List.{List, [], ◌∷◌}
use Prim.Native.Nat.{ℕ, zero, suc, ◌+◌, ◌-◌, ◌≤◌, ◌<◌}
use native.Mathlib.Nat.{le_refl, le_of_lt, add-zero, add-suc, add-sub_of_le}
use native.Mathlib.Decide.{dec_lt, dec_le}
use native.Mathlib.Numerals.{add-one}
use native.Mathlib.Omega.{arith}
use lib.ListN.{length, get_or}
use borrow.Author.Tests.{lt-ltb, le-ltb}
use Rattle.laws.specs.Choice.{cond}
use Rattle.rules.specs.Layout.{steps_at, puts_at, top_at, mark_at, set_at, windows_at, windows_words, needed, settings_of, first_of, second_of, worker_at}
use Rattle.rules.specs.Limits.{most_live}
use Rattle.rules.specs.Windows.{has_windows, no_size, next_size, live_of, nth_size, bottom_of, higher, lower}
use Rattle.rules.specs.Worker.{slot_at}
use Rattle.rules.specs.Held.{Item, item_at, items_above, sub_band, band_count, band_of, held_bands, held_sub, held_below, held_items, count_items, reported, distance_of}
use Rattle.rules.proofs.Types.{Settings, Size, Stamp}
use Rattle.rules.proofs.counts.Sums.{sum_n, sum_none, sum_more, up_to_law, up_to_suc, rows_flat, bit}
use Rattle.rules.proofs.machine.Machine.{Frame, State, size_at, below_in, count_in, distance_in}
use Rattle.rules.proofs.machine.Slots.{has_queue}
use Rattle.rules.proofs.machine.Turns.{InLive, LiveFits, Framed, Counts}
use Rattle.rules.proofs.Cells.{count_append, held_order, queue_below}
use Rattle.rules.proofs.counts.Held.{count_none, count_cons, real, bit_real, blank_row}

-- ---- what the words say
-- a queue's windows of their own sizes, from the take window on
pub record WindowsSay (g : Settings) (ws : List ℕ) (s : State) : Type 0 where
  pub next : next_size ws g ≡ s.next
  pub set : get_or ws (set_at g) 0 ≡ s.set
  pub live : live_of ws g ≡ suc s.frame.tail - s.frame.head
  pub size : (k : ℕ) → s.frame.head + k ≤ s.frame.tail → nth_size ws g k ≡ size_at s.frame (s.frame.head + k)
  pub none : (k : ℕ) → s.frame.tail < s.frame.head + k → k < most_live → nth_size ws g k ≡ no_size

pub record Says (g : Settings) (ws : List ℕ) (s : State) : Type 0 where
  pub long : needed g ≤ length ws
  pub settings : settings_of ws ≡ g
  pub steps : get_or ws steps_at 0 ≡ s.steps
  pub puts : get_or ws puts_at 0 ≡ s.puts
  pub top : get_or ws top_at 0 ≡ s.top
  pub mark : get_or ws mark_at 0 ≡ s.mark
  pub first : (j : ℕ) → j < g.width → first_of ws j ≡ s.first j
  pub second : (j : ℕ) → j < g.width → second_of ws j ≡ s.second j
  pub slot : (i : ℕ) → i < g.workers → slot_at g ws (worker_at g i) ≡ s.slot i
  pub cell : (j r : ℕ) → j < g.width → below_in g s j < r → r ≤ s.first j → (has_windows g ≡ true → 1 ≤ (s.item j r).stamp) → item_at ws g j r ≡ s.item j r
  pub windows : has_windows g ≡ true → WindowsSay g ws s
  pub blank : has_windows g ≡ false → (k : ℕ) → k < windows_words g.edition → get_or ws (windows_at g + k) 0 ≡ 0

-- ---- the live windows
module _ (g : Settings) (s : State) (h : LiveFits g s) where
  abbrev f : Frame
  f = s.frame

  -- each is above the one before
  pub rises : (k : ℕ) → f.head ≤ k → k ≤ f.tail → f.base k < f.base (suc k)
  rises k a b = omega (arith, (h.size k a b).depth1)

  pub bases : (k n : ℕ) → f.head ≤ k → k + n ≤ suc f.tail → f.base k ≤ f.base (k + n)
  bases k zero a b = rw (add-zero k) (le_refl _)
  bases k (suc n) a b = rw (add-suc k n) (omega (arith, bases k n a (omega arith), rises (k + n) (omega arith) (omega arith)))

  pub bases_le : (k m : ℕ) → f.head ≤ k → k ≤ m → m ≤ suc f.tail → f.base k ≤ f.base m
  bases_le k m a l b = let e : k + (m - k) ≡ m = omega arith in rw e at (bases k (m - k) a (omega arith))

  -- ---- the words of them
  module _ (ws : List ℕ) (says : Says g ws s) (has : has_windows g ≡ true) where
    abbrev win : WindowsSay g ws s
    win = says.windows has

    pub bottoms : (k : ℕ) → f.head + k ≤ suc f.tail → bottom_of ws g k ≡ f.base (f.head + k)
    unfolding bottom_of
    bottoms zero l =
        let e : f.head + 0 ≡ f.head = omega arith in
        let d : (nth_size ws g 0).depth ≡ f.base (suc f.head) - f.base f.head =
        ap (λ (z : Size). z.depth) (win.size 0 (omega (arith, h.order))) ∙ (rw e refl) in
        rw e (omega (arith, says.mark, h.mark, rises f.head (le_refl _) h.order))
    bottoms (suc k) l =
        let e : f.head + suc k ≡ suc (f.head + k) = omega arith in
        let d : (nth_size ws g k).depth ≡ f.base (suc (f.head + k)) - f.base (f.head + k) = ap (λ (z : Size). z.depth) (win.size k (omega arith)) in
        rw e (omega (arith, bottoms k (omega arith), rises (f.head + k) (omega arith) (omega arith)))

-- ---- the rows without an item
module _ (g : Settings) (s : State) (h : Framed g s) where
  -- a row that has an item and is not taken is in no other window than that of its place
  outside_blank : (k j r : ℕ) → s.frame.head ≤ k → k ≤ s.frame.tail → s.frame.base k < r → r ≤ s.frame.base (suc k) → s.frame.wide k ≤ j → s.second j < r → (s.item j r).stamp ≡ 0
  outside_blank k j r a b low high out taken = elim (dec_lt 0 (s.item j r).stamp) [ yes y ↦ absurd (by (h.place j r taken y)) | no n ↦ omega arith ]
    where
      by : (k : ℕ) × InLive s.frame k j r → ⊥
      by (m, x) =
          let e : m ≡ k = same (dec_lt m k) (dec_lt k m) in
          let i : j < s.frame.wide k = rw e at x.wide in
          omega arith
        where
          same : Dec (m < k) → Dec (k < m) → m ≡ k
          same (yes y) d = absurd (omega (arith, bases_le g s h.fits (suc m) k (omega (arith, x.from_head)) y (omega arith), x.up_to))
          same (no y) (yes z) = absurd (omega (arith, bases_le g s h.fits (suc k) m (omega arith) z (omega (arith, x.to_tail)), x.above))
          same (no y) (no z) = omega arith

  low_blank : (j r : ℕ) → s.second j < r → r ≤ s.frame.base s.frame.head → (s.item j r).stamp ≡ 0
  low_blank j r taken high = elim (dec_lt 0 (s.item j r).stamp) [ yes y ↦ absurd (by (h.place j r taken y)) | no n ↦ omega arith ]
    where
      by : (k : ℕ) × InLive s.frame k j r → ⊥
      by (m, x) = omega (arith, bases_le g s h.fits s.frame.head m (le_refl _) x.from_head (omega (arith, x.to_tail)), x.above)

-- ---- counts over the held cells
count_one : (p : Item → Bool) (x : Item) → count_items p (x ∷ []) ≡ bit (p x)
count_one p x = omega (arith, count_cons p x [], count_none p)

-- the rows above a and up to b, cut at c and at d
module _ (a b c d : ℕ) (ab : a ≤ b) (cd : c < d) where
  -- where some lie between c and d
  some_low : higher a c < lower b d → higher a (lower b c) ≡ higher a c
  some_low l = let e : lower b c ≡ c = omega arith in ap (higher a) e

  some_high : higher a c < lower b d → higher a (lower b d) ≡ lower b d
  some_high l = omega arith

  -- where none do
  none_between : lower b d ≤ higher a c → higher a (lower b c) ≡ higher a (lower b d)
  none_between l = elim (dec_le b c) [
    | yes y ↦
        let e : lower b c ≡ b = omega arith in
        let e' : lower b d ≡ b = omega arith in
        rw (e, e') refl
    | no n ↦
        let e : lower b c ≡ c = omega arith in
        let up : c < lower b d = omega arith in
        let low : c ≤ a = omega arith in
        let e₁ : higher a c ≡ a = omega arith in
        let e₂ : higher a (lower b d) ≡ a = omega arith in
        rw (e, e₁) (sym e₂)
  ]

not_lt : (a b : ℕ) → ¬ (a < b) → b ≤ a
not_lt a b n = omega arith

none_left : (a b : ℕ) → b ≤ a → b - a ≡ 0
none_left a b l = omega arith

over_left : (a x r : ℕ) → higher a x < r → a < r
over_left a x r l = omega arith

over_right : (a x r : ℕ) → higher a x < r → x < r
over_right a x r l = omega arith

under_left : (b d r : ℕ) → r ≤ lower b d → r ≤ b
under_left b d r l = omega arith

under_right : (b d r : ℕ) → r ≤ lower b d → r ≤ d
under_right b d r l = omega arith

module _ (g : Settings) (ws : List ℕ) (s : State) (says : Says g ws s) (c : Counts g s) (p : Item → Bool) where
  abbrev counts : ℕ → ℕ → Bool
  counts j r = real (s.item j r) && p (s.item j r)

  order : (j : ℕ) → j < g.width → below_in g s j ≤ s.first j
  order j l = held_order g _ (s.first j) (s.second j) (c.sub j l)

  rows_above : (j t k : ℕ) → ((r : ℕ) → t < r → r ≤ t + k → (item_at ws g j r ≡ s.item j r) × (1 ≤ (s.item j r).stamp))
      → count_items p (items_above ws g j t k) + up_to_law (counts j) t ≡ up_to_law (counts j) (t + k)
  unfolding items_above
  rows_above j t zero h = rw (add-zero t) (omega (arith, count_none p))
  rows_above j t (suc k) h =
      let here = h (suc (t + k)) (omega arith) (omega arith) in
      let it : item_at ws g j (t + k + 1) ≡ s.item j (suc (t + k)) = rw (add-one (t + k)) here.0 in
      rw (add-suc t k) (omega (
        arith,
        rows_above j t k (λ r a b. h r a (omega arith)),
        up_to_suc (counts j) (t + k),
        count_append p (items_above ws g j t k) (item_at ws g j (t + k + 1) ∷ []),
        count_one p (item_at ws g j (t + k + 1)),
        ap (λ (x : Item). bit (p x)) it,
        bit_real p (s.item j (suc (t + k))) here.1,
      ))

  -- ---- one band
  band_whole : has_windows g ≡ false → (j k : ℕ) → band_of ws g j k ≡ sub_band g (first_of ws j) (second_of ws j)
  unfolding band_of cond
  band_whole none j k = rw none refl

  held_whole : has_windows g ≡ false → (j : ℕ) → held_sub ws g j ≡ items_above ws g j (band_of ws g j 0).below (band_of ws g j 0).rows
  unfolding held_sub held_bands band_count cond
  held_whole none j = rw none refl

  sub_whole : has_windows g ≡ false → (j : ℕ) → j < g.width → count_items p (held_sub ws g j) ≡ count_in g s p j
  sub_whole none j l =
      let k = s.first j - below_in g s j in
      let e : below_in g s j + k ≡ s.first j = add-sub_of_le (order j l) in
      let row : (r : ℕ) → below_in g s j < r → r ≤ s.first j → (item_at ws g j r ≡ s.item j r) × (1 ≤ (s.item j r).stamp) =
      λ r a b. let y = c.stamped none j r l a b in (says.cell j r l a b (λ has. y), y) in
      let a = rows_above j (below_in g s j) k (λ r a b. row r a (rw e at b)) in
      let a' : count_items p (items_above ws g j (below_in g s j) k) + up_to_law (counts j) (below_in g s j) ≡ up_to_law (counts j) (s.first j) = rw e at a in
      rw (held_whole none j, band_whole none j 0, says.first j l, says.second j l) (omega (arith, a'))

  -- ---- a band for each live window
  module _ (has : has_windows g ≡ true) where
    abbrev fr : Frame
    fr = s.frame

    h : Framed g s
    h = c.windows has

    held : (j : ℕ) → j < g.width → s.second j ≤ s.first j
    held j l = (c.sub j l).queue_order (has_queue g has)

    below_is : (j : ℕ) → below_in g s j ≡ s.second j
    below_is j = queue_below g (has_queue g has) (s.second j)

    abbrev clamp : ℕ → ℕ → ℕ
    clamp j y = higher (s.second j) (lower (s.first j) y)

    -- the band of window k
    band_in : (j k : ℕ) → j < g.width → fr.head + k ≤ fr.tail → j < fr.wide (fr.head + k)
        → band_of ws g j k ≡ record { below = higher (s.second j) (fr.base (fr.head + k)); rows = lower (s.first j) (fr.base (suc (fr.head + k))) - higher (s.second j) (fr.base (fr.head + k)) }
    unfolding band_of cond
    band_in j k l m i =
        let z : fr.head + suc k ≡ suc (fr.head + k) = omega arith in
        let up : bottom_of ws g (suc k) ≡ fr.base (suc (fr.head + k)) = bottoms g s h.fits ws says has (suc k) (omega arith) ∙ (rw z refl) in
        let wide : (nth_size ws g k).width ≡ fr.wide (fr.head + k) = ap (λ (y : Size). y.width) ((says.windows has).size k m) in
        rw (has, wide, lt-ltb j (fr.wide (fr.head + k)) i, says.first j l, says.second j l, bottoms g s h.fits ws says has k (omega arith), up) refl

    band_out : (j k : ℕ) → fr.head + k ≤ fr.tail → fr.wide (fr.head + k) ≤ j → band_of ws g j k ≡ record { below = 0; rows = 0 }
    unfolding band_of cond
    band_out j k m o =
        let wide : (nth_size ws g k).width ≡ fr.wide (fr.head + k) = ap (λ (y : Size). y.width) ((says.windows has).size k m) in
        rw (has, wide, le-ltb j (fr.wide (fr.head + k)) o) refl

    -- one window more
    one_band : (j k : ℕ) → j < g.width → fr.head + k ≤ fr.tail
        → up_to_law (counts j) (clamp j (fr.base (fr.head + k))) + count_items p (items_above ws g j (band_of ws g j k).below (band_of ws g j k).rows)
        ≡ up_to_law (counts j) (clamp j (fr.base (suc (fr.head + k))))
    one_band j k l m = elim (dec_lt j (fr.wide (fr.head + k))) [ yes y ↦ inside y | no n ↦ outside (omega arith) ]
      where
        up : fr.base (fr.head + k) < fr.base (suc (fr.head + k))
        up = rises g s h.fits (fr.head + k) (omega arith) m

        none_here : count_items p (items_above ws g j 0 0) ≡ 0
        none_here = let a = rows_above j 0 0 (λ r a b. absurd (omega arith)) in omega (arith, a)

        outside : fr.wide (fr.head + k) ≤ j
            → up_to_law (counts j) (clamp j (fr.base (fr.head + k))) + count_items p (items_above ws g j (band_of ws g j k).below (band_of ws g j k).rows)
            ≡ up_to_law (counts j) (clamp j (fr.base (suc (fr.head + k))))
        outside out =
            let flat =
            rows_flat (counts j) (clamp j (fr.base (fr.head + k))) (clamp j (fr.base (suc (fr.head + k)))) (omega (arith, up))
            (λ r a b. blank_row p (s.item j r) (outside_blank g s h (fr.head + k) j r (omega arith) m
            (omega (arith, up, held j l)) (omega (arith, up, held j l)) out (omega (arith, up, held j l)))) in
            rw (band_out j k m out) (omega (arith, flat, none_here))

        inside : j < fr.wide (fr.head + k)
            → up_to_law (counts j) (clamp j (fr.base (fr.head + k))) + count_items p (items_above ws g j (band_of ws g j k).below (band_of ws g j k).rows)
            ≡ up_to_law (counts j) (clamp j (fr.base (suc (fr.head + k))))
        inside i = rw (band_in j k l m i) (by (dec_lt lo hi))
          where
            lo : ℕ
            lo = higher (s.second j) (fr.base (fr.head + k))

            hi : ℕ
            hi = lower (s.first j) (fr.base (suc (fr.head + k)))

            row : (r : ℕ) → lo < r → r ≤ hi → (item_at ws g j r ≡ s.item j r) × (1 ≤ (s.item j r).stamp)
            row r a b =
                let taken : s.second j < r = over_left (s.second j) (fr.base (fr.head + k)) r a in
                let put : r ≤ s.first j = under_left (s.first j) (fr.base (suc (fr.head + k))) r b in
                let y = h.there (fr.head + k) j r (record {
                  from_head = omega arith;
                  to_tail = m;
                  wide = i;
                  above = over_right (s.second j) (fr.base (fr.head + k)) r a;
                  up_to = under_right (s.first j) (fr.base (suc (fr.head + k))) r b;
                }) taken put in
                (says.cell j r l (rw (below_is j) taken) put (λ has. y), y)

            by : Dec (lo < hi) → up_to_law (counts j) (clamp j (fr.base (fr.head + k))) + count_items p (items_above ws g j lo (hi - lo)) ≡ up_to_law (counts j) (clamp j (fr.base (suc (fr.head + k))))
            by (yes a) =
                let e₁ : clamp j (fr.base (fr.head + k)) ≡ lo = some_low (s.second j) (s.first j) (fr.base (fr.head + k)) (fr.base (suc (fr.head + k))) (held j l) up a in
                let e₂ : clamp j (fr.base (suc (fr.head + k))) ≡ hi = some_high (s.second j) (s.first j) (fr.base (fr.head + k)) (fr.base (suc (fr.head + k))) (held j l) up a in
                let z : lo + (hi - lo) ≡ hi = add-sub_of_le (le_of_lt a) in
                let counted = rows_above j lo (hi - lo) (λ r u v. row r u (rw z at v)) in
                let counted' : count_items p (items_above ws g j lo (hi - lo)) + up_to_law (counts j) lo ≡ up_to_law (counts j) hi = rw z at counted in
                rw (e₁, e₂) (omega (arith, counted'))
            by (no a) =
                let le : hi ≤ lo = not_lt lo hi a in
                let e : clamp j (fr.base (fr.head + k)) ≡ clamp j (fr.base (suc (fr.head + k))) =
                none_between (s.second j) (s.first j) (fr.base (fr.head + k)) (fr.base (suc (fr.head + k))) (held j l) up le in
                let z : hi - lo ≡ 0 = none_left lo hi le in
                let none = rows_above j lo 0 (λ r u v. absurd (omega arith)) in
                let none' : count_items p (items_above ws g j lo 0) + up_to_law (counts j) lo ≡ up_to_law (counts j) lo = rw (add-zero lo) at none in
                rw (e, z) (omega (arith, none'))

    bands_count : (j : ℕ) → j < g.width → (n : ℕ) → fr.head + n ≤ suc fr.tail
        → count_items p (held_bands ws g j n) + up_to_law (counts j) (s.second j) ≡ up_to_law (counts j) (clamp j (fr.base (fr.head + n)))
    unfolding held_bands
    bands_count j l zero m =
        let e : fr.head + 0 ≡ fr.head = omega arith in
        let flat =
        rows_flat (counts j) (s.second j) (clamp j (fr.base fr.head)) (omega arith)
        (λ r a b. blank_row p (s.item j r) (low_blank g s h j r a (omega (arith, held j l)))) in
        rw e (omega (arith, flat, count_none p))
    bands_count j l (suc n) m =
        let e : fr.head + suc n ≡ suc (fr.head + n) = omega arith in
        rw e (omega (
          arith,
          bands_count j l n (omega arith),
          count_append p (held_bands ws g j n) (items_above ws g j (band_of ws g j n).below (band_of ws g j n).rows),
          one_band j n l (omega arith),
        ))

    sub_bands : (j : ℕ) → j < g.width → count_items p (held_sub ws g j) ≡ count_in g s p j
    unfolding held_sub band_count cond
    sub_bands j l =
        let n : ℕ = suc fr.tail - fr.head in
        let live : live_of ws g ≡ suc fr.tail - fr.head = (says.windows has).live in
        let z : fr.head + (suc fr.tail - fr.head) ≡ suc fr.tail = omega (arith, h.fits.order) in
        let a = bands_count j l (suc fr.tail - fr.head) (omega (arith, h.fits.order)) in
        let end : clamp j (fr.base (suc fr.tail)) ≡ s.first j = omega (arith, held j l, h.put_le j, h.fits.top) in
        let a' : count_items p (held_bands ws g j (suc fr.tail - fr.head)) + up_to_law (counts j) (s.second j) ≡ up_to_law (counts j) (clamp j (fr.base (suc fr.tail))) = rw z at a in
        let a'' : count_items p (held_bands ws g j (suc fr.tail - fr.head)) + up_to_law (counts j) (s.second j) ≡ up_to_law (counts j) (s.first j) = rw end at a' in
        rw (has, live, below_is j) (omega (arith, a''))

  sub_count : (j : ℕ) → j < g.width → count_items p (held_sub ws g j) ≡ count_in g s p j
  sub_count j l = go (has_windows g) refl
    where
      go : (b : Bool) → has_windows g ≡ b → count_items p (held_sub ws g j) ≡ count_in g s p j
      go true e = sub_bands e j l
      go false e = sub_whole e j l

  words_count : (m : ℕ) → m ≤ g.width → count_items p (held_below ws g m) ≡ sum_n (count_in g s p) m
  unfolding held_below
  words_count zero l = count_none p ∙ sym (sum_none (count_in g s p))
  words_count (suc m) l =
      omega (arith, count_append p (held_below ws g m) (held_sub ws g m), words_count m (omega arith), sub_count m l, sum_more (count_in g s p) m)

-- the items in the held cells, as counts go
pub held_same : (g : Settings) (ws : List ℕ) (s : State) → Says g ws s → Counts g s → (p : Item → Bool) → count_items p (held_items ws g) ≡ sum_n (count_in g s p) g.width
held_same g ws s says c p = words_count g ws s says c p g.width (omega arith)

pub distance_same : (g : Settings) (ws : List ℕ) (s : State) → Says g ws s → Counts g s → (stamp : Stamp) → distance_of ws g stamp ≡ distance_in g s stamp.0
unfolding distance_of distance_in
distance_same g ws s says c stamp = held_same g ws s says c (reported g.kind stamp.0)
