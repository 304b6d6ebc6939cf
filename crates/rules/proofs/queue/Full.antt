-- "Full": at a shift of the put window that can't move up, every place in the windows after the take window holds an item, so the
-- list has at least as many items as those places are; and how many they are where no size was set.
use mathlib.Core.Path.{◌≡◌, refl, ap, ◌∙◌}
use mathlib.Core.Logic.{◌⊎◌, inl, inr}
use mathlib.Core.Bool.{Bool, true, false, ◌&&◌}
use Prim.Native.Nat.{ℕ, zero, suc, ◌+◌, ◌-◌, ◌*◌, ◌/◌, ◌%◌, ◌≤◌, ◌<◌}
use native.Mathlib.Nat.{le_refl, add-sub_of_le, lt_of_mul-lt-mul_right, mod-lt, div-add-mod'}
use native.Mathlib.Decide.{dec_lt, ℕ_discrete}
use native.Mathlib.Omega.{arith}
use lib.Dec.{ltb}
use lib.ListN.{length}
use borrow.Author.Tests.{lt-ltb, le-ltb}
use Rattle.rules.specs.Limits.{windowed, most_live}
use Rattle.rules.specs.Windows.{lower}
use Rattle.rules.specs.Full.{unset_places}
use Rattle.rules.specs.Sequential.{Contents}
use Rattle.rules.proofs.Types.{Settings}
use Rattle.rules.proofs.counts.Sums.{sum_n, sum_ext, sum_none, sum_more, sum_zero, sum_same, up_to_law, rows_more, rows_all, rows_flat}
use Rattle.rules.proofs.counts.Wraps.{multiple_le}
use Rattle.rules.proofs.counts.Held.{real, rows_of, blank_row, held_least}
use Rattle.rules.proofs.machine.Machine.{Frame, State, top_of, mark_of, places_at, places_from, places_after}
use Rattle.rules.proofs.queue.Inv.{Windows, Plain, Old, Pool, base_le}

-- ---- sums
-- d for a sub that is within m, else 0
abbrev pub part_by : Bool → ℕ → ℕ
part_by true d = d
part_by false d = 0

abbrev pub part : ℕ → ℕ → ℕ → ℕ
part j m d = part_by (ltb j m) d

pub part_in : (j m d : ℕ) → j < m → part j m d ≡ d
part_in j m d l = ap (λ (b : Bool). part_by b d) (lt-ltb j m l)

pub part_out : (j m d : ℕ) → m ≤ j → part j m d ≡ 0
part_out j m d l = ap (λ (b : Bool). part_by b d) (le-ltb j m l)

sum_add : (a b : ℕ → ℕ) (n : ℕ) → sum_n (λ k. a k + b k) n ≡ sum_n a n + sum_n b n
unfolding sum_n
sum_add a b zero = refl
sum_add a b (suc n) = omega (arith, sum_add a b n)

pub sum_swap : (h : ℕ → ℕ → ℕ) (w n : ℕ) → sum_n (λ j. sum_n (h j) n) w ≡ sum_n (λ k. sum_n (λ j. h j k) w) n
unfolding sum_n
sum_swap h w zero = sum_zero w
sum_swap h w (suc n) = omega (arith, sum_add (λ j. sum_n (h j) n) (λ j. h j n) w, sum_swap h w n)

sum_part : (w m d : ℕ) → m ≤ w → sum_n (λ j. part j m d) w ≡ m * d
unfolding sum_n
sum_part zero m d l = let e : m ≡ 0 = omega arith in rw e (omega arith)
sum_part (suc w) m d l = elim (dec_lt w m) [
  | yes y ↦
      let e : m ≡ suc w = omega arith in
      let a : sum_n (λ j. part j m d) w ≡ sum_n (λ j. part j w d) w =
      sum_ext (λ j. part j m d) (λ j. part j w d) w (λ j u. omega (arith, part_in j m d (omega arith), part_in j w d u)) in
      let b : sum_n (λ j. part j m d) w + d ≡ suc w * d = omega (arith, a, sum_part w w d (le_refl _)) in
      omega (arith, b, part_in w m d y, ap (λ (n : ℕ). n * d) e)
  | no n ↦ omega (arith, sum_part w m d (omega arith), part_out w m d (omega arith))
]

module _ {g : Settings} {s : State} {q : Contents} (o : Pool g s q)
    (reached : (j : ℕ) → j < s.frame.wide s.frame.tail → top_of s.frame ≤ s.first j) where
  abbrev f : Frame
  f = s.frame

  abbrev w : Windows g f
  w = o.windows

  -- each sub in the width of a window has reached its top
  top_reached : (k j : ℕ) → k ≤ f.tail → j < f.wide k → f.base (suc k) ≤ s.first j
  top_reached k j l m = elim (ℕ_discrete k f.tail) [
    | yes e ↦ let m' : j < f.wide f.tail = rw e at m in rw e (reached j m')
    | no n ↦ o.subs.filled k j (omega arith) m
  ]

  -- every place in the windows after the take window is held, and has an item
  pub place_held : (k j r : ℕ) → f.head < k → k ≤ f.tail → j < f.wide k → f.base k < r → r ≤ f.base (suc k)
      → (s.second j < r) × (r ≤ s.first j) × (1 ≤ (s.item j r).stamp)
  place_held k j r a l m b c =
      let up : r ≤ s.first j = omega (arith, top_reached k j l m) in
      (omega (arith, o.subs.taken_le j, base_le w (suc f.head) k (omega arith) (omega arith)), up, o.items.there k j r l m b c up)

  abbrev row : ℕ → ℕ → Bool
  row j r = real (s.item j r) && true

  row_true : (j r : ℕ) → 1 ≤ (s.item j r).stamp → row j r ≡ true
  row_true j r l = let e : real (s.item j r) ≡ true = lt-ltb 0 (s.item j r).stamp l in ap (λ (b : Bool). b && true) e

  abbrev deep_of : ℕ → ℕ
  deep_of k = f.base (suc k) - f.base k

  -- the rows of one sub in the n windows after the take window
  stacked : (j n : ℕ) → f.head + n ≤ f.tail
      → up_to_law (row j) (mark_of f) + sum_n (λ m. part j (f.wide (suc f.head + m)) (deep_of (suc f.head + m))) n ≤ up_to_law (row j) (f.base (suc f.head + n))
  stacked j zero l =
      let e : suc f.head + 0 ≡ suc f.head = omega arith in
      rw e (omega (arith, sum_none (λ m. part j (f.wide (suc f.head + m)) (deep_of (suc f.head + m)))))
  stacked j (suc n) l =
      let h : ℕ → ℕ = λ m. part j (f.wide (suc f.head + m)) (deep_of (suc f.head + m)) in
      let k : ℕ = suc f.head + n in
      let lk : k ≤ f.tail = omega arith in
      let e : suc f.head + suc n ≡ suc k = omega arith in
      let up : f.base k ≤ f.base (suc k) = base_le w k (suc k) (omega arith) (omega arith) in
      let sums : sum_n h (suc n) ≡ sum_n h n + h n = sum_more h n in
      rw e (elim (dec_lt j (f.wide k)) [
        | yes y ↦ omega (
          arith,
          stacked j n (omega arith),
          sums,
          part_in j (f.wide k) (deep_of k) y,
          rows_all (row j) (f.base k) (f.base (suc k)) up (λ r a b. row_true j r (place_held k j r (omega arith) lk y a b).2),
        )
        | no y ↦ omega (
          arith,
          stacked j n (omega arith),
          sums,
          part_out j (f.wide k) (deep_of k) (omega arith),
          (rows_more (row j) (f.base k) (f.base (suc k)) up).0,
        )
      ])

  abbrev count : ℕ
  count = f.tail - f.head

  each : (j : ℕ) → rows_of s.item (λ x. true) s.second j + sum_n (λ m. part j (f.wide (suc f.head + m)) (deep_of (suc f.head + m))) count
      ≤ rows_of s.item (λ x. true) s.first j
  each j =
      let e : suc f.head + count ≡ suc f.tail = omega (arith, w.order) in
      let a = stacked j count (omega (arith, w.order)) in
      let a' : up_to_law (row j) (mark_of f) + sum_n (λ m. part j (f.wide (suc f.head + m)) (deep_of (suc f.head + m))) count ≤ up_to_law (row j) (top_of f) = rw e at a in
      omega (
        arith,
        (rows_more (row j) (s.second j) (mark_of f) (o.subs.taken_le j)).0,
        rows_flat (row j) (s.first j) (top_of f) (o.subs.put_le j) (λ r u v. blank_row (λ x. true) (s.item j r) (blank j r u)),
      )
    where
      blank : (j r : ℕ) → s.first j < r → (s.item j r).stamp ≡ 0
      blank j r u = elim (dec_lt 0 (s.item j r).stamp) [ yes y ↦ absurd (omega (arith, o.items.below j r y)) | no n ↦ omega arith ]

  -- so at least as many items are held
  pub places_held : places_after s.frame ≤ length q.items
  unfolding places_from
  places_held =
      let h : ℕ → ℕ → ℕ = λ j m. part j (f.wide (suc f.head + m)) (deep_of (suc f.head + m)) in
      omega (
        arith,
        held_least o.holds (λ j. sum_n (h j) count) (λ j l. each j),
        sum_swap h g.width count,
        sum_ext (λ m. sum_n (λ j. h j m) g.width) (λ m. places_at f (suc f.head + m)) count
            (λ m l. sum_part g.width (f.wide (suc f.head + m)) (deep_of (suc f.head + m)) (w.wide_le (suc f.head + m) (omega arith))),
      )

-- ---- editions 0 and 1: where the put window can't move up, the places are w × (R - d)
pub times_less : (a b d : ℕ) → a ≤ b → (b - a) * d + a * d ≡ b * d
times_less a b d l =
    let e : (a + (b - a)) * d ≡ b * d = ap (λ (n : ℕ). n * d) (add-sub_of_le l) in
    omega arith

-- where no size was set, all windows have the pool's
module _ {g : Settings} {s : State} {q : Contents} (o : Pool g s q) (unset : s.set ≡ 0) where
  abbrev fr : Frame
  fr = s.frame

  p : Plain g fr s.next s.first s.puts
  p = o.plain unset

  top_is : top_of fr ≡ suc fr.tail * g.depth
  top_is = p.base_is (suc fr.tail) (le_refl _)

  bottom_is : fr.base fr.head ≡ fr.head * g.depth
  bottom_is = p.base_is fr.head (omega (arith, o.windows.order))

  -- each window after the take window has w × d places
  pub places_are : places_after s.frame ≡ (fr.tail - fr.head) * (g.width * g.depth)
  unfolding places_from
  places_are =
      sum_same (λ m. places_at fr (suc fr.head + m)) (fr.tail - fr.head) (g.width * g.depth) (λ m l.
      let k : ℕ = suc fr.head + m in
      let a : fr.wide k ≡ g.width = p.wide_is k (omega arith) in
      let b : fr.base (suc k) - fr.base k ≡ g.depth = omega (arith, p.base_is k (omega arith), p.base_is (suc k) (omega arith)) in
      rw (a, b) refl)

  swap : (a b c : ℕ) → a * (b * c) ≡ b * (c * a)
  swap a b c = omega arith

  -- the put window can't move up where the rows are used up or all pairs are: then as many windows are live as R has room for, or 16
  pub places_unset : 1 ≤ g.depth → windowed g ≡ true → (g.rows < top_of fr + s.next.depth - fr.base fr.head) ⊎ (most_live ≤ suc fr.tail - fr.head)
      → places_after s.frame ≡ unset_places g
  places_unset deep one stuck =
      places_are ∙ swap (fr.tail - fr.head) g.width g.depth ∙ ap (λ (m : ℕ). g.width * (g.depth * m)) count_is
    where
      live : ℕ
      live = suc fr.tail - fr.head

      all : ℕ
      all = g.rows / g.depth

      divides : all * g.depth + g.rows % g.depth ≡ g.rows
      divides = div-add-mod' g.rows g.depth

      left : g.rows % g.depth < g.depth
      left = mod-lt g.rows deep

      live_rows : live * g.depth + fr.head * g.depth ≡ suc fr.tail * g.depth
      live_rows = times_less fr.head (suc fr.tail) g.depth (omega (arith, o.windows.order))

      live_le : live ≤ all
      live_le =
          let m : live * g.depth < suc all * g.depth = omega (arith, o.windows.room, top_is, bottom_is, live_rows, divides, left) in
          let l : live < suc all = lt_of_mul-lt-mul_right g.depth m in
          omega arith

      few : live ≤ most_live
      few = omega (arith, o.live one, o.windows.order)

      least : (g.rows < top_of fr + s.next.depth - fr.base fr.head) ⊎ (most_live ≤ suc fr.tail - fr.head) → (all ≤ live) ⊎ (most_live ≤ live)
      least (inl h) =
          let m : all * g.depth < suc live * g.depth = omega (arith, h, top_is, bottom_is, live_rows, divides, p.next_deep) in
          let l : all < suc live = lt_of_mul-lt-mul_right g.depth m in
          inl (omega arith)
      least (inr h) = inr h

      by : (all ≤ live) ⊎ (most_live ≤ live) → fr.tail - fr.head ≡ lower most_live all - 1
      by (inl h) = omega (arith, live_le, few, o.windows.order)
      by (inr h) = omega (arith, live_le, few, o.windows.order)

      count_is : fr.tail - fr.head ≡ lower most_live all - 1
      count_is = by (least stuck)

module _ {g : Settings} {s : State} {q : Contents} (o : Pool g s q) (before : windowed g ≡ false) where
  z : Old g s.set
  z = o.old before

  abbrev fr' : Frame
  fr' = s.frame

  -- R and the windows are multiples of the depth, so the live windows take up all R rows
  pub places_old : g.rows < top_of fr' + s.next.depth - fr'.base fr'.head → places_after s.frame ≡ g.width * (g.rows - g.depth)
  places_old full =
      let top = top_is o z.not_set in
      let bottom = bottom_is o z.not_set in
      let m : (fr'.head + z.times) * g.depth ≤ suc fr'.tail * g.depth =
      multiple_le (fr'.head + z.times) (suc fr'.tail) g.depth (omega (arith, top, bottom, z.rows_is, (p o z.not_set).next_deep)) in
      let n : ℕ = fr'.tail - fr'.head in
      let n_rows : n * g.depth + fr'.head * g.depth ≡ fr'.tail * g.depth = times_less fr'.head fr'.tail g.depth o.windows.order in
      let rows_are : n * g.depth ≡ g.rows - g.depth = omega (arith, z.rows_is, top, bottom, o.windows.room) in
      places_are o z.not_set ∙ rotate n g.width g.depth ∙ ap (λ (r : ℕ). g.width * r) rows_are
    where
      rotate : (a b c : ℕ) → a * (b * c) ≡ b * (a * c)
      rotate a b c = omega arith
