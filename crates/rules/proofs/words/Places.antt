-- Where rows lie: of one sub, R rows in a row have R different cells; rows of two subs never share one. So a put into a sub
-- with a free cell overwrites no held row.
use mathlib.Core.Path.{◌≡◌, ap}
use mathlib.Core.Logic.{◌≢◌}
use mathlib.Core.List.{List}
use Prim.Native.Nat.{ℕ, suc, ◌+◌, ◌-◌, ◌*◌, ◌/◌, ◌%◌, ◌^◌, ◌≤◌, ◌<◌}
use native.Mathlib.Nat.{div-add-mod', mod-lt, lt_of_mul-lt-mul_right}
use native.Mathlib.Decide.{ℕ_discrete}
use native.Mathlib.Omega.{arith}
use lib.ListN.{length, get_or, set, length-set}
use lib.Seq.{get_or-set_same, get_or-set_other}
use Rattle.laws.specs.Wrap.{sub32}
use Rattle.rules.specs.Layout.{cell_of, cell_at, stamp_at}
use Rattle.rules.specs.Held.{item_at}
use Rattle.rules.specs.Apply.{put_item}
use Rattle.rules.proofs.Types.{Settings, Row}
use Rattle.rules.specs.declared.Stamp.{Stamp}
use Rattle.rules.proofs.counts.Wraps.{sub32_is}

-- two places in a grid with rows of R are one only if both coordinates agree
grid_one : (R j k a b : ℕ) → a < R → b < R → j * R + a ≡ k * R + b → j ≡ k
grid_one R j k a b la lb e =
    let l : j * R < suc k * R = omega arith in
    let m : k * R < suc j * R = omega arith in
    let l' : j < suc k = lt_of_mul-lt-mul_right R l in
    let m' : k < suc j = lt_of_mul-lt-mul_right R m in
    omega arith

-- R rows in a row have R different places
pub ring_one : (R t r r' : ℕ) → 1 ≤ R → t < r → r ≤ t + R → t < r' → r' ≤ t + R → (r - 1) % R ≡ (r' - 1) % R → r ≡ r'
ring_one R t r r' pos a b a' b' e =
    let d1 = div-add-mod' (r - 1) R in
    let d2 = div-add-mod' (r' - 1) R in
    let u : (r - 1) / R * R < suc ((r' - 1) / R) * R = omega arith in
    let v : (r' - 1) / R * R < suc ((r - 1) / R) * R = omega arith in
    let u' : (r - 1) / R < suc ((r' - 1) / R) = lt_of_mul-lt-mul_right R u in
    let v' : (r' - 1) / R < suc ((r - 1) / R) = lt_of_mul-lt-mul_right R v in
    let s : (r - 1) / R ≡ (r' - 1) / R = omega arith in
    let s' : (r - 1) / R * R ≡ (r' - 1) / R * R = ap (λ (x : ℕ). x * R) s in
    omega arith

-- the cell of a row, counted from the first
abbrev pub place : Settings → ℕ → ℕ → ℕ
place g j row = j * g.rows + cell_of g row

-- rows t + 1 to t + R of sub j, and any row of another sub, lie apart
pub places_apart : (g : Settings) (j k t r n : ℕ) → 1 ≤ g.rows → (k ≡ j → (t < n) × (n ≤ t + g.rows) × (n ≢ r))
    → t < r → r ≤ t + g.rows → t + g.rows < 2 ^ 32 → place g k n ≢ place g j r
places_apart g j k t r n pos near a b few e = elim (ℕ_discrete k j) [
  | yes y ↦
      let m = near y in
      let e' : j * g.rows + sub32 n 1 % g.rows ≡ j * g.rows + sub32 r 1 % g.rows = rw y at e in
      let u : sub32 n 1 ≡ n - 1 = sub32_is n 1 (omega (arith, m.0)) (omega (arith, m.1)) in
      let v : sub32 r 1 ≡ r - 1 = sub32_is r 1 (omega arith) (omega arith) in
      let w : (n - 1) % g.rows ≡ (r - 1) % g.rows = rw (u, v) at (cancel e') in
      m.2 (ring_one g.rows t n r pos m.0 m.1 a b w)
  | no ne ↦ ne (grid_one g.rows k j (sub32 n 1 % g.rows) (sub32 r 1 % g.rows) (mod-lt (sub32 n 1) pos) (mod-lt (sub32 r 1) pos) e)
]
  where
    cancel : j * g.rows + sub32 n 1 % g.rows ≡ j * g.rows + sub32 r 1 % g.rows → sub32 n 1 % g.rows ≡ sub32 r 1 % g.rows
    cancel h = omega arith

-- ---- an item stored in its cell
module _ (ws : List ℕ) (g : Settings) (j value : ℕ) (row : Row) (stamp : Stamp) where
  abbrev at : ℕ
  at = cell_at g j row.0

  pub item_length : length (put_item ws g j value row stamp) ≡ length ws
  unfolding put_item
  item_length = simp length-set

  pub item_off : (m : ℕ) → m ≢ at → m ≢ stamp_at at → get_or (put_item ws g j value row stamp) m 0 ≡ get_or ws m 0
  unfolding put_item
  item_off m a b = simp get_or-set_other

  pub item_here : stamp_at at < length ws → item_at (put_item ws g j value row stamp) g j row.0 ≡ record { value = value; stamp = stamp.0 }
  unfolding put_item
  item_here l =
      let a : at ≢ stamp_at at = λ u. omega arith in
      let v : get_or (set (set ws at value) (stamp_at at) stamp.0) at 0 ≡ value = simp get_or-set_other (get_or-set_same ws at value 0 (omega arith)) in
      let t : get_or (set (set ws at value) (stamp_at at) stamp.0) (stamp_at at) 0 ≡ stamp.0 = get_or-set_same (set ws at value) (stamp_at at) stamp.0 0 (simp length-set l) in
      λ u. record { value = v u; stamp = t u }

  pub item_there : (k n : ℕ) → place g k n ≢ place g j row.0 → item_at (put_item ws g j value row stamp) g k n ≡ item_at ws g k n
  item_there k n ne =
      let v = item_off (cell_at g k n) (λ u. ne (omega arith)) (λ u. omega arith) in
      let t = item_off (stamp_at (cell_at g k n)) (λ u. omega arith) (λ u. ne (omega arith)) in
      λ u. record { value = v u; stamp = t u }
