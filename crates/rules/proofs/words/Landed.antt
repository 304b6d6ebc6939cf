-- A put that lands: its cell is free, so the words go on saying the machine's held rows, and the new one.
use mathlib.Core.Path.{◌≡◌, refl, sym, ◌∙◌, subst}
use mathlib.Core.Bool.{Bool, true, false}
use mathlib.Core.Logic.{◌≢◌}
use mathlib.Core.List.{List}
use Prim.Native.Nat.{ℕ, ◌+◌, ◌≤◌, ◌<◌}
use native.Mathlib.Decide.{ℕ_discrete}
use native.Mathlib.Omega.{arith}
use lib.ListN.{length, get_or}
use Rattle.laws.specs.Wrap.{sub32}
use Rattle.rules.specs.Limits.{Bounds}
use Rattle.rules.specs.Layout.{windows_at, sub_at, worker_at, cells_at, cell_at, steps_at, puts_at, top_at, mark_at, second_at, stamp_at}
use Rattle.rules.specs.Windows.{has_windows}
use Rattle.rules.specs.Held.{Item, item_at, rows_below}
use Rattle.rules.specs.Apply.{put_item}
use Rattle.rules.proofs.Types.{Settings, Row, Stamp, Effect}
use Rattle.rules.proofs.Cells.{rows_pos, cell_lt}
use Rattle.rules.proofs.counts.Sums.{upd, upd_same, upd_other}
use Rattle.rules.proofs.counts.Stamps.{item_new, item_old}
use Rattle.rules.proofs.machine.Machine.{State, sub_in, view_in, below_in, after_in, with_item}
use Rattle.rules.proofs.machine.Does.{Lands}
use Rattle.rules.proofs.Workers.{worker_within}
use Rattle.rules.proofs.words.Says.{Says}
use Rattle.rules.proofs.words.Writes.{settings_kept, slot_kept}
use Rattle.rules.proofs.words.Places.{place, places_apart, item_length, item_off, item_here, item_there}
use Rattle.rules.proofs.words.After.{windows_kept, CellsSay}

-- the rows of the sub that are held lie above a level, and the new one no more than R above it
pub record Floor (g : Settings) (s : State) (i row : ℕ) : Type 0 where
  pub level : ℕ
  pub under : level < row
  pub free : row ≤ level + g.rows
  pub held : (r : ℕ) → below_in g s (sub_in s i) < r → r ≤ s.first (sub_in s i) → (has_windows g ≡ true → 1 ≤ (s.item (sub_in s i) r).stamp) → level < r
  pub only : has_windows g ≡ true → (r : ℕ) → 1 ≤ (s.item (sub_in s i) r).stamp → r ≤ s.first (sub_in s i)

module _ (g : Settings) (ws : List ℕ) (s : State) (says : Says g ws s) (bounds : Bounds g)
    (i : ℕ) (lj : sub_in s i < g.width) (value : ℕ) (at : Row) (stamp : Stamp) (e : Effect) (h : Lands g (view_in g s i) e at) (floor : Floor g s i at.0) where
  abbrev j : ℕ
  j = sub_in s i

  abbrev row : ℕ
  row = at.0

  abbrev new : Item
  new = record { value = value; stamp = stamp.0 }

  abbrev vs : List ℕ
  vs = put_item ws g j value at stamp

  abbrev t : State
  t = with_item s j row new

  -- the words before the cells
  before : (m : ℕ) → m < cells_at g → get_or vs m 0 ≡ get_or ws m 0
  before m l = item_off ws g j value at stamp m (λ u. omega arith) (λ u. omega arith)

  -- and behind them
  behind : (m : ℕ) → windows_at g ≤ m → get_or vs m 0 ≡ get_or ws m 0
  behind m l =
      let low = cell_lt g j (sub32 row 1) bounds lj in
      item_off ws g j value at stamp m (λ u. omega arith) (λ u. omega arith)

  cell_fits : stamp_at (cell_at g j row) < length ws
  cell_fits = omega (arith, says.long, cell_lt g j (sub32 row 1) bounds lj)

  -- a held row lies elsewhere, and is not the new one
  not_new : (k n : ℕ) → n ≤ s.first k → k ≡ j → n ≢ row
  not_new k n b y u = let b' : n ≤ s.first j = rw y at b in omega (arith, h.above)

  abbrev Stamped : ℕ → ℕ → Type 0
  Stamped k n = has_windows g ≡ true → 1 ≤ (s.item k n).stamp

  apart : (k n : ℕ) → k < g.width → below_in g s k < n → n ≤ s.first k → Stamped k n → place g k n ≢ place g j row
  apart k n l a b stamped =
      places_apart g j k floor.level row n (rows_pos g bounds)
      (λ y. let a' : below_in g s j < n = rw y at a in let b' : n ≤ s.first j = rw y at b in
      (floor.held n a' b' (rw y at stamped), omega (arith, floor.free, h.above), not_new k n b y))
      floor.under floor.free (omega (arith, floor.under, h.few, bounds.rows1024))

  -- the rows that were
  was : (k n : ℕ) → n ≤ s.first k → t.item k n ≡ s.item k n
  was k n b = item_old s.item j row new k n (not_new k n b)

  old_cell : (k n : ℕ) → k < g.width → below_in g s k < n → n ≤ s.first k → (has_windows g ≡ true → 1 ≤ (t.item k n).stamp) → item_at vs g k n ≡ t.item k n
  old_cell k n l a b stamped =
      let stamped' : Stamped k n = λ has. subst (λ (x : Item). 1 ≤ x.stamp) (was k n b) (stamped has) in
      item_there ws g j value at stamp k n (apart k n l a b stamped') ∙ says.cell k n l a b stamped' ∙ sym (was k n b)

  new_cell : item_at vs g j row ≡ t.item j row
  new_cell = item_here ws g j value at stamp cell_fits ∙ sym (item_new s.item j row new)

  pub landed_says : Says g vs t
  landed_says =
      record {
        long = rw (item_length ws g j value at stamp) says.long;
        settings = settings_kept ws vs (λ m s. before m (omega (arith, s.below))) ∙ says.settings;
        steps = before steps_at (omega arith) ∙ says.steps;
        puts = before puts_at (omega arith) ∙ says.puts;
        top = before top_at (omega arith) ∙ says.top;
        mark = before mark_at (omega arith) ∙ says.mark;
        first = λ k l. before (sub_at k) (omega arith) ∙ says.first k l;
        second = λ k l. before (second_at k) (omega arith) ∙ says.second k l;
        slot = λ m l. slot_kept g ws vs (worker_at g m) (λ k a. before (worker_at g m + k) (omega (arith, worker_within g m l, a.there))) ∙ says.slot m l;
        cell = old_cell;
        windows = λ has. windows_kept g ws vs s t behind refl refl refl (says.windows has);
        blank = λ none k l. behind (windows_at g + k) (omega arith) ∙ says.blank none k l;
      }

  -- a row up to the new one that has an item is the new one, or was there
  not_passed : (r : ℕ) → r ≤ row → r ≢ row → (has_windows g ≡ true → 1 ≤ (t.item j r).stamp) → r ≤ s.first j
  not_passed r l n stamped = go (has_windows g) refl
    where
      go : (b : Bool) → has_windows g ≡ b → r ≤ s.first j
      go true e = floor.only e r (subst (λ (x : Item). 1 ≤ x.stamp) (item_old s.item j row new j r (λ u. n)) (stamped e))
      go false e = omega (arith, h.next e)

  -- the held rows after it: the new one, and the old ones
  pub landed_cells : CellsSay g vs (after_in t i e)
  landed_cells k r l a b y = elim (ℕ_discrete k j) [
    | yes z ↦
        let a' : rows_below g (upd s.second j e.second j) < r = rw z at a in
        let b' : r ≤ upd s.first j e.first j = rw z at b in
        let a'' : rows_below g e.second < r = rw (upd_same s.second j e.second) at a' in
        let b'' : r ≤ e.first = rw (upd_same s.first j e.first) at b' in
        elim (ℕ_discrete r row) [
          | yes u ↦ rw (z, u) new_cell
          | no n ↦ rw z (old_cell j r lj (omega (arith, h.below)) (not_passed r (rw h.first at b'') n (rw z at y)) (rw z at y))
        ]
    | no n ↦ old_cell k r l (rw (upd_other s.second j e.second k n) at a) (rw (upd_other s.first j e.first k n) at b) y
  ]
