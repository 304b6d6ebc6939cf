-- The items of rows one above the other: so many as the rows, in two parts, and those that lie in the straight runs of their cells.
use Rattle.std.proofs.Common.{ℕ, zero, suc, ◌+◌, ◌^◌, ◌≤◌, ◌<◌, List, ◌++◌, append_assoc, append-nil, ◌≡◌, refl, sym, ap, ◌∙◌, add-zero, add-suc, arith, length, length-append}
use Rattle.rules.specs.Held.{items_above}
use Rattle.rules.specs.Layout.{sub_cells_at}
use Rattle.rules.specs.Limits.{Bounds}
use Rattle.ring.specs.Segments.{Within, segments_above, cells_of, cell_items}
use Rattle.rules.specs.declared.Segments.{Segments}
use Rattle.rules.specs.declared.Settings.{Settings}
use Rattle.rules.proofs.Cells.{rows_pos}
use Rattle.ring.proofs.Ring.{segments_cells, segments_within, above_cells}

module _ (ws : List ℕ) (g : Settings) (j : ℕ) where
  pub rows_items : (t k : ℕ) → length (items_above ws g j t k) ≡ k
  unfolding items_above
  rows_items t zero = refl
  rows_items t (suc k) = simp length-append (omega (arith, rows_items t k))

  -- the rows above t, and above those so many more
  pub rows_join : (t a b : ℕ) → items_above ws g j t (a + b) ≡ items_above ws g j t a ++ items_above ws g j (t + a) b
  unfolding items_above
  rows_join t a zero = rw add-zero (sym (append-nil _))
  rows_join t a (suc b) =
      let same : t + (a + b) ≡ t + a + b = omega arith in
      rw (add-suc a b, rows_join t a b, same, append_assoc) refl

  -- at most R rows lie in at most two straight runs
  pub rows_in_runs : (t k : ℕ) → Bounds g → k ≤ g.rows → t + k < 2 ^ 32
      → cell_items ws (sub_cells_at g j) (cells_of (segments_above g.rows t k)) ≡ items_above ws g j t k
  rows_in_runs t k b few small =
      ap (cell_items ws (sub_cells_at g j)) (segments_cells g.rows t k (rows_pos g b) few) ∙ above_cells ws g j t k small

-- so many are the runs of a band that has at most R rows, as they are read
pub band_within_ring : (g : Settings) → Bounds g → (below rows : ℕ) → rows ≤ g.rows → {held : Segments} → held ≡ segments_above g.rows below rows → Within g.rows held
band_within_ring g b below rows few e = rw e (segments_within g.rows below rows (rows_pos g b) few)
