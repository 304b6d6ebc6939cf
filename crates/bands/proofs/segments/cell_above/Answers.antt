-- `bands::segments::cell_above` meets its contract: a cell so far on from that of the row above the lowest bottom has the same remainder, which is found by taking off the ring's cells once, where that is enough.
use Rattle.std.proofs.Common.{ℕ, ◌+◌, ◌-◌, ◌%◌, ◌≤◌, ◌≡◌, sym, ap, ◌∙◌, mod-eq_of_lt, arith}
use Rattle.std.proofs.Math.Nat.{mod-add-mod, mod-eq-sub-mod}
use Rattle.bands.proofs.segments.cell_above.Goals as goal

-- so many rows on from a cell
on_from : (rows bottom cell below : ℕ) → cell ≡ bottom % rows → bottom ≤ below → (cell + (below - bottom)) % rows ≡ below % rows
on_from rows bottom cell below e l =
    let all : bottom + (below - bottom) ≡ below = omega arith in
    rw e (mod-add-mod bottom rows (below - bottom) ∙ ap (λ (n : ℕ). n % rows) all)

pub returns-then-at-rows : goal.returns-then-at-rows
returns-then-at-rows c =
    let a = c.args in
    sym (mod-eq_of_lt c.if-at-rows.true) ∙ on_from a.rows a.r.bottom a.r.cell a.below c.requires.tells_cell.0 c.requires.tells_cell.1

pub returns-then-again-rows : goal.returns-then-again-rows
returns-then-again-rows c =
    let a = c.args in
    sym (mod-eq_of_lt c.if-again-rows.true) ∙ sym (mod-eq-sub-mod c.if-at-rows.false) ∙ on_from a.rows a.r.bottom a.r.cell a.below c.requires.tells_cell.0 c.requires.tells_cell.1

pub returns : goal.returns
returns c =
    let a = c.args in
    on_from a.rows a.r.bottom a.r.cell a.below c.requires.tells_cell.0 c.requires.tells_cell.1
