-- Paper 02's straight runs, by hand: the held cells of a sub, "up to the last cell and on from the first". That they are exactly its held
-- cells is a theorem for every fit image: `HeldInSegments` of rules.
use Rattle.std.specs.Prelude.{ℕ, ◌≡◌, List, [], ◌∷◌}
use Rattle.ring.specs.Segments.{segments_above, segment_cells}

-- a sub of so many cells holds so many rows above row `below`: the cells of its first run, and of its second
abbrev Goes : ℕ → ℕ → ℕ → List ℕ → List ℕ → Type 0
Goes rows below held first second =
    (segment_cells (segments_above rows below held).first ≡ first) × (segment_cells (segments_above rows below held).second ≡ second)

abbrev pub SegmentsByHand : Type 0
SegmentsByHand =
    -- none
    Goes 4 3 0 [] []
    -- before the last cell, and up to it
    × Goes 4 1 2 (1 ∷ 2 ∷ []) []
    × Goes 4 1 3 (1 ∷ 2 ∷ 3 ∷ []) []
    -- past it: on from the first
    × Goes 4 3 2 (3 ∷ []) (0 ∷ [])
    × Goes 4 3 3 (3 ∷ []) (0 ∷ 1 ∷ [])
    -- full: items taken a multiple of R, and not
    × Goes 4 8 4 (0 ∷ 1 ∷ 2 ∷ 3 ∷ []) []
    × Goes 4 9 4 (1 ∷ 2 ∷ 3 ∷ []) (0 ∷ [])
    × Goes 4 11 4 (3 ∷ []) (0 ∷ 1 ∷ 2 ∷ [])
    -- full, and the last row is 2^32 - 1: R divides 2^32, and does not
    × Goes 4 4294967291 4 (3 ∷ []) (0 ∷ 1 ∷ 2 ∷ [])
    × Goes 3 4294967292 3 (0 ∷ 1 ∷ 2 ∷ []) []
