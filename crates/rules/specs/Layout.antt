-- "The pool's words": where each word lies. Nothing else knows a place.
use Rattle.std.specs.Prelude.{ℕ, zero, suc, ◌+◌, ◌*◌, ◌%◌, ◌≤◌, List, get_or, length}
use Rattle.laws.specs.Wrap.{sub32}
use Rattle.rules.specs.Limits.{widest, most_workers, most_cells}
use Rattle.rules.specs.declared.Settings.{Settings}

-- ---- the head
-- words 0 to 5, the settings but two: kind, w, d, s, R, n
abbrev pub kind_at : ℕ
kind_at = 0

abbrev pub width_at : ℕ
width_at = 1

abbrev pub depth_at : ℕ
depth_at = 2

abbrev pub shift_at : ℕ
shift_at = 3

abbrev pub rows_at : ℕ
rows_at = 4

abbrev pub worker_count_at : ℕ
worker_count_at = 5

-- steps counted, puts made
abbrev pub steps_at : ℕ
steps_at = 6

abbrev pub puts_at : ℕ
puts_at = 7

-- P or G; T or G's version
abbrev pub top_at : ℕ
top_at = 8

abbrev pub mark_at : ℕ
mark_at = 9

-- the last settings: "a stride, held in word 10"; "word 11 becomes the edition"
abbrev pub stride_at : ℕ
stride_at = 10

abbrev pub edition_at : ℕ
edition_at = 11

abbrev pub head_words : ℕ
head_words = 12

abbrev pub settings_of : List ℕ → Settings
settings_of ws =
    record {
      kind = get_or ws kind_at 0;
      width = get_or ws width_at 0;
      depth = get_or ws depth_at 0;
      shift = get_or ws shift_at 0;
      rows = get_or ws rows_at 0;
      workers = get_or ws worker_count_at 0;
      stride = get_or ws stride_at 0;
      edition = get_or ws edition_at 0;
    }

-- ---- the subs: items put and items taken, or items held and version
abbrev pub sub_words : ℕ
sub_words = 2

abbrev pub sub_at : ℕ → ℕ
sub_at j = head_words + sub_words * j

abbrev pub first_at : ℕ → ℕ
first_at j = sub_at j

abbrev pub second_at : ℕ → ℕ
second_at j = sub_at j + 1

abbrev pub first_of : List ℕ → ℕ → ℕ
first_of ws j = get_or ws (first_at j) 0

abbrev pub second_of : List ℕ → ℕ → ℕ
second_of ws j = get_or ws (second_at j) 0

-- ---- the workers: phase, value, index, seen window, extra, scan, seen, sum; from edition 1 on "a ninth word, its failed commits since make"; from
-- edition 2 on "each worker's seen bottom and width come after its ninth word"
-- how many words a worker has, by edition
unfoldable pub worker_words : ℕ → ℕ
worker_words zero = 8
worker_words (suc zero) = 9
worker_words (suc (suc e)) = 11

abbrev pub workers_at : Settings → ℕ
workers_at g = head_words + sub_words * g.width

abbrev pub worker_at : Settings → ℕ → ℕ
worker_at g i = workers_at g + worker_words g.edition * i

-- which of a worker's words is which; the fit check asks for three of them by number
abbrev pub phase_word : ℕ
phase_word = 0

abbrev pub value_word : ℕ
value_word = 1

abbrev pub index_word : ℕ
index_word = 2

abbrev pub window_word : ℕ
window_word = 3

abbrev pub extra_word : ℕ
extra_word = 4

abbrev pub scan_word : ℕ
scan_word = 5

abbrev pub seen_word : ℕ
seen_word = 6

abbrev pub sum_word : ℕ
sum_word = 7

-- so many are read by the rules of a step
abbrev pub slot_words : ℕ
slot_words = sum_word + 1

-- and none reads the next
abbrev pub lost_word : ℕ
lost_word = slot_words

-- the rest of the window seen
abbrev pub bottom_word : ℕ
bottom_word = lost_word + 1

abbrev pub width_word : ℕ
width_word = bottom_word + 1

-- of the worker whose words start at `at`
abbrev pub phase_at : ℕ → ℕ
phase_at at = at

abbrev pub value_at : ℕ → ℕ
value_at at = at + value_word

abbrev pub index_at : ℕ → ℕ
index_at at = at + index_word

abbrev pub window_at : ℕ → ℕ
window_at at = at + window_word

abbrev pub extra_at : ℕ → ℕ
extra_at at = at + extra_word

abbrev pub scan_at : ℕ → ℕ
scan_at at = at + scan_word

abbrev pub seen_at : ℕ → ℕ
seen_at at = at + seen_word

abbrev pub sum_at : ℕ → ℕ
sum_at at = at + sum_word

abbrev pub lost_at : ℕ → ℕ
lost_at at = at + lost_word

abbrev pub bottom_at : ℕ → ℕ
bottom_at at = at + bottom_word

abbrev pub seen_width_at : ℕ → ℕ
seen_width_at at = at + width_word

-- ---- the cells: value, stamp
abbrev pub cell_words : ℕ
cell_words = 2

abbrev pub cells_at : Settings → ℕ
cells_at g = workers_at g + worker_words g.edition * g.workers

-- row r of sub j is cell j × R + (r - 1) mod R; of the sub's own cells, from 0, it is this one
abbrev pub cell_of : Settings → ℕ → ℕ
cell_of g row = sub32 row 1 % g.rows

abbrev pub cell_at : Settings → ℕ → ℕ → ℕ
cell_at g j row = cells_at g + cell_words * (j * g.rows + cell_of g row)

-- the first cell of sub j
abbrev pub sub_cells_at : Settings → ℕ → ℕ
sub_cells_at g j = cells_at g + cell_words * (j * g.rows)

-- cell c, from 0, of those from a place on
abbrev pub nth_cell_at : ℕ → ℕ → ℕ
nth_cell_at at c = at + cell_words * c

-- of the cell at a place; its value is its first word
abbrev pub stamp_at : ℕ → ℕ
stamp_at cell = cell + 1

-- ---- the windows, from edition 2 on: "after the cells next width, next depth, 1 once a size was set, the number of live windows, and 16 pairs of
-- width and depth, from take window to put window, zero beyond"
abbrev pub windows_at : Settings → ℕ
windows_at g = cells_at g + cell_words * (g.width * g.rows)

abbrev pub next_width_at : Settings → ℕ
next_width_at g = windows_at g

abbrev pub next_depth_at : Settings → ℕ
next_depth_at g = windows_at g + 1

abbrev pub set_at : Settings → ℕ
set_at g = windows_at g + 2

abbrev pub live_at : Settings → ℕ
live_at g = windows_at g + 3

-- the pair of the live window k, from 0: width, depth
abbrev pub pairs_at : Settings → ℕ
pairs_at g = windows_at g + 4

abbrev pub pair_words : ℕ
pair_words = 2

abbrev pub pair_at : Settings → ℕ → ℕ
pair_at g k = pairs_at g + pair_words * k

-- how many they are
unfoldable pub windows_words : ℕ → ℕ
windows_words zero = 0
windows_words (suc zero) = 0
windows_words (suc (suc e)) = 36

-- ---- how many words
abbrev pub needed : Settings → ℕ
needed g = windows_at g + windows_words g.edition

-- enough for every pool of an edition
abbrev pub most_words : ℕ → ℕ
most_words e = head_words + sub_words * widest + worker_words e * most_workers + cell_words * most_cells + windows_words e

-- the words are enough, and those of a worker start at `at`
pub record Lent (g : Settings) (ws : List ℕ) (at : ℕ) : Type 0 where
  pub enough : needed g ≤ length ws
  pub low : workers_at g ≤ at
  pub high : at + worker_words g.edition ≤ cells_at g
  -- so those that the rules read
  pub slot : at + slot_words ≤ cells_at g
