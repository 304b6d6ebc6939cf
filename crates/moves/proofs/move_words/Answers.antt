-- `moves::move_words` meets its contract: the calls' promises put together are the definition, and each leaves the target as long as it was.
use Prim.Native.Nat.{ℕ}
use mathlib.Core.List.{List}
use mathlib.Core.Path.{◌≡◌, refl}
use Rattle.turnaround.specs.Move.{head_moved, workers_moved, cells_moved, windows_moved, moved_words}
use Rattle.rules.specs.declared.Settings.{Settings}
use Rattle.moves.proofs.move_words.Goals as goal

-- the four parts, one after the other
all_moved : (from : List ℕ) (g : Settings) (to : List ℕ) (h : Settings) (head workers cells all : List ℕ) → head ≡ head_moved from g to h
    → workers ≡ workers_moved from g head h g.workers → cells ≡ cells_moved from g workers h → all ≡ windows_moved from cells h → all ≡ moved_words from g to h
unfolding moved_words
all_moved from g to h head workers cells all a b c d = rw (d, c, b, a) refl

pub returns : goal.returns
returns c =
    let a = c.args in
    all_moved a.from.now a.g a.to.now a.h _ _ _ _ c.move_head.ensures c.move_workers.ensures c.move_cells.ensures c.move_windows.ensures
