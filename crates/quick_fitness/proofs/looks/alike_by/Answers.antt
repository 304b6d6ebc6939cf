-- `quick_fitness::looks::alike_by` meets its contract: the live pairs, the one that may come behind them and the zeros behind that are all.
use Rattle.std.proofs.Common.{sym, ◌∙◌, ◌+◌, ◌%◌, arith}
use Rattle.quick_fitness.proofs.Bits.{pairs_wanted}
use Rattle.quick_fitness.proofs.looks.alike_by.Goals as goal
use Rattle.quick_fitness.proofs.looks.alike_by.Goals.{then-same, else-same}

pub returns-then-same-2 : goal.returns-then-same-2
returns-then-same-2 g c =
    elim c.if-same.branch [
      | then-same w ↦ λ e. pairs_wanted c.args.words.now c.args.at g.row.LIVE (g.row.LIVE + g.row.LIVE % 2) c.args.x (omega arith) (omega arith) (c.same.ensures w.if-same.true) (w.same-then-same.ensures (sym w.value-is ∙ c.if-same-2.true)) (sym c.zeros.ensures ∙ e)
      | else-same w ↦ cc
    ]
