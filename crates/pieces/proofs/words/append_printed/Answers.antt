-- `pieces::words::append_printed` meets its contract: each text is put as it is, and the area lent for it is long enough. Assumes nothing.
use Rattle.std.proofs.Common.{inl, inr}
use Rattle.laws.specs.Choice.{cond}
use Rattle.lines.specs.Area.{used_part}
use Rattle.pieces.proofs.words.append_printed.Goals as goal

pub returns-in-Closing-clause-bytes : goal.returns-in-Closing-clause-bytes
unfolding used_part cond
returns-in-Closing-clause-bytes c = rw c.in-Closing.is (rw c.closing_text.ensures.text at c.append.ensures.bytes)

pub returns-in-Closing-clause-text : goal.returns-in-Closing-clause-text
unfolding used_part cond
returns-in-Closing-clause-text c = rw c.in-Closing.is (rw c.closing_text.ensures.text at c.append.ensures.text)

pub returns-in-Totals-clause-bytes : goal.returns-in-Totals-clause-bytes
unfolding used_part cond
returns-in-Totals-clause-bytes c = rw c.in-Totals.is (rw c.summary_text.ensures.text at c.append-in-Totals.ensures.bytes)

pub returns-in-Totals-clause-text : goal.returns-in-Totals-clause-text
unfolding used_part cond
returns-in-Totals-clause-text c = rw c.in-Totals.is (rw c.summary_text.ensures.text at c.append-in-Totals.ensures.text)

pub returns-in-Line-clause-bytes : goal.returns-in-Line-clause-bytes
returns-in-Line-clause-bytes c =
    let bytes = c.append_line.ensures.bytes in
    elim c.in-Line.is [ inl line ↦ rw line bytes | inr last ↦ rw last bytes ]

pub returns-in-Line-clause-text : goal.returns-in-Line-clause-text
returns-in-Line-clause-text c =
    let text = c.append_line.ensures.text in
    elim c.in-Line.is [ inl line ↦ rw line text | inr last ↦ rw last text ]
