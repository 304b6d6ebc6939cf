-- `pieces::words::append_line` meets its contract: the line is put as it is, and 96 bytes have room for it. Assumes nothing.
use Rattle.laws.specs.Choice.{cond}
use Rattle.lines.specs.Area.{used_part}
use Rattle.pieces.proofs.words.append_line.Goals as goal

pub returns-clause-bytes : goal.returns-clause-bytes
unfolding used_part cond
returns-clause-bytes c = rw c.entry_text.ensures.text at c.append.ensures.bytes

pub returns-clause-text : goal.returns-clause-text
unfolding used_part cond
returns-clause-text c = rw c.entry_text.ensures.text at c.append.ensures.text
