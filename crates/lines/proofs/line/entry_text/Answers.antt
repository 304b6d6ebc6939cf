-- `lines::line::entry_text` meets its contract: what `put_entry` put into an area with no text is handed back. Assumes nothing.
use Rattle.std.proofs.Common.{◌∙◌, arith}
use Rattle.lines.specs.Area.{line_bytes}
use Rattle.lines.specs.Lines.{line_of, numbers_of}
use Rattle.lines.proofs.Area.{text_last, used_most}
use Rattle.lines.proofs.Lines.{entry_fits}
use Rattle.lines.proofs.line.entry_text.Goals as goal

pub returns-clause-text : goal.returns-clause-text
returns-clause-text c = c.text.ensures ∙ text_last _ _ _ _ _ c.new-line.ensures c.put_entry.ensures

pub returns-clause-short : goal.returns-clause-short
returns-clause-short c =
    rw (c.text.ensures ∙ text_last _ _ _ _ _ c.new-line.ensures c.put_entry.ensures)
    (used_most line_bytes c.args.area.now (line_of (numbers_of c.args.e)) (entry_fits c.args.e (omega arith)))
