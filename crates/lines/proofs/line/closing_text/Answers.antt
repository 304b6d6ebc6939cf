-- `lines::line::closing_text` meets its contract: what `put_closing` put into an area with no text is handed back. Assumes nothing.
use Rattle.std.proofs.Common.{◌∙◌, arith}
use Rattle.lines.specs.Area.{line_bytes}
use Rattle.lines.specs.Lines.{closing_of}
use Rattle.lines.proofs.Area.{text_last, used_most}
use Rattle.lines.proofs.Lines.{closing_fits}
use Rattle.lines.proofs.line.closing_text.Goals as goal

pub returns-clause-text : goal.returns-clause-text
returns-clause-text c = c.text.ensures ∙ text_last _ _ _ _ _ c.new-line.ensures c.put_closing.ensures

pub returns-clause-short : goal.returns-clause-short
returns-clause-short c =
    rw (c.text.ensures ∙ text_last _ _ _ _ _ c.new-line.ensures c.put_closing.ensures)
    (used_most line_bytes c.args.area.now (closing_of c.args.held c.args.worst) (closing_fits c.args.held c.args.worst (omega arith) (omega arith)))
