-- `lines::summary::summary_text` meets its contract: what `put_summary` put into an area with no text is handed back. Assumes nothing.
use Rattle.std.proofs.Common.{length, ap, ◌∙◌, arith}
use Rattle.lines.specs.Area.{Written}
use Rattle.lines.proofs.Area.{text_last}
use Rattle.lines.proofs.summary.summary_text.Goals as goal

pub returns-clause-text : goal.returns-clause-text
returns-clause-text g c = c.text.ensures ∙ text_last _ _ _ _ _ c.new-lines.ensures c.put_summary.ensures.lines

pub returns-clause-short : goal.returns-clause-short
returns-clause-short g c =
    omega (arith, ap length c.text.ensures, c.put_summary.ensures.short, ap (λ (w : Written). length w.text) c.new-lines.ensures)
