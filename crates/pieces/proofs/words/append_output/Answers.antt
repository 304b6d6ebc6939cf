-- `pieces::words::append_output` meets its contract: what is printed of an output is its line, or what is printed of the file's end. Assumes nothing.
use Rattle.std.proofs.Common.{inl, inr}
use Rattle.pieces.proofs.words.append_output.Goals as goal

pub returns-in-Line-clause-bytes : goal.returns-in-Line-clause-bytes
returns-in-Line-clause-bytes c =
    let bytes = c.append_line.ensures.bytes in
    elim c.in-Line.is [ inl line ↦ rw line bytes | inr last ↦ rw last bytes ]

pub returns-in-Line-clause-text : goal.returns-in-Line-clause-text
returns-in-Line-clause-text c =
    let text = c.append_line.ensures.text in
    elim c.in-Line.is [ inl line ↦ rw line text | inr last ↦ rw last text ]
