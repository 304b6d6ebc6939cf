-- `lines::line::put_entry` meets its contract: where there is room for the longest line, there is for every entry's. Assumes nothing.
use Rattle.std.proofs.Common.{◌∙◌, arith}
use Rattle.lines.specs.Area.{line_bytes}
use Rattle.lines.proofs.Area.{last_none, last_put}
use Rattle.lines.proofs.Lines.{entry_fits}
use Rattle.lines.proofs.line.put_entry.Goals as goal

pub returns-then-room-lt-LINE_BYTES : goal.returns-then-room-lt-LINE_BYTES
returns-then-room-lt-LINE_BYTES c = last_none line_bytes _ _ (omega (arith, c.room.ensures, c.if-room-lt-LINE_BYTES.true))

pub put_line-requires : goal.put_line-requires
put_line-requires c =
    let fits = entry_fits c.args.e (omega arith) in
    omega (arith, c.room.ensures, c.if-room-lt-LINE_BYTES.false)

pub returns : goal.returns
returns c = c.put_line.ensures ∙ last_put line_bytes _ _ (omega (arith, c.room.ensures, c.if-room-lt-LINE_BYTES.false))
