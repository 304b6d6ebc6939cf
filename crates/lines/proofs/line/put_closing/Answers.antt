-- `lines::line::put_closing` meets its contract: the template with the two numbers is the closing line, and has room where the longest line has. Assumes nothing.
use Rattle.std.proofs.Common.{[], ◌∷◌, refl, ◌∙◌, arith}
use Rattle.laws.specs.Choice.{cond}
use Rattle.lines.specs.Area.{line_bytes}
use Rattle.lines.specs.Templates.{marks}
use Rattle.lines.proofs.Area.{last_none, last_put}
use Rattle.lines.proofs.Lines.{closing_template, closing_filled}
use Rattle.lines.proofs.Templates.{filled_most}
use Rattle.lines.proofs.line.put_closing.Goals as goal

pub returns-then-room-lt-LINE_BYTES : goal.returns-then-room-lt-LINE_BYTES
returns-then-room-lt-LINE_BYTES c = last_none line_bytes _ _ (omega (arith, c.room.ensures, c.if-room-lt-LINE_BYTES.true))

pub put_filled-requires-clause-a_number_each : goal.put_filled-requires-clause-a_number_each
unfolding marks cond
put_filled-requires-clause-a_number_each c = refl

pub put_filled-requires-clause-room : goal.put_filled-requires-clause-room
unfolding marks cond
put_filled-requires-clause-room c =
    let most = filled_most closing_template (c.args.held ∷ c.args.worst ∷ []) refl (omega arith, (omega arith, tt)) in
    omega (arith, c.room.ensures, c.if-room-lt-LINE_BYTES.false)

pub returns : goal.returns
returns c =
    c.put_filled.ensures ∙ (rw closing_filled (last_put line_bytes _ _ (omega (arith, c.room.ensures, c.if-room-lt-LINE_BYTES.false))))
