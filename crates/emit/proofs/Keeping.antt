-- The account is kept by a stretch (`print_keeps`): the law of crates/pieces (proofs/Accounts) at the run's fields.
-- A stretch with room for a turn comes further (`print_on`), and the last turn of the file completes it (`print_last`).
use Rattle.std.proofs.Common.{◌≡◌, ℕ, ◌+◌, ◌-◌, ◌/◌, ◌<◌, ◌≤◌, Bool, true, false, List, ap, ◌∙◌, arith, length}
use Rattle.std.proofs.lemmas.Bool.{false≢true}
use Rattle.laws.specs.Choice.{cond}
use Rattle.printing.specs.declared.printed.Mode.{Mode}
use Rattle.pieces.specs.Stretch.{Stretched, stretched, turn_bytes, turns_in, stretch_from, stretch_of}
use Rattle.pieces.proofs.Stretches.{stretch_most, stretch_more, room_goes}
use Rattle.pieces.proofs.Ends.{CompleteAt, last_completes}
use Rattle.pieces.proofs.Accounts.{prints}
use Rattle.buffers.specs.Kept.{Keeps, ReadsNothing, WritesNothing}
use Rattle.buffers.specs.declared.run.Run.{Run}

pub print_keeps : (m : Mode) (before after : Run) (piece ws out ws' out' : List ℕ)
    → stretched after.stretch ws' out' ≡ stretch_of m piece before.ended (stretched before.stretch ws out)
    → ReadsNothing before after → WritesNothing before after → Keeps m before piece ws out after piece ws' out'
print_keeps m before after piece ws out ws' out' e r w a =
    rw (e, r.read, w.written, r.ended) (prints m before.read before.written before.ended piece (stretched before.stretch ws out) a)

-- it comes further, where it has room, and not past the turns of the piece
pub print_on : (m : Mode) (src : List ℕ) (last : Bool) (turns : ℕ) (s next : Stretched) → turns ≡ turns_in src last → next ≡ stretch_of m src last s
    → s.stretch.at < turns → s.stretch.complete ≡ false → s.stretch.used + turn_bytes ≤ length s.out
    → (s.stretch.at < next.stretch.at) × (next.stretch.at ≤ turns)
unfolding stretch_of
print_on m src last turns s next t e more going room =
    let n = turns_in src last - s.stretch.at in
    let at : next.stretch.at ≡ (stretch_from m n src s).stretch.at = ap (λ (x : Stretched). x.stretch.at) e in (
      omega (arith, stretch_more m n src s (omega arith) (room_goes s.stretch (length s.out) going room)),
      omega (arith, stretch_most m n src s),
    )

-- and where the piece is the last, the turn of the file's end completes it
pub print_last : (m : Mode) (src : List ℕ) (last : Bool) (turns : ℕ) (s next : Stretched) → turns ≡ turns_in src last → next ≡ stretch_of m src last s
    → s.stretch.at < turns → last ≡ true → CompleteAt turns next
unfolding stretch_of cond
print_last m src false turns s next t e more at-end = absurd (false≢true at-end)
print_last m src true turns s next t e more at-end =
    let n = length src / 4 + 1 - s.stretch.at in
    rw (t, e) (last_completes m n src s (omega arith) (λ at. absurd (omega arith)))

-- a stretch over what is left of a piece, with room for a turn: it comes further, and not past the piece's turns; the last of the file completes it
pub further : (m : Mode) (src ws out ws' out' : List ℕ) (turns : ℕ) (from run roomy next : Run) → turns ≡ turns_in src from.ended
    → ReadsNothing from run → ReadsNothing run roomy → roomy.stretch.at ≡ run.stretch.at → roomy.stretch.complete ≡ run.stretch.complete
    → run.stretch.complete ≡ false → run.stretch.at < turns → roomy.stretch.used + turn_bytes ≤ length out
    → stretched next.stretch ws' out' ≡ stretch_of m src roomy.ended (stretched roomy.stretch ws out)
    → (run.stretch.at < next.stretch.at) × (next.stretch.at ≤ turns) × (from.ended ≡ true → next.stretch.at ≡ turns → next.stretch.complete ≡ true)
further m src ws out ws' out' turns from run roomy next t r r' at c going more room e =
    let ended : roomy.ended ≡ from.ended = r'.ended ∙ r.ended in
    let t' : turns ≡ turns_in src roomy.ended = rw ended t in
    let s = stretched roomy.stretch ws out in
    let n = stretched next.stretch ws' out' in
    let less : s.stretch.at < turns = omega arith in
    let on = print_on m src roomy.ended turns s n t' e less (c ∙ going) room in
    (omega (arith, on.0), on.1, λ last. print_last m src roomy.ended turns s n t' e less (ended ∙ last))
