-- `pieces::words::turn` meets its contract: the turn is that of `turn_of`, and its text what `append_output` puts. Assumes nothing.
use Rattle.std.proofs.Common.{◌≡◌, ℕ, ◌+◌, ◌-◌, ◌≤◌, Bool, List, ◌++◌, length, take, drop, refl, sym, ◌∙◌, arith, append-nil, append_assoc, length-drop, ap}
use Rattle.std.proofs.lemmas.List.{take_rest, drop_all}
use Rattle.std.proofs.Math.Seq.{drop-drop}
use Rattle.rules.specs.declared.Refusal.{Refusal}
use Rattle.printing.specs.Printings.{ends_with}
use Rattle.printing.specs.Outputs.{stops_after}
use Rattle.turns.specs.Turn.{shown}
use Rattle.printing.specs.declared.printed.Mode.{Mode}
use Rattle.printing.specs.declared.printed.Output.{Output}
use Rattle.printing.specs.declared.printed.Output.TheVariants.{Quiet, Line, Last, End}
use Rattle.turns.specs.declared.Printer.{Printer}
use Rattle.turns.proofs.Whole.{end_ends}
use Rattle.pieces.specs.Stretch.{put_at, stretched, turn_put, stretch_turn}
use Rattle.pieces.proofs.words.turn.Goals as goal

-- a program stops after an output where it stops after what is printed of it
shown_ends : (m : Mode) (ws : List ℕ) (p : Printer) (x : Output Refusal) → ends_with (shown m ws p x) ≡ stops_after x
shown_ends m ws p Quiet = refl
shown_ends m ws p (Line e) = refl
shown_ends m ws p (Last e) = refl
shown_ends m ws p (End fault) = end_ends m p.tally p.position fault ws

-- a text put at the start of what is behind `used` is put at `used`
put_behind : (out room text : List ℕ) (used : ℕ) → used ≤ length out → room ≡ put_at (take (length out - used) (drop used out)) 0 text
    → take used out ++ (room ++ drop (length out - used) (drop used out)) ≡ put_at out used text
put_behind out room text used h e =
    let none = drop_all (length out - used) (drop used out) (simp length-drop (omega arith)) in
    let place : used + (0 + length text) ≡ used + length text = omega arith in
    let next : drop (0 + length text) (drop used out) ≡ drop (used + length text) out = drop-drop (0 + length text) used out ∙ ap (λ (k : ℕ). drop k out) place in
    rw (e, none, take_rest, next) (simp (append_assoc, append-nil))

same_stretched : (p : Printer) (at used used' : ℕ) (done done' : Bool) (ws out out' : List ℕ) → used ≡ used' → done ≡ done' → out ≡ out'
    → stretched (record { printer = p; at = at; used = used; complete = done }) ws out ≡ stretched (record { printer = p; at = at; used = used'; complete = done' }) ws out'
same_stretched p at used used' done done' ws out out' u d o = rw (u, d, o)

pub returns-clause-out_after : goal.returns-clause-out_after
unfolding stretch_turn
returns-clause-out_after c =
    let s = c.args.s in
    let t = c.turn_of-output in
    let put = c.append_output-bytes in
    same_stretched t.result.printer (s.at + 1) _ _ _ _ t.new.words _ _
    (ap (λ (n : ℕ). s.used + n) put.ensures.bytes)
    (c.ends.ensures ∙ sym (shown_ends c.args.mode t.new.words t.result.printer t.result.output))
    (put_behind c.args.out.now put.new.room _ s.used (omega arith) put.ensures.text)
    ∙ ap (turn_put (stretched s c.args.words.now c.args.out.now)) t.ensures
