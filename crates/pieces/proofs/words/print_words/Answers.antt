-- `pieces::words::print_words` meets its contract: at each turn what is left of the stretch, from where it is, is the whole of it. Assumes nothing.
use Prim.Native.Nat.{◌+◌, ◌-◌}
use mathlib.Core.Path.{◌≡◌, sym, ap, ◌∙◌}
use native.Mathlib.Omega.{arith}
use lib.ListN.{length}
use Rattle.pieces.specs.Stretch.{Stretched, stretched, stretch_from, stretch_turn, stretch_of}
use Rattle.pieces.proofs.Stretches.{goes_room, stretch_on, stretch_off}
use Rattle.pieces.proofs.words.print_words.Goals as goal

pub turn-s-requires-clause-turn_bytes_in_bounds : goal.turn-s-requires-clause-turn_bytes_in_bounds
turn-s-requires-clause-turn_bytes_in_bounds c =
    let l = c.loop-s in goes_room l.s (length l.out) (sym c.goes_on.ensures ∙ c.if-goes_on.true)

pub loop-s-smaller : goal.loop-s-smaller
unfolding stretch_turn
loop-s-smaller c =
    let at : c.turn-s.result.at ≡ c.loop-s.s.at + 1 = ap (λ (x : Stretched). x.stretch.at) c.turn-s.ensures.out_after in
    omega arith

pub loop-s-preserved : goal.loop-s-preserved
loop-s-preserved c =
    let l = c.loop-s in
    let t = c.turn-s in
    let goes = sym c.goes_on.ensures ∙ c.if-goes_on.true in (
      t.auto.words ∙ l.invariant.0,
      t.auto.out ∙ l.invariant.1,
      stretch_on c.args.mode c.turns_in-turns.result c.args.src.now (stretched l.s l.words l.out) (stretched t.result t.new.words t.new.out) c.loop-s-test.true goes t.ensures.out_after ∙ l.invariant.2,
      λ h. omega (arith, t.ensures.used_in_bounds, l.invariant.1),
    )

pub returns-after-loop-s-clause-prints : goal.returns-after-loop-s-clause-prints
unfolding stretch_of stretch_from
returns-after-loop-s-clause-prints c =
    let l = c.loop-s in
    let turns = c.turns_in-turns in
    let none : turns.result - l.s.at ≡ 0 = omega arith in (rw none at l.invariant.2) ∙ rw turns.ensures.0

pub returns-else-goes_on-clause-prints : goal.returns-else-goes_on-clause-prints
unfolding stretch_of
returns-else-goes_on-clause-prints c =
    let l = c.loop-s in
    let turns = c.turns_in-turns in
    let off = stretch_off c.args.mode (turns.result - l.s.at) c.args.src.now (stretched l.s l.words l.out) (sym c.goes_on.ensures ∙ c.if-goes_on.false) in sym off ∙ (l.invariant.2 ∙ rw turns.ensures.0)
