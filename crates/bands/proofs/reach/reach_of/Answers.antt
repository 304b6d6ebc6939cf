-- `bands::reach::reach_of` meets its contract: the bottom of the first live window, with its cell, the top of the last, which is P, and a width that is at most that of each.
use Rattle.bands.proofs.Bottoms.{pairs_there}
use Rattle.laws.specs.Choice.{cond}
use Rattle.std.proofs.Common.{arith, refl, sym, ◌∙◌}
use Rattle.std.proofs.Math.Nat.{zero-mod}
use Rattle.std.proofs.lemmas.Bool.{false≢true}
use Rattle.bands.proofs.reach.reach_of.Goals as goal

pub take_bottom-bottom-requires-clause-most_live_in_bounds : goal.take_bottom-bottom-requires-clause-most_live_in_bounds
take_bottom-bottom-requires-clause-most_live_in_bounds c =
    let has = sym c.has_windows.ensures ∙ c.if-has_windows.true in (pairs_there c.args.words.now c.args.g c.requires has, (c.requires.windows has).low)

pub returns-then-has_windows : goal.returns-then-has_windows
unfolding cond
returns-then-has_windows c =
    let has = sym c.has_windows.ensures ∙ c.if-has_windows.true in
    let width = c.common_width-width.ensures in
    record {
      low = rw has c.take_bottom-bottom.ensures;
      at_cell = refl;
      high = rw has (sym (c.requires.windows has).lead);
      most = width.0;
      wide = λ k _ l. width.1 k l;
      every = λ old. absurd (false≢true (sym old ∙ has));
    }

pub returns : goal.returns
unfolding cond
returns c =
    let old = sym c.has_windows.ensures ∙ c.if-has_windows.false in
    record {
      low = rw old refl;
      at_cell = sym (zero-mod c.args.g.rows);
      high = rw old refl;
      most = omega arith;
      wide = λ k has l. absurd (false≢true (sym old ∙ has));
      every = λ _. refl;
    }
