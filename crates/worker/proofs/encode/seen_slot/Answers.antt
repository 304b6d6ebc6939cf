-- `worker::encode::seen_slot` meets its contract: the words of either side are those of its read phase, with zeros in the others.
use Rattle.std.proofs.Common.{◌≡◌, ℕ, refl}
use Rattle.rules.specs.Window.{read_from}
use Rattle.rules.specs.Worker.{read_phase, number_for, kept, encode, encode_phase, fresh, zero_slot}
use Rattle.rules.specs.declared.Settings.{Settings}
use Rattle.rules.specs.declared.Side.{Side}
use Rattle.rules.specs.declared.Side.TheVariants.{Putting, Taking}
use Rattle.rules.specs.declared.Slot.{Slot}
use Rattle.rules.specs.declared.Span.{Span}
use Rattle.worker.proofs.encode.seen_slot.Goals as goal

-- the words of a worker about to read
reading : Settings → ℕ → ℕ → Side → Span → Slot
reading g value index side window =
    record zero_slot {
      number = number_for side read_phase;
      value = value;
      index = index;
      window = window.top;
      bottom = kept g window.bottom;
      width = kept g window.width;
    }

either_side : (g : Settings) (value index : ℕ) (side : Side) (window : Span) → reading g value index side window ≡ fresh g value index (read_from window side)
unfolding reading encode encode_phase
either_side g value index Putting window = refl
either_side g value index Taking window = refl

pub returns : goal.returns
unfolding reading
returns c =
    let a = c.args in
    let zero = c.default.ensures.1.1.1.1 in
    simp (c.number_of.ensures, c.with_window.ensures, zero.0, zero.1.0, zero.1.1.0, zero.1.1.1.0) (either_side a.g a.value a.index a.side a.window)
