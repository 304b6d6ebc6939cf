-- The machine's state over a move from edition to edition (crates/turnaround): it is the same but for the words of the windows seen, which are given or
-- dropped.
use Rattle.rules.specs.Layout.{bottom_word, width_word}
use Rattle.rules.specs.Worker.{kept}
use Rattle.rules.specs.NewWord.{new_word}
use Rattle.rules.proofs.Types.{Settings, Slot}
use Rattle.rules.proofs.machine.Machine.{State}

abbrev pub slot_moved : Settings → Settings → Slot → Slot
slot_moved g h o =
    record {
      number = o.number;
      value = o.value;
      index = o.index;
      window = o.window;
      extra = o.extra;
      scan = o.scan;
      seen = o.seen;
      sum = o.sum;
      bottom = kept h (new_word g o bottom_word);
      width = kept h (new_word g o width_word);
    }

-- the state after a move, from settings g to settings h
abbrev pub moved_in : Settings → Settings → State → State
moved_in g h s =
    record {
      steps = s.steps;
      puts = s.puts;
      top = s.top;
      mark = s.mark;
      next = s.next;
      set = s.set;
      frame = s.frame;
      first = s.first;
      second = s.second;
      item = s.item;
      slot = λ i. slot_moved g h (s.slot i);
    }
