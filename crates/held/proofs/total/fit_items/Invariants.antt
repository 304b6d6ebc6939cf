-- `held::total::fit_items` meets its contract: so many items are held by the subs gone through; the second loop goes through those that lie outside a window.
use Rattle.std.proofs.Common.{◌≡◌, ◌*◌, ◌≤◌, length}
use Rattle.rules.specs.Limits.{most_rows, most_live}
use Rattle.rules.specs.Held.{held_below}
use Rattle.held.proofs.total.fit_items.Given as goal

abbrev pub invariant-loop-j : goal.invariant-loop-j
invariant-loop-j l = record {
  few : l.n ≤ most_live * most_rows * l.j;
  counted : l.n ≡ length (held_below l.words l.g l.j);
}

abbrev pub invariant-loop-j-2 : goal.invariant-loop-j-2
invariant-loop-j-2 l = record {
  few : l.n ≤ most_live * most_rows * l.j;
  counted : l.n ≡ length (held_below l.words l.g l.j);
}
