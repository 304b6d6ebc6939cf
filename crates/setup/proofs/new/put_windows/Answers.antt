-- `setup::new::put_windows` meets its contract: where windows have sizes of their own the words needed have room for them, and elsewhere nothing is stored.
use Rattle.std.proofs.Common.{sym, ◌∙◌, arith}
use Rattle.laws.specs.Choice.{cond, both_true}
use Rattle.rules.proofs.Workers.{windowed_is, windows_some}
use Rattle.setup.proofs.new.put_windows.Goals as goal

pub put_first_window-requires : goal.put_first_window-requires
put_first_window-requires c =
    let e = sym c.has_windows.ensures ∙ c.if-has_windows.true in
    let has = windows_some _ (windowed_is c.args.g (both_true _ _ e).0) in
    rw c.windows_at.ensures (omega (arith, has, c.requires.g_in_bounds))

pub returns-then-has_windows : goal.returns-then-has_windows
unfolding cond
returns-then-has_windows c =
    let e = sym c.has_windows.ensures ∙ c.if-has_windows.true in
    c.put_first_window.ensures ∙ rw (c.windows_at.ensures, e)

pub returns-else-has_windows : goal.returns-else-has_windows
unfolding cond
returns-else-has_windows c = rw (sym c.has_windows.ensures ∙ c.if-has_windows.false)
