-- "Confirm", one sub a step: subtract its items put (queue) or version (stack) from the sum; next index; add 1 to scan.
-- After w subs scan becomes 0: the final answer if the sum is 0, else restart. From edition 2 on a queue's take subtracts what its reads added, and
-- "its confirm answers empty only if the put window's top also equals the seen one".
use Rattle.std.specs.Prelude.{ℕ, Bool, true, ltb, eqb}
use Rattle.laws.specs.Choice.{cond, both}
use Rattle.laws.specs.Wrap.{add32, sub32}
use Rattle.rules.specs.Limits.{windowed}
use Rattle.rules.specs.Effects.{moved_of, finished_of, nothing_for, next_of, with_pass, sub_version}
use Rattle.rules.specs.Read.{rows_put}
use Rattle.rules.specs.declared.Settings.{Settings}
use Rattle.rules.specs.declared.Side.{Side}
use Rattle.rules.specs.declared.Side.TheVariants.{Taking}
use Rattle.rules.specs.declared.Phase.{Phase}
use Rattle.rules.specs.declared.Phase.TheVariants.{Window, QueueConfirm, StackConfirm}
use Rattle.rules.specs.declared.Span.{Span}
use Rattle.rules.specs.declared.View.{View}
use Rattle.rules.specs.declared.Effect.{Effect}

-- the last sub of so many is confirmed, and `left` is what is left of the sum: the final answer where it is sure
unfoldable pub confirmed_of : Settings → View → Side → ℕ → ℕ → Bool → Effect
confirmed_of g v side width left sure =
    cond sure
    (finished_of g v (nothing_for side) (next_of width v.worker.index))
    (moved_of g v (next_of width v.worker.index) (Window side) (with_pass v.kept v.kept.extra 0 left))

-- one sub more is confirmed, of so many, with the confirm phase `again`
unfoldable pub confirm_by : Settings → View → Side → ℕ → ℕ → ℕ → Phase → Bool → Effect
confirm_by g v side width scan left again sure =
    cond (ltb (add32 scan 1) width)
    (moved_of g v (next_of width v.worker.index) again v.kept)
    (confirmed_of g v side width left sure)

-- the put window is the one seen; editions 0 and 1 do not ask
abbrev pub same_top : Settings → View → Span → Bool
same_top g v window = cond (windowed g) (eqb v.top window.top) true

abbrev pub queue_confirmed : Settings → View → Span → ℕ → ℕ → Effect
queue_confirmed g v window scan left =
    confirm_by g v Taking window.width scan left (QueueConfirm window (add32 scan 1) left) (both (eqb left 0) (same_top g v window))

unfoldable pub queue_confirm : Settings → View → Span → ℕ → ℕ → Effect
queue_confirm g v window scan sum = queue_confirmed g v window scan (sub32 sum (rows_put g v window))

abbrev pub stack_confirmed : Settings → View → Side → ℕ → ℕ → Effect
stack_confirmed g v side scan left = confirm_by g v side g.width scan left (StackConfirm side (add32 scan 1) left) (eqb left 0)

unfoldable pub stack_confirm : Settings → View → Side → ℕ → ℕ → Effect
stack_confirm g v side scan sum = stack_confirmed g v side scan (sub32 sum (sub_version v).0)
