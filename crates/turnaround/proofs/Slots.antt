-- A worker's slot from edition to edition: its eight words are kept, and the two of the window seen are given or dropped. It stays fit.
use Prim.Native.Nat.{ℕ, ◌-◌}
use mathlib.Core.Path.{◌≡◌, refl}
use mathlib.Core.Bool.{Bool, true, false}
use lib.Dec.{eqb}
use borrow.Author.Tests.{eqb-true, le-leb, lt-ltb}
use native.Mathlib.Nat.{le_refl}
use Rattle.laws.specs.Choice.{cond}
use Rattle.rules.specs.Layout.{bottom_word, width_word}
use Rattle.rules.specs.Limits.{windowed, Bounds}
use Rattle.rules.specs.Make.{in_edition}
use Rattle.rules.specs.Fit.{past_window, seen_fit}
use Rattle.rules.specs.NewWord.{new_word}
use Rattle.turnaround.proofs.Types.{Settings, Slot}
use Rattle.rules.proofs.Fitness.{WorkerFits}
use Rattle.rules.proofs.machine.Moved.{slot_moved}

-- what a queue's worker is given past its window phase
pub bottom_given : (g : Settings) (o : Slot) → g.kind ≡ 0 → past_window o.number ≡ true → new_word g o bottom_word ≡ o.window - g.depth
unfolding new_word cond
bottom_given g o kind past = rw (kind, past) refl

pub width_given : (g : Settings) (o : Slot) → g.kind ≡ 0 → past_window o.number ≡ true → new_word g o width_word ≡ g.width
unfolding new_word cond
width_given g o kind past = rw (kind, past) refl

-- a stack's is given none
pub stack_given : (g : Settings) (o : Slot) (k : ℕ) → eqb g.kind 0 ≡ false → new_word g o k ≡ 0
unfolding new_word cond
stack_given g o k e = rw e refl

pub worker_moved : (g : Settings) (b : ℕ) (o : Slot) → Bounds g → WorkerFits g o → WorkerFits (in_edition b g) (slot_moved g (in_edition b g) o)
unfolding seen_fit cond
worker_moved g b o bounds fits =
    record { number = fits.number; index = fits.index; scan = fits.scan; seen = by (windowed (in_edition b g)) refl (eqb g.kind 0) refl (past_window o.number) refl }
  where
    by : (w : Bool) → windowed (in_edition b g) ≡ w → (k : Bool) → eqb g.kind 0 ≡ k → (p : Bool) → past_window o.number ≡ p
        → seen_fit (in_edition b g) (slot_moved g (in_edition b g) o) ≡ true
    by false w k e p c = rw w refl
    by true w false e p c = rw (w, e, stack_given g o bottom_word e, stack_given g o width_word e) refl
    by true w true e false c = rw (w, e, c) refl
    by true w true e true c =
        rw (
          w,
          e,
          c,
          width_given g o (eqb-true _ _ e) c,
          le-leb 1 g.width bounds.width1,
          le-leb g.width g.width (le_refl _),
          lt-ltb o.index g.width fits.index,
          lt-ltb o.scan g.width fits.scan,
        ) refl
