-- What a stack's worker that steps alone has left (StackDue), by its phase.
--
-- Its reads are all fresh: it saw the present window and its version, and the versions that its pass read are still so; no check and no
-- commit of its own fails. It shifts at most twice, in one direction. For the corridor (stack/Inv) is d + s high: a put finds no sub more
-- than s above its window, and a take none more than s below its window - d. A shift later no sub is beyond the window's end, and after
-- one more every sub is a hit. That is 2 (w + 2) steps, and 3 more before the final one: window, read, check. Or, after at most one shift,
-- the window cannot move: then that pass of w + 2 steps ends in confirm, and w - 1 confirms come before the final one in place of the 3.
--
--   window      b, w + 2 + b or 2w + 4 + b, by the shifts to come; b is the greater of 3 and w - 1
--   read        one less, and less by scan; shift b + 1 or w + 3 + b; check 1, commit 0, confirm w - 1 - scan
use mathlib.Core.Path.{◌≡◌}
use Prim.Native.Nat.{ℕ, zero, suc, ◌+◌, ◌-◌, ◌≤◌, ◌<◌, max}
use Rattle.rules.specs.Effects.{moved_of}
use Rattle.solo.proofs.Types.{Settings, Side, Putting, Taking, Phase, Idle, Window, QueuePutRead, QueueTakeRead, StackRead, Check, QueueCommit, StackCommit, QueueShift, StackShift, QueueConfirm, StackConfirm, Slot}
use Rattle.rules.proofs.machine.Machine.{State, view_in, apply_in}
use Rattle.rules.proofs.machine.Phases.{worker, OfStack, stack_phase_law}
use Rattle.rules.proofs.stack.Inv.{Sight, sight, Hit}
use Rattle.rules.proofs.progress.Clean.{Clean}
use Rattle.solo.proofs.StackDue.{AtWindow, AtRead, AtShift}
use Rattle.rules.proofs.progress.Steps.{Measure, Result, goes, moves_on}
use Rattle.rules.proofs.progress.Confirm.{AtConfirm}

-- the window after a shift
abbrev pub shifted : Settings → Side → ℕ → ℕ
shifted g Putting window = window + g.shift
shifted g Taking window = window - g.shift

-- a sub of c items is a hit after at most k shifts of one direction
abbrev pub Away : Settings → Side → ℕ → ℕ → ℕ → Type 0
Away g side window c zero = Hit g side window c
Away g Putting window c (suc zero) = c ≤ window
Away g Taking window c (suc zero) = window ≤ c + g.depth
Away g side window c (suc (suc k)) = Away g side (shifted g side window) c (suc k)

abbrev pub Near : Settings → Side → ℕ → (ℕ → ℕ) → ℕ → Type 0
Near g side window held k = (j : ℕ) → j < g.width → Away g side window (held j) k

abbrev pub stack_base : Settings → ℕ
stack_base g = max 3 (g.width - 1)

-- a pass at the present window
pub record Reads (g : Settings) (v : Sight) (n : ℕ) (side : Side) (index window version scan sum : ℕ) : Type 0 where
  pub window_is : window ≡ v.window
  pub version_is : version ≡ v.mark
  pub clean : Clean g.width v.version index scan sum
  pub left : AtRead g.width (stack_base g) (Near g side v.window v.held) n 2 scan

pub record Checks (v : Sight) (n index version seen : ℕ) : Type 0 where
  pub version_is : version ≡ v.mark
  pub seen_is : seen ≡ v.version index
  pub able : 1 ≤ n

pub record Shifts (g : Settings) (v : Sight) (n : ℕ) (side : Side) (index version sum : ℕ) : Type 0 where
  pub version_is : version ≡ v.mark
  pub clean : Clean g.width v.version index g.width sum
  pub left : AtShift g.width (stack_base g) (Near g side v.window v.held) n

abbrev pub Left : Settings → Sight → ℕ → ℕ → Phase → Type 0
Left g v n index Idle = ⊥
Left g v n index (Window side) = AtWindow g.width (stack_base g) (Near g side v.window v.held) n
Left g v n index (QueuePutRead window scan) = ⊥
Left g v n index (QueueTakeRead window bare scan sum) = ⊥
Left g v n index (StackRead side window version scan sum) = Reads g v n side index window version.0 scan sum
Left g v n index (Check side version seen) = Checks v n index version.0 seen.0
Left g v n index (QueueCommit side window seen) = ⊥
Left g v n index (StackCommit side seen) = seen.0 ≡ v.version index
Left g v n index (QueueShift side window) = ⊥
Left g v n index (StackShift side version scan sum) = Shifts g v n side index version.0 sum
Left g v n index (QueueConfirm window scan sum) = ⊥
Left g v n index (StackConfirm side scan sum) = AtConfirm g.width v.version n index scan sum

abbrev pub stack_left : Settings → Measure
stack_left g s n index p = Left g (sight s) n index p

-- on to a phase of a stack
pub stack_on : (g : Settings) → g.kind ≡ 1 → (s : State) (i n index : ℕ) (p : Phase) → OfStack p → (kept : Slot) → 1 ≤ n → stack_left g s (n - 1) index p
    → Result g (stack_left g) s i n (apply_in g s i (moved_of g (view_in g s i) index p kept))
stack_on g kind s i n index p of kept some left =
    goes (moves_on g (stack_left g) s i n index p kept (stack_phase_law g kind (worker (s.slot i).value index p) of kept) some left)
