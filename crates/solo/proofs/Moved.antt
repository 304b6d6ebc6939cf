-- A worker that steps alone, of either kind and in every edition: its law (Law), and what it has left is what it had after a move, for that speaks of its
-- phase and of the pool's windows and rows, and of no edition.
use mathlib.Core.Path.{◌≡◌}
use mathlib.Core.Bool.{true}
use Prim.Native.Nat.{ℕ, zero, suc, ◌+◌, ◌-◌}
use native.Mathlib.Decide.{ℕ_discrete}
use Rattle.rules.specs.Limits.{settings_fit}
use Rattle.rules.specs.Make.{in_edition}
use Rattle.solo.proofs.Types.{Settings, Side, Putting, Taking, Phase, Idle, Window, QueuePutRead, QueueTakeRead, StackRead, Check, QueueCommit, StackCommit, QueueShift, StackShift, QueueConfirm, StackConfirm, Span}
use Rattle.rules.proofs.machine.Machine.{State}
use Rattle.rules.proofs.machine.Good.{good}
use Rattle.rules.proofs.stack.Inv.{Sight, sight}
use Rattle.rules.proofs.BothKinds.{kind_by, kind_of}
use Rattle.rules.proofs.machine.Moved.{moved_in}
use Rattle.rules.proofs.progress.QueueLeft.{PutWindow, PutRead, PutCommit, PutShift, TakeWindow, TakeRead, TakeCommit, TakeShift, TakeConfirm, Left as QueueLeft}
use Rattle.solo.proofs.StackLeft.{Away, Near, Left as StackLeft}
use Rattle.solo.proofs.Law.{SoloLaw, queue_begun, queue_solo, stack_begun, stack_solo}

-- ---- what is left
module _ (g : Settings) (b : ℕ) where
  abbrev h : Settings
  h = in_edition b g

  module _ (L : ℕ) (p t : Span) (put taken : ℕ → ℕ) (n index : ℕ) where
    pub queue_left : (phase : Phase) → QueueLeft g L p t put taken n index phase → QueueLeft h L p t put taken n index phase
    queue_left Idle x = x
    queue_left (Window Putting) (PutWindow.any a) = PutWindow.any a
    queue_left (Window Putting) (PutWindow.low a c) = PutWindow.low a c
    queue_left (Window Taking) (TakeWindow.any a) = TakeWindow.any a
    queue_left (Window Taking) (TakeWindow.confirms a c) = TakeWindow.confirms a c
    queue_left (Window Taking) (TakeWindow.hits a c d) = TakeWindow.hits a c d
    queue_left (QueuePutRead window scan) (PutRead.stale a) = PutRead.stale a
    queue_left (QueuePutRead window scan) (PutRead.fresh a c) = PutRead.fresh a c
    queue_left (QueuePutRead window scan) (PutRead.late a c) = PutRead.late a c
    queue_left (QueuePutRead window scan) (PutRead.sure a c d) = PutRead.sure a c d
    queue_left (QueueTakeRead window bare scan sum) (TakeRead.stale a) = TakeRead.stale a
    queue_left (QueueTakeRead window bare scan sum) (TakeRead.clean a c) = TakeRead.clean a c
    queue_left (QueueTakeRead window bare scan sum) (TakeRead.fresh a c d) = TakeRead.fresh a c d
    queue_left (QueueTakeRead window bare scan sum) (TakeRead.late a c d e) = TakeRead.late a c d e
    queue_left (QueueTakeRead window bare scan sum) (TakeRead.confirms a c d e) = TakeRead.confirms a c d e
    queue_left (QueueTakeRead window bare scan sum) (TakeRead.hits a c j d e f k) = TakeRead.hits a c j d e f k
    queue_left (StackRead side window version scan sum) x = x
    queue_left (Check side version seen) x = x
    queue_left (QueueCommit Putting window seen) (PutCommit.live a) = PutCommit.live a
    queue_left (QueueCommit Putting window seen) (PutCommit.stale a) = PutCommit.stale a
    queue_left (QueueCommit Taking window seen) (TakeCommit.live a) = TakeCommit.live a
    queue_left (QueueCommit Taking window seen) (TakeCommit.stale a) = TakeCommit.stale a
    queue_left (StackCommit side seen) x = x
    queue_left (QueueShift Putting window) (PutShift.stale a) = PutShift.stale a
    queue_left (QueueShift Putting window) (PutShift.fresh a c) = PutShift.fresh a c
    queue_left (QueueShift Putting window) (PutShift.late a c) = PutShift.late a c
    queue_left (QueueShift Taking window) (TakeShift.stale a) = TakeShift.stale a
    queue_left (QueueShift Taking window) (TakeShift.fresh a c) = TakeShift.fresh a c
    queue_left (QueueShift Taking window) (TakeShift.late a c d) = TakeShift.late a c d
    queue_left (StackShift side version scan sum) x = x
    queue_left (QueueConfirm window scan sum) (TakeConfirm.stale a) = TakeConfirm.stale a
    queue_left (QueueConfirm window scan sum) (TakeConfirm.clean a c) = TakeConfirm.clean a c
    queue_left (StackConfirm side scan sum) x = x

  away_kept : (side : Side) (k window c : ℕ) → Away g side window c k → Away h side window c k
  away_kept Putting zero window c x = x
  away_kept Taking zero window c x = x
  away_kept Putting (suc zero) window c x = x
  away_kept Taking (suc zero) window c x = x
  away_kept Putting (suc (suc k)) window c x = away_kept Putting (suc k) (window + g.shift) c x
  away_kept Taking (suc (suc k)) window c x = away_kept Taking (suc k) (window - g.shift) c x

  near_kept : (side : Side) (window : ℕ) (held : ℕ → ℕ) (k : ℕ) → Near g side window held k → Near h side window held k
  near_kept side window held k near j l = away_kept side k window (held j) (near j l)

  pub stack_left : (v : Sight) (n index : ℕ) (phase : Phase) → StackLeft g v n index phase → StackLeft h v n index phase
  stack_left v n index Idle x = x
  stack_left v n index (Window side) x = record { shifts = x.shifts; near = near_kept side _ _ x.shifts x.near; left = x.left }
  stack_left v n index (QueuePutRead window scan) x = x
  stack_left v n index (QueueTakeRead window bare scan sum) x = x
  stack_left v n index (StackRead side window version scan sum) x =
      record {
        window_is = x.window_is;
        version_is = x.version_is;
        clean = x.clean;
        left = record { shifts = x.left.shifts; near = near_kept side _ _ x.left.shifts x.left.near; left = x.left.left; able = x.left.able };
      }
  stack_left v n index (Check side version seen) x = x
  stack_left v n index (QueueCommit side window seen) x = x
  stack_left v n index (StackCommit side seen) x = x
  stack_left v n index (QueueShift side window) x = x
  stack_left v n index (StackShift side version scan sum) x =
      record {
        version_is = x.version_is;
        clean = x.clean;
        left = record { shifts = x.left.shifts; near = near_kept side _ _ (suc x.left.shifts) x.left.near; left = x.left.left };
      }
  stack_left v n index (QueueConfirm window scan sum) x = x
  stack_left v n index (StackConfirm side scan sum) x = x

-- ---- the law, of either kind
unfoldable pub begun_by : (g : Settings) → Dec (g.kind ≡ 0) → Side → ℕ
begun_by g (yes e) side = queue_begun g side
begun_by g (no n) side = stack_begun g side

unfoldable pub solo_by : (g : Settings) (limits : settings_fit g ≡ true) (d : Dec (g.kind ≡ 0)) → SoloLaw g (kind_by g limits d) (begun_by g d)
unfolding kind_by begun_by
solo_by g limits (yes e) = queue_solo g (good g limits) e
solo_by g limits (no n) = stack_solo g (good g limits) _

abbrev pub begun_of : Settings → Side → ℕ
begun_of g = begun_by g (ℕ_discrete g.kind 0)

abbrev pub solo_of : (g : Settings) (limits : settings_fit g ≡ true) → SoloLaw g (kind_of g limits) (begun_of g)
solo_of g limits = solo_by g limits (ℕ_discrete g.kind 0)

pub left_moved : (g : Settings) (b : ℕ) (limits : settings_fit g ≡ true) (limits' : settings_fit (in_edition b g) ≡ true) (s : State) (n index : ℕ) (phase : Phase)
    → (solo_of g limits).Left s n index phase → (solo_of (in_edition b g) limits').Left (moved_in g (in_edition b g) s) n index phase
unfolding solo_by queue_solo stack_solo
left_moved g b limits limits' s n index phase = by (ℕ_discrete g.kind 0)
  where
    by : (d : Dec (g.kind ≡ 0)) → (solo_by g limits d).Left s n index phase → (solo_by (in_edition b g) limits' d).Left (moved_in g (in_edition b g) s) n index phase
    by (yes e) x = queue_left g b _ _ _ _ _ n index phase x
    by (no z) x = stack_left g b (sight s) n index phase x
