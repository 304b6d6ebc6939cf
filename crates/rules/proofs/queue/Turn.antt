-- The queue is a kind: its invariant holds of a new pool, every begin and every step keeps it, and each step is a turn of the
-- placed order. Puts and takes are placed at their commits, "full" at the shift that cannot move; "empty" likewise, or at the read that
-- sent a take to confirm. Each phase's step is in the file of the phase; here they are put together.
use mathlib.Core.Path.{◌≡◌, refl, sym, subst, ◌∙◌}
use mathlib.Core.Bool.{true, false≢true}
use Prim.Native.Nat.{ℕ, ◌<◌}
use native.Mathlib.Nat.{le_refl}
use native.Mathlib.Omega.{arith}
use lib.Dec.{eqb}
use Rattle.laws.specs.Choice.{cond, cond_true, both_true}
use Rattle.rules.specs.Limits.{windowed}
use Rattle.rules.specs.Windows.{has_windows}
use Rattle.rules.specs.Worker.{zero_slot}
use Rattle.rules.specs.Fit.{SizeFits}
use Rattle.rules.specs.Effects.{refused_of}
use Rattle.rules.specs.Step.{rule_of, rule_by}
use Rattle.rules.specs.Sequential.{Contents, no_items}
use Rattle.rules.proofs.Types.{Settings, Size, Side, Putting, Taking, Phase, Idle, Window, QueuePutRead, QueueTakeRead, StackRead, Check, QueueCommit, StackCommit, QueueShift, StackShift, QueueConfirm, StackConfirm}
use Rattle.rules.proofs.counts.Sums.{sum_zero}
use Rattle.rules.proofs.order.Law.{refused}
use Rattle.rules.proofs.machine.Machine.{State, sub_in, view_in, phase_in, apply_in, apply_in_by, with_size, made_in}
use Rattle.rules.proofs.machine.Phases.{idle_phase, queue_phase_law, worker}
use Rattle.rules.proofs.counts.Held.{count_none}
use Rattle.rules.proofs.machine.Good.{Good}
use Rattle.rules.proofs.machine.Turns.{Common, Kind}
use Rattle.rules.proofs.machine.Calls.{begun}
use Rattle.rules.proofs.machine.Ways.{Snap, Written, others_after}
use Rattle.rules.proofs.queue.Inv.{Windows, Knows, Inv, Grown, knows_grown, puts_in}
use Rattle.rules.proofs.queue.Moves.{Stepped, inv_after}
use Rattle.rules.proofs.queue.Put.{put_window_law, put_read, put_shift}
use Rattle.rules.proofs.queue.Take.{take_window_law, take_read, take_shift, take_confirm}
use Rattle.rules.proofs.queue.CommitPut.{put_commit}
use Rattle.rules.proofs.queue.CommitTake.{take_commit, holds_below}
use Rattle.rules.proofs.queue.Safe.{queue_counts, queue_safe}
use Rattle.rules.specs.declared.Refusal.TheVariants.{WorkerIdle}

module _ (g : Settings) (good : Good g) (kind : g.kind ≡ 0) where
  -- ---- a new pool
  mark_made : cond (eqb g.kind 0) g.depth 0 ≡ g.depth
  mark_made = rw kind (cond_true _ _)

  windows_made : Windows g (made_in g).frame
  unfolding made_in
  windows_made =
      record {
        order = le_refl _;
        ground = omega arith;
        rise = λ k m l u. let a : k ≡ 0 = omega arith in let b : m ≡ 1 = omega arith in rw (a, b) (omega (arith, good.bounds.depth1));
        deep = λ k l. omega (arith, good.bounds.depth64);
        half = λ k l. omega (arith, good.bounds.rows2);
        wide1 = λ k l. good.bounds.width1;
        wide_le = λ k l. le_refl _;
        room = omega (arith, good.bounds.rows2);
      }

  pub at_first : Inv g (made_in g) no_items
  unfolding made_in
  at_first =
      record {
        pool = record {
          top = omega arith;
          mark = mark_made ∙ omega arith;
          windows = windows_made;
          subs = record {
            held = λ j. le_refl _;
            put_le = λ j. omega arith;
            taken_le = λ j. omega arith;
            filled = λ k j l m. absurd (omega arith);
            spent = λ k j l m. absurd (omega arith);
            outside = λ k j l m n. omega arith;
            low = λ j l. le_refl _;
          };
          items = record {
            few = λ j r. le_refl _;
            rise = λ j r r' l m n. absurd (omega arith);
            apart = λ j m r r' n l. absurd (omega arith);
            below = λ j r l. absurd (omega arith);
            place = λ j r l. absurd (omega arith);
            there = λ k j r l m n u v. absurd (omega arith);
            order = λ c j m r r' l u v x. absurd (omega arith);
          };
          size = record { width1 = good.bounds.width1; width_most = le_refl _; depth1 = good.bounds.depth1; depth64 = good.bounds.depth64; depth_half = good.bounds.rows2 };
          plain = λ e. record { base_is = λ k l. refl; wide_is = λ k l. refl; next_wide = refl; next_deep = refl; total = sum_zero g.width };
          set_most = omega arith;
          old = λ e. record { not_set = refl; times = good.times; rows_is = good.queue_rows kind e };
          live = λ e. omega arith;
          first_few = le_refl _;
          puts_few = le_refl _;
          steps_few = omega arith;
          holds = record { same = λ p. omega (arith, count_none p) };
          count = refl;
        };
        knows = λ i. rw (idle_phase g ((made_in g).slot i) refl) tt;
      }

  -- ---- a begin
  module _ (s : State) (i : ℕ) (side : Side) (v : ℕ) where
    module _ (q : Contents) (inv : Inv g s q) where
      up : Grown s (begun g s i side v)
      up =
          record {
            order = inv.pool.windows.order;
            head = le_refl _;
            tail = le_refl _;
            base = λ k l. refl;
            wide = λ k l. refl;
            top = le_refl _;
            put = λ j. le_refl _;
            taken = λ j. le_refl _;
          }

    pub opens : Written g puts_in s i (worker v (sub_in s i) (Window side)) (begun g s i side v)
    opens =
        record {
          kept = zero_slot;
          slots = refl;
          phase = queue_phase_law g kind (worker v (sub_in s i) (Window side)) tt zero_slot;
          grown = λ j. le_refl _;
        }

    pub begins : (q : Contents) → Inv g s q → Inv g (begun g s i side v) q
    begins q inv =
        let o = inv.pool in
        inv_after opens (up q inv) inv (record {
          top = o.top;
          mark = o.mark;
          windows = o.windows;
          subs = o.subs;
          items = o.items;
          size = o.size;
          plain = o.plain;
          set_most = o.set_most;
          old = o.old;
          live = o.live;
          first_few = o.first_few;
          puts_few = o.puts_few;
          steps_few = o.steps_few;
          holds = o.holds;
          count = o.count;
        }) tt

  -- ---- a size call
  pub resizes : (s : State) (q : Contents) → Inv g s q → has_windows g ≡ true → (size : Size) → SizeFits g size → Inv g (with_size s size) q
  resizes s q inv has size fits =
      let o = inv.pool in
      record {
        pool = record {
          top = o.top;
          mark = o.mark;
          windows = o.windows;
          subs = o.subs;
          items = o.items;
          size = fits;
          plain = λ e. absurd (omega arith);
          set_most = omega arith;
          old = λ old. absurd (false≢true (sym old ∙ (both_true (windowed g) _ has).0));
          live = o.live;
          first_few = o.first_few;
          puts_few = o.puts_few;
          steps_few = o.steps_few;
          holds = o.holds;
          count = o.count;
        };
        knows = λ i. knows_grown (up_size s q inv size) (sub_in s i) (phase_in g s i) (inv.knows i);
      }
    where
      up_size : (s : State) (q : Contents) → Inv g s q → (size : Size) → Grown s (with_size s size)
      up_size s q inv size =
          record {
            order = inv.pool.windows.order;
            head = le_refl _;
            tail = le_refl _;
            base = λ k l. refl;
            wide = λ k l. refl;
            top = le_refl _;
            put = λ j. le_refl _;
            taken = λ j. le_refl _;
          }

  -- ---- a step
  module _ (s : State) (q : Contents) (common : Common g s) (inv : Inv g s q) (i : ℕ) where
    rests : Stepped g s q i (apply_in g s i (refused_of (view_in g s i) WorkerIdle))
    unfolding apply_in apply_in_by
    rests = record { turn = λ few. refused (omega arith) refl; able = omega arith; full = λ e. absurd (omega arith) }

    knows_now : (p : Phase) → phase_in g s i ≡ p → Knows s (sub_in s i) p
    knows_now p now = subst (Knows s (sub_in s i)) now (inv.knows i)

    index : sub_in s i < g.width
    index = (common.slots i).index

    by_phase : (p : Phase) → phase_in g s i ≡ p → Stepped g s q i (apply_in g s i (rule_by g (view_in g s i) p))
    unfolding rule_by
    by_phase Idle now = rests
    by_phase (Window Putting) now = put_window_law g good.bounds kind s q inv i now
    by_phase (Window Taking) now = take_window_law g good.bounds kind s q inv i index now
    by_phase (QueuePutRead window scan) now = put_read g good.bounds kind s q inv i window scan now
    by_phase (QueueTakeRead window bare scan sum) now = take_read g good.bounds kind s q inv i index window bare scan sum now
    by_phase (StackRead side window version scan sum) now = absurd (knows_now _ now)
    by_phase (Check side version seen) now = absurd (knows_now _ now)
    by_phase (QueueCommit Putting window seen) now = put_commit g kind s q inv i window seen now
    by_phase (QueueCommit Taking window seen) now = take_commit g kind s q inv i window seen now
    by_phase (StackCommit side seen) now = absurd (knows_now _ now)
    by_phase (QueueShift Putting window) now = put_shift g good.bounds kind s q inv i window now
    by_phase (QueueShift Taking window) now = take_shift g good.bounds kind s q inv i index window now
    by_phase (StackShift side version scan sum) now = absurd (knows_now _ now)
    by_phase (QueueConfirm window scan sum) now = take_confirm g good.bounds kind s q inv i index window scan sum now
    by_phase (StackConfirm side scan sum) now = absurd (knows_now _ now)

    pub stepped : Stepped g s q i (apply_in g s i (rule_of g (view_in g s i)))
    unfolding rule_of
    stepped = by_phase (phase_in g s i) refl

unfoldable pub queue_kind : (g : Settings) → Good g → g.kind ≡ 0 → Kind g
queue_kind g good kind =
    record {
      Inv = Inv g;
      Snap = Snap g puts_in;
      at_first = at_first g good kind;
      begins = λ s q common inv i e side v. begins g good kind s i side v q inv;
      begins_kept = λ s i side v. (others_after (opens g good kind s i side v) (Inv g)).kept;
      steps = λ s q common inv i l few. (stepped g good kind s q common inv i).turn few;
      resizes = resizes g good kind;
      resizes_kept = λ s size j s₀ q₀ z. z;
      counts = λ s q inv. queue_counts good kind inv;
      holding = λ s q inv. record { held = holds_below g kind s q inv.pool; count = inv.pool.count };
      safe = λ s q common inv. queue_safe good kind inv common (λ i. (stepped g good kind s q common inv i).able);
      full = λ s q common inv i e. (stepped g good kind s q common inv i).full e;
    }

-- its invariant, from the kind, which stays shut
pub queue_inv : (g : Settings) (good : Good g) (kind : g.kind ≡ 0) (s : State) (q : Contents) → (queue_kind g good kind).Inv s q → Inv g s q
unfolding queue_kind
queue_inv g good kind s q inv = inv
