-- A shift up by a put that has missed every sub: the window rises by s.
use mathlib.Core.Path.{◌≡◌, refl, ap, ◌∙◌}
use mathlib.Core.Logic.{◌≢◌}
use mathlib.Core.Bool.{true}
use Prim.Native.Nat.{ℕ, ◌+◌, ◌≤◌, ◌<◌}
use native.Mathlib.Omega.{arith}
use borrow.Author.Tests.{le-leb, eq-eqb}
use Rattle.laws.specs.Wrap.{add32}
use Rattle.rules.specs.Limits.{settings_fit, step_limit}
use Rattle.rules.specs.Worker.{encode}
use Rattle.rules.specs.Run.{step}
use Rattle.reached.proofs.Types.{Settings, Putting, Window, StackShift, Worker, Slot}
use Rattle.rules.specs.declared.Answer.TheVariants.{Moving}
use Rattle.rules.proofs.Fitness.{settings_bounds}
use Rattle.rules.proofs.counts.Sums.{upd_same, upd_other}
use Rattle.rules.proofs.counts.Wraps.{add32_is}
use Rattle.rules.proofs.machine.Machine.{State, next, sub_in, phase_in, apply_in, turned_in, apply_shifted}
use Rattle.rules.proofs.machine.Phases.{worker, stack_phase_law, encode_index}
use Rattle.reached.proofs.Run.{Got, got_call}
use Rattle.reached.proofs.Rules.{step_is, shift_rule}
use Rattle.reached.proofs.Commits.{Later, later_same}
use Rattle.std.specs.Prelude.{Ok}

module _ (g : Settings) (limits : settings_fit g ≡ true) (kind : g.kind ≡ 1) where
  pub record Raised (s : State) (i : ℕ) : Type 0 where
    pub to : State
    pub later : Later g limits kind 1 s to
    pub top : to.top ≡ s.top + g.shift
    pub first : to.first ≡ s.first
    pub second : to.second ≡ s.second
    pub off : (m : ℕ) → m ≢ i → to.slot m ≡ s.slot m
    pub phase : phase_in g to i ≡ Window Putting
    pub index_is : sub_in to i ≡ sub_in s i

  pub raise : (s : State) → Got g limits kind s → (i : ℕ) → i < g.workers → s.steps < step_limit → (scan sum : ℕ)
      → phase_in g s i ≡ StackShift Putting (record { 0 = s.mark }) scan sum → s.top + g.shift ≤ g.rows → Raised s i
  raise s got i l time scan sum e able =
      let k : Worker = worker (s.slot i).value (sub_in s i) (Window Putting) in
      let x : Slot = encode g k (s.slot i) in
      let up : add32 s.top g.shift ≡ s.top + g.shift = add32_is s.top g.shift (omega (arith, (settings_bounds g limits).rows1024)) in
      record {
        to = turned_in s i (add32 s.top g.shift) (add32 s.mark 1) s.frame x;
        later =
            later_same g limits kind
            (got_call g limits kind got (step i) tt (next (Ok Moving) (turned_in s i (add32 s.top g.shift) (add32 s.mark 1) s.frame x))
            (step_is g s i l time _ e tt
            ∙ ap (apply_in g s i)
            (shift_rule g s i (record { 0 = s.mark }) scan sum (eq-eqb s.mark s.mark refl) (le-leb (add32 s.top g.shift) g.rows (omega arith)))
            ∙ apply_shifted g s i Putting (add32 s.top g.shift) (add32 s.mark 1)))
            (omega arith) refl refl refl;
        top = up;
        first = refl;
        second = refl;
        off = λ m n. upd_other s.slot i x m n;
        phase = rw (upd_same s.slot i x) (stack_phase_law g kind k tt (s.slot i));
        index_is = ap (λ (y : Slot). y.index) (upd_same s.slot i x) ∙ encode_index g k (s.slot i);
      }
