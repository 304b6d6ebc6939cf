-- One call of a worker that changes nothing shared, by the phase that the worker is in: where it stands afterwards, and in which
-- phase.
use mathlib.Core.Path.{◌≡◌, refl, ap, ◌∙◌, subst}
use mathlib.Core.Logic.{◌≢◌}
use mathlib.Core.Bool.{true, false}
use Prim.Native.Nat.{ℕ, suc, ◌+◌, ◌-◌, ◌≤◌, ◌<◌}
use native.Mathlib.Omega.{arith}
use borrow.Author.Tests.{lt-ltb, le-ltb, eq-eqb}
use Rattle.laws.specs.Wrap.{add32, sub32}
use Rattle.rules.specs.Limits.{settings_fit, Bounds, step_limit}
use Rattle.rules.specs.Worker.{zero_slot, encode}
use Rattle.rules.specs.Effects.{moved_of, next_of}
use Rattle.rules.specs.Read.{stack_hit}
use Rattle.rules.specs.Step.{rule_by}
use Rattle.rules.specs.Run.{step}
use Rattle.reached.proofs.Types.{Settings, Side, Putting, Taking, Phase, Window, StackRead, Check, StackCommit, StackShift, Version, Worker, Slot}
use Rattle.rules.proofs.Fitness.{settings_bounds}
use Rattle.rules.proofs.counts.Sums.{upd_same, upd_other}
use Rattle.rules.proofs.counts.Wraps.{add32_suc, sub32_is}
use Rattle.rules.proofs.machine.Machine.{State, sub_in, view_in, phase_in, slot_in, apply_in, apply_moved}
use Rattle.rules.proofs.machine.Phases.{OfStack, worker, stack_phase_law, encode_index}
use Rattle.rules.proofs.stack.Inv.{Hit, Missed, window_ge, window_le}
use Rattle.reached.proofs.Run.{Got, got_call}
use Rattle.reached.proofs.Rules.{Busy, step_is, begins, begins_no_spacer, value_begun, begin_is, window_rule_law, hit_rule, miss_rule, last_rule, sum_after, check_rule_law}

-- a read at the window as it is
abbrev pub Reads : State → Side → ℕ → ℕ → Phase
Reads s side scan sum = StackRead side s.top (record { 0 = s.mark }) scan sum

module _ (g : Settings) (limits : settings_fit g ≡ true) (kind : g.kind ≡ 1) where
  bounds : Bounds g
  bounds = settings_bounds g limits

  abbrev Reaches : State → Type 0
  Reaches s = Got g limits kind s

  -- in at most n steps worker i is at an index and in a phase
  pub record Walked (n : ℕ) (s : State) (i index : ℕ) (p : Phase) : Type 0 where
    pub to : State
    pub got : Reaches to
    pub steps : to.steps ≤ s.steps + n
    pub puts : to.puts ≡ s.puts
    pub top : to.top ≡ s.top
    pub mark : to.mark ≡ s.mark
    pub first : to.first ≡ s.first
    pub second : to.second ≡ s.second
    pub item : to.item ≡ s.item
    pub off : (m : ℕ) → m ≢ i → to.slot m ≡ s.slot m
    pub phase : phase_in g to i ≡ p
    pub index_is : sub_in to i ≡ index

  -- none at all
  pub stay : {s : State} {i j : ℕ} {p : Phase} → Reaches s → phase_in g s i ≡ p → sub_in s i ≡ j → Walked 0 s i j p
  stay {s} got e x =
      record {
        to = s;
        got = got;
        steps = omega arith;
        puts = refl;
        top = refl;
        mark = refl;
        first = refl;
        second = refl;
        item = refl;
        off = λ m n. refl;
        phase = e;
        index_is = x;
      }

  -- or fewer
  pub slower : {n m : ℕ} {s : State} {i j : ℕ} {p : Phase} → n ≤ m → Walked n s i j p → Walked m s i j p
  slower l a =
      record {
        to = a.to;
        got = a.got;
        steps = omega (arith, a.steps);
        puts = a.puts;
        top = a.top;
        mark = a.mark;
        first = a.first;
        second = a.second;
        item = a.item;
        off = a.off;
        phase = a.phase;
        index_is = a.index_is;
      }

  -- and then some more
  pub then : {n m k : ℕ} {s : State} {i x y : ℕ} {p r : Phase} → n + m ≤ k → (a : Walked n s i x p) → Walked m a.to i y r → Walked k s i y r
  then l a b =
      record {
        to = b.to;
        got = b.got;
        steps = omega (arith, a.steps, b.steps);
        puts = b.puts ∙ a.puts;
        top = b.top ∙ a.top;
        mark = b.mark ∙ a.mark;
        first = b.first ∙ a.first;
        second = b.second ∙ a.second;
        item = b.item ∙ a.item;
        off = λ k ne. b.off k ne ∙ a.off k ne;
        phase = b.phase;
        index_is = b.index_is;
      }

  -- the window has not changed, so a read is still at it
  pub still_reads : {n : ℕ} {s : State} {i j : ℕ} {side : Side} {scan sum : ℕ} (a : Walked n s i j (Reads s side scan sum))
      → phase_in g a.to i ≡ Reads a.to side scan sum
  still_reads a = rw (a.top, a.mark) a.phase

  -- ---- whether a read hits
  depth_off : (s : State) → Reaches s → sub32 s.top g.depth ≡ s.top - g.depth
  depth_off s got =
      let o = got.live.inv.pool in
      sub32_is s.top g.depth (window_ge o) (omega (arith, window_le o, bounds.rows1024))

  hits : (s : State) → Reaches s → (i : ℕ) (side : Side) → Hit g side s.top (s.first (sub_in s i)) → stack_hit g (view_in g s i) side s.top ≡ true
  hits s got i Putting h = lt-ltb _ _ h
  hits s got i Taking h =
      lt-ltb (sub32 s.top g.depth) (s.first (sub_in s i)) (omega (arith, depth_off s got, window_ge got.live.inv.pool))

  misses : (s : State) → Reaches s → (i : ℕ) (side : Side) → Missed g side s.top (s.first (sub_in s i)) → stack_hit g (view_in g s i) side s.top ≡ false
  misses s got i Putting h = le-ltb _ _ h
  misses s got i Taking h = le-ltb (sub32 s.top g.depth) (s.first (sub_in s i)) (omega (arith, depth_off s got))

  -- ---- a call that changes worker i's slot alone, and the steps counted
  in_slot : {n : ℕ} (s : State) (i steps : ℕ) (k : Worker) (kept : Slot) → OfStack k.phase → steps ≤ s.steps + n
      → Reaches (slot_in s i steps s.top s.mark s.frame (encode g k kept)) → Walked n s i k.index k.phase
  in_slot s i steps k kept of l got =
      let x : Slot = encode g k kept in
      record {
        to = slot_in s i steps s.top s.mark s.frame x;
        got = got;
        steps = l;
        puts = refl;
        top = refl;
        mark = refl;
        first = refl;
        second = refl;
        item = refl;
        off = λ m n. upd_other s.slot i x m n;
        phase = rw (upd_same s.slot i x) (stack_phase_law g kind k of kept);
        index_is = ap (λ (y : Slot). y.index) (upd_same s.slot i x) ∙ encode_index g k kept;
      }

  -- ---- one call
  module _ (s : State) (got : Reaches s) (i : ℕ) (l : i < g.workers) (time : s.steps < step_limit) where
    moved : (p₀ : Phase) → phase_in g s i ≡ p₀ → Busy p₀ → (index : ℕ) (p : Phase) (kept : Slot) → OfStack p
        → rule_by g (view_in g s i) p₀ ≡ moved_of g (view_in g s i) index p kept → Walked 1 s i index p
    moved p₀ e busy index p kept of rule =
        in_slot s i (suc s.steps) (worker (s.slot i).value index p) kept of (omega arith)
        (got_call g limits kind got (step i) tt _ (step_is g s i l time p₀ e busy ∙ ap (apply_in g s i) rule ∙ apply_moved g s i index p kept))

    pub begin : (side : Side) → (s.slot i).number ≡ 0 → Walked 0 s i (sub_in s i) (Window side)
    begin side z =
        in_slot s i s.steps (worker (value_begun side) (sub_in s i) (Window side)) zero_slot tt (omega arith)
        (got_call g limits kind got (begins i side) (begins_no_spacer i side) _ (begin_is g s i side l time z))

    pub window : (side : Side) → phase_in g s i ≡ Window side → Walked 1 s i (sub_in s i) (Reads s side 0 0)
    window side e = moved (Window side) e tt (sub_in s i) _ zero_slot tt (window_rule_law g s i kind side)

    module _ (side : Side) (scan sum : ℕ) (e : phase_in g s i ≡ Reads s side scan sum) where
      pub hit : Hit g side s.top (s.first (sub_in s i)) → Walked 1 s i (sub_in s i) (Check side (record { 0 = s.mark }) (record { 0 = s.second (sub_in s i) }))
      hit h = moved _ e tt (sub_in s i) _ _ tt (hit_rule g s i side s.top (record { 0 = s.mark }) scan sum (hits s got i side h))

      pub miss : Missed g side s.top (s.first (sub_in s i)) → suc scan < g.width
          → Walked 1 s i (next_of g.width (sub_in s i)) (Reads s side (suc scan) (sum_after s i sum))
      miss h more =
          let up : add32 scan 1 ≡ suc scan = add32_suc scan (omega (arith, bounds.width16)) in
          subst (λ (y : ℕ). Walked 1 s i (next_of g.width (sub_in s i)) (Reads s side y (sum_after s i sum))) up
          (moved _ e tt (next_of g.width (sub_in s i)) _ (s.slot i) tt
          (miss_rule g s i side s.top (record { 0 = s.mark }) scan sum (misses s got i side h) (lt-ltb (add32 scan 1) g.width (omega arith))))

      pub miss_last : Missed g side s.top (s.first (sub_in s i)) → suc scan ≡ g.width
          → Walked 1 s i (next_of g.width (sub_in s i)) (StackShift side (record { 0 = s.mark }) 0 (sum_after s i sum))
      miss_last h last =
          let up : add32 scan 1 ≡ suc scan = add32_suc scan (omega (arith, bounds.width16)) in
          moved _ e tt (next_of g.width (sub_in s i)) _ (s.slot i) tt
          (last_rule g s i side s.top (record { 0 = s.mark }) scan sum (misses s got i side h) (le-ltb (add32 scan 1) g.width (omega arith)))

    pub check : (side : Side) (seen : Version) → phase_in g s i ≡ Check side (record { 0 = s.mark }) seen → Walked 1 s i (sub_in s i) (StackCommit side seen)
    check side seen e = moved _ e tt (sub_in s i) _ _ tt (check_rule_law g s i side (record { 0 = s.mark }) seen (eq-eqb s.mark s.mark refl))
