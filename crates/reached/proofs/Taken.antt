-- The last take of the run. It is about to land; by the upper bound it passes over no more than the exact figure, so it is enough that it
-- passes over as many: nothing has to be known of the last sub's other items. The take of x does, for every item of the other subs is newer.
-- No spacer was put, so it reports them all.
use mathlib.Core.Path.{◌≡◌, refl, sym, ap, ◌∙◌, subst}
use mathlib.Core.Bool.{Bool, true, ◌&&◌}
use mathlib.Core.List.{List}
use Prim.Native.Nat.{ℕ, suc, ◌+◌, ◌-◌, ◌≤◌, ◌<◌}
use native.Mathlib.Nat.{le_antisymm}
use native.Mathlib.Omega.{arith}
use borrow.Author.Tests.{lt-ltb, eq-eqb}
use Rattle.laws.specs.Choice.{cond_false}
use Rattle.rules.specs.Answers.{number_of}
use Rattle.rules.specs.Held.{passed_over}
use Rattle.rules.proofs.counts.Held.{real}
use Rattle.rules.specs.Limits.{settings_fit, step_limit}
use Rattle.rules.specs.Windows.{size_of}
use Rattle.rules.specs.Newer.{exact_rows, exact_bound}
use Rattle.rules.specs.Sequential.{passed_by}
use Rattle.rules.specs.Run.{Call, step, distance_in}
use Rattle.reached.proofs.Types.{Settings, Taking, StackCommit, Version}
use Rattle.rules.proofs.Cells.{stack_below}
use Rattle.rules.proofs.counts.Sums.{up_to_law, up_to_ext, up_to_true, up_to_none, sum_gap, sum_zero, sum_more}
use Rattle.rules.proofs.order.Law.{Next}
use Rattle.rules.proofs.machine.Machine.{State, sub_in, phase_in, count_in, taken_in, apply_in, next_in, made_in, distance_in as distance_at}
use Rattle.rules.proofs.machine.Good.{good}
use Rattle.rules.proofs.stack.Moves.{Stepping}
use Rattle.rules.proofs.figures.Figures.{bound_stack}
use Rattle.rules.proofs.stack.Commit.{take_row}
use Rattle.rules.proofs.stack.CommitTake.{take_newer, apply_removed}
use Rattle.rules.proofs.stack.Distance.{distance_is, passed_is}
use Rattle.rules.proofs.Spacers.{without_spacers}
use Rattle.reached.proofs.Run.{after, Got}
use Rattle.reached.proofs.Rules.{step_is, take_rule}
use Rattle.reached.proofs.Scene.{mover}
use Rattle.reached.proofs.Ending.{Last}

-- calls that lead the machine from make to a take, which reports just as many items as the exact figure
pub record Found (g : Settings) : Type 0 where
  pub calls : List Call
  pub worker : ℕ
  pub taken : number_of (next_in g (after g (made_in g) calls) (step worker)).answer ≡ 2
  pub reports : distance_in (next_in g (after g (made_in g) calls) (step worker)).answer ≡ exact_bound g

module _ (g : Settings) (limits : settings_fit g ≡ true) (kind : g.kind ≡ 1) where
  -- ---- a take that is about to land, and passes over at least so many
  module _ (s : State) (got : Got g limits kind s) (i : ℕ) (l : i < g.workers) (time : s.steps < step_limit)
      (waits : phase_in g s i ≡ StackCommit Taking (record { 0 = s.second (sub_in s i) }))
      (at_least : exact_bound g ≤ passed_by g got.live.list (s.item (sub_in s i) (s.first (sub_in s i))).stamp) where
    abbrev seen : Version
    seen = record { 0 = s.second (sub_in s i) }

    stepping : Stepping g s got.live.list i
    stepping = record { good = good g limits; kind = kind; common = got.live.common; inv = got.live.inv; time = time }

    lj : sub_in s i < g.width
    lj = (got.live.common.slots i).index

    some : 1 ≤ s.first (sub_in s i)
    some = take_row got.live.inv i seen waits refl

    answer : (next_in g s (step i)).answer ≡ taken_in g s (sub_in s i) (s.first (sub_in s i))
    answer =
        ap (λ (n : Next State). n.answer)
        (step_is g s i l time (StackCommit Taking seen) waits tt
        ∙ ap (apply_in g s i) (take_rule g s i seen (eq-eqb (s.second (sub_in s i)) (s.second (sub_in s i)) refl) (lt-ltb _ _ some))
        ∙ apply_removed stepping seen waits refl)

    exactly : distance_at g s (s.item (sub_in s i) (s.first (sub_in s i))).stamp ≡ exact_bound g
    unfolding exact_bound
    exactly =
        distance_is g kind got.live.inv.pool _
        ∙ without_spacers g.kind (s.item (sub_in s i) (s.first (sub_in s i))).stamp got.live.list.items got.live.no_spacers.listed
        ∙ le_antisymm (take_newer (good g limits) kind got.live.inv i lj seen waits refl (size_of g)) at_least

    pub takes : Found g
    takes =
        let a : (next_in g (after g (made_in g) got.calls) (step i)).answer ≡ taken_in g s (sub_in s i) (s.first (sub_in s i)) =
        ap (λ (t : State). (next_in g t (step i)).answer) got.ends ∙ answer in
        record { calls = got.calls; worker = i; taken = ap number_of a; reports = ap distance_in a ∙ exactly }

  -- ---- the take of x
  module _ (last : ℕ) (last-is : suc last ≡ g.width) (two : 2 ≤ g.workers) (another : 1 ≤ last) where
    -- every item of another sub is newer than x, and each of these subs is filled up to the figure
    module _ (x row high : ℕ) (exact : high ≡ exact_rows g) (s : State) (o : Last g limits kind last last-is two another x row high s) where
      newer_row : (m r : ℕ) → m < last → 1 ≤ r → r ≤ s.first m → (real (s.item m r) && passed_over g.kind x (s.item m r)) ≡ true
      newer_row m r l u v =
          let after = o.scene.newer m r l u v in
          rw (kind, lt-ltb 0 (s.item m r).stamp (omega arith)) (cond_false _ _ ∙ lt-ltb _ _ after)

      all_rows : (p : ℕ → Bool) (n : ℕ) → ((r : ℕ) → 1 ≤ r → r ≤ n → p r ≡ true) → up_to_law p n ≡ n
      all_rows p n h = up_to_ext p (λ r. true) n h ∙ up_to_true n

      newer_sub : (m : ℕ) → m < last → 0 + exact_rows g ≤ count_in g s (passed_over g.kind x) m
      newer_sub m l =
          rw (stack_below g kind (s.second m))
          (omega (
            arith,
            all_rows (λ r. real (s.item m r) && passed_over g.kind x (s.item m r)) (s.first m) (λ r u v. newer_row m r l u v),
            up_to_none (λ r. real (s.item m r) && passed_over g.kind x (s.item m r)),
            o.full m l,
          ))

      at_least : exact_bound g ≤ passed_by g o.got.live.list x
      unfolding exact_bound
      at_least =
          let f : ℕ → ℕ = count_in g s (passed_over g.kind x) in
          let w : g.width - 1 ≡ last = omega arith in
          rw (bound_stack g _ _ kind, passed_is g kind o.got.live.inv.pool x, w, ← last-is) (omega (arith, sum_gap (λ m. 0) f last (exact_rows g) newer_sub, sum_zero last, sum_more f last))

      pub found : Found g
      found =
          let x_there : (s.item (sub_in s mover) (s.first (sub_in s mover))).stamp ≡ x = rw (o.index_is, o.held) o.scene.x_is in
          takes s o.got mover two o.few
          (subst (λ (j : ℕ). phase_in g s mover ≡ StackCommit Taking (record { 0 = s.second j })) (sym o.index_is) o.waits) (rw x_there at_least)
