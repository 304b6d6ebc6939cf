-- The steps of a stack's worker, alone, up to its commit: each lowers what it has left (StackLeft), and the commit is final.
use mathlib.Core.Path.{◌≡◌, refl, sym}
use mathlib.Core.Bool.{false}
use Prim.Native.Nat.{ℕ, suc, ◌-◌, ◌≤◌, ◌<◌}
use native.Mathlib.Omega.{arith}
use lib.Dec.{eqb}
use borrow.Author.Tests.{ltb-false, eqb-true, eqb-false}
use Rattle.laws.specs.Choice.{cases}
use Rattle.laws.specs.Wrap.{add32, sub32}
use Rattle.rules.specs.Worker.{zero_slot}
use Rattle.rules.specs.Effects.{next_of, window_version}
use Rattle.rules.specs.Window.{window_rule}
use Rattle.rules.specs.Read.{stack_read, stack_hit}
use Rattle.rules.specs.Check.{check_rule}
use Rattle.rules.specs.Commit.{stack_commit}
use Rattle.rules.specs.Sequential.{Contents}
use Rattle.solo.proofs.Types.{Settings, Side, Putting, Taking, StackRead, Check, StackCommit, StackShift, Version, Effect}
use Rattle.rules.proofs.counts.Wraps.{sub32_is}
use Rattle.rules.proofs.order.Gives.{final_put, final_taken}
use Rattle.rules.proofs.machine.Machine.{State, sub_in, view_in, phase_in, apply_in, apply_in_by}
use Rattle.rules.proofs.machine.Good.{Good}
use Rattle.rules.proofs.machine.Turns.{Common}
use Rattle.rules.proofs.stack.Inv.{sight, Hit, Reading, Inv}
use Rattle.rules.proofs.stack.Commit.{lands_of, commit_cases}
use Rattle.rules.proofs.progress.Clean.{Clean, clean_start, clean_more}
use Rattle.solo.proofs.StackDue.{AtWindow, window_left, window_read, read_again, read_shift}
use Rattle.rules.proofs.progress.Steps.{Result, finishes, miss_cases}
use Rattle.solo.proofs.StackLeft.{Near, stack_base, Reads, Checks, stack_left, stack_on}

module _ (g : Settings) (good : Good g) (kind : g.kind ≡ 1) (s : State) (q : Contents) (common : Common g s) (inv : Inv g s q) (i n : ℕ) (side : Side) where
  abbrev Steps : Effect → Type 0
  Steps e = Result g (stack_left g) s i n (apply_in g s i e)

  abbrev j : ℕ
  j = sub_in s i

  abbrev NearBy : ℕ → Type 0
  NearBy k = Near g side s.top s.first k

  index : j < g.width
  index = (common.slots i).index

  hit_base : 2 < stack_base g
  hit_base = omega arith

  pub window_step : AtWindow g.width (stack_base g) NearBy n → Steps (window_rule g (view_in g s i) side)
  unfolding window_rule
  window_step a =
      let many : 2 < n = window_left hit_base a in
      cases Steps (eqb g.kind 0) _ _
      (λ e. absurd (omega (arith, eqb-true g.kind 0 e)))
      (λ e. stack_on g kind s i n j (StackRead side s.top (window_version (view_in g s i)) 0 0) tt zero_slot (omega arith)
      (record { window_is = refl; version_is = refl; clean = clean_start g.width s.second j; left = window_read hit_base a }))

  module _ (window : ℕ) (version : Version) (scan sum : ℕ) (now : phase_in g s i ≡ StackRead side window version scan sum)
      (a : Reads g (sight s) n side j window version.0 scan sum) where
    k : Reading g (sight s) inv.ghost side window version.0 j scan sum
    k = rw now at (inv.knows i)

    -- a sub within the window is no miss
    no_miss : (b : Side) → stack_hit g (view_in g s i) b window ≡ false → Hit g b s.top (s.first j) → ⊥
    no_miss Putting t h = omega (arith, a.window_is, ltb-false (s.first j) window t)
    no_miss Taking t h =
        let low : sub32 window g.depth ≡ window - g.depth =
        sub32_is window g.depth k.depth_le (omega (arith, k.le_rows, good.bounds.rows1024)) in
        omega (arith, a.window_is, k.depth_le, ltb-false (sub32 window g.depth) (s.first j) t)

    more : Clean g.width s.second (next_of g.width j) (suc scan) (add32 sum (s.second j))
    more = clean_more s.second j index k.scan_lt a.clean

    pub read_step : Steps (stack_read g (view_in g s i) side window version scan sum)
    unfolding stack_read
    read_step =
        let able : 2 ≤ n = a.left.able in
        cases Steps (stack_hit g (view_in g s i) side window) _ _
        (λ t. stack_on g kind s i n j (Check side version (record { 0 = s.second j })) tt _ (omega arith)
        (record { version_is = a.version_is; seen_is = refl; able = omega arith }))
        (λ t.
        let none : NearBy 0 → ⊥ = λ near. no_miss side t (near j index) in
        miss_cases g g.width good.bounds.width16 (view_in g s i) Steps scan (λ x. StackRead side window version x (add32 sum (s.second j))) (StackShift side version 0 (add32 sum (s.second j))) _ k.scan_lt
        (λ l. stack_on g kind s i n (next_of g.width j) (StackRead side window version (suc scan) (add32 sum (s.second j))) tt _ (omega arith)
        (record {
          window_is = a.window_is;
          version_is = a.version_is;
          clean = more;
          left = read_again a.left hit_base none l;
        }))
        (λ e. stack_on g kind s i n (next_of g.width j) (StackShift side version 0 (add32 sum (s.second j))) tt _ (omega arith)
        (record { version_is = a.version_is; clean = rw e at more; left = read_shift a.left none e })))

  pub check_step : (version seen : Version) → Checks (sight s) n j version.0 seen.0 → Steps (check_rule g (view_in g s i) side version seen)
  unfolding check_rule
  check_step version seen k =
      cases Steps (eqb s.mark version.0) _ _
      (λ t. stack_on g kind s i n j (StackCommit side seen) tt _ k.able k.seen_is)
      (λ t. absurd (eqb-false _ _ t (sym k.version_is)))

  lands : (b : Side) → Steps (lands_of g (view_in g s i) b)
  unfolding apply_in apply_in_by
  lands Putting = finishes (final_put _ _ _ _)
  lands Taking = finishes (final_taken _ _ _ _ _)

  pub commit_step : (seen : Version) → phase_in g s i ≡ StackCommit side seen → seen.0 ≡ s.second j → Steps (stack_commit g (view_in g s i) side seen)
  commit_step seen now live = commit_cases inv i Steps side seen now (λ e. lands side) (λ other. absurd (other live))
