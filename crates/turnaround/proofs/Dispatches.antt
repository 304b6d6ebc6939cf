-- The dispatcher on one pool in two areas: the same workers are busy, so the turns go to the same ones, and their steps are in step.
use Prim.Native.Nat.{ℕ, zero, suc, ◌+◌, ◌<◌}
use mathlib.Core.Path.{◌≡◌, refl, sym, subst, ◌∙◌}
use mathlib.Core.List.{List}
use native.Mathlib.Nat.{mod-lt}
use native.Mathlib.Omega.{arith}
use lib.Dec.{leb, eqb}
use borrow.Author.Tests.{leb-false}
use Rattle.laws.specs.Choice.{cond_both}
use Rattle.rules.specs.Answers.{number_of}
use Rattle.rules.specs.Fit.{Checked, Unfit, Fit, checked_of}
use Rattle.rounds.specs.Dispatch.{DispatchOut, worker_after, busy_from, turn_from, if_busy, after_step, turns_of, fit_dispatch, checked_dispatch, dispatch_of}
use Rattle.rules.specs.Run.{step, call_of}
use Rattle.rules.specs.Make.{in_edition}
use Rattle.turnaround.specs.Turnaround.{SamePool, DispatchInStep, DispatchLockstep}
use Rattle.turnaround.proofs.Types.{Settings}
use Rattle.rules.proofs.Fitness.{fit_pool}
use Rattle.turnaround.proofs.Stores.{OnePool}
use Rattle.turnaround.proofs.InStep.{number_same, found, checked_both, call_both}
use Rattle.std.specs.Prelude.{None, Option, Some}

module _ (g : Settings) (e : ℕ) where
  abbrev h : Settings
  h = in_edition e g

  after_lt : (i j : ℕ) → i < g.workers → worker_after g j < g.workers
  after_lt i j l = mod-lt (j + 1) {m = g.workers} (omega arith)

  busy_same : (ws vs : List ℕ) → OnePool g e ws vs → (i m : ℕ) → i < g.workers → busy_from vs h i m ≡ busy_from ws g i m
  unfolding busy_from
  busy_same ws vs pool i zero l = refl
  busy_same ws vs pool i (suc m) l = rw (number_same g e ws vs pool i l, busy_same ws vs pool (worker_after g i) m (after_lt i i l)) refl

  abbrev Both : DispatchOut → DispatchOut → Type 0
  Both one two = DispatchInStep g one h two

  if_busy_law : (ws vs : List ℕ) → OnePool g e ws vs → (t : Option ℕ) (f f' : ℕ → DispatchOut) → ((j : ℕ) → Both (f j) (f' j)) → Both (if_busy ws t f) (if_busy vs t f')
  if_busy_law ws vs pool None f f' go = record { result = refl; later = pool }
  if_busy_law ws vs pool (Some j) f f' go = go j

  turns_both : (k i : ℕ) (ws vs : List ℕ) → OnePool g e ws vs → i < g.workers → Both (turns_of ws g i k) (turns_of vs h i k)
  unfolding turns_of after_step call_of
  turns_both zero i ws vs pool l =
      rw (busy_same ws vs pool i g.workers l) (if_busy_law ws vs pool (turn_from ws g i) _ _ (λ j. record { result = refl; later = pool }))
  turns_both (suc k) i ws vs pool l =
      rw (busy_same ws vs pool i g.workers l) (if_busy_law ws vs pool (turn_from ws g i) _ _ (λ j.
      let b = call_both g e ws vs pool (step j) in
      rw b.answer
      (cond_both Both (eqb (number_of (call_of g.edition ws (step j)).answer) 0) (λ moving. turns_both k (worker_after g j) _ _ b.later (after_lt i j l))
      (λ t. record { result = refl; later = b.later }))))

  dispatch_both : (ws vs : List ℕ) → OnePool g e ws vs → (i steps : ℕ) → Both (dispatch_of g.edition ws i steps) (dispatch_of e vs i steps)
  unfolding dispatch_of checked_dispatch fit_dispatch
  dispatch_both ws vs pool i steps = rw (checked_both g e ws vs pool) (go (checked_of g.edition ws) refl)
    where
      go : (k : Checked) → checked_of g.edition ws ≡ k → Both (checked_dispatch ws k i steps) (checked_dispatch vs (found g e ws vs pool k) i steps)
      go (Unfit n) t = record { result = refl; later = pool }
      go (Fit f) t =
          let is : f ≡ g = sym (fit_pool g.edition ws f t).settings ∙ pool.settings_one in
          subst (λ (f : Settings). Both (checked_dispatch ws (Fit f) i steps) (checked_dispatch vs (Fit h) i steps)) (sym is)
          (cond_both Both (leb g.workers i) (λ many. record { result = refl; later = pool }) (λ few. turns_both steps i ws vs pool (leb-false _ _ few)))

pub dispatch_lockstep : DispatchLockstep
dispatch_lockstep g ws h vs i steps pool =
    subst (λ (f : Settings). SamePool g ws f vs → DispatchInStep g (dispatch_of g.edition ws i steps) f (dispatch_of f.edition vs i steps)) (sym pool.same)
    (λ one. dispatch_both g h.edition ws vs one i steps) pool
