-- An idle worker whose index and scan lie below the pool's width is fit, if it has seen no window where it is a stack's.
use Rattle.std.proofs.Common.{ℕ, ◌<◌, refl, ◌∙◌, Bool, true, false, le_refl, ltb, leb, eqb, lt-ltb, le-leb, ◌≡◌, sym}
use Rattle.laws.specs.Choice.{cond, both}
use Rattle.rules.specs.Fit.{phase_fit, past_window, worker_fit}
use Rattle.rules.specs.Windows.{has_windows}
use Rattle.rules.specs.declared.Settings.{Settings}
use Rattle.rules.specs.declared.Slot.{Slot}
use Rattle.worker_fitness.proofs.Seen.{unseen_fit, bound_of, worker_by_width}

idle_phase : (kind : ℕ) → phase_fit kind 0 ≡ true
unfolding phase_fit cond
idle_phase kind = go (eqb kind 0) refl
  where
    go : (b : Bool) → eqb kind 0 ≡ b → cond b true true ≡ true
    go true e = refl
    go false e = refl

pub idle_fits : (g : Settings) (s : Slot) → s.number ≡ 0 → s.index < g.width → s.scan < g.width → unseen_fit g s ≡ true → worker_fit g s ≡ true
unfolding cond
idle_fits g s idle index scan unseen = sym (worker_by_width g s) ∙ all
  where
    unbound : bound_of g s ≡ g.width
    unbound = rw idle (go (has_windows g) refl)
      where
        go : (b : Bool) → has_windows g ≡ b → cond (both b (past_window 0)) s.width g.width ≡ g.width
        go true e = refl
        go false e = refl

    all : both (phase_fit g.kind s.number) (both (leb (bound_of g s) g.width) (both (both (ltb s.index (bound_of g s)) (ltb s.scan (bound_of g s))) (unseen_fit g s))) ≡ true
    all = rw (unbound, idle, idle_phase g.kind, le-leb g.width g.width (le_refl g.width), lt-ltb s.index g.width index, lt-ltb s.scan g.width scan, unseen) refl
