-- A worker that was asked for at a place is the one that lies there.
use Rattle.rules.specs.declared.Settings.{Settings}
use Rattle.rules.specs.Worker.{slot_at}
use Rattle.rules.specs.Layout.{worker_at}
use Rattle.rules.specs.Fit.{worker_fit}
use Rattle.std.proofs.Common.{Bool, List, ap, ◌∙◌, ℕ, ◌≡◌}

-- whether worker i is fit
abbrev pub is_fit : List ℕ → Settings → ℕ → Bool
is_fit ws g i = worker_fit g (slot_at g ws (worker_at g i))

-- what was asked of the worker at its place
pub here : (ws : List ℕ) (g : Settings) (i : ℕ) {at : ℕ} {b : Bool} → at ≡ worker_at g i → b ≡ worker_fit g (slot_at g ws at) → b ≡ is_fit ws g i
here ws g i e f = f ∙ ap (λ (x : ℕ). worker_fit g (slot_at g ws x)) e
