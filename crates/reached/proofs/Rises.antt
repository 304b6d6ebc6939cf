-- Between x's put and its take the window rises as often as x may still be taken: after k rises it is k shifts above x's row, d + s.
use mathlib.Core.Path.{◌≡◌, subst}
use mathlib.Core.Bool.{true}
use Prim.Native.Nat.{ℕ, zero, suc, ◌+◌, ◌*◌, ◌≤◌, ◌<◌}
use native.Mathlib.Nat.{mul-le-mul_left}
use native.Mathlib.Decide.{dec_le}
use native.Mathlib.Omega.{arith}
use Rattle.rules.specs.Limits.{settings_fit, Bounds}
use Rattle.reached.proofs.Types.{Settings}
use Rattle.rules.proofs.machine.Machine.{State}
use Rattle.rules.proofs.figures.Figures.{times, times_low}
use Rattle.reached.proofs.Scene.{Scene, Ready, ready, rises, risen}

-- s goes into d - 1 fewer than 64 times
pub few_times : (g : Settings) → Bounds g → times g < 64
few_times g bounds = go (dec_le (times g) 63)
  where
    go : Dec (times g ≤ 63) → times g < 64
    go (yes y) = omega arith
    go (no n) =
        let m : 64 ≤ times g = omega arith in
        absurd (omega (arith, times_low g, mul-le-mul_left g.shift m, bounds.depth64, bounds.shift1, bounds.depth1))

module _ (g : Settings) (limits : settings_fit g ≡ true) (kind : g.kind ≡ 1) (last : ℕ) (last-is : suc last ≡ g.width) (two : 2 ≤ g.workers) where
  abbrev row : ℕ
  row = g.depth + g.shift

  -- the steps that k rises take, with those before
  abbrev pub spent : ℕ → ℕ
  spent k = 246125 + 81938 * k

  pub record Risen (x k : ℕ) (s : State) : Type 0 where
    pub at : ℕ
    pub ready : Ready g limits kind last last-is two (row + k * g.shift) at (spent k) s
    pub scene : Scene g limits kind last last-is two x row s

  pub risen_none : {x at : ℕ} {s : State} → Ready g limits kind last last-is two row at 246125 s → Scene g limits kind last last-is two x row s → Risen x 0 s
  risen_none {at = at} {s = s} o h =
      let height : row ≡ row + 0 * g.shift = omega arith in
      record { at = at; ready = subst (λ (top : ℕ). Ready g limits kind last last-is two top at 246125 s) height o; scene = h }

  once_more : {x k at : ℕ} {s : State} → Ready g limits kind last last-is two (row + k * g.shift + g.shift) at (spent k + 1 + 81920 + 17) s
      → Scene g limits kind last last-is two x row s → Risen x (suc k) s
  once_more {x} {k} {at} {s} o h =
      let height : row + k * g.shift + g.shift ≡ row + suc k * g.shift = omega arith in
      let steps : spent k + 1 + 81920 + 17 ≡ spent (suc k) = omega arith in
      record {
        at = at;
        ready =
            subst (λ (n : ℕ). Ready g limits kind last last-is two (row + suc k * g.shift) at n s) steps
            (subst (λ (top : ℕ). Ready g limits kind last last-is two top at (spent k + 1 + 81920 + 17) s) height o);
        scene = h;
      }

  again : {x k : ℕ} {s : State} → k < 64 → row + k * g.shift + g.shift ≤ g.rows → Risen x k s → (t : State) × Risen x (suc k) t
  again {x} l room o =
      let a = rises g limits kind last last-is two o.ready (omega arith) room in
      let b = risen g limits kind last last-is two o.ready a in
      let r = ready g limits kind last last-is two b.0 (omega arith) in
      (r.0, once_more r.3 (r.4 x row (b.1 x row o.scene)))

  pub risen_times : {x : ℕ} {s : State} → Risen x 0 s → (k : ℕ) → k ≤ 64 → row + k * g.shift ≤ g.rows → (t : State) × Risen x k t
  risen_times {s = s} o zero l room = (s, o)
  risen_times o (suc k) l room = again (omega arith) (omega arith) (risen_times o k (omega arith) (omega arith)).1
