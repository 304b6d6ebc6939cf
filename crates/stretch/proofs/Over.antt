-- Over a move every worker is in the phase that it was in, and the windows and rows are as they were, so that each owes what it did.
use mathlib.Core.Path.{◌≡◌, sym, ap, subst}
use mathlib.Core.Logic.{inl, inr}
use Prim.Native.Nat.{ℕ}
use Rattle.rules.specs.Make.{in_edition}
use Rattle.stretch.proofs.Types.{Settings, Phase}
use Rattle.rules.proofs.machine.Machine.{State, sub_in, phase_in}
use Rattle.rules.proofs.machine.Phases.{status_of}
use Rattle.rules.proofs.machine.Moved.{moved_in}
use Rattle.rules.proofs.progress.QueueLeft.{put_now, take_now}
use Rattle.rules.proofs.progress.QueueResult.{open_put, put_in}
use Rattle.solo.proofs.Moved.{queue_left}
use Rattle.stretch.proofs.Owed.{Owes, OwesIn, Debts}

-- the phases after a move
abbrev pub SamePhases : Settings → ℕ → State → Type 0
SamePhases g b s = (i : ℕ) → phase_in (in_edition b g) (moved_in g (in_edition b g) s) i ≡ phase_in g s i

module _ (g : Settings) (b : ℕ) (s : State) (same : SamePhases g b s) where
  abbrev h : Settings
  h = in_edition b g

  abbrev t : State
  t = moved_in g h s

  pub put_over : (i : ℕ) → put_in h t i ≡ put_in g s i
  put_over i = ap (λ (p : Phase). open_put (status_of (s.slot i).value p)) (same i)

  pub owes_over : (L n i : ℕ) → OwesIn g L s n i → OwesIn h L t n i
  owes_over L n i x = subst (Owes h L t n (sub_in s i)) (sym (same i)) (by x)
    where
      by : OwesIn g L s n i → Owes h L t n (sub_in s i) (phase_in g s i)
      by (inl r) = inl (record { idle = r.idle; take = r.take; put = r.put })
      by (inr left) = inr (queue_left g b L (put_now s.frame) (take_now s.frame) s.first s.second n (sub_in s i) (phase_in g s i) left)

  pub debts_over : (L : ℕ) (debt : ℕ → ℕ) → Debts g L s debt → Debts h L t debt
  debts_over L debt owed i l = owes_over L (debt i) i (owed i l)
