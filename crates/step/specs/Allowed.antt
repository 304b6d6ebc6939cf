-- Which effects are written where. A commit's are those of a worker that has lost it, that has put or taken its item, or that is refused; the others are a
-- late phase's. What the words must have room for before one of these is written: where windows have sizes of their own, a put window that moves on has
-- a free pair, and a take window that moves on has one to give up.
use Rattle.std.specs.Prelude.{ℕ, ◌≤◌, ◌<◌, ◌≡◌, true, List}
use Rattle.rules.specs.Limits.{windowed, most_live}
use Rattle.rules.specs.Windows.{live_of}
use Rattle.rules.specs.declared.Settings.{Settings}
use Rattle.rules.specs.declared.Outcome.{Outcome}
use Rattle.rules.specs.declared.Outcome.TheVariants.{Refused, Moving, Lost, Shifted, Raised, Dropped, Landed, Removed, Empty, Full}

abbrev pub Allowed : List ℕ → Settings → Outcome → Type 0
Allowed ws g (Refused n) = Unit {0}
Allowed ws g Moving = Unit {0}
Allowed ws g Lost = ⊥
Allowed ws g Shifted = Unit {0}
Allowed ws g Raised = windowed g ≡ true → live_of ws g < most_live
Allowed ws g Dropped = windowed g ≡ true → 1 ≤ live_of ws g
Allowed ws g (Landed value row stamp) = ⊥
Allowed ws g (Removed row) = ⊥
Allowed ws g Empty = Unit {0}
Allowed ws g Full = Unit {0}

abbrev pub Commits : Outcome → Type 0
Commits (Refused n) = Unit {0}
Commits Moving = ⊥
Commits Lost = Unit {0}
Commits Shifted = ⊥
Commits Raised = ⊥
Commits Dropped = ⊥
Commits (Landed value row stamp) = Unit {0}
Commits (Removed row) = Unit {0}
Commits Empty = ⊥
Commits Full = ⊥
