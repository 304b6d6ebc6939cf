-- What the one-at-a-time list is fed besides an answer, which a queue's answers are held to: "with a 2 the width and depth of the window seen at its
-- commit, and with a 4 how many those places are", the places in the windows after the take window (paper 02, K8). They are read off the words just
-- before the step. A stack's answers are held to numbers of its settings alone.
use Rattle.std.specs.Prelude.{ℕ, zero, suc, ◌+◌, ◌-◌, ◌*◌, List, get_or, Ok, Err}
use Rattle.laws.specs.Choice.{cond}
use Rattle.rules.specs.Layout.{top_at, mark_at}
use Rattle.rules.specs.Windows.{has_windows, size_of, no_size, live_of, nth_size}
use Rattle.rules.specs.Worker.{slot_at}
use Rattle.rules.specs.declared.Settings.{Settings}
use Rattle.rules.specs.declared.Size.{Size}
use Rattle.rules.specs.declared.Slot.{Slot}
use Rattle.rules.specs.Answers.{Answered}
use Rattle.rules.specs.declared.Answer.TheVariants.{Moving, Put, Taken, Empty, Full}

pub record Measures : Type 0 where
  pub size : Size
  pub places : ℕ

abbrev pub no_measures : Measures
no_measures = record { size = no_size; places = 0 }

-- with a 2 and with a 4
abbrev pub of_size : Size → Measures
of_size size = record { size = size; places = 0 }

abbrev pub of_places : ℕ → Measures
of_places places = record { size = no_size; places = places }

-- an answer's, by the two numbers of the pool
abbrev pub measured : Size → ℕ → Answered → Measures
measured size places (Ok Moving) = no_measures
measured size places (Ok (Put value sub row stamp)) = no_measures
measured size places (Ok (Taken value sub row stamp distance)) = of_size size
measured size places (Ok Empty) = no_measures
measured size places (Ok Full) = of_places places
measured size places (Err n) = no_measures

-- the size of the window that a worker has seen
unfoldable pub seen_size : Settings → Slot → Size
seen_size g s = cond (has_windows g) (record { width = s.width; depth = s.window - s.bottom }) (size_of g)

-- the places in the m windows after the take window
unfoldable pub places_after : List ℕ → Settings → ℕ → ℕ
places_after ws g zero = 0
places_after ws g (suc m) = places_after ws g m + (nth_size ws g (suc m)).width * (nth_size ws g (suc m)).depth

-- up to the put window
unfoldable pub places_of : List ℕ → Settings → ℕ
places_of ws g = cond (has_windows g) (places_after ws g (live_of ws g - 1)) (g.width * (get_or ws top_at 0 - get_or ws mark_at 0))

-- of a step's answer, by the worker whose words start at `at`
unfoldable pub measures_of : List ℕ → Settings → ℕ → Answered → Measures
measures_of ws g at a = measured (seen_size g (slot_at g ws at)) (places_of ws g) a
