-- Paper 02, K8, its moves as facts about their words: "Forward, a line's next size, each live window and the seen window of a worker past its window phase get
-- the pool's sizes, all else is kept and other new words are zero; backward, what edition 1 hasn't is dropped. Edition 1 to 2 to 1 gives the needed words
-- exactly". Which pools move, and the moves, are in specs/Move; what every move keeps is in specs/Turnaround (`Moved`).
use Rattle.std.specs.Prelude.{ℕ, ◌+◌, ◌-◌, ◌*◌, ◌≤◌, ◌<◌, ◌≡◌, ◌≢◌, true, false, List, get_or, length, Ok}
use Rattle.std.proofs.Math.Seq.{paste}
use Rattle.rules.specs.Answers.{out, number_of}
use Rattle.rules.specs.Layout.{top_at, mark_at, settings_of, phase_at, window_at, bottom_at, seen_width_at, worker_at, windows_at, windows_words, set_at, needed}
use Rattle.rules.specs.Limits.{most_live}
use Rattle.rules.specs.Windows.{size_of, no_size, next_size, live_of, nth_size}
use Rattle.rules.specs.Make.{in_edition}
use Rattle.rules.specs.Fit.{past_window}
use Rattle.turnaround.specs.Move.{move_of}
use Rattle.rules.specs.declared.Settings.{Settings}
use Rattle.rules.specs.declared.Answer.TheVariants.{Moving}

-- ---- forward
-- the words behind the cells of a queue: its next size and each live window have the pool's, no size was set, and the pairs beyond are zero. So many windows
-- are live that, each d deep, they lead from T up to P
pub record WindowsGiven (from : List ℕ) (g : Settings) (vs : List ℕ) (h : Settings) : Type 0 where
  pub next : next_size vs h ≡ size_of g
  pub not_set : get_or vs (set_at h) 0 ≡ 0
  pub live1 : 1 ≤ live_of vs h
  pub live16 : live_of vs h ≤ most_live
  pub lead : get_or from mark_at 0 + (live_of vs h - 1) * g.depth ≡ get_or from top_at 0
  pub size : (k : ℕ) → k < live_of vs h → nth_size vs h k ≡ size_of g
  pub none : (k : ℕ) → live_of vs h ≤ k → k < most_live → nth_size vs h k ≡ no_size

-- worker i's two new words: past its window phase a queue's has seen a window as wide as the pool, whose bottom is d below its top; else they are zero
pub record SeenGiven (from : List ℕ) (g : Settings) (vs : List ℕ) (h : Settings) (i : ℕ) : Type 0 where
  pub wide : g.kind ≡ 0 → past_window (get_or from (phase_at (worker_at g i)) 0) ≡ true → get_or vs (seen_width_at (worker_at h i)) 0 ≡ g.width
  pub deep : g.kind ≡ 0 → past_window (get_or from (phase_at (worker_at g i)) 0) ≡ true
      → get_or vs (bottom_at (worker_at h i)) 0 + g.depth ≡ get_or from (window_at (worker_at g i)) 0
  pub not_past : past_window (get_or from (phase_at (worker_at g i)) 0) ≡ false → (get_or vs (bottom_at (worker_at h i)) 0 ≡ 0) × (get_or vs (seen_width_at (worker_at h i)) 0 ≡ 0)
  pub stack : g.kind ≢ 0 → (get_or vs (bottom_at (worker_at h i)) 0 ≡ 0) × (get_or vs (seen_width_at (worker_at h i)) 0 ≡ 0)

pub record Widened (from : List ℕ) (g : Settings) (vs : List ℕ) (h : Settings) : Type 0 where
  pub windows : g.kind ≡ 0 → WindowsGiven from g vs h
  pub stack : g.kind ≢ 0 → (k : ℕ) → k < windows_words h.edition → get_or vs (windows_at h + k) 0 ≡ 0
  pub seen : (i : ℕ) → i < g.workers → SeenGiven from g vs h i

abbrev pub MoveOnGives : Type 0
MoveOnGives =
    (from to : List ℕ) → number_of (move_of 1 2 from to).answer ≡ 0 → Widened from (settings_of from) (move_of 1 2 from to).words (in_edition 2 (settings_of from))

-- ---- there and back
-- for every source that moves on, and any areas that are long enough, the move back answers 0, and the last area has the source's needed words at its front,
-- and behind them what it held
abbrev pub OneToTwoToOne : Type 0
OneToTwoToOne =
    (from middle to : List ℕ) → number_of (move_of 1 2 from middle).answer ≡ 0 → needed (settings_of from) ≤ length to
    → move_of 2 1 (move_of 1 2 from middle).words to ≡ out (Ok Moving) (paste to 0 from (needed (settings_of from)))
