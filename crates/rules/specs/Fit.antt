-- "Fit", of an edition, and the order of the refusals before it.
use Rattle.std.specs.Prelude.{ℕ, Result, Ok, Err, ◌+◌, ◌-◌, ◌*◌, ◌<◌, ◌≤◌, ◌≡◌, ◌≢◌, List, [], ◌∷◌, Bool, true, false, get_or, length, ltb, leb, eqb}
use Rattle.laws.specs.Choice.{cond, both, all, all_below}
use Rattle.rules.specs.Layout.{head_words, top_at, mark_at, worker_at, phase_at, index_at, scan_at, windows_at, windows_words, set_at, needed, settings_of, first_of, second_of}
use Rattle.rules.specs.Limits.{settings_fit, windowed, size_fit, deepest, most_live, Bounds}
use Rattle.rules.specs.Make.{in_edition}
use Rattle.rules.specs.Windows.{has_windows, no_size, next_size, live_of, nth_size, bottom_of, level_of}
use Rattle.rules.specs.Worker.{window_phase, check_phase, confirm_phase, side_base, number_for, slot_at}
use Rattle.rules.specs.Answers.{refusal_number}
use Rattle.rules.specs.declared.Refusal.{Refusal}
use Rattle.rules.specs.declared.Settings.{Settings}
use Rattle.rules.specs.declared.Size.{Size}
use Rattle.rules.specs.declared.Slot.{Slot}
use Rattle.rules.specs.declared.Side.TheVariants.{Putting, Taking}
use Rattle.rules.specs.declared.Refusal.TheVariants.{NotFit, TooFewWords, WrongEdition}

-- ---- the subs
-- "its two last rows are equal, or .. the last put row is above the higher of the last taken row and the take window's bottom by 1 to R". Where the
-- words are counts: items taken at most items put, and put minus taken at most R
abbrev pub above_by : ℕ → ℕ → ℕ → Bool
above_by rows put level = both (ltb level put) (leb (put - level) rows)

abbrev pub queue_sub_fit : Settings → ℕ → ℕ → ℕ → Bool
queue_sub_fit g bottom put taken = cond (eqb put taken) true (above_by g.rows put (level_of g taken bottom))

-- or held at most R
unfoldable pub sub_fit : Settings → ℕ → ℕ → ℕ → Bool
sub_fit g bottom first second = cond (eqb g.kind 0) (queue_sub_fit g bottom first second) (leb first g.rows)

unfoldable pub subs_fit : List ℕ → Settings → Bool
subs_fit ws g = all_below g.width (λ j. sub_fit g (bottom_of ws g 0) (first_of ws j) (second_of ws j))

-- a phase of the pool's kind: 0 to 6 and 9 to 14, and in a queue neither 3, 6 nor 11
unfoldable pub phase_fit : ℕ → ℕ → Bool
phase_fit kind x =
    cond (ltb (number_for Taking confirm_phase) x) false
    (cond (both (ltb (number_for Putting confirm_phase) x) (leb x (side_base Taking))) false
    (cond (eqb kind 0)
    (cond (eqb x (number_for Putting check_phase)) false (cond (eqb x (number_for Putting confirm_phase)) false (cond (eqb x (number_for Taking check_phase)) false true)))
    true))

-- "past its window phase": neither idle nor about to look at the window
abbrev pub past_window : ℕ → Bool
past_window x = cond (leb x (number_for Putting window_phase)) false (cond (eqb x (number_for Taking window_phase)) false true)

-- "a line's worker past its window phase fits only with a seen width of 1 to w, and index and scan below that width"
abbrev pub span_limits : Settings → Slot → List Bool
span_limits g s = leb 1 s.width ∷ leb s.width g.width ∷ ltb s.index s.width ∷ ltb s.scan s.width ∷ []

-- the words of the window seen, where the edition has them: "a pile has zeros in all of these"
unfoldable pub seen_fit : Settings → Slot → Bool
seen_fit g s =
    cond (windowed g) (cond (eqb g.kind 0) (cond (past_window s.number) (all (span_limits g s)) true) (both (eqb s.bottom 0) (eqb s.width 0))) true

-- a phase, an index below w, a scan below w; the other words are free
abbrev pub worker_limits : Settings → Slot → List Bool
worker_limits g s = phase_fit g.kind s.number ∷ ltb s.index g.width ∷ ltb s.scan g.width ∷ seen_fit g s ∷ []

unfoldable pub worker_fit : Settings → Slot → Bool
worker_fit g s = all (worker_limits g s)

unfoldable pub workers_fit : List ℕ → Settings → Bool
workers_fit ws g = all_below g.workers (λ i. worker_fit g (slot_at g ws (worker_at g i)))

-- ---- the windows
-- "1 to 16 are live, next and live sizes are in limits", zero beyond
abbrev pub no_size_fit : Size → Bool
no_size_fit size = both (eqb size.width 0) (eqb size.depth 0)

abbrev pub pair_fit : List ℕ → Settings → ℕ → Bool
pair_fit ws g k = cond (ltb k (live_of ws g)) (size_fit g (nth_size ws g k)) (no_size_fit (nth_size ws g k))

abbrev pub sizes_fit : List ℕ → Settings → List Bool
sizes_fit ws g = leb 1 (live_of ws g) ∷ leb (live_of ws g) most_live ∷ size_fit g (next_size ws g) ∷ all_below most_live (pair_fit ws g) ∷ []

-- "and from the first top, T, they lead up to P with no bottom below 0"; as whole numbers
abbrev pub tops_fit : List ℕ → Settings → List Bool
tops_fit ws g = leb (nth_size ws g 0).depth (get_or ws mark_at 0) ∷ eqb (bottom_of ws g (live_of ws g)) (get_or ws top_at 0) ∷ []

-- "Fitness asks for these zeros and a set word of 0 or 1"
unfoldable pub windows_fit : List ℕ → Settings → Bool
windows_fit ws g =
    cond (has_windows g) (both (leb (get_or ws (set_at g) 0) 1) (both (all (sizes_fit ws g)) (all (tops_fit ws g))))
    (all_below (windows_words g.edition) (λ k. eqb (get_or ws (windows_at g + k) 0) 0))

-- ---- the check
-- a pool's settings where it is fit, or why it is refused
pub data Checked : Type 0 where
  Unfit : Refusal → Checked
  Fit : Settings → Checked

-- the rest of fit: the windows, the subs and the workers
abbrev pub body_fit : List ℕ → Settings → List Bool
body_fit ws g = windows_fit ws g ∷ subs_fit ws g ∷ workers_fit ws g ∷ []

-- 21 for the needed words, then 23
unfoldable pub body_checked : List ℕ → Settings → Checked
body_checked ws g =
    cond (ltb (length ws) (needed g)) (Unfit TooFewWords)
    (cond (all (body_fit ws g)) (Fit g) (Unfit NotFit))

-- 23 for the settings by the edition that is asked for, the stride in word 10 among them, then `other` where word 11 is not the edition that is asked for, then the above
unfoldable pub head_checked : Refusal → ℕ → List ℕ → Settings → Checked
head_checked other e ws g = cond (settings_fit (in_edition e g)) (cond (eqb g.edition e) (body_checked ws g) (Unfit other)) (Unfit NotFit)

-- 21 for 12 words first
unfoldable pub checked_by : Refusal → ℕ → List ℕ → Checked
checked_by other e ws = cond (ltb (length ws) head_words) (Unfit TooFewWords) (head_checked other e ws (settings_of ws))

-- the check before a call: of another edition is not fit
abbrev pub checked_of : ℕ → List ℕ → Checked
checked_of e ws = checked_by NotFit e ws

-- the check before a move (crates/turnaround), K6: "The order of checks is the source's first 12 words, its settings and stride, its edition, its needed
-- words, the rest of its fitness": a call's check, but that "it refuses an image of the wrong edition for the direction with 31"
abbrev pub source_checked : ℕ → List ℕ → Checked
source_checked a from = checked_by WrongEdition a from

-- the number of a refusal; 0 for a fit pool
abbrev pub refusal_of : Checked → ℕ
refusal_of (Unfit refusal) = refusal_number refusal
refusal_of (Fit g) = 0

-- as the code hands it on: nothing of a fit pool, or its settings
abbrev pub fitness_of : Checked → Result (Unit {0}) Refusal
fitness_of (Unfit refusal) = Err refusal
fitness_of (Fit g) = Ok tt

abbrev pub settings_found : Checked → Result Settings Refusal
settings_found (Unfit refusal) = Err refusal
settings_found (Fit g) = Ok g

-- ---- what a test that passed has shown
-- what a sub that fits has
pub record SubFits (g : Settings) (bottom first second : ℕ) : Type 0 where
  pub queue_order : g.kind ≡ 0 → second ≤ first
  pub queue_rows : g.kind ≡ 0 → first ≢ second → first ≤ level_of g second bottom + g.rows
  pub queue_level : g.kind ≡ 0 → first ≢ second → level_of g second bottom < first
  pub stack_rows : 1 ≤ g.kind → first ≤ g.rows

-- what a size within limits has
pub record SizeFits (g : Settings) (size : Size) : Type 0 where
  pub width1 : 1 ≤ size.width
  pub width_most : size.width ≤ g.width
  pub depth1 : 1 ≤ size.depth
  pub depth64 : size.depth ≤ deepest
  pub depth_half : 2 * size.depth ≤ g.rows

-- what the window has that a worker has seen
pub record SpanFits (g : Settings) (s : Slot) : Type 0 where
  pub width1 : 1 ≤ s.width
  pub width_most : s.width ≤ g.width
  pub index : s.index < s.width
  pub scan : s.scan < s.width

-- what a queue's windows that fit have
pub record WindowsFit (g : Settings) (ws : List ℕ) : Type 0 where
  pub set_most : get_or ws (set_at g) 0 ≤ 1
  pub live1 : 1 ≤ live_of ws g
  pub live16 : live_of ws g ≤ most_live
  pub next : SizeFits g (next_size ws g)
  pub size : (k : ℕ) → k < live_of ws g → SizeFits g (nth_size ws g k)
  pub none : (k : ℕ) → live_of ws g ≤ k → k < most_live → nth_size ws g k ≡ no_size
  pub low : (nth_size ws g 0).depth ≤ get_or ws mark_at 0
  pub lead : bottom_of ws g (live_of ws g) ≡ get_or ws top_at 0

-- what a fit pool has
pub record FitPool (g : Settings) (ws : List ℕ) : Type 0 where
  pub bounds : Bounds g
  pub enough : needed g ≤ length ws
  pub settings : settings_of ws ≡ g
  pub sub : (j : ℕ) → j < g.width → SubFits g (bottom_of ws g 0) (first_of ws j) (second_of ws j)
  pub index : (i : ℕ) → i < g.workers → get_or ws (index_at (worker_at g i)) 0 < g.width
  pub scan : (i : ℕ) → i < g.workers → get_or ws (scan_at (worker_at g i)) 0 < g.width
  pub span : (i : ℕ) → i < g.workers → has_windows g ≡ true → past_window (get_or ws (phase_at (worker_at g i)) 0) ≡ true → SpanFits g (slot_at g ws (worker_at g i))
  pub windows : has_windows g ≡ true → WindowsFit g ws
