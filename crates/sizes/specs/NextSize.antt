-- Paper 02, K8, the statements of three sentences: "A call sets the size of put windows from the next one on; until then the size is the pool's", and "the hop
-- after a failed commit is mod the pool's w". They are over the words, of every list of calls on a new pool, and name no rule.
use Rattle.std.specs.Prelude.{ℕ, ◌+◌, ◌%◌, ◌<◌, ◌≡◌, ◌≢◌, true, List, [], ◌∷◌, get_or, eqb}
use Rattle.laws.specs.Choice.{cond}
use Rattle.rules.specs.Answers.{number_of}
use Rattle.rules.specs.Layout.{top_at, worker_at, index_at}
use Rattle.rules.specs.Fit.{Fit, checked_of}
use Rattle.rules.specs.Effects.{stride_of}
use Rattle.rules.specs.Windows.{has_windows, size_of, next_size, live_of, nth_size}
use Rattle.rules.specs.Run.{Call, begin_put, begin_take, step, set_size, call_of, Event, run}
use Rattle.rules.specs.Consequences.{words_after, OfEveryRun}
use Rattle.rules.specs.Collisions.{fails}
use Rattle.rules.specs.declared.Settings.{Settings}
use Rattle.rules.specs.declared.Size.{Size}

-- ---- the size set last
-- a size after a call: another one, where the call set it and was not refused
abbrev pub size_after : Size → Call → ℕ → Size
size_after size (begin_put i v) n = size
size_after size (begin_take i) n = size
size_after size (step i) n = size
size_after size (set_size width depth) n = cond (eqb n 0) (record { width = width; depth = depth }) size

-- after some events
unfoldable pub last_size : Size → List Event → Size
last_size size [] = size
last_size size (e ∷ es) = last_size (size_after size e.call (number_of e.answer)) es

-- "until then the size is the pool's": after every list of calls the next size is the one that was set last, or the pool's
abbrev pub NextIsLast : Settings → List ℕ → List Call → Type 0
NextIsLast g ws cs = has_windows g ≡ true → next_size (words_after g.edition ws cs) g ≡ last_size (size_of g) (run g.edition ws cs)

abbrev pub NextSizeIsLast : Type 0
NextSizeIsLast = OfEveryRun NextIsLast

-- ---- the windows that it goes to
-- words before a call and after it, between which the put window's top has changed: there is one live window more, the last, of the size that was next, and its
-- depth is what the top has grown by
pub record Rises (g : Settings) (ws vs : List ℕ) : Type 0 where
  pub live : live_of vs g ≡ live_of ws g + 1
  pub size : nth_size vs g (live_of ws g) ≡ next_size ws g
  pub top : get_or vs top_at 0 ≡ get_or ws top_at 0 + (next_size ws g).depth

-- "the size of put windows from the next one on": whichever call of a list it is that moves the put window
abbrev pub RisesBy : Settings → List ℕ → List Call → Type 0
RisesBy g ws cs =
    (c : Call) → has_windows g ≡ true
    → get_or (call_of g.edition (words_after g.edition ws cs) c).words top_at 0 ≢ get_or (words_after g.edition ws cs) top_at 0
    → Rises g (words_after g.edition ws cs) (call_of g.edition (words_after g.edition ws cs) c).words

abbrev pub RaisedHasNext : Type 0
RaisedHasNext = OfEveryRun RisesBy

-- ---- a failed commit
-- of any fit pool: where a step of worker i finds another count or version than the one seen, its index goes on by the stride, modulo the width of the pool
-- and not of the window seen
abbrev pub HopsByPool : Type 0
HopsByPool =
    (ws : List ℕ) (g : Settings) (i : ℕ) → checked_of g.edition ws ≡ Fit g → i < g.workers → fails g ws i (step i) ≡ true
    → get_or (call_of g.edition ws (step i)).words (index_at (worker_at g i)) 0
    ≡ (get_or ws (index_at (worker_at g i)) 0 + stride_of g) % g.width
