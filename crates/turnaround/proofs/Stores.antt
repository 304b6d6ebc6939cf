-- One pool in two areas, of editions 0 and 1 or of one of them: a store at the same place in both leaves one pool, for two places that are the same in one are
-- the same in the other; and so does a store to a worker's card in either.
use Prim.Native.Nat.{ℕ, suc, ◌+◌, ◌*◌, ◌≤◌, ◌<◌}
use mathlib.Core.Path.{◌≡◌, refl, sym, ap, ◌∙◌}
use mathlib.Core.Logic.{◌≢◌}
use mathlib.Core.Bool.{false}
use mathlib.Core.List.{List, [], ◌∷◌}
use native.Mathlib.Nat.{add-zero, add-suc}
use native.Mathlib.Decide.{ℕ_discrete}
use native.Mathlib.Omega.{arith}
use lib.ListN.{get_or, set, length, length-set}
use lib.Seq.{get_or-set_same, get_or-set_other, sets}
use lib.Dec.{ltb}
use borrow.Author.Tests.{ltb-true, lt-leb}
use Rattle.laws.specs.Choice.{cond, cases}
use Rattle.laws.specs.Wrap.{add32, sub32}
use Rattle.rules.specs.Layout.{steps_at, puts_at, top_at, mark_at, edition_at, settings_of, worker_words, slot_words, lost_word, workers_at, worker_at, lost_at, cell_words, cell_of, cells_at, needed, first_at, second_at}
use Rattle.rules.specs.Limits.{windowed, Bounds}
use Rattle.rules.specs.Worker.{words_of, put_slot}
use Rattle.rules.specs.Apply.{put_item, put_sub, put_landed, put_shifted, put_raised, put_dropped, put_worker, count_lost}
use Rattle.rules.specs.Make.{in_edition}
use Rattle.turnaround.specs.Turnaround.{SamePool}
use Rattle.turnaround.proofs.Types.{Settings, Slot, Row, Stamp, Effect}
use Rattle.rules.proofs.Workers.{slot_within, worker_within, same_worker, read_low, lost_apart}
use Rattle.rules.proofs.Cells.{cell_lt}
use Rattle.rules.proofs.words.Writes.{Still, still_high, settings_kept}

-- in these editions no window has a size of its own
pub windowed_old : (g : Settings) → g.edition < 2 → windowed g ≡ false
unfolding windowed
windowed_old g l = lt-leb _ _ l

-- ---- places
-- of the head and the subs, of a worker, of the cells
pub data Spot : Type 0 where
  shared : ℕ → Spot
  own : ℕ → ℕ → Spot
  celled : ℕ → Spot

abbrev pub spot_in : Settings → Spot → ℕ
spot_in g (shared m) = m
spot_in g (own i k) = worker_at g i + k
spot_in g (celled m) = cells_at g + m

-- one that a call may read, and store into
abbrev pub Within : Settings → Spot → Type 0
Within g (shared m) = (m < workers_at g) × ((p : ℕ) → Still p → p ≢ m)
Within g (own i k) = (i < g.workers) × (k < slot_words)
Within g (celled m) = m < cell_words * (g.width * g.rows)

module _ (g : Settings) where
  own_behind : (f i k : ℕ) → workers_at g ≤ worker_at (in_edition f g) i + k
  own_behind f i k = omega arith

  own_before_cells : (f i k : ℕ) → i < g.workers → k < slot_words → worker_at (in_edition f g) i + k < cells_at (in_edition f g)
  own_before_cells f i k l m = omega (arith, worker_within (in_edition f g) i l, slot_within f)

  within_other : (f : ℕ) (p : Spot) → Within g p → Within (in_edition f g) p
  within_other f (shared m) w = w
  within_other f (own i k) w = w
  within_other f (celled m) w = w

  -- they are among the needed words
  spot_needed : (f : ℕ) (p : Spot) → Within g p → spot_in (in_edition f g) p < needed (in_edition f g)
  spot_needed f (shared m) w = omega (arith, w.0)
  spot_needed f (own i k) w = omega (arith, own_before_cells f i k w.0 w.1)
  spot_needed f (celled m) w = omega arith

  -- a place is one spot's
  one_spot : (e : ℕ) (p q : Spot) → Within g p → Within g q → spot_in g p ≡ spot_in g q → spot_in (in_edition e g) p ≡ spot_in (in_edition e g) q
  one_spot e (shared m) (shared n) w z u = u
  one_spot e (shared m) (own i k) w z u = absurd (omega (arith, w.0, own_behind g.edition i k))
  one_spot e (shared m) (celled n) w z u = absurd (omega (arith, w.0))
  one_spot e (own i k) (shared n) w z u = absurd (omega (arith, z.0, own_behind g.edition i k))
  one_spot e (own i k) (own j l) w z u =
      let a = slot_within g.edition in
      let same : i ≡ j = same_worker g i j k l (omega (arith, w.1)) (omega (arith, z.1)) u in
      let here : worker_at g j + k ≡ worker_at g j + l = rw same at u in
      let word : k ≡ l = omega arith in
      rw (same, word) refl
  one_spot e (own i k) (celled n) w z u = absurd (omega (arith, own_before_cells g.edition i k w.0 w.1))
  one_spot e (celled m) (shared n) w z u = absurd (omega (arith, z.0))
  one_spot e (celled m) (own i k) w z u = absurd (omega (arith, own_before_cells g.edition i k z.0 z.1))
  one_spot e (celled m) (celled n) w z u = omega arith

-- ---- stores
module _ (g : Settings) (e : ℕ) (ws vs : List ℕ) (pool : SamePool g ws (in_edition e g) vs) where
  abbrev other : Settings
  other = in_edition e g

  pub reads : (p : Spot) → Within g p → get_or vs (spot_in other p) 0 ≡ get_or ws (spot_in g p) 0
  reads (shared m) w = pool.head m w.0 (λ u. w.1 edition_at (still_high _ (omega arith) (omega arith)) (sym u))
  reads (own i k) w = pool.worker i k w.0 w.1
  reads (celled m) w = pool.cell m w

  module _ (p : Spot) (w : Within g p) (x : ℕ) where
    abbrev one : List ℕ
    one = set ws (spot_in g p) x

    abbrev two : List ℕ
    two = set vs (spot_in other p) x

    -- at two places, of which both are the one stored into or neither is
    stored_at : (m n : ℕ) → (m ≡ spot_in g p → n ≡ spot_in other p) → (n ≡ spot_in other p → m ≡ spot_in g p) → get_or vs n 0 ≡ get_or ws m 0
        → get_or two n 0 ≡ get_or one m 0
    stored_at m n on off same = elim (ℕ_discrete m (spot_in g p)) [
      | yes y ↦
          rw (y, on y)
          (get_or-set_same vs (spot_in other p) x 0 (omega (arith, spot_needed g e p w, pool.enough_two))
          ∙ sym (get_or-set_same ws (spot_in g p) x 0 (omega (arith, spot_needed g g.edition p w, pool.enough_one))))
      | no z ↦
          get_or-set_other vs (spot_in other p) n x 0 (λ u. z (off u)) ∙ same ∙ sym (get_or-set_other ws (spot_in g p) m x 0 z)
    ]

    stored_spot : (q : Spot) → Within g q → get_or vs (spot_in other q) 0 ≡ get_or ws (spot_in g q) 0 → get_or two (spot_in other q) 0 ≡ get_or one (spot_in g q) 0
    stored_spot q z = stored_at (spot_in g q) (spot_in other q) (one_spot g e q p z w) (one_spot other g.edition q p (within_other g e q z) (within_other g e p w))

    -- a place of the head or the subs
    head_spot : (f f' : ℕ) (q : Spot) → Within g q → (m : ℕ) → m < workers_at g → m ≡ spot_in (in_edition f g) q → m ≡ spot_in (in_edition f' g) q
    head_spot f f' (shared n) z m l u = u
    head_spot f f' (own i k) z m l u = absurd (omega (arith, own_behind g f i k))
    head_spot f f' (celled n) z m l u = absurd (omega arith)

    -- no setting is stored into
    still_kept : (f : ℕ) (us : List ℕ) (m : ℕ) → Still m → get_or (set us (spot_in (in_edition f g) p) x) m 0 ≡ get_or us m 0
    still_kept f us m s = get_or-set_other us (spot_in (in_edition f g) p) m x 0 (clear p w)
      where
        clear : (q : Spot) → Within g q → m ≢ spot_in (in_edition f g) q
        clear (shared n) z u = z.1 m s u
        clear (own i k) z u = omega (arith, s.below, own_behind g f i k)
        clear (celled n) z u = omega (arith, s.below)

    pub stored : SamePool g one other two
    stored = record {
      same = refl;
      old_one = pool.old_one;
      old_two = pool.old_two;
      settings_one = settings_kept ws one (still_kept g.edition ws) ∙ pool.settings_one;
      settings_two = settings_kept vs two (still_kept e vs) ∙ pool.settings_two;
      enough_one = rw (length-set ws (spot_in g p) x) pool.enough_one;
      enough_two = rw (length-set vs (spot_in other p) x) pool.enough_two;
      head = λ m l n. stored_at m m (head_spot g.edition e p w m l) (head_spot e g.edition p w m l) (pool.head m l n);
      worker = λ i k l n. stored_spot (own i k) (l, n) (pool.worker i k l n);
      cell = λ m l. stored_spot (celled m) l (pool.cell m l);
    }

-- ---- the stores of a call
module _ (g : Settings) (e : ℕ) where
  abbrev pub OnePool : List ℕ → List ℕ → Type 0
  OnePool ws vs = SamePool g ws (in_edition e g) vs

  -- a word of the head
  one_stored : (m x y : ℕ) {ws vs : List ℕ} → m < workers_at g → ((p : ℕ) → Still p → p ≢ m) → y ≡ x → OnePool ws vs → OnePool (set ws m x) (set vs m y)
  one_stored m x y {ws} {vs} l n z pool = rw z (stored g e ws vs pool (shared m) (l, n) x)

  pub sub_stored : (j : ℕ) (f : Effect) {ws vs : List ℕ} → j < g.width → OnePool ws vs → OnePool (put_sub ws j f) (put_sub vs j f)
  unfolding put_sub
  sub_stored j f l pool =
      one_stored (second_at j) _ _ (omega arith) (λ p s u. omega (arith, s.below)) refl
      (one_stored (first_at j) _ _ (omega arith) (λ p s u. omega (arith, s.below)) refl pool)

  pub shifted_stored : (f : Effect) {ws vs : List ℕ} → OnePool ws vs → OnePool (put_shifted ws f) (put_shifted vs f)
  unfolding put_shifted
  shifted_stored f pool =
      one_stored mark_at _ _ (omega arith) (λ p s. s.mark) refl (one_stored top_at _ _ (omega arith) (λ p s. s.top) refl pool)

  pub raised_stored : (f : Effect) {ws vs : List ℕ} → OnePool ws vs → OnePool (put_raised ws g f) (put_raised vs (in_edition e g) f)
  unfolding put_raised cond
  raised_stored f pool =
      rw (windowed_old g pool.old_one, windowed_old (in_edition e g) pool.old_two) (one_stored top_at _ _ (omega arith) (λ p s. s.top) refl pool)

  pub dropped_stored : (f : Effect) {ws vs : List ℕ} → OnePool ws vs → OnePool (put_dropped ws g f) (put_dropped vs (in_edition e g) f)
  unfolding put_dropped cond
  dropped_stored f pool =
      rw (windowed_old g pool.old_one, windowed_old (in_edition e g) pool.old_two) (one_stored mark_at _ _ (omega arith) (λ p s. s.mark) refl pool)

  module _ (i : ℕ) (li : i < g.workers) where
    abbrev at : ℕ
    at = worker_at g i

    abbrev to : ℕ
    to = worker_at (in_edition e g) i

    words_stored : (xs : List ℕ) (k : ℕ) {ws vs : List ℕ} → k + length xs ≤ slot_words → OnePool ws vs → OnePool (sets ws (at + k) xs) (sets vs (to + k) xs)
    words_stored [] k l pool = pool
    words_stored (x ∷ xs) k {ws} {vs} l pool =
        rw (← add-suc at k, ← add-suc to k) (words_stored xs (suc k) (omega arith) (stored g e ws vs pool (own i k) (li, omega arith) x))

    pub slot_stored : (x : Slot) {ws vs : List ℕ} → OnePool ws vs → OnePool (put_slot g ws at x) (put_slot (in_edition e g) vs to x)
    unfolding put_slot cond
    slot_stored x pool =
        rw (windowed_old g pool.old_one, windowed_old (in_edition e g) pool.old_two)
        (rw (add-zero at, add-zero to) at (words_stored (words_of x) 0 (omega arith) pool))

    pub worker_stored : (f : Effect) {ws vs : List ℕ} → OnePool ws vs → OnePool (put_worker ws g at f) (put_worker vs (in_edition e g) to f)
    unfolding put_worker
    worker_stored f {ws} {vs} pool =
        let steps = ap (λ (n : ℕ). add32 n 1) (reads g e ws vs pool (shared steps_at) (omega arith, λ p s. s.steps)) in
        slot_stored f.slot (one_stored steps_at _ _ (omega arith) (λ p s. s.steps) steps pool)

  module _ (bounds : Bounds g) (j : ℕ) (lj : j < g.width) where
    pub landed_stored : (value : ℕ) (row : Row) (stamp : Stamp) (f : Effect) {ws vs : List ℕ} → OnePool ws vs
        → OnePool (put_landed ws g j value row stamp f) (put_landed vs (in_edition e g) j value row stamp f)
    unfolding put_landed put_item
    landed_stored value row stamp f {ws} {vs} pool =
        let cell = cell_words * (j * g.rows + cell_of g row.0) in
        let below = cell_lt g j (sub32 row.0 1) bounds lj in
        let first = stored g e ws vs pool (celled cell) (omega arith) value in
        let second = stored g e _ _ first (celled (cell + 1)) (omega arith) stamp.0 in
        let here : (f : ℕ) → cells_at (in_edition f g) + (cell + 1) ≡ cells_at (in_edition f g) + cell + 1 = λ f. omega arith in
        sub_stored j f lj (one_stored puts_at _ _ (omega arith) (λ p s. s.puts) refl (rw (here g.edition, here e) at second))

-- ---- the relation
pub turned : (g : Settings) (e : ℕ) {ws vs : List ℕ} → SamePool g ws (in_edition e g) vs → SamePool (in_edition e g) vs g ws
turned g e pool =
    record {
      same = refl;
      old_one = pool.old_two;
      old_two = pool.old_one;
      settings_one = pool.settings_two;
      settings_two = pool.settings_one;
      enough_one = pool.enough_two;
      enough_two = pool.enough_one;
      head = λ m l n. sym (pool.head m l n);
      worker = λ i k l n. sym (pool.worker i k l n);
      cell = λ m l. sym (pool.cell m l);
    }

pub joined : (g : Settings) (e f : ℕ) {ws vs us : List ℕ} → SamePool g ws (in_edition e g) vs → SamePool (in_edition e g) vs (in_edition f g) us
    → SamePool g ws (in_edition f g) us
joined g e f one two =
    record {
      same = refl;
      old_one = one.old_one;
      old_two = two.old_two;
      settings_one = one.settings_one;
      settings_two = two.settings_two;
      enough_one = one.enough_one;
      enough_two = two.enough_two;
      head = λ m l n. two.head m l n ∙ one.head m l n;
      worker = λ i k l n. two.worker i k l n ∙ one.worker i k l n;
      cell = λ m l. two.cell m l ∙ one.cell m l;
    }

-- ---- cards
module _ (g : Settings) (e i : ℕ) (li : i < g.workers) where
  -- a store to a worker's card, in one of the areas
  card_stored : (x : ℕ) {ws vs : List ℕ} → lost_word < worker_words g.edition → OnePool g e ws vs → OnePool g e (set ws (lost_at (worker_at g i)) x) vs
  card_stored x {ws} cards pool =
      let card = lost_at (worker_at g i) in
      let off : (m : ℕ) → m ≢ card → get_or (set ws card x) m 0 ≡ get_or ws m 0 = λ m n. get_or-set_other ws card m x 0 n in
      record {
        same = refl;
        old_one = pool.old_one;
        old_two = pool.old_two;
        settings_one = settings_kept ws (set ws card x) (λ m s. off m (λ u. omega (arith, s.below))) ∙ pool.settings_one;
        settings_two = pool.settings_two;
        enough_one = rw (length-set ws card x) pool.enough_one;
        enough_two = pool.enough_two;
        head = λ m l n. pool.head m l n ∙ sym (off m (λ u. omega arith));
        worker = λ k m l n. pool.worker k m l n ∙ sym (off _ (lost_apart g i k m cards (read_low g.edition m n)));
        cell = λ m l. pool.cell m l ∙ sym (off _ (λ u. omega (arith, worker_within g i li)));
      }

  -- a failed commit counted, in an edition that does
  counted_one : {ws vs : List ℕ} → OnePool g e ws vs → OnePool g e (count_lost ws g (worker_at g i)) vs
  unfolding count_lost
  counted_one {ws} {vs} pool =
      cases (λ (us : List ℕ). OnePool g e us vs) (ltb lost_word (worker_words g.edition)) _ _ (λ t. card_stored _ (ltb-true _ _ t) pool) (λ t. pool)

pub counted_stored : (g : Settings) (e i : ℕ) → i < g.workers → {ws vs : List ℕ} → SamePool g ws (in_edition e g) vs
    → SamePool g (count_lost ws g (worker_at g i)) (in_edition e g) (count_lost vs (in_edition e g) (worker_at (in_edition e g) i))
counted_stored g e i li pool =
    turned (in_edition e g) g.edition (counted_one (in_edition e g) g.edition i li (turned g e (counted_one g e i li pool)))

-- ---- a pool is itself
pub itself : (g : Settings) {ws : List ℕ} → g.edition < 2 → settings_of ws ≡ g → needed g ≤ length ws → SamePool g ws g ws
itself g old is long =
    record {
      same = refl;
      old_one = old;
      old_two = old;
      settings_one = is;
      settings_two = is;
      enough_one = long;
      enough_two = long;
      head = λ m l n. refl;
      worker = λ i k l n. refl;
      cell = λ m l. refl;
    }
