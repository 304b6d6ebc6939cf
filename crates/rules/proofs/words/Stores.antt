-- What a worker reads of words that say the machine's state, and what they say after a begin, with a failed commit counted, after a size call, with a
-- queue's window moved, and after a step that adds no held row, whatever the counts. An outcome stores less than all that a step may store, and leaves
-- the same words (Writes).
use mathlib.Core.Path.{◌≡◌, refl, sym, ap, ◌∙◌}
use mathlib.Core.Logic.{◌≢◌, ◌⊎◌, inl, inr}
use mathlib.Core.Bool.{Bool, true, false, false≢true}
use mathlib.Core.List.{List}
use Prim.Native.Nat.{ℕ, suc, ◌+◌, ◌-◌, ◌≤◌, ◌<◌}
use native.Mathlib.Decide.{ℕ_discrete, dec_lt}
use native.Mathlib.Omega.{arith}
use lib.ListN.{length, get_or, set, length-set}
use lib.Seq.{get_or-set_other}
use lib.Dec.{ltb}
use borrow.Author.Tests.{ltb-true, lt-ltb, le-ltb}
use Rattle.laws.specs.Choice.{cond, cases, both_true}
use Rattle.rules.specs.Limits.{step_limit, windowed, most_live, Bounds}
use Rattle.rules.specs.Layout.{steps_at, puts_at, top_at, mark_at, sub_at, workers_at, worker_at, cells_at, windows_at, next_width_at, next_depth_at, set_at, live_at, pair_at, worker_words, lost_word, index_at, lost_at, second_at}
use Rattle.rules.specs.Windows.{has_windows, no_size, live_of, nth_size, sizes_of}
use Rattle.rules.specs.Worker.{slot_at, put_slot, decode}
use Rattle.rules.specs.Effects.{view_of}
use Rattle.rules.specs.Apply.{count_lost, put_shifted, put_raised, put_dropped, put_worker}
use Rattle.rules.specs.Resize.{put_size}
use Rattle.rules.proofs.Types.{Settings, Size, Slot, Effect}
use Rattle.rules.proofs.Workers.{Read, windows_none, windows_some, windowed_is, windowed_not, worker_within, slots_apart, lost_apart}
use Rattle.rules.proofs.counts.Sums.{upd, upd_same, upd_other}
use Rattle.rules.proofs.machine.Machine.{Frame, State, top_of, size_at, sizes_in, raised_of, dropped_of, with_slot, with_size, sub_in, view_in, framed_in, after_in}
use Rattle.rules.proofs.machine.Slots.{Blank, has_none, windowed_none}
use Rattle.rules.proofs.machine.Turns.{LiveFits}
use Rattle.rules.proofs.machine.Does.{SameItems, SameWindow, Keeps, same_keeps, Rises, Drops}
use Rattle.rules.proofs.words.Says.{Says, WindowsSay}
use Rattle.rules.proofs.words.Writes.{settings_kept, slot_length, slot_off, slot_on, slot_kept, item_kept, item_kept_below, size_same, next_same, shared_set, SamePuts, SameTop, SameSub, still_shared, shifted_shared, raised_length, raised_below, raised_top, raised_live, raised_size, raised_last, dropped_length, dropped_below, dropped_mark, dropped_live, dropped_size, dropped_last, sized_length, sized_off, sized_set, sized_next}
use Rattle.rules.proofs.words.After.{windows_kept, after_says, keeps_cells}

-- ---- words that differ in the workers' alone
abbrev with_slots : State → (ℕ → Slot) → State
with_slots s slot =
    record {
      steps = s.steps;
      puts = s.puts;
      top = s.top;
      mark = s.mark;
      next = s.next;
      set = s.set;
      frame = s.frame;
      first = s.first;
      second = s.second;
      item = s.item;
      slot = slot;
    }

-- a place outside of them
abbrev Outside : Settings → ℕ → Type 0
Outside g m = (m < workers_at g) ⊎ (cells_at g ≤ m)

pub says_workers : (g : Settings) (ws vs : List ℕ) (s : State) → Says g ws s → length vs ≡ length ws → ((m : ℕ) → Outside g m → get_or vs m 0 ≡ get_or ws m 0)
    → (slot : ℕ → Slot) → ((m : ℕ) → m < g.workers → slot_at g vs (worker_at g m) ≡ slot m) → Says g vs (with_slots s slot)
says_workers g ws vs s says long off slot slots =
    let low : (m : ℕ) → m < workers_at g → get_or vs m 0 ≡ get_or ws m 0 = λ m l. off m (inl l) in
    let high : (m : ℕ) → windows_at g ≤ m → get_or vs m 0 ≡ get_or ws m 0 = λ m l. off m (inr (omega arith)) in
    record {
      long = rw long says.long;
      settings = settings_kept ws vs (λ m h. low m (omega (arith, h.below))) ∙ says.settings;
      steps = low steps_at (omega arith) ∙ says.steps;
      puts = low puts_at (omega arith) ∙ says.puts;
      top = low top_at (omega arith) ∙ says.top;
      mark = low mark_at (omega arith) ∙ says.mark;
      first = λ k l. low (sub_at k) (omega arith) ∙ says.first k l;
      second = λ k l. low (second_at k) (omega arith) ∙ says.second k l;
      slot = slots;
      cell = λ j r l a b y. item_kept g ws vs (λ m c. off m (inr c)) j r ∙ says.cell j r l a b y;
      windows = λ has. windows_kept g ws vs s (with_slots s slot) high refl refl refl (says.windows has);
      blank = λ none k l. high (windows_at g + k) (omega arith) ∙ says.blank none k l;
    }

-- a worker's words stored: a begin
pub begun_says : (g : Settings) (ws : List ℕ) (s : State) → Says g ws s → (i : ℕ) → i < g.workers → (x : Slot) → Blank g x → Says g (put_slot g ws (worker_at g i) x) (with_slot s i x)
begun_says g ws s says i li x blank =
    let at = worker_at g i in
    let vs = put_slot g ws at x in
    says_workers g ws vs s says (slot_length g ws at x) (λ m o. slot_off g ws at x m (beside m o)) (upd s.slot i x) (λ m l. elim (ℕ_discrete m i) [
      | yes y ↦ rw y (slot_on g ws at x (omega (arith, says.long, worker_within g i li)) (λ old. blank (has_none g old)) ∙ sym (upd_same s.slot i x))
      | no n ↦
          slot_kept g ws vs (worker_at g m) (λ k a. slot_off g ws at x (worker_at g m + k) (λ y r. slots_apart g i m k y a r n))
          ∙ says.slot m l ∙ sym (upd_other s.slot i x m n)
    ])
  where
    beside : (m : ℕ) → Outside g m → (k : ℕ) → Read g.edition k → m ≢ worker_at g i + k
    beside m (inl l) k r u = omega arith
    beside m (inr l) k r u = omega (arith, r.there, worker_within g i li)

-- a failed commit counted: nothing that the words say changes
lost_says : (g : Settings) (ws : List ℕ) (s : State) → Says g ws s → (i : ℕ) → i < g.workers → lost_word < worker_words g.edition → (x : ℕ)
    → Says g (set ws (lost_at (worker_at g i)) x) s
lost_says g ws s says i li cards x =
    let vs = set ws (lost_at (worker_at g i)) x in
    let off : (m : ℕ) → m ≢ lost_at (worker_at g i) → get_or vs m 0 ≡ get_or ws m 0 = λ m n. get_or-set_other ws (lost_at (worker_at g i)) m x 0 n in
    says_workers g ws vs s says (length-set ws _ x) (λ m o. off m (elsewhere m o)) s.slot
    (λ m l. slot_kept g ws vs (worker_at g m) (λ k a. off (worker_at g m + k) (lost_apart g i m k cards a)) ∙ says.slot m l)
  where
    elsewhere : (m : ℕ) → Outside g m → m ≢ lost_at (worker_at g i)
    elsewhere m (inl l) u = omega arith
    elsewhere m (inr l) u = omega (arith, worker_within g i li)

pub counted_says : (g : Settings) (ws : List ℕ) (s : State) → Says g ws s → (i : ℕ) → i < g.workers → Says g (count_lost ws g (worker_at g i)) s
unfolding count_lost
counted_says g ws s says i li =
    cases (λ (vs : List ℕ). Says g vs s) (ltb lost_word (worker_words g.edition)) _ _ (λ e. lost_says g ws s says i li (ltb-true _ _ e) _) (λ e. says)

-- ---- a queue's windows
-- with other windows, P and T
abbrev pub moved_in : State → ℕ → ℕ → Frame → State
moved_in s top mark f =
    record {
      steps = s.steps;
      puts = s.puts;
      top = top;
      mark = mark;
      next = s.next;
      set = s.set;
      frame = f;
      first = s.first;
      second = s.second;
      item = s.item;
      slot = s.slot;
    }

-- words that differ in these alone
says_moved : (g : Settings) → Bounds g → (ws vs : List ℕ) (s : State) → Says g ws s → g.kind ≡ 0 → length vs ≡ length ws
    → ((m : ℕ) → m ≢ top_at → m ≢ mark_at → m < windows_at g → get_or vs m 0 ≡ get_or ws m 0)
    → (top mark : ℕ) (f : Frame) → get_or vs top_at 0 ≡ top → get_or vs mark_at 0 ≡ mark → (has_windows g ≡ true → WindowsSay g vs (moved_in s top mark f))
    → Says g vs (moved_in s top mark f)
says_moved g b ws vs s says queue long off top mark f top_is mark_is windows =
    record {
      long = rw long says.long;
      settings = settings_kept ws vs (λ m h. off m h.top h.mark (omega (arith, h.below))) ∙ says.settings;
      steps = off steps_at (λ u. omega arith) (λ u. omega arith) (omega arith) ∙ says.steps;
      puts = off puts_at (λ u. omega arith) (λ u. omega arith) (omega arith) ∙ says.puts;
      top = top_is;
      mark = mark_is;
      first = λ k l. off (sub_at k) (λ u. omega arith) (λ u. omega arith) (omega arith) ∙ says.first k l;
      second = λ k l. off (second_at k) (λ u. omega arith) (λ u. omega arith) (omega arith) ∙ says.second k l;
      slot = λ i l. slot_kept g ws vs (worker_at g i) (λ k r. off (worker_at g i + k) (λ u. omega arith) (λ u. omega arith) (omega (arith, r.there, worker_within g i l))) ∙ says.slot i l;
      cell = λ j r l a c y. item_kept_below g b ws vs (λ m low high. off m (λ u. omega arith) (λ u. omega arith) high) j r l ∙ says.cell j r l a c y;
      windows = windows;
      blank = λ none k l. absurd (omega (arith, windows_none g.edition (windowed_not g (windowed_none g queue none))));
    }

module _ (g : Settings) (b : Bounds g) (ws : List ℕ) (s : State) (says : Says g ws s) (e : Effect) where
  abbrev f : Frame
  f = s.frame

  -- the put window raised
  module _ (queue : g.kind ≡ 0) (live : has_windows g ≡ true → LiveFits g s) (room : has_windows g ≡ true → suc f.tail - f.head < most_live)
      (top_is : has_windows g ≡ true → e.top ≡ top_of f + s.next.depth) where
    abbrev up : Frame
    up = raised_of f s.next.width e.top

    raised_windows : has_windows g ≡ true → WindowsSay g (put_raised ws g e) (moved_in s e.top s.mark up)
    raised_windows has =
        let new = (both_true (windowed g) _ has).0 in
        let win = says.windows has in
        let h = live has in
        let few : live_of ws g < most_live = omega (arith, win.live, room has) in
        let low : (m : ℕ) → windows_at g ≤ m → m < live_at g → get_or (put_raised ws g e) m 0 ≡ get_or ws m 0 = λ m a c. raised_below ws g e m (λ u. omega arith) c in
        record {
          next = next_same ws (put_raised ws g e) g (low (next_width_at g) (omega arith) (omega arith)) (low (next_depth_at g) (omega arith) (omega arith)) ∙ win.next;
          set = low (set_at g) (omega arith) (omega arith) ∙ win.set;
          live = raised_live ws g e new few says.long ∙ omega (arith, win.live, h.order);
          size = λ k l. size new win h few k l (ℕ_discrete k (live_of ws g));
          none = λ k l m. raised_size ws g e new few says.long k (λ u. omega (arith, win.live, h.order)) ∙ win.none k (omega arith) m;
        }
      where
        size : windowed g ≡ true → WindowsSay g ws s → LiveFits g s → live_of ws g < most_live → (k : ℕ) → f.head + k ≤ suc f.tail → Dec (k ≡ live_of ws g)
            → nth_size (put_raised ws g e) g k ≡ size_at up (f.head + k)
        size new win h few k l (yes y) =
            let at : f.head + k ≡ suc f.tail = omega (arith, win.live, h.order) in
            let wide : up.wide (suc f.tail) ≡ s.next.width = upd_same f.wide (suc f.tail) s.next.width in
            let top : up.base (suc (suc f.tail)) ≡ e.top = upd_same f.base (suc (suc f.tail)) e.top in
            let bottom : up.base (suc f.tail) ≡ top_of f = upd_other f.base (suc (suc f.tail)) e.top (suc f.tail) (λ u. omega arith) in
            let deep : s.next.depth ≡ up.base (suc (suc f.tail)) - up.base (suc f.tail) = omega (arith, top_is has) in
            ap (nth_size (put_raised ws g e) g) y ∙ raised_last ws g e new few says.long ∙ win.next
            ∙ (rw at (λ u. record { width = sym wide u; depth = deep u }))
        size new win h few k l (no n) =
            let inside : f.head + k ≤ f.tail = omega (arith, win.live, h.order) in
            let wide : up.wide (f.head + k) ≡ f.wide (f.head + k) = upd_other f.wide (suc f.tail) s.next.width (f.head + k) (λ u. omega arith) in
            let top : up.base (suc (f.head + k)) ≡ f.base (suc (f.head + k)) = upd_other f.base (suc (suc f.tail)) e.top (suc (f.head + k)) (λ u. omega arith) in
            let bottom : up.base (f.head + k) ≡ f.base (f.head + k) = upd_other f.base (suc (suc f.tail)) e.top (f.head + k) (λ u. omega arith) in
            raised_size ws g e new few says.long k n ∙ win.size k inside ∙ (rw (wide, top, bottom) refl)

    pub raised_says : Says g (put_raised ws g e) (moved_in s e.top s.mark up)
    raised_says =
        says_moved g b ws (put_raised ws g e) s says queue (raised_length ws g e)
        (λ m a c l. raised_below ws g e m a (omega arith)) e.top s.mark up
        (raised_top ws g e (omega (arith, says.long))) (raised_below ws g e mark_at (λ u. omega arith) (omega arith) ∙ says.mark) raised_windows

  -- the take window dropped
  module _ (queue : g.kind ≡ 0) (live : has_windows g ≡ true → LiveFits g s) (below : has_windows g ≡ true → f.head < f.tail) where
    abbrev down : Frame
    down = dropped_of f

    dropped_windows : has_windows g ≡ true → WindowsSay g (put_dropped ws g e) (moved_in s s.top e.mark down)
    dropped_windows has =
        let new = (both_true (windowed g) _ has).0 in
        let win = says.windows has in
        let h = live has in
        let low : (m : ℕ) → windows_at g ≤ m → m < live_at g → get_or (put_dropped ws g e) m 0 ≡ get_or ws m 0 = λ m a c. dropped_below ws g e m (λ u. omega arith) c in
        record {
          next = next_same ws (put_dropped ws g e) g (low (next_width_at g) (omega arith) (omega arith)) (low (next_depth_at g) (omega arith) (omega arith)) ∙ win.next;
          set = low (set_at g) (omega arith) (omega arith) ∙ win.set;
          live = dropped_live ws g e new says.long ∙ omega (arith, win.live, h.order);
          size = λ k l.
              let z : f.head + suc k ≡ suc f.head + k = omega arith in
              dropped_size ws g e new says.long k (omega (arith, h.live)) ∙ win.size (suc k) (omega arith) ∙ ap (size_at f) z;
          none = λ k l m. none new win h k l m (ℕ_discrete k (most_live - 1));
        }
      where
        none : windowed g ≡ true → WindowsSay g ws s → LiveFits g s → (k : ℕ) → f.tail < suc f.head + k → k < most_live → Dec (k ≡ most_live - 1)
            → nth_size (put_dropped ws g e) g k ≡ no_size
        none new win h k l m (yes y) = rw y (dropped_last ws g e new says.long)
        none new win h k l m (no n) = dropped_size ws g e new says.long k (omega arith) ∙ win.none (suc k) (omega arith) (omega arith)

    pub dropped_says : Says g (put_dropped ws g e) (moved_in s s.top e.mark down)
    dropped_says =
        says_moved g b ws (put_dropped ws g e) s says queue (dropped_length ws g e)
        (λ m a c l. dropped_below ws g e m c (omega arith)) s.top e.mark down
        (dropped_below ws g e top_at (λ u. omega arith) (omega arith) ∙ says.top) (dropped_mark ws g e (omega (arith, says.long))) dropped_windows

-- a size set
pub sized_says : (g : Settings) → Bounds g → (ws : List ℕ) (s : State) → Says g ws s → has_windows g ≡ true → (size : Size) → Says g (put_size ws g size) (with_size s size)
sized_says g b ws s says has size =
    let vs = put_size ws g size in
    let new = (both_true (windowed g) _ has).0 in
    let there : set_at g < length ws = omega (arith, says.long, windows_some g.edition (windowed_is g new)) in
    let low : (m : ℕ) → m < windows_at g → get_or vs m 0 ≡ get_or ws m 0 = λ m l. sized_off ws g size m (λ u. omega arith) (λ u. omega arith) (λ u. omega arith) in
    let pair : (k : ℕ) → nth_size vs g k ≡ nth_size ws g k =
    λ k. size_same ws vs g k k (sized_off ws g size (pair_at g k) (λ u. omega arith) (λ u. omega arith) (λ u. omega arith))
    (sized_off ws g size (pair_at g k + 1) (λ u. omega arith) (λ u. omega arith) (λ u. omega arith)) in
    let win = says.windows has in
    record {
      long = rw (sized_length ws g size) says.long;
      settings = settings_kept ws vs (λ m h. low m (omega (arith, h.below))) ∙ says.settings;
      steps = low steps_at (omega arith) ∙ says.steps;
      puts = low puts_at (omega arith) ∙ says.puts;
      top = low top_at (omega arith) ∙ says.top;
      mark = low mark_at (omega arith) ∙ says.mark;
      first = λ k l. low (sub_at k) (omega arith) ∙ says.first k l;
      second = λ k l. low (second_at k) (omega arith) ∙ says.second k l;
      slot = λ i l. slot_kept g ws vs (worker_at g i) (λ k r. low (worker_at g i + k) (omega (arith, r.there, worker_within g i l))) ∙ says.slot i l;
      cell = λ j r l a c y. item_kept_below g b ws vs (λ m x z. low m z) j r l ∙ says.cell j r l a c y;
      windows = λ h. record {
        next = sized_next ws g size there;
        set = sized_set ws g size there;
        live = sized_off ws g size (live_at g) (λ u. omega arith) (λ u. omega arith) (λ u. omega arith) ∙ win.live;
        size = λ k l. pair k ∙ win.size k l;
        none = λ k l m. pair k ∙ win.none k l m;
      };
      blank = λ none. absurd (no_both has none);
    }
  where
    no_both : has_windows g ≡ true → has_windows g ≡ false → ⊥
    no_both x y = false≢true (sym y ∙ x)

module _ (g : Settings) (ws : List ℕ) (s : State) (says : Says g ws s) (i : ℕ) (li : i < g.workers) where
  pub index_same : get_or ws (index_at (worker_at g i)) 0 ≡ sub_in s i
  unfolding slot_at
  index_same = ap (λ (x : Slot). x.index) (says.slot i li)

  pub number_same : get_or ws (worker_at g i) 0 ≡ (s.slot i).number
  unfolding slot_at
  number_same = ap (λ (x : Slot). x.number) (says.slot i li)

  -- the sizes that a worker reads
  pub sizes_same : (has_windows g ≡ true → LiveFits g s) → sizes_of ws g ≡ sizes_in g s
  unfolding sizes_of sizes_in cond
  sizes_same live = go (has_windows g) refl
    where
      go : (t : Bool) → has_windows g ≡ t → sizes_of ws g ≡ sizes_in g s
      go true e =
          let win = says.windows e in
          let h = live e in
          let put : nth_size ws g (live_of ws g - 1) ≡ size_at s.frame s.frame.tail =
          let z : s.frame.head + (live_of ws g - 1) ≡ s.frame.tail = omega (arith, win.live, h.order) in
          win.size (live_of ws g - 1) (omega arith) ∙ ap (size_at s.frame) z in
          let take : nth_size ws g 0 ≡ size_at s.frame s.frame.head =
          let z : s.frame.head + 0 ≡ s.frame.head = omega arith in
          win.size 0 (omega (arith, h.order)) ∙ ap (size_at s.frame) z in
          rw e (λ u. record { put = put u; take = take u; after = after win h u; next = win.next u; live = win.live u })
        where
          after : WindowsSay g ws s → LiveFits g s → nth_size ws g 1 ≡ cond (ltb s.frame.head s.frame.tail) (size_at s.frame (suc s.frame.head)) no_size
          after win h = elim (dec_lt s.frame.head s.frame.tail) [
            | yes y ↦
                let z : s.frame.head + 1 ≡ suc s.frame.head = omega arith in
                rw (lt-ltb s.frame.head s.frame.tail y) (win.size 1 (omega arith) ∙ ap (size_at s.frame) z)
            | no n ↦ rw (le-ltb s.frame.head s.frame.tail (omega arith)) (win.none 1 (omega arith) (omega arith))
          ]
      go false e = rw e refl

  module _ (lj : sub_in s i < g.width) (live : has_windows g ≡ true → LiveFits g s) where
    pub view_same : view_of ws g (worker_at g i) ≡ view_in g s i
    unfolding view_of
    view_same =
        let a = ap (λ (x : ℕ). get_or ws (sub_at x) 0) index_same ∙ says.first (sub_in s i) lj in
        let b = ap (λ (x : ℕ). get_or ws (second_at x) 0) index_same ∙ says.second (sub_in s i) lj in
        λ u. record {
          top = says.top u;
          mark = says.mark u;
          sizes = sizes_same live u;
          puts = says.puts u;
          first = a u;
          second = b u;
          worker = decode g (says.slot i li u);
          kept = says.slot i li u;
        }

  module _ (lj : sub_in s i < g.width) (few : s.steps < step_limit) (e : Effect) (blank : Blank g e.slot) where
    -- where the words are as they were
    pub puts_as : e.puts ≡ s.puts → SamePuts ws (sub_in s i) e
    puts_as h = says.puts ∙ sym h

    pub top_as : SameWindow (view_in g s i) e → SameTop ws (sub_in s i) e
    top_as h = (says.top ∙ sym h.top, says.mark ∙ sym h.mark)

    sub_as : SameItems (view_in g s i) e → SameSub ws (sub_in s i) e
    sub_as h = (says.first _ lj ∙ sym h.first, says.second _ lj ∙ sym h.second)

    -- from what an outcome stores to all that a step may store
    pub stores : (vs : List ℕ) → vs ≡ shared_set ws (sub_in s i) e → Keeps g (view_in g s i) e → Says g (put_worker vs g (worker_at g i) e) (after_in s i e)
    stores vs same h = rw same (after_says g ws s says i li lj e few blank (keeps_cells g ws s says i li lj e h))

    pub stores_worker : SameItems (view_in g s i) e × SameWindow (view_in g s i) e → Says g (put_worker ws g (worker_at g i) e) (after_in s i e)
    stores_worker h =
        stores _ (still_shared ws (sub_in s i) e (puts_as h.0.puts) (top_as h.1) (sub_as h.0)) (same_keeps g (view_in g s i) e h.0)

    pub stores_shifted : SameItems (view_in g s i) e → Says g (put_worker (put_shifted ws e) g (worker_at g i) e) (after_in s i e)
    stores_shifted h = stores _ (shifted_shared ws (sub_in s i) e (puts_as h.puts) (sub_as h)) (same_keeps g (view_in g s i) e h)

-- a queue's shift stores its window, and then its worker
module _ (g : Settings) (b : Bounds g) (ws : List ℕ) (s : State) (says : Says g ws s) (i : ℕ) (li : i < g.workers) (lj : sub_in s i < g.width)
    (few : s.steps < step_limit) (e : Effect) (blank : Blank g e.slot) (live : has_windows g ≡ true → LiveFits g s) where
  pub stores_raised : Rises g (view_in g s i) e → (has_windows g ≡ true → suc s.frame.tail - s.frame.head < most_live) → (has_windows g ≡ true → e.top ≡ top_of s.frame + s.next.depth)
      → Says g (put_worker (put_raised ws g e) g (worker_at g i) e) (framed_in s i e (raised_of s.frame s.next.width e.top))
  stores_raised h room top =
      stores_worker g (put_raised ws g e) (moved_in s e.top s.mark (raised_of s.frame s.next.width e.top))
      (raised_says g b ws s says e h.queue live room top) i li lj few e blank
      (record { puts = h.items.puts; first = h.items.first; second = h.items.second }, record { top = refl; mark = h.mark })

  pub stores_dropped : Drops g (view_in g s i) e → (has_windows g ≡ true → s.frame.head < s.frame.tail)
      → Says g (put_worker (put_dropped ws g e) g (worker_at g i) e) (framed_in s i e (dropped_of s.frame))
  stores_dropped h below =
      stores_worker g (put_dropped ws g e) (moved_in s s.top e.mark (dropped_of s.frame))
      (dropped_says g b ws s says e h.queue live below) i li lj few e blank
      (record { puts = h.items.puts; first = h.items.first; second = h.items.second }, record { top = h.top; mark = refl })
