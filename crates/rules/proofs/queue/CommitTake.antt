-- The commit of a take, and its distance.
--
-- Where the last taken row is still the one seen, the window seen is the take window: each sub in an earlier one's width is spent.
-- The row above the higher of the last taken row and the bottom is a place of the take window with its item there. An older held
-- item lies in another sub; not above the take window's top, by the window order; and not at or below its bottom, where all is
-- spent. So each other sub in the width holds at most the depth of older ones, and a sub outside it none: (width - 1) × depth.
use mathlib.Core.Path.{◌≡◌, refl, sym, ap, ◌∙◌, subst}
use mathlib.Core.Logic.{◌≢◌}
use mathlib.Core.Bool.{Bool, false, ◌&&◌}
use Prim.Native.Nat.{ℕ, zero, suc, ◌+◌, ◌-◌, ◌*◌, ◌≤◌, ◌<◌}
use native.Mathlib.Nat.{le_refl, le_trans, le_of_eq, le_of_lt}
use native.Mathlib.Decide.{ℕ_discrete, dec_le, dec_lt}
use native.Mathlib.Omega.{arith}
use lib.Dec.{ltb, eqb}
use borrow.Author.Tests.{ltb-false, eqb-true, eqb-false, le-ltb}
use Rattle.laws.specs.Choice.{cases}
use Rattle.laws.specs.Wrap.{add32}
use Rattle.rules.specs.Limits.{step_limit}
use Rattle.rules.specs.Windows.{higher, level_of}
use Rattle.rules.specs.Held.{Item, count_items, passed_over}
use Rattle.rules.specs.Worker.{fresh}
use Rattle.rules.specs.Effects.{hop_of}
use Rattle.rules.specs.Commit.{queue_take_commit, queue_commit, commit_by, removed_of, row_above}
use Rattle.rules.specs.Measures.{of_size, seen_size}
use Rattle.rules.specs.Sequential.{taking, Contents, passed_by, reported_by, bound_by}
use Rattle.rules.specs.Newer.{exact_rows}
use Rattle.rules.proofs.Types.{Settings, Size, Taking, Idle, Window, QueueCommit, Span, Effect}
use Rattle.rules.proofs.counts.Sums.{sum_n, upd, upd_same, upd_other, upd_self, up_to_law, sum_within_but, rows_more, rows_flat, times_pred}
use Rattle.rules.proofs.counts.Wraps.{add32_suc}
use Rattle.rules.proofs.counts.Held.{Holds, real, rows_of, blank_row, fails_row, holds_low, holds_ext}
use Rattle.rules.proofs.counts.Find.{RowFound, find_row}
use Rattle.rules.proofs.Cells.{queue_below}
use Rattle.rules.proofs.figures.Figures.{bound_queue}
use Rattle.rules.proofs.order.Gives.{taken_off, gives_taken, final_taken}
use Rattle.rules.proofs.machine.Machine.{Frame, State, mark_of, answered, sub_in, view_in, phase_in, below_in, taken_in, distance_in, apply_in, apply_in_by, lost_restarts, size_at}
use Rattle.rules.proofs.machine.Turns.{distance_held}
use Rattle.rules.proofs.queue.Inv.{Windows, Subs, Place, Items, Pool, TakeCommits, Knows, Inv, Grown, base_le, earlier, put_few}
use Rattle.rules.proofs.queue.Moves.{Stepped, walk, end}
use Rattle.rules.proofs.queue.View.{take_level, seen_size_law}

-- the state after a take by worker i from a row
abbrev removed_in : Settings → State → ℕ → ℕ → State
removed_in g s i row =
    record {
      steps = suc s.steps;
      puts = s.puts;
      top = s.top;
      mark = s.mark;
      next = s.next;
      set = s.set;
      frame = s.frame;
      first = s.first;
      second = upd s.second (sub_in s i) row;
      item = s.item;
      slot = upd s.slot i (fresh g 0 (sub_in s i) Idle);
    }

apply_removed : (g : Settings) (s : State) (i row : ℕ)
    → apply_in g s i (removed_of g (view_in g s i) (s.first (sub_in s i)) row (record { 0 = row }))
    ≡ answered g s i (taken_in g s (sub_in s i) row) (removed_in g s i row)
unfolding apply_in apply_in_by
apply_removed g s i row = rw (upd_self s.first (sub_in s i)) refl

-- an older item
abbrev older : ℕ → Item → Bool
older stamp x = ltb x.stamp stamp

-- the list against the rows above `below_in`, which in a queue are the rows not taken
pub holds_below : (g : Settings) → g.kind ≡ 0 → (s : State) (q : Contents) → Pool g s q → Holds g.width (below_in g s) s.first s.item q.items
holds_below g kind s q o = holds_ext (λ m l. sym (queue_below g kind (s.second m))) (λ m l. refl) o.holds

-- the first n of w within d, one of them not above, and none of the others: (n - 1) * d in all
sum_within_some : (f g : ℕ → ℕ) (w n d i : ℕ) → n ≤ w → i < n → ((k : ℕ) → k < n → f k ≤ g k + d) → ((k : ℕ) → n ≤ k → f k ≤ g k) → f i ≤ g i
    → sum_n f w + d ≤ sum_n g w + n * d
unfolding sum_n
sum_within_some f g zero n d i l m h o e = absurd (omega arith)
sum_within_some f g (suc w) n d i l m h o e = elim (ℕ_discrete n (suc w)) [
  | yes y ↦
      let m' : i < suc w = rw y at m in
      let h' : (k : ℕ) → k < suc w → f k ≤ g k + d = λ k u. h k (omega arith) in
      omega (arith, sum_within_but f g (suc w) d i m' h' e, ap (λ (x : ℕ). x * d) y)
  | no y ↦ omega (arith, sum_within_some f g w n d i (omega arith) m h o e, o w (omega arith))
]

-- an item that is no older is not passed over
not_passed : (stamp : ℕ) (x : Item) → stamp ≤ x.stamp → older stamp x ≡ false
not_passed stamp x l = le-ltb x.stamp stamp l

module _ (g : Settings) (kind : g.kind ≡ 0) (s : State) (q : Contents) (inv : Inv g s q) (i : ℕ) (window : Span) (last : ℕ)
    (now : phase_in g s i ≡ QueueCommit Taking window last) where
  abbrev Steps : Effect → Type 0
  Steps e = Stepped g s q i (apply_in g s i e)

  abbrev j : ℕ
  j = sub_in s i

  abbrev f : Frame
  f = s.frame

  abbrev o : Pool g s q
  o = inv.pool

  abbrev w : Windows g f
  w = o.windows

  abbrev x : Items f s.first s.item s.puts
  x = o.items

  k : TakeCommits s j window last
  k = subst (Knows s j) now (inv.knows i)

  -- ---- a take whose sub is as it was seen
  module _ (same : s.second j ≡ last) where
    -- the window seen is the take window
    at_head : k.sees.at ≡ f.head
    at_head = elim (dec_lt k.sees.at f.head) [
      | yes y ↦ absurd (omega (arith, k.below, k.sees.top, o.subs.spent k.sees.at j y (omega (arith, k.index_lt, k.sees.wide))))
      | no n ↦ omega (arith, k.sees.at_le)
    ]

    bottom_is : window.bottom ≡ f.base f.head
    bottom_is = rw at_head at k.sees.bottom

    top_is : window.top ≡ mark_of f
    top_is = rw at_head at k.sees.top

    wide_is : window.width ≡ f.wide f.head
    wide_is = rw at_head at k.sees.wide

    inside : j < f.wide f.head
    inside = omega (arith, wide_is, k.index_lt)

    -- so what the answer is held to is its size
    pub head_size : seen_size g (s.slot i) ≡ size_at f f.head
    head_size =
        let deep : window.top - window.bottom ≡ f.base (suc f.head) - f.base f.head = rw (top_is, bottom_is) refl in
        seen_size_law kind o i window last now k.sees ∙ (λ u. record { width = wide_is u; depth = deep u })

    pub index : j < g.width
    index = omega (arith, inside, w.wide_le f.head w.order)

    abbrev row : ℕ
    row = suc (higher (s.second j) window.bottom)

    abbrev it : Item
    it = s.item j row

    -- the row is a place of the take window, up to the last put row
    row_above_law : f.base f.head < row
    row_above_law = omega (arith, bottom_is)

    row_within : row ≤ mark_of f
    row_within = omega (arith, bottom_is, top_is, k.below, w.rise f.head (suc f.head) (omega arith) (omega (arith, w.order)))

    -- a sub with an item holds it above the take window's bottom
    pub there : row ≤ s.first j
    there = elim (dec_le (s.first j) (f.base f.head)) [
      | yes y ↦ absurd (omega (arith, o.subs.low j y, k.there))
      | no n ↦ omega (arith, bottom_is, k.there)
    ]

    pub stamped : 1 ≤ it.stamp
    stamped = x.there f.head j row w.order inside row_above_law row_within there

    -- two rows with one stamp are one row
    single : (m n : ℕ) → (s.item m n).stamp ≡ it.stamp → s.item m n ≡ it
    single m n e = elim (ℕ_discrete m j) [
      | no y ↦ absurd (x.apart m j n row y (omega (arith, stamped)) e)
      | yes y ↦
          let e' : (s.item j n).stamp ≡ it.stamp = rw y at e in
          rw y (rows e' (dec_lt n row) (dec_lt row n))
    ]
      where
        rows : (s.item j n).stamp ≡ it.stamp → Dec (n < row) → Dec (row < n) → s.item j n ≡ it
        rows e (yes a) b = absurd (omega (arith, x.rise j n row a (omega (arith, stamped)) stamped))
        rows e (no a) (yes b) = absurd (omega (arith, x.rise j row n b stamped (omega (arith, stamped))))
        rows e (no a) (no b) = let z : n ≡ row = omega arith in rw z refl

    found : RowFound it q.items
    found = find_row o.holds (λ m l. o.subs.held m) j row index (omega arith) there stamped (λ m n l a b e. single m n e)

    -- ---- the distance
    abbrev passed : ℕ → ℕ → Bool
    passed m n = real (s.item m n) && older it.stamp (s.item m n)

    -- a row counts only if its item has a stamp and is older, so it is a place, and above no top of the take window
    counts_not : (m n : ℕ) → (1 ≤ (s.item m n).stamp → it.stamp ≤ (s.item m n).stamp) → passed m n ≡ false
    counts_not m n h = elim (dec_lt 0 (s.item m n).stamp) [
      | yes y ↦ fails_row (older it.stamp) (s.item m n) (not_passed it.stamp (s.item m n) (h y))
      | no y ↦ blank_row (older it.stamp) (s.item m n) (omega arith)
    ]

    -- a row above the take window is newer
    newer : (m n : ℕ) → mark_of f < n → passed m n ≡ false
    newer m n a = counts_not m n (λ y. le_of_lt (by y (x.place m n y)))
      where
        by : 1 ≤ (s.item m n).stamp → Place f m n → it.stamp < (s.item m n).stamp
        by y p =
            let up : suc f.head ≤ p.at = elim (dec_le (suc f.head) p.at) [
              | yes z ↦ z
              | no z ↦ absurd (omega (arith, p.within, base_le w (suc p.at) (suc f.head) (omega arith) (omega (arith, w.order))))
            ] in
            x.order (suc f.head) j m row n (omega (arith, p.at_le)) row_within a stamped y

    -- a held row is in no window before the take window
    held_high : (m n : ℕ) → s.second m < n → 1 ≤ (s.item m n).stamp → f.base f.head < n
    held_high m n a y = by (x.place m n y)
      where
        by : Place f m n → f.base f.head < n
        by p = elim (dec_lt p.at f.head) [
          | yes z ↦ absurd (omega (arith, p.within, o.subs.spent p.at m z p.inside))
          | no z ↦ omega (arith, p.above, base_le w f.head p.at (omega arith) (omega (arith, p.at_le)))
        ]

    -- nor, outside the take window's width, in the take window
    outside_none : (m n : ℕ) → f.wide f.head ≤ m → s.second m < n → n ≤ mark_of f → (s.item m n).stamp ≡ 0
    outside_none m n out a b = elim (dec_lt 0 (s.item m n).stamp) [ yes y ↦ absurd (by y (x.place m n y)) | no y ↦ omega arith ]
      where
        by : 1 ≤ (s.item m n).stamp → Place f m n → ⊥
        by y p =
            let high : f.base f.head < n = held_high m n a y in
            let lt : p.at < suc f.head = earlier w p.at (suc f.head) n (omega (arith, w.order)) p.at_le p.above b in
            let ge : f.head ≤ p.at = elim (dec_le f.head p.at) [
              | yes z ↦ z
              | no z ↦ absurd (omega (arith, p.within, base_le w (suc p.at) f.head (omega arith) (omega (arith, w.order))))
            ] in
            let e : p.at ≡ f.head = omega arith in
            let ins : m < f.wide f.head = rw e at p.inside in
            omega arith

    -- the older ones of a sub lie between the bottom and the top of the take window
    rows_between : (m : ℕ) → s.second m ≤ mark_of f
        → up_to_law (passed m) (s.first m) ≤ up_to_law (passed m) (mark_of f)
    rows_between m l = elim (dec_le (s.first m) (mark_of f)) [
      | yes y ↦ (rows_more (passed m) (s.first m) (mark_of f) y).0
      | no y ↦ le_of_eq (rows_flat (passed m) (mark_of f) (s.first m) (omega arith) (λ n a b. newer m n a))
    ]

    -- at most the depth in each sub
    within : (m : ℕ) → rows_of s.item (older it.stamp) s.first m ≤ rows_of s.item (older it.stamp) s.second m + (window.top - window.bottom)
    within m = elim (dec_le (f.base f.head) (s.second m)) [
      | yes y ↦ omega (
        arith,
        rows_between m (o.subs.taken_le m),
        (rows_more (passed m) (s.second m) (mark_of f) (o.subs.taken_le m)).1,
        top_is,
        bottom_is,
        o.subs.taken_le m,
      )
      | no y ↦
          let low : up_to_law (passed m) (f.base f.head) ≡ up_to_law (passed m) (s.second m) =
          rows_flat (passed m) (s.second m) (f.base f.head) (omega arith)
          (λ n a b. counts_not m n (λ z. absurd (omega (arith, held_high m n a z)))) in
          omega (
            arith,
            rows_between m (o.subs.taken_le m),
            (rows_more (passed m) (f.base f.head) (mark_of f) (base_le w f.head (suc f.head) (omega arith) (omega (arith, w.order)))).1,
            top_is,
            bottom_is,
          )
    ]

    -- none in a sub outside the width
    none_outside : (m : ℕ) → window.width ≤ m
        → rows_of s.item (older it.stamp) s.first m ≤ rows_of s.item (older it.stamp) s.second m
    none_outside m out =
        le_trans (rows_between m (o.subs.taken_le m))
        (le_of_eq (rows_flat (passed m) (s.second m) (mark_of f) (o.subs.taken_le m)
        (λ n a b. blank_row (older it.stamp) (s.item m n) (outside_none m n (omega (arith, wide_is)) a b))))

    -- and none in its own
    none_own : rows_of s.item (older it.stamp) s.first j ≤ rows_of s.item (older it.stamp) s.second j
    none_own = le_of_eq (rows_flat (passed j) (s.second j) (s.first j) (o.subs.held j) (λ n a b. counts_not j n (λ y. at_least n a y (dec_lt row n))))
      where
        at_least : (n : ℕ) → s.second j < n → 1 ≤ (s.item j n).stamp → Dec (row < n) → it.stamp ≤ (s.item j n).stamp
        at_least n a y (yes z) = le_of_lt (x.rise j row n z stamped y)
        at_least n a y (no z) =
            let e : n ≡ row = omega (arith, held_high j n a y, bottom_is) in
            rw e (le_refl _)

    pub bounded : count_items (older it.stamp) q.items ≤ (window.width - 1) * (window.top - window.bottom)
    bounded =
        omega (
          arith,
          o.holds.same (older it.stamp),
          times_pred window.width (window.top - window.bottom) (omega (arith, k.index_lt)),
          sum_within_some (rows_of s.item (older it.stamp) s.first) (rows_of s.item (older it.stamp) s.second) g.width window.width
              (window.top - window.bottom) j (omega (arith, wide_is, w.wide_le f.head w.order)) k.index_lt (λ m l. within m) none_outside none_own,
        )

    -- by the size of the window seen
    abbrev size : Size
    size = seen_size g (s.slot i)

    most : passed_by g q it.stamp ≤ bound_by g (exact_rows g) size
    most =
        let is = seen_size_law kind o i window last now k.sees in
        rw (bound_queue g (exact_rows g) size kind)
        (subst (λ (z : Size). passed_by g q it.stamp ≤ (z.width - 1) * z.depth) (sym is)
        (subst (λ (p : Item → Bool). count_items p q.items ≤ (window.width - 1) * (window.top - window.bottom)) (sym passed_older) bounded))
      where
        passed_older : passed_over g.kind it.stamp ≡ older it.stamp
        passed_older = λ u y. one y u
          where
            one : (y : Item) → passed_over g.kind it.stamp y ≡ older it.stamp y
            one y =
                cases (λ (b : Bool). b ≡ older it.stamp y) (eqb g.kind 0) _ _ (λ e. refl) (λ e. absurd (eqb-false _ _ e kind))

    distance : distance_in g s it.stamp ≡ reported_by g q it.stamp
    distance =
        distance_held g s q it.stamp (λ m l. rw (queue_below g kind (s.second m)) (o.subs.held m)) (holds_below g kind s q o)

    -- ---- what is left
    abbrev t : State
    t = removed_in g s i row

    taken_here : t.second j ≡ row
    taken_here = upd_same s.second j row

    taken_off_law : (m : ℕ) → m ≢ j → t.second m ≡ s.second m
    taken_off_law m n = upd_other s.second j row m n

    taken_grown : (m : ℕ) → s.second m ≤ t.second m
    taken_grown m = elim (ℕ_discrete m j) [ yes y ↦ rw y (omega (arith, taken_here)) | no n ↦ omega (arith, taken_off_law m n) ]

    subs : Subs f s.first t.second
    subs =
        let b = o.subs in
        record {
          held = λ m. elim (ℕ_discrete m j) [ yes y ↦ rw y (omega (arith, taken_here, there)) | no n ↦ omega (arith, taken_off_law m n, b.held m) ];
          put_le = b.put_le;
          taken_le = λ m. elim (ℕ_discrete m j) [ yes y ↦ rw y (omega (arith, taken_here, row_within)) | no n ↦ omega (arith, taken_off_law m n, b.taken_le m) ];
          filled = b.filled;
          spent = λ c m l u. omega (arith, taken_grown m, b.spent c m l u);
          outside = b.outside;
          low = λ m l. omega (arith, taken_grown m, b.low m l);
        }

    pool : s.steps < step_limit → Pool g t (taken_off q found.out)
    pool some_left =
        record {
          top = o.top;
          mark = o.mark;
          windows = w;
          subs = subs;
          items = x;
          size = o.size;
          plain = o.plain;
          set_most = o.set_most;
          old = o.old;
          live = o.live;
          first_few = o.first_few;
          puts_few = omega (arith, o.puts_few);
          steps_few = some_left;
          holds = holds_low o.holds j row index (omega arith) stamped blank taken_here taken_off_law found.counts;
          count = o.count;
        }
      where
        -- the rows passed over are no places of this sub
        blank : (r : ℕ) → s.second j < r → r < row → (s.item j r).stamp ≡ 0
        blank r a b = elim (dec_lt 0 (s.item j r).stamp) [ yes y ↦ absurd (omega (arith, held_high j r a y, bottom_is)) | no n ↦ omega arith ]

    grown : Grown s t
    grown =
        record {
          order = w.order;
          head = le_refl _;
          tail = le_refl _;
          base = λ c l. refl;
          wide = λ c l. refl;
          top = le_refl _;
          put = λ m. le_refl _;
          taken = taken_grown;
        }

    pub level_is : level_of g (s.second j) window.bottom ≡ higher (s.second j) window.bottom
    level_is = take_level kind o window k.sees j index

    takes : Steps (removed_of g (view_in g s i) (s.first j) row (record { 0 = row }))
    takes =
        rw (apply_removed g s i row)
        (end g kind s q inv i (QueueCommit Taking window last) now j t refl grown _ (of_size size) taking (taken_off q found.out) refl (final_taken _ _ _ _ _)
        (gives_taken g q (of_size size) it j (record { 0 = row }) (distance_in g s it.stamp) found distance most) pool (λ e. absurd (omega arith)))

    next_takes : Steps (removed_of g (view_in g s i) (s.first j) (add32 (level_of g (s.second j) window.bottom) 1) (row_above (level_of g (s.second j) window.bottom)))
    next_takes =
        let e : add32 (level_of g (s.second j) window.bottom) 1 ≡ row =
        ap (λ (n : ℕ). add32 n 1) level_is ∙ add32_suc (higher (s.second j) window.bottom) (omega (arith, there, put_few o j)) in
        subst (λ (r : ℕ). Steps (removed_of g (view_in g s i) (s.first j) r (record { 0 = r }))) (sym e) takes

  pub take_commit : Steps (queue_commit g (view_in g s i) Taking window last)
  unfolding queue_commit queue_take_commit commit_by
  take_commit =
      cases Steps (eqb (s.second j) last) _ _
      (λ a. let same = eqb-true (s.second j) last a in
      let level : ℕ = level_of g (s.second j) window.bottom in
      cases Steps (ltb level (s.first j)) _ _
      (λ b. next_takes same)
      (λ b. absurd (omega (arith, there same, level_is same, ltb-false level (s.first j) b))))
      (λ a. rw (lost_restarts g s i Taking) (walk g kind s q inv i (QueueCommit Taking window last) now (hop_of g j) (Window Taking) tt _ tt taking refl refl))
