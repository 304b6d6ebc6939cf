-- The commit of a put.
--
-- Where the last put row is still the one seen, the window seen is the put window: each sub in an earlier window's width has
-- reached that window's top. So the row above the higher of the last put row and the bottom is a place of the put window; its
-- cell is free by the windows' room; the rows passed over are no places of this sub; and it gets the greatest stamp.
use mathlib.Core.Path.{◌≡◌, refl, sym, ap, ◌∙◌, subst}
use mathlib.Core.Logic.{◌≢◌, ◌⊎◌, inl, inr}
use Prim.Native.Nat.{ℕ, suc, ◌+◌, ◌≤◌, ◌<◌}
use native.Mathlib.Nat.{le_refl}
use native.Mathlib.Decide.{ℕ_discrete, dec_lt}
use native.Mathlib.Omega.{arith}
use lib.Dec.{ltb, eqb}
use borrow.Author.Tests.{ltb-false, eqb-true}
use Rattle.laws.specs.Choice.{cases}
use Rattle.laws.specs.Wrap.{add32}
use Rattle.rules.specs.Limits.{step_limit}
use Rattle.rules.specs.Windows.{higher, level_of}
use Rattle.rules.specs.Held.{Item}
use Rattle.rules.specs.Worker.{fresh}
use Rattle.rules.specs.Effects.{hop_of, take_window}
use Rattle.rules.specs.Commit.{queue_put_commit, queue_commit, commit_by, landed_of, row_above}
use Rattle.rules.specs.Measures.{no_measures}
use Rattle.rules.specs.Sequential.{putting, Contents}
use Rattle.rules.proofs.Types.{Settings, Putting, Idle, Window, QueueCommit, Span, Effect}
use Rattle.rules.specs.declared.Answer.TheVariants.{Put}
use Rattle.rules.proofs.counts.Sums.{upd, upd_self, sum_bump}
use Rattle.rules.proofs.counts.Stamps.{Added, added}
use Rattle.rules.proofs.counts.Wraps.{add32_suc}
use Rattle.rules.proofs.counts.Held.{holds_put}
use Rattle.rules.proofs.order.Gives.{put_on, gives_put, final_put}
use Rattle.rules.proofs.machine.Machine.{Frame, State, top_of, next, sub_in, view_in, phase_in, apply_in, apply_in_by, lost_restarts}
use Rattle.rules.proofs.queue.Inv.{Windows, Subs, Place, Items, Plain, first_high, Pool, PutCommits, Knows, Inv, Grown, base_le, earlier, bottom_few, put_few}
use Rattle.rules.proofs.queue.Moves.{Stepped, walk, end}
use Rattle.rules.proofs.queue.View.{put_level, free_level}
use Rattle.std.specs.Prelude.{Ok}

-- the item, and the state, of a put by worker i that lands in a row
abbrev new_item : State → ℕ → Item
new_item s i = record { value = (s.slot i).value; stamp = suc s.puts }

abbrev landed_in : Settings → State → ℕ → ℕ → State
landed_in g s i row =
    record {
      steps = suc s.steps;
      puts = suc s.puts;
      top = s.top;
      mark = s.mark;
      next = s.next;
      set = s.set;
      frame = s.frame;
      first = upd s.first (sub_in s i) row;
      second = s.second;
      item = upd s.item (sub_in s i) (upd (s.item (sub_in s i)) row (new_item s i));
      slot = upd s.slot i (fresh g 0 (sub_in s i) Idle);
    }

apply_landed : (g : Settings) (s : State) (i row : ℕ) → s.puts < 4294967295
    → apply_in g s i (landed_of g (view_in g s i) row (s.second (sub_in s i)) (record { 0 = row }))
    ≡ next (Ok (Put (s.slot i).value (sub_in s i) (record { 0 = row }) (record { 0 = suc s.puts }))) (landed_in g s i row)
unfolding apply_in apply_in_by
apply_landed g s i row b = rw (add32_suc s.puts b, upd_self s.second (sub_in s i)) refl

module _ (g : Settings) (kind : g.kind ≡ 0) (s : State) (q : Contents) (inv : Inv g s q) (i : ℕ) (window : Span) (last : ℕ)
    (now : phase_in g s i ≡ QueueCommit Putting window last) where
  abbrev Steps : Effect → Type 0
  Steps e = Stepped g s q i (apply_in g s i e)

  abbrev j : ℕ
  j = sub_in s i

  abbrev f : Frame
  f = s.frame

  abbrev o : Pool g s q
  o = inv.pool

  abbrev w : Windows g f
  w = o.windows

  k : PutCommits s j window last
  k = subst (Knows s j) now (inv.knows i)

  -- ---- a put whose sub is as it was seen
  module _ (same : s.first j ≡ last) where
    -- the window seen is the put window
    at_tail : k.sees.at ≡ f.tail
    at_tail = elim (dec_lt k.sees.at f.tail) [
      | yes y ↦ absurd (omega (arith, k.below, k.sees.top, o.subs.filled k.sees.at j y (omega (arith, k.index_lt, k.sees.wide))))
      | no n ↦ omega (arith, k.sees.at_le)
    ]

    pub bottom_is : window.bottom ≡ f.base f.tail
    bottom_is = rw at_tail at k.sees.bottom

    inside : j < f.wide f.tail
    inside = let e : window.width ≡ f.wide f.tail = rw at_tail at k.sees.wide in omega (arith, k.index_lt)

    below : s.first j < top_of f
    below = let e : window.top ≡ top_of f = rw at_tail at k.sees.top in omega (arith, k.below)

    abbrev row : ℕ
    row = suc (higher (s.first j) window.bottom)

    abbrev t : State
    t = landed_in g s i row

    abbrev new : Item
    new = new_item s i

    -- the row is a place of the put window
    pub row_above_law : f.base f.tail < row
    row_above_law = omega (arith, bottom_is)

    pub row_within : row ≤ top_of f
    row_within = omega (arith, bottom_is, below, w.rise f.tail (suc f.tail) (omega arith) (le_refl _))

    pub index : j < g.width
    index = omega (arith, inside, w.wide_le f.tail (le_refl _))

    pub head_low : f.base f.head ≤ f.base f.tail
    head_low = base_le w f.head f.tail w.order (omega arith)

    -- its cell is free
    free : higher (s.first j) window.bottom + 1 ≤ higher (s.second j) (f.base f.head) + g.rows
    free = omega (arith, row_within, w.room)

    put : Added s.first s.item j row new t.first t.item
    put = added s.first s.item j row new (omega arith)

    put_grown : (m : ℕ) → s.first m ≤ t.first m
    put_grown m = elim (ℕ_discrete m j) [ yes y ↦ rw y (omega (arith, put.here)) | no n ↦ omega (arith, put.off m n) ]

    subs : Subs f t.first s.second
    subs =
        let b = o.subs in
        record {
          held = λ m. omega (arith, put_grown m, b.held m);
          put_le = λ m. elim (ℕ_discrete m j) [ yes y ↦ rw y (omega (arith, put.here, row_within)) | no n ↦ omega (arith, put.off m n, b.put_le m) ];
          taken_le = b.taken_le;
          filled = λ c m l u. omega (arith, put_grown m, b.filled c m l u);
          spent = b.spent;
          outside = λ c m l u v. elim (ℕ_discrete m j) [
            | yes y ↦
                let u' : f.wide c ≤ j = rw y at u in
                let v' : t.first j ≤ f.base (suc c) = rw y at v in
                let ne : c ≢ f.tail = λ e. let x : f.wide f.tail ≤ j = rw e at u' in omega (arith, inside) in
                absurd (omega (arith, put.here, row_above_law, base_le w (suc c) f.tail (omega arith) (omega arith)))
            | no n ↦ omega (arith, put.off m n, b.outside c m l u (omega (arith, put.off m n)))
          ];
          low = λ m l. elim (ℕ_discrete m j) [
            | yes y ↦ let l' : t.first j ≤ f.base f.head = rw y at l in absurd (omega (arith, put.here, row_above_law, head_low))
            | no n ↦ omega (arith, put.off m n, b.low m (omega (arith, put.off m n)))
          ];
        }

    -- a row of now is the new one or as it was
    abbrev Row : ℕ → ℕ → Type 0
    Row m r = ((m ≡ j) × (r ≡ row) × (t.item m r ≡ new)) ⊎ ((t.item m r ≡ s.item m r) × (m ≡ j → r ≢ row))

    rows : (m r : ℕ) → Row m r
    rows m r = elim (ℕ_discrete m j) [
      | yes y ↦ elim (ℕ_discrete r row) [ yes u ↦ inl (y, u, rw (y, u) put.it) | no n ↦ inr (put.old m r (λ e. n), λ e. n) ]
      | no n ↦ inr (put.old m r (λ e. absurd (n e)), λ e. absurd (n e))
    ]

    abbrev Stamp : ℕ → ℕ → ℕ
    Stamp m r = (t.item m r).stamp

    new_stamp : (m r : ℕ) → t.item m r ≡ new → Stamp m r ≡ suc s.puts
    new_stamp m r e = ap (λ (y : Item). y.stamp) e

    old_stamp : (m r : ℕ) → t.item m r ≡ s.item m r → Stamp m r ≡ (s.item m r).stamp
    old_stamp m r e = ap (λ (y : Item). y.stamp) e

    items : Items f t.first t.item (suc s.puts)
    items = record { few = few; rise = rise; apart = apart; below = under; place = place; there = there; order = order }
      where
        x : Items f s.first s.item s.puts
        x = o.items

        few : (m r : ℕ) → Stamp m r ≤ suc s.puts
        few m r = go (rows m r)
          where
            go : Row m r → Stamp m r ≤ suc s.puts
            go (inl y) = omega (arith, new_stamp m r y.2)
            go (inr y) = omega (arith, old_stamp m r y.0, x.few m r)

        rise : (m r r' : ℕ) → r < r' → 1 ≤ Stamp m r → 1 ≤ Stamp m r' → Stamp m r < Stamp m r'
        rise m r r' l a b = go (rows m r) (rows m r')
          where
            go : Row m r → Row m r' → Stamp m r < Stamp m r'
            go (inl y) (inl y') = absurd (omega (arith, y.1, y'.1))
            go (inl y) (inr y') =
                let u : r' ≤ s.first m = x.below m r' (omega (arith, old_stamp m r' y'.0)) in
                let u' : r' ≤ s.first j = rw y.0 at u in
                absurd (omega (arith, y.1))
            go (inr y) (inl y') = omega (arith, old_stamp m r y.0, new_stamp m r' y'.2, x.few m r)
            go (inr y) (inr y') =
                omega (arith, old_stamp m r y.0, old_stamp m r' y'.0, x.rise m r r' l (omega (arith, old_stamp m r y.0)) (omega (arith, old_stamp m r' y'.0)))

        apart : (m n r r' : ℕ) → m ≢ n → 1 ≤ Stamp m r → Stamp m r ≢ Stamp n r'
        apart m n r r' ne a u = go (rows m r) (rows n r')
          where
            go : Row m r → Row n r' → ⊥
            go (inl y) (inl y') = ne (y.0 ∙ sym y'.0)
            go (inl y) (inr y') = omega (arith, u, new_stamp m r y.2, old_stamp n r' y'.0, x.few n r')
            go (inr y) (inl y') = omega (arith, u, old_stamp m r y.0, new_stamp n r' y'.2, x.few m r)
            go (inr y) (inr y') = x.apart m n r r' ne (omega (arith, old_stamp m r y.0)) (omega (arith, u, old_stamp m r y.0, old_stamp n r' y'.0))

        under : (m r : ℕ) → 1 ≤ Stamp m r → r ≤ t.first m
        under m r a = go (rows m r)
          where
            go : Row m r → r ≤ t.first m
            go (inl y) = rw y.0 (omega (arith, y.1, put.here))
            go (inr y) = omega (arith, put_grown m, x.below m r (omega (arith, old_stamp m r y.0)))

        place : (m r : ℕ) → 1 ≤ Stamp m r → Place f m r
        place m r a = go (rows m r)
          where
            go : Row m r → Place f m r
            go (inl y) =
                record {
                  at = f.tail;
                  at_le = le_refl _;
                  inside = rw y.0 inside;
                  above = rw y.1 row_above_law;
                  within = rw y.1 row_within;
                }
            go (inr y) = x.place m r (omega (arith, old_stamp m r y.0))

        -- a place that the row passes over would be in an earlier window, which this sub has filled
        there : (c m r : ℕ) → c ≤ f.tail → m < f.wide c → f.base c < r → r ≤ f.base (suc c) → r ≤ t.first m → 1 ≤ Stamp m r
        there c m r l u a b d = go (rows m r)
          where
            go : Row m r → 1 ≤ Stamp m r
            go (inl y) = omega (arith, new_stamp m r y.2)
            go (inr y) = elim (dec_lt (s.first m) r) [
              | no n ↦ omega (arith, old_stamp m r y.0, x.there c m r l u a b (omega arith))
              | yes v ↦ elim (ℕ_discrete m j) [
                | no n ↦ absurd (omega (arith, put.off m n))
                | yes e ↦
                    let d' : r ≤ t.first j = rw e at d in
                    let v' : s.first j < r = rw e at v in
                    let u' : j < f.wide c = rw e at u in
                    let nr : r ≢ row = y.1 e in
                    let c_lt : c < f.tail = earlier w c f.tail r (omega arith) l a (omega (arith, put.here, bottom_is)) in
                    absurd (omega (arith, o.subs.filled c j c_lt u'))
              ]
            ]

        order : (c m n r r' : ℕ) → c ≤ f.tail → r ≤ f.base c → f.base c < r' → 1 ≤ Stamp m r → 1 ≤ Stamp n r' → Stamp m r < Stamp n r'
        order c m n r r' l a b u v = go (rows m r) (rows n r')
          where
            go : Row m r → Row n r' → Stamp m r < Stamp n r'
            go (inl y) (inl y') = absurd (omega (arith, y.1, y'.1))
            go (inl y) (inr y') = absurd (omega (arith, y.1, row_above_law, base_le w c f.tail l (omega arith)))
            go (inr y) (inl y') = omega (arith, old_stamp m r y.0, new_stamp n r' y'.2, x.few m r)
            go (inr y) (inr y') =
                omega (arith, old_stamp m r y.0, old_stamp n r' y'.0, x.order c m n r r' l a b (omega (arith, old_stamp m r y.0)) (omega (arith, old_stamp n r' y'.0)))

    pool : s.steps < step_limit → Pool g t (put_on q (s.slot i).value)
    pool some_left =
        record {
          top = o.top;
          mark = o.mark;
          windows = w;
          subs = subs;
          items = items;
          size = o.size;
          plain = λ e. plain_then (o.plain e);
          set_most = o.set_most;
          old = o.old;
          live = o.live;
          first_few = first_few (ℕ_discrete 0 j);
          puts_few = omega (arith, o.puts_few);
          steps_few = some_left;
          holds = rw o.count (holds_put o.holds index (λ m l. o.subs.held m) (λ r a b. blank j r a) (omega arith) put);
          count = ap suc o.count;
        }
      where
        blank : (m r : ℕ) → s.first m < r → (s.item m r).stamp ≡ 0
        blank m r u = elim (dec_lt 0 (s.item m r).stamp) [ yes y ↦ absurd (omega (arith, o.items.below m r y)) | no n ↦ omega arith ]

        -- where no size was set every sub is in every window, so no row is passed over
        plain_then : Plain g f s.next s.first s.puts → Plain g f s.next t.first (suc s.puts)
        plain_then p =
            record {
              base_is = p.base_is;
              wide_is = p.wide_is;
              next_wide = p.next_wide;
              next_deep = p.next_deep;
              total = omega (
                arith,
                p.total,
                sum_bump s.first t.first g.width j 1 index (λ m l n. put.off m n) (omega (arith, put.here, bottom_is, first_high o p j index)),
              );
            }

        -- sub 0 has no row without an item
        first_few : Dec (0 ≡ j) → t.first 0 ≤ suc s.puts
        first_few (yes e) =
            let a : s.first j ≤ s.puts = rw e at o.first_few in
            let b : t.first 0 ≡ t.first j = ap t.first e in
            omega (arith, put.here, bottom_is, bottom_few o)
        first_few (no n) = omega (arith, put.off 0 n, o.first_few)

    grown : Grown s t
    grown =
        record {
          order = w.order;
          head = le_refl _;
          tail = le_refl _;
          base = λ c l. refl;
          wide = λ c l. refl;
          top = le_refl _;
          put = put_grown;
          taken = λ m. le_refl _;
        }

    level_is : level_of g (s.first j) window.bottom ≡ higher (s.first j) window.bottom
    level_is = put_level kind o window f.tail (le_refl _) k.sees j index

    lands : Steps (landed_of g (view_in g s i) row (s.second j) (record { 0 = row }))
    lands =
        rw (apply_landed g s i row (omega (arith, o.puts_few, o.steps_few)))
        (end g kind s q inv i (QueueCommit Putting window last) now j t refl grown _ no_measures (putting (s.slot i).value) _ refl (final_put _ _ _ _)
        (gives_put g q no_measures (s.slot i).value j (record { 0 = row }) (suc s.puts) (ap suc (sym o.count))) pool (λ e. absurd (omega arith)))

    next_lands : Steps (landed_of g (view_in g s i) (add32 (level_of g (s.first j) window.bottom) 1) (s.second j) (row_above (level_of g (s.first j) window.bottom)))
    next_lands =
        let e : add32 (level_of g (s.first j) window.bottom) 1 ≡ row =
        ap (λ (n : ℕ). add32 n 1) level_is ∙ add32_suc (higher (s.first j) window.bottom) (omega (arith, put_few o j, bottom_is, bottom_few o, o.puts_few, o.steps_few)) in
        subst (λ (r : ℕ). Steps (landed_of g (view_in g s i) r (s.second j) (record { 0 = r }))) (sym e) lands

    room : level_of g (s.first j) window.bottom < level_of g (s.second j) (take_window (view_in g s i)).bottom + g.rows
    room = omega (arith, free, level_is, free_level kind o i j index)

  pub put_commit : Steps (queue_commit g (view_in g s i) Putting window last)
  unfolding queue_commit queue_put_commit commit_by
  put_commit =
      cases Steps (eqb (s.first j) last) _ _
      (λ a. let same = eqb-true (s.first j) last a in
      let level : ℕ = level_of g (s.first j) window.bottom in
      let most : ℕ = level_of g (s.second j) (take_window (view_in g s i)).bottom + g.rows in
      cases Steps (ltb level most) _ _
      (λ b. next_lands same)
      (λ b. absurd (omega (arith, room same, ltb-false level most b))))
      (λ a. rw (lost_restarts g s i Putting) (walk g kind s q inv i (QueueCommit Putting window last) now (hop_of g j) (Window Putting) tt _ tt (putting (s.slot i).value) refl refl))
