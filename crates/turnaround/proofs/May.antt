-- What a fit pool has that moves: a queue that is given windows of their own sizes, a queue that had them, and any other, which no edition is told from.
use Prim.Native.Nat.{ℕ, ◌+◌, ◌-◌, ◌*◌, ◌/◌, ◌%◌, ◌≤◌, ◌<◌}
use mathlib.Core.Path.{◌≡◌, refl}
use mathlib.Core.Bool.{Bool, true, false}
use mathlib.Core.List.{List}
use native.Mathlib.Nat.{div-le_of_le-mul, div-add-mod'}
use native.Mathlib.Omega.{arith}
use lib.ListN.{get_or}
use lib.Dec.{leb, eqb}
use borrow.Author.Tests.{leb-true, eqb-true, eq-eqb}
use Rattle.laws.specs.Choice.{cond, both, all, both_true, all_holds, all_below_at}
use Rattle.rules.specs.Layout.{worker_at, set_at}
use Rattle.rules.specs.Limits.{most_live, windowed, limits, queue_limits, settings_fit}
use Rattle.rules.specs.Make.{shipped, in_edition}
use Rattle.rules.specs.Windows.{has_windows, size_of, next_size, live_of, nth_size}
use Rattle.rules.specs.Worker.{slot_at}
use Rattle.rules.specs.Fit.{past_window}
use Rattle.turnaround.specs.Move.{leads, apart, subs_fit_in, seen_on, on_limits, own_size, seen_back, back_limits, may_move, own_live, MovesOn}
use Rattle.turnaround.proofs.Types.{Settings, Size, Slot}

-- ---- on
seen_deep : (g : Settings) (s : Slot) → past_window s.number ≡ true → seen_on g s ≡ true → g.depth ≤ s.window
unfolding cond
seen_deep g s past e = leb-true _ _ (rw past at e)

module _ (from : List ℕ) (g h : Settings) (may : may_move from g h ≡ true) (has : has_windows h ≡ true) where
  on_holds : all (on_limits from g h) ≡ true
  unfolding may_move cond
  on_holds = rw has at may

  pub may_on : MovesOn from g
  unfolding slot_at
  may_on =
      let t = all_holds (on_limits from g h) on_holds in
      record {
        order = leb-true _ _ t.0;
        most = leb-true _ _ t.1.0;
        whole = eqb-true _ _ t.1.1.0;
        deep = leb-true _ _ t.1.1.1.0;
        seen = λ i l past. seen_deep g (slot_at g from (worker_at g i)) past (all_below_at g.workers (λ i. seen_on g (slot_at g from (worker_at g i))) i l t.1.1.1.1.0);
      }

  pub may_on_subs : subs_fit_in from h ≡ true
  may_on_subs = (all_holds (on_limits from g h) on_holds).1.1.1.1.1.0

-- so many windows lead from T up to P
pub own_times : (from : List ℕ) (g : Settings) → MovesOn from g → apart from / g.depth * g.depth ≡ apart from
own_times from g on = omega (arith, div-add-mod' (apart from) g.depth, on.whole)

pub own_few : (from : List ℕ) (g : Settings) → MovesOn from g → own_live from g ≤ most_live
own_few from g on = omega (arith, div-le_of_le-mul g.depth {m = apart from} {n = most_live - 1} (omega (arith, on.most)))

-- ---- back
pub record MovesBack (from : List ℕ) (g h : Settings) : Type 0 where
  pub not_set : get_or from (set_at g) 0 ≡ 0
  pub rows : g.rows % g.depth ≡ 0
  pub next : next_size from g ≡ size_of g
  pub size : (k : ℕ) → k < live_of from g → nth_size from g k ≡ size_of g
  pub seen : (i : ℕ) → i < g.workers → past_window (slot_at g from (worker_at g i)).number ≡ true
      → ((slot_at g from (worker_at g i)).width ≡ g.width) × ((slot_at g from (worker_at g i)).bottom + g.depth ≡ (slot_at g from (worker_at g i)).window)
  pub subs : subs_fit_in from h ≡ true

own_is : (g : Settings) (size : Size) → own_size g size ≡ true → size ≡ size_of g
own_is g size e =
    let t = both_true _ _ e in
    λ u. record { width = eqb-true size.width g.width t.0 u; depth = eqb-true size.depth g.depth t.1 u }

seen_own : (g : Settings) (s : Slot) → past_window s.number ≡ true → seen_back g s ≡ true → (s.width ≡ g.width) × (s.bottom + g.depth ≡ s.window)
unfolding cond
seen_own g s past e = let t = both_true (eqb s.width g.width) _ (rw past at e) in (eqb-true _ _ t.0, eqb-true _ _ t.1)

pub may_back : (from : List ℕ) (g h : Settings) → may_move from g h ≡ true → has_windows h ≡ false → has_windows g ≡ true → MovesBack from g h
unfolding may_move cond
may_back from g h may none had =
    let t = all_holds (back_limits from g h) (rw (none, had) at may) in
    record {
      not_set = eqb-true _ _ t.0;
      rows = eqb-true _ _ t.1.0;
      next = own_is g _ t.1.1.0;
      size = λ k l. own_is g _ (all_below_at (live_of from g) (λ k. own_size g (nth_size from g k)) k l t.1.1.1.0);
      seen = λ i l past. seen_own g (slot_at g from (worker_at g i)) past (all_below_at g.workers (λ i. seen_back g (slot_at g from (worker_at g i))) i l t.1.1.1.1.0);
      subs = t.1.1.1.1.1.0;
    }

-- ---- from edition to edition
-- no move is between two editions with windows of their own sizes
pub leads_apart : (g : Settings) (b : ℕ) → leads g.edition b ≡ true → windowed (in_edition b g) ≡ true → windowed g ≡ false
unfolding windowed cond
leads_apart g b e w = go (leb 2 g.edition) refl
  where
    go : (t : Bool) → leb 2 g.edition ≡ t → t ≡ false
    go false u = refl
    go true u =
        let t = both_true (leb g.edition shipped) _ e in
        let r = both_true (leb b shipped) _ t.1 in
        absurd (by (eqb b (g.edition + 1)) refl r.1 (leb-true _ _ t.0) (leb-true _ _ r.0) (leb-true _ _ u) (leb-true _ _ w))
      where
        by : (c : Bool) → eqb b (g.edition + 1) ≡ c → cond c true (eqb g.edition (b + 1)) ≡ true → g.edition ≤ shipped → b ≤ shipped → 2 ≤ g.edition → 2 ≤ b → ⊥
        by true x y m n p q = omega (arith, eqb-true b (g.edition + 1) x)
        by false x y m n p q = omega (arith, eqb-true g.edition (b + 1) y)

-- the settings are within limits in the new edition too
pub settings_moved : (from : List ℕ) (g : Settings) (b : ℕ) → may_move from g (in_edition b g) ≡ true → settings_fit g ≡ true → settings_fit (in_edition b g) ≡ true
unfolding settings_fit cond
settings_moved from g b may fit = go (eqb g.kind 0) refl
  where
    go : (t : Bool) → eqb g.kind 0 ≡ t → both (all (limits g)) (cond t (all (queue_limits (in_edition b g))) true) ≡ true
    go false e = rw e at fit
    go true e =
        let t = both_true (all (limits g)) _ (rw e at fit) in
        let shift = both_true (eqb g.shift g.depth) _ t.1 in
        rw (t.0, shift.0) (by e (windowed (in_edition b g)) refl (windowed g) refl shift.1)
      where
        by : eqb g.kind 0 ≡ true → (w : Bool) → windowed (in_edition b g) ≡ w → (u : Bool) → windowed g ≡ u
            → both (cond u true (eqb (g.rows % g.depth) 0)) true ≡ true → both (cond w true (eqb (g.rows % g.depth) 0)) true ≡ true
        by e true w u v z = refl
        by e false w false v z = z
        by e false w true v z =
            let back = may_back from g (in_edition b g) may (rw w refl) (rw (v, e) refl) in
            rw (eq-eqb (g.rows % g.depth) 0 back.rows) refl
