-- What a plain pool has: a sub whose last taken row is not below the take window's bottom is held to that row, and windows that all have the pool's size are
-- told by a number for each, and the take window's bottom by T and the pool's depth.
use Rattle.std.proofs.Common.{◌≡◌, ℕ, ◌+◌, ◌-◌, ◌*◌, ◌%◌, ◌^◌, ◌<◌, ◌≤◌, Bool, true, false, eqb, ltb, leb, List, get_or, sym, refl, ap, ◌∙◌, le_refl, add-zero, arith, lt-ltb, eq-eqb, le-leb, leb-true}
use Rattle.std.proofs.lemmas.Bool.{eqb-false}
use Rattle.laws.specs.Choice.{cond, both, all_below}
use Rattle.rules.specs.Fit.{pair_fit, sub_fit, windows_fit}
use Rattle.rules.specs.Layout.{mark_at, top_at, set_at, windows_at, pairs_at, pair_words, pair_at}
use Rattle.rules.specs.Limits.{Bounds, windowed, deepest, most_live, size_fit}
use Rattle.rules.specs.Windows.{has_windows, size_of, no_size, next_size, live_of, nth_size, bottom_of, level_of}
use Rattle.rules.specs.declared.Settings.{Settings}
use Rattle.rules.specs.declared.Size.{Size}
use Rattle.quick_fitness.specs.Alike.{bits_of, bits_at, wanted_bits}
use Rattle.quick_fitness.specs.Plain.{plain_bottom}
use Rattle.quick_fitness.proofs.Bits.{wanted_live, wanted_none}
use Rattle.quick_fitness.proofs.OneSize.{pairs_alike, tops_alike}

-- ---- a sub
pub level_is : (g : Settings) (last bottom : ℕ) → bottom ≤ last → level_of g last bottom ≡ last
unfolding level_of cond
level_is g last bottom l = go (windowed g) refl
  where
    go : (b : Bool) → windowed g ≡ b → cond b (last + (bottom - last)) last ≡ last
    go true e = omega arith
    go false e = refl

pub sub_plain : (g : Settings) (bottom first second : ℕ) → g.kind ≡ 0 → bottom ≤ second → g.rows < 2 ^ 32 → first < 2 ^ 32 → second < 2 ^ 32
    → leb ((first + (2 ^ 64 - second)) % 2 ^ 64) g.rows ≡ true
    → sub_fit g bottom first second ≡ true
unfolding sub_fit cond
sub_plain g bottom first second queue low rows f s within =
    rw (eq-eqb g.kind 0 queue, level_is g second bottom low) (go (eqb first second) refl)
  where
    go : (b : Bool) → eqb first second ≡ b → cond b true (both (ltb second first) (leb (first - second) g.rows)) ≡ true
    go true e = refl
    go false e =
        let differ = eqb-false first second e in
        let few : (first + (2 ^ 64 - second)) % 2 ^ 64 ≤ g.rows = leb-true _ g.rows within in
        let more : second < first = omega (arith, differ) in
        rw (lt-ltb second first more, le-leb (first - second) g.rows (omega (arith, more))) refl

-- ---- windows that all have the pool's size
-- the two words of a number
words_of : (a b width depth : ℕ) → a < 2 ^ 32 → width < 2 ^ 32 → bits_of a b ≡ bits_of width depth → (a ≡ width) × (b ≡ depth)
words_of a b width depth l m e = (omega arith, omega arith)

pool_size_fits : (g : Settings) → Bounds g → size_fit g (size_of g) ≡ true
unfolding size_fit
pool_size_fits g b =
    rw (le-leb 1 g.width b.width1, le-leb g.width g.width (le_refl g.width), le-leb 1 g.depth b.depth1, le-leb g.depth deepest b.depth64, le-leb (2 * g.depth) g.rows b.rows2)
    refl

module _ (ws : List ℕ) (g : Settings) (bounds : Bounds g) (small : (i : ℕ) → get_or ws i 0 < 2 ^ 32) where
  abbrev pool_bits : ℕ
  pool_bits = bits_of g.width g.depth

  -- a size by its number
  size_by : (at : ℕ) → bits_at ws at ≡ pool_bits → record { width = get_or ws at 0; depth = get_or ws (at + 1) 0 } ≡ size_of g
  size_by at e =
      let t = words_of (get_or ws at 0) (get_or ws (at + 1) 0) g.width g.depth (small at) (omega (arith, bounds.width16)) e in
      λ u. record { width = t.0 u; depth = t.1 u }

  none_by : (at : ℕ) → bits_at ws at ≡ 0 → record { width = get_or ws at 0; depth = get_or ws (at + 1) 0 } ≡ no_size
  none_by at e =
      let first : get_or ws at 0 ≡ 0 = omega arith in
      let second : get_or ws (at + 1) 0 ≡ 0 = omega arith in
      λ u. record { width = first u; depth = second u }

  module _ (some : 1 ≤ live_of ws g) (most : live_of ws g ≤ most_live) (wanted : (k : ℕ) → k < most_live → bits_at ws (pairs_at g + pair_words * k) ≡ wanted_bits (live_of ws g) pool_bits k) where
    live_size : (k : ℕ) → k < live_of ws g → nth_size ws g k ≡ size_of g
    live_size k l = size_by (pair_at g k) (wanted k (omega arith) ∙ wanted_live (live_of ws g) pool_bits k l)

    none_size : (k : ℕ) → live_of ws g ≤ k → k < most_live → nth_size ws g k ≡ no_size
    none_size k l m = none_by (pair_at g k) (wanted k m ∙ wanted_none (live_of ws g) pool_bits k l)

    as_first : (k : ℕ) → k < live_of ws g → nth_size ws g k ≡ nth_size ws g 0
    as_first k l = live_size k l ∙ sym (live_size 0 some)

    pub windows_plain : has_windows g ≡ true → get_or ws (set_at g) 0 ≡ 0 → g.depth ≤ get_or ws mark_at 0 → get_or ws mark_at 0 - g.depth + live_of ws g * g.depth ≡ get_or ws top_at 0 → bits_at ws (windows_at g) ≡ pool_bits
        → windows_fit ws g ≡ true
    unfolding windows_fit cond bottom_of
    windows_plain has set low lead next =
        let deep : (nth_size ws g 0).depth ≡ g.depth = ap (λ (x : Size). x.depth) (live_size 0 some) in
        let fits = pool_size_fits g bounds in
        let next_fits : size_fit g (next_size ws g) ≡ true = ap (size_fit g) (size_by (windows_at g) next) ∙ fits in
        let pairs : all_below most_live (pair_fit ws g) ≡ true = pairs_alike ws g as_first some most none_size ∙ ap (size_fit g) (live_size 0 some) ∙ fits in
        rw (has, le-leb (get_or ws (set_at g) 0) 1 (omega (arith, set)), le-leb 1 (live_of ws g) some, le-leb (live_of ws g) most_live most, next_fits, pairs, le-leb (nth_size ws g 0).depth (get_or ws mark_at 0) (omega (arith, deep, low)), eq-eqb (bottom_of ws g (live_of ws g)) (get_or ws top_at 0) (reaches low lead deep))
        refl
      where
        reaches : g.depth ≤ get_or ws mark_at 0 → get_or ws mark_at 0 - g.depth + live_of ws g * g.depth ≡ get_or ws top_at 0 → (nth_size ws g 0).depth ≡ g.depth → bottom_of ws g (live_of ws g) ≡ get_or ws top_at 0
        reaches low lead deep = tops_alike ws g as_first (live_of ws g) (le_refl (live_of ws g)) ∙ rw deep lead

    -- the take window is as deep as the pool, so its bottom is the plain one
    pub bottom_plain : g.kind ≡ 0 → plain_bottom ws g ≡ bottom_of ws g 0
    unfolding plain_bottom cond bottom_of
    bottom_plain queue = rw (eq-eqb g.kind 0 queue, ap (λ (x : Size). x.depth) (live_size 0 some)) refl

-- the same, where the words of the windows start at a place that was worked out before
pub windows_plain_at : (ws : List ℕ) (g : Settings) → Bounds g → ((i : ℕ) → get_or ws i 0 < 2 ^ 32) → g.kind ≡ 0 → has_windows g ≡ true → (at x : ℕ) → at ≡ windows_at g → x ≡ bits_of g.width g.depth
    → 1 ≤ get_or ws (at + 3) 0 → get_or ws (at + 3) 0 ≤ most_live → ((k : ℕ) → k < most_live → bits_at ws (at + 4 + pair_words * k) ≡ wanted_bits (get_or ws (at + 3) 0) x k)
    → get_or ws (set_at g) 0 ≡ 0 → g.depth ≤ get_or ws mark_at 0 → get_or ws mark_at 0 - g.depth + get_or ws (at + 3) 0 * g.depth ≡ get_or ws top_at 0 → bits_at ws (at + 0) ≡ x
    → (windows_fit ws g ≡ true) × (plain_bottom ws g ≡ bottom_of ws g 0)
windows_plain_at ws g bounds small queue has at x e f some most wanted set low lead next =
    let pairs : (k : ℕ) → k < most_live → bits_at ws (pairs_at g + pair_words * k) ≡ wanted_bits (live_of ws g) (bits_of g.width g.depth) k = λ k l. rw (e, f) at (wanted k l) in (
      windows_plain ws g bounds small (rw e at some) (rw e at most) pairs has set low (rw e at lead) (rw (add-zero at, e, f) at next),
      bottom_plain ws g bounds small (rw e at some) (rw e at most) pairs queue,
    )
