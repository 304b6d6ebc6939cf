-- What a worker's view says of the windows: the put window and the take window of the view are those of the frame, and so is a window that a worker has
-- seen; the next depth, and that of the window after the take window. "The higher of" a last row and a window's bottom is what the rules go by: where all
-- windows have the pool's size every sub has reached the bottom of a window seen, so that it is the sub's own row.
use mathlib.Core.Path.{◌≡◌, refl, sym, ap, ◌∙◌, subst}
use mathlib.Core.Bool.{Bool, true, false, false≢true}
use Prim.Native.Nat.{ℕ, suc, ◌+◌, ◌-◌, ◌*◌, ◌≤◌, ◌<◌}
use native.Mathlib.Nat.{le_refl}
use native.Mathlib.Omega.{arith}
use borrow.Author.Tests.{lt-ltb, le-ltb}
use Rattle.laws.specs.Choice.{cond, cases}
use Rattle.laws.specs.Wrap.{sub32}
use Rattle.rules.specs.Limits.{windowed, Bounds}
use Rattle.rules.specs.Windows.{has_windows, size_of, no_size, own_sizes, span_of, higher, level_of}
use Rattle.rules.specs.Worker.{seen_by}
use Rattle.rules.specs.Fit.{past_window}
use Rattle.rules.specs.Measures.{seen_size}
use Rattle.rules.specs.Effects.{queue_view, put_window, take_window}
use Rattle.rules.specs.Window.{window_for}
use Rattle.rules.specs.Sequential.{Contents}
use Rattle.rules.proofs.Types.{Settings, Size, Sizes, Side, Putting, Taking, Phase, QueueCommit, Span}
use Rattle.rules.proofs.counts.Wraps.{sub32_is}
use Rattle.rules.proofs.machine.Machine.{Frame, State, top_of, mark_of, size_at, sizes_at, sizes_in, places_after, places_in, view_in, phase_in}
use Rattle.rules.proofs.machine.Phases.{SpanTold, OfQueue, WindowIn}
use Rattle.rules.proofs.machine.Slots.{phase_from, has_windows_law, has_none}
use Rattle.rules.proofs.queue.Inv.{Windows, Plain, Pool, Sees, base_le, top_few, first_high, second_high}
use Rattle.rules.proofs.queue.Full.{times_less, places_are}

-- the phase that a worker of a queue is in
pub of_now : (g : Settings) → g.kind ≡ 0 → (s : State) (i : ℕ) (p : Phase) → phase_in g s i ≡ p → OfQueue g p
of_now g kind s i p now = subst (OfQueue g) now ((phase_from g (s.slot i)).0.0 kind)

-- the sizes that it reads
sizes_own : (g : Settings) (s : State) → windowed g ≡ false → sizes_in g s ≡ own_sizes g
unfolding sizes_in cond
sizes_own g s old = rw (has_none g old) refl

sizes_new : (g : Settings) (s : State) → g.kind ≡ 0 → windowed g ≡ true → sizes_in g s ≡ sizes_at s
unfolding sizes_in cond
sizes_new g s kind new = rw (has_windows_law g new kind) refl

-- a window of the view is told by a worker's words
pub window_told : (g : Settings) → g.kind ≡ 0 → (s : State) (i : ℕ) (side : Side) → SpanTold g (window_for (queue_view (view_in g s i)) side)
window_told g kind s i Putting old = ap (λ (z : Sizes). span_of s.top z.put) (sym (sizes_own g s old))
window_told g kind s i Taking old = ap (λ (z : Sizes). span_of s.mark z.take) (sym (sizes_own g s old))

module _ {g : Settings} {s : State} {q : Contents} (kind : g.kind ≡ 0) (o : Pool g s q) where
  abbrev f : Frame
  f = s.frame

  abbrev w : Windows g f
  w = o.windows

  -- editions 0 and 1
  pub plain : windowed g ≡ false → Plain g f s.next s.first s.puts
  plain old = o.plain (o.old old).not_set

  depth_at : windowed g ≡ false → (k : ℕ) → k ≤ f.tail → f.base (suc k) ≡ f.base k + g.depth
  depth_at old k l = omega (arith, (plain old).base_is k (omega arith), (plain old).base_is (suc k) (omega arith))

  -- the size of window k, by edition
  size_of_law : (sizes : Size) (k : ℕ) → k ≤ f.tail → (windowed g ≡ false → sizes ≡ size_of g) → (windowed g ≡ true → sizes ≡ size_at f k) → sizes ≡ size_at f k
  size_of_law sizes k l old new = go (windowed g) refl
    where
      go : (t : Bool) → windowed g ≡ t → sizes ≡ size_at f k
      go true e = new e
      go false e =
          let wide : g.width ≡ f.wide k = sym ((plain e).wide_is k l) in
          let deep : g.depth ≡ f.base (suc k) - f.base k = omega (arith, depth_at e k l) in
          old e ∙ (λ u. record { width = wide u; depth = deep u })

  pub put_size : (sizes_in g s).put ≡ size_at f f.tail
  put_size =
      size_of_law (sizes_in g s).put f.tail (le_refl _) (λ e. ap (λ (z : Sizes). z.put) (sizes_own g s e)) (λ e. ap (λ (z : Sizes). z.put) (sizes_new g s kind e))

  pub take_size : (sizes_in g s).take ≡ size_at f f.head
  take_size =
      size_of_law (sizes_in g s).take f.head w.order (λ e. ap (λ (z : Sizes). z.take) (sizes_own g s e)) (λ e. ap (λ (z : Sizes). z.take) (sizes_new g s kind e))

  -- of the window after the take window, where there is one
  pub after_size : f.head < f.tail → (sizes_in g s).after ≡ size_at f (suc f.head)
  unfolding cond
  after_size l =
      size_of_law (sizes_in g s).after (suc f.head) l (λ e. ap (λ (z : Sizes). z.after) (sizes_own g s e))
      (λ e. ap (λ (z : Sizes). z.after) (sizes_new g s kind e) ∙ rw (lt-ltb f.head f.tail l) refl)

  pub after_none : Bounds g → f.tail ≤ f.head → (sizes_in g s).after.depth ≤ 64
  unfolding cond
  after_none b l = go (windowed g) refl
    where
      go : (t : Bool) → windowed g ≡ t → (sizes_in g s).after.depth ≤ 64
      go true e =
          let none : (sizes_in g s).after ≡ no_size = ap (λ (z : Sizes). z.after) (sizes_new g s kind e) ∙ rw (le-ltb f.head f.tail l) refl in
          rw none (omega arith)
      go false e = rw (ap (λ (z : Sizes). z.after.depth) (sizes_own g s e)) b.depth64

  pub next_depth : (sizes_in g s).next.depth ≡ s.next.depth
  next_depth = go (windowed g) refl
    where
      go : (t : Bool) → windowed g ≡ t → (sizes_in g s).next.depth ≡ s.next.depth
      go true e = ap (λ (z : Sizes). z.next.depth) (sizes_new g s kind e)
      go false e = ap (λ (z : Sizes). z.next.depth) (sizes_own g s e) ∙ sym (plain e).next_deep

  pub live_is : windowed g ≡ true → (sizes_in g s).live ≡ suc f.tail - f.head
  live_is e = ap (λ (z : Sizes). z.live) (sizes_new g s kind e)

  -- a window of the size of window k and with its top is window k
  span_sees : (k limit top : ℕ) (size : Size) → k ≤ limit → limit ≤ f.tail → top ≡ f.base (suc k) → size ≡ size_at f k → Sees f limit (span_of top size)
  span_sees k limit top size l m e is =
      let few : f.base (suc k) ≤ top_of f = base_le w (suc k) (suc f.tail) (omega arith) (le_refl _) in
      let up = w.rise k (suc k) (omega arith) (omega arith) in
      subst (λ (z : Size). Sees f limit (span_of top z)) (sym is) (record {
        at = k;
        at_le = l;
        top = e;
        bottom = sub32_is top (f.base (suc k) - f.base k) (omega arith) (omega (arith, top_few o)) ∙ omega arith;
        wide = refl;
      })

  pub put_window_is : (i : ℕ) → Sees f f.tail (put_window (view_in g s i))
  put_window_is i = span_sees f.tail f.tail s.top _ (le_refl _) (le_refl _) o.top put_size

  pub take_window_is : (i : ℕ) → Sees f f.head (take_window (view_in g s i))
  take_window_is i = span_sees f.head f.head s.mark _ (le_refl _) w.order o.mark take_size

  -- the bottom of the take window
  pub take_bottom : (i : ℕ) → (take_window (view_in g s i)).bottom ≡ f.base f.head
  take_bottom i =
      let few : top_of f ≤ 4000000064 = top_few o in
      let up : mark_of f ≤ top_of f = base_le w (suc f.head) (suc f.tail) (omega (arith, w.order)) (le_refl _) in
      let rise = w.rise f.head (suc f.head) (omega arith) (omega (arith, w.order)) in
      ap (λ (z : Size). sub32 s.mark z.depth) take_size
      ∙ sub32_is s.mark (f.base (suc f.head) - f.base f.head) (omega (arith, o.mark)) (omega (arith, o.mark)) ∙ omega (arith, o.mark)

  -- ---- the rows
  -- every sub has reached the bottom of a window seen where all have the pool's size
  put_row : windowed g ≡ false → (bottom k : ℕ) → k ≤ f.tail → bottom ≡ f.base k → (j : ℕ) → j < g.width → higher (s.first j) bottom ≡ s.first j
  put_row old bottom k l e j lj =
      omega (arith, first_high o (plain old) j lj, base_le w k f.tail l (omega arith))

  take_row : windowed g ≡ false → (bottom k : ℕ) → k ≤ f.head → bottom ≡ f.base k → (j : ℕ) → j < g.width → higher (s.second j) bottom ≡ s.second j
  take_row old bottom k l e j lj =
      omega (arith, second_high o (plain old) j lj, base_le w k f.head l (omega (arith, w.order)))

  level_by : (last bottom : ℕ) → (windowed g ≡ false → higher last bottom ≡ last) → level_of g last bottom ≡ higher last bottom
  unfolding level_of
  level_by last bottom h = cases (λ (n : ℕ). n ≡ higher last bottom) (windowed g) _ _ (λ e. refl) (λ e. sym (h e))

  pub put_level : (window : Span) (limit : ℕ) → limit ≤ f.tail → Sees f limit window → (j : ℕ) → j < g.width
      → level_of g (s.first j) window.bottom ≡ higher (s.first j) window.bottom
  put_level window limit l k j lj =
      level_by (s.first j) window.bottom (λ old. put_row old window.bottom k.at (omega (arith, k.at_le)) k.bottom j lj)

  pub take_level : (window : Span) → Sees f f.head window → (j : ℕ) → j < g.width
      → level_of g (s.second j) window.bottom ≡ higher (s.second j) window.bottom
  take_level window k j lj = level_by (s.second j) window.bottom (λ old. take_row old window.bottom k.at k.at_le k.bottom j lj)

  -- the level above which a cell is free
  pub free_at : (j : ℕ) → j < g.width → level_of g (s.second j) (f.base f.head) ≡ higher (s.second j) (f.base f.head)
  free_at j lj = level_by (s.second j) (f.base f.head) (λ old. take_row old (f.base f.head) f.head (le_refl _) refl j lj)

  pub free_level : (i j : ℕ) → j < g.width → level_of g (s.second j) (take_window (view_in g s i)).bottom ≡ higher (s.second j) (f.base f.head)
  free_level i j lj = ap (level_of g (s.second j)) (take_bottom i) ∙ free_at j lj

  -- ---- what an answer is held to
  -- the size of the window that a worker at its commit has seen
  abbrev span_size : Span → Size
  span_size window = record { width = window.width; depth = window.top - window.bottom }

  seen_of : (i : ℕ) (window : Span) (last : ℕ) → phase_in g s i ≡ QueueCommit Taking window last → window ≡ seen_by g (s.slot i)
  seen_of i window last now =
      let both = subst (λ (p : Phase). WindowIn (λ x. (x ≡ seen_by g (s.slot i)) × (past_window (s.slot i).number ≡ true)) p) now (phase_from g (s.slot i)).1.1 in
      both.0

  pub seen_size_law : (i : ℕ) (window : Span) (last : ℕ) → phase_in g s i ≡ QueueCommit Taking window last → Sees f f.head window → seen_size g (s.slot i) ≡ span_size window
  unfolding seen_size seen_by cond
  seen_size_law i window last now k = go (windowed g) refl
    where
      go : (t : Bool) → windowed g ≡ t → seen_size g (s.slot i) ≡ span_size window
      go true e =
          let same : window ≡ record { top = (s.slot i).window; bottom = (s.slot i).bottom; width = (s.slot i).width } = seen_of i window last now ∙ (rw e refl) in
          rw (has_windows_law g e kind) (sym (ap span_size same))
      go false e =
          let l : k.at ≤ f.tail = omega (arith, k.at_le, w.order) in
          let wide : g.width ≡ window.width = sym (k.wide ∙ (plain e).wide_is k.at l) in
          let deep : g.depth ≡ window.top - window.bottom = omega (arith, depth_at e k.at l, k.top, k.bottom) in
          rw (has_none g e) (λ u. record { width = wide u; depth = deep u })

  -- the places after the take window
  pub places_same : places_in g s ≡ places_after f
  unfolding places_in
  places_same = go (windowed g) refl
    where
      swap : (a b c : ℕ) → a * (b * c) ≡ b * (a * c)
      swap a b c = omega arith

      go : (t : Bool) → windowed g ≡ t → cond (has_windows g) (places_after f) (g.width * (s.top - s.mark)) ≡ places_after f
      go true e = cases (λ (n : ℕ). n ≡ places_after f) (has_windows g) _ _ (λ h. refl) (λ h. absurd (false≢true (sym h ∙ has_windows_law g e kind)))
      go false e =
          let p = plain e in
          let up : top_of f ≡ suc f.tail * g.depth = p.base_is (suc f.tail) (le_refl _) in
          let low : mark_of f ≡ suc f.head * g.depth = p.base_is (suc f.head) (omega (arith, w.order)) in
          let rows : s.top - s.mark ≡ (f.tail - f.head) * g.depth =
          omega (arith, o.top, o.mark, times_less f.head f.tail g.depth w.order) in
          cases (λ (n : ℕ). n ≡ places_after f) (has_windows g) _ _ (λ h. refl)
          (λ h. rw rows (omega (arith, places_are o (o.old e).not_set, swap g.width (f.tail - f.head) g.depth)))
