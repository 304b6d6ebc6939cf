-- A take's pass that finds nothing, and why the pool was empty at its last read if its confirm leaves nothing.
--
-- Nothing left means that no put has come since the reads (Passes, where the sums may wrap). Some sub was bare below the top of the
-- window seen. If it has had no put since, the put window has not gone on, so at the last read the put window, the take window and
-- the window seen were one. A spent sub has then taken all; a bare one has had no put since; and a sub outside the width has no row
-- in this window, and held nothing below it.
use mathlib.Core.Path.{◌≡◌, refl, sym}
use mathlib.Core.Logic.{◌≢◌, ◌⊎◌, inl, inr}
use mathlib.Core.List.{[]}
use Prim.Native.Nat.{ℕ, suc, ◌≤◌, ◌<◌}
use native.Mathlib.Nat.{le_refl}
use native.Mathlib.Decide.{ℕ_discrete, dec_lt, dec_le}
use native.Mathlib.Omega.{arith}
use Rattle.laws.specs.Wrap.{add32}
use Rattle.rules.specs.Windows.{higher}
use Rattle.rules.specs.Effects.{next_of}
use Rattle.rules.specs.Sequential.{Contents}
use Rattle.rules.proofs.Types.{Settings, QueueConfirm, Span}
use Rattle.rules.proofs.counts.Visits.{Visited, visited_all, visited_here, visited_next, visited_still, visited_just}
use Rattle.rules.proofs.counts.Wraps.{next_lt}
use Rattle.rules.proofs.counts.Passes.{Summed, summed_more, summed_here, summed_off, pass_start}
use Rattle.rules.proofs.counts.Held.{none_held}
use Rattle.rules.proofs.machine.Machine.{Frame, State, top_of, mark_of}
use Rattle.rules.proofs.machine.Ways.{SnapAt}
use Rattle.rules.proofs.queue.Inv.{Pool, Sees, Read, count_in, same_top_law}

-- ---- one sub more is read
module _ (s : State) (index : ℕ) (window : Span) (bare scan sum : ℕ) (ls : scan < window.width) (k : Read s index window bare scan sum) where
  abbrev here : ℕ
  here = count_in s window.bottom index

  abbrev Hit : ℕ → ℕ → Type 0
  Hit j x = (window.top ≤ s.second j) ⊎ (x ≤ higher (s.second j) window.bottom)

  abbrev Before : ℕ → Type 0
  Before j = (j ≡ index) ⊎ Visited window.width index scan j

  above : window.bottom ≤ here
  above = omega arith

  sums : Summed window.width window.bottom (count_in s window.bottom) (next_of window.width index) (suc scan) (add32 sum here)
  sums = summed_more window.width window.bottom (count_in s window.bottom) index scan sum k.index_lt ls above k.sums

  at_index : sums.reads index ≡ here
  unfolding sums
  at_index = summed_here window.width window.bottom (count_in s window.bottom) index scan sum k.index_lt ls above k.sums

  off : (j : ℕ) → j ≢ index → sums.reads j ≡ k.sums.reads j
  unfolding sums
  off j n = summed_off window.width window.bottom (count_in s window.bottom) index scan sum k.index_lt ls above k.sums j n

  missed : Hit index here → (j : ℕ) → j < window.width → Visited window.width (next_of window.width index) (suc scan) j → Hit j (sums.reads j)
  missed hit j l v = elim (ℕ_discrete j index) [ yes e ↦ rw e (own hit) | no n ↦ rw (off j n) (old (visited_next window.width k.index_lt l v) n) ]
    where
      own : Hit index here → Hit index (sums.reads index)
      own (inl a) = inl a
      own (inr a) = inr (omega (arith, at_index))

      old : Before j → j ≢ index → Hit j (k.sums.reads j)
      old (inl e) n = absurd (n e)
      old (inr u) n = k.missed j l u

  still_low : bare ≢ 0 → (j : ℕ) × (j < window.width) × Visited window.width (next_of window.width index) (suc scan) j × (sums.reads j < window.top)
  still_low n =
      let o = k.low n in
      let m : o.0 ≢ index = λ e. visited_here ls (rw e at o.2) in
      (o.0, o.1, visited_still window.width k.index_lt o.2, omega (arith, off o.0 m, o.3))

  on : next_of window.width index < window.width
  on = next_lt window.width index (omega (arith, k.index_lt))

  pub read_spent : window.top ≤ s.second index → Read s (next_of window.width index) window bare (suc scan) (add32 sum here)
  read_spent a =
      record {
        sees = k.sees;
        index_lt = on;
        bare_le = omega (arith, k.bare_le);
        sums = sums;
        missed = missed (inl a);
        spent = λ e j l v. spent e j l (visited_next window.width k.index_lt l v);
        low = still_low;
      }
    where
      spent : bare ≡ 0 → (j : ℕ) → j < window.width → Before j → window.top ≤ s.second j
      spent e j l (inl y) = rw y a
      spent e j l (inr u) = k.spent e j l u

  pub read_bare : window.bottom < window.top → s.second index < window.top → s.first index ≡ s.second index → Read s (next_of window.width index) window (suc bare) (suc scan) (add32 sum here)
  read_bare high under e =
      record {
        sees = k.sees;
        index_lt = on;
        bare_le = omega (arith, k.bare_le);
        sums = sums;
        missed = missed (inr (omega arith));
        spent = λ z. absurd (omega arith);
        low = λ n. (index, k.index_lt, visited_just window.width k.index_lt, omega (arith, at_index));
      }

-- ---- one window is both, and each sub in its width is spent or bare: no item is held
module _ {g : Settings} {s : State} {q : Contents} (o : Pool g s q) where
  abbrev f : Frame
  f = s.frame

  abbrev Done : ℕ → Type 0
  Done j = (mark_of f ≤ s.second j) ⊎ (higher (s.first j) (f.base f.head) ≤ higher (s.second j) (f.base f.head))

  pub nothing_held : f.head ≡ f.tail → ((j : ℕ) → j < f.wide f.head → Done j) → q.items ≡ []
  nothing_held one done = none_held o.holds (λ j l. same j (dec_lt j (f.wide f.head)))
    where
      top_is : mark_of f ≡ top_of f
      top_is = rw one refl

      low : (j : ℕ) → s.first j ≤ f.base f.head → s.second j ≡ s.first j
      low j l = omega (arith, o.subs.low j l, o.subs.held j)

      by : (j : ℕ) → Done j → s.second j ≡ s.first j
      by j (inl a) = omega (arith, top_is, o.subs.put_le j, o.subs.held j)
      by j (inr a) = elim (dec_le (s.first j) (f.base f.head)) [ yes y ↦ low j y | no n ↦ omega (arith, o.subs.held j) ]

      same : (j : ℕ) → Dec (j < f.wide f.head) → s.second j ≡ s.first j
      same j (yes y) = by j (done j y)
      same j (no n) = low j (o.subs.outside f.head j o.windows.order (omega arith) (omega (arith, top_is, o.subs.put_le j)))

  -- the windows are one where the put window's top is that of a window that a take has seen
  pub one_window : (window : Span) (k : Sees f f.head window) → top_of f ≡ window.top → (f.head ≡ f.tail) × (k.at ≡ f.head)
  one_window window k e =
      let a : k.at ≡ f.tail =
      same_top_law o.windows k.at f.tail (omega (arith, k.at_le, o.windows.order)) (le_refl _) (omega (arith, k.top)) in
      (omega (arith, k.at_le, o.windows.order), omega (arith, k.at_le, o.windows.order))

  -- ---- all subs are read, some of them bare: the link of a take that goes to confirm
  pub link : (index : ℕ) (window : Span) (bare sum : ℕ) → bare ≢ 0 → Read s index window bare window.width sum → SnapAt g s.first q s.first index (QueueConfirm window 0 sum)
  link index window bare sum some-bare k = pass_start k.index_lt k.sums said
    where
      said : ((j : ℕ) → j < window.width → k.sums.reads j ≡ count_in s window.bottom j) → q.items ≡ []
      said same = nothing_held one.0 (λ j l. done j l)
        where
          -- the bare sub has not filled the window seen, so the put window has not gone on
          top_same : top_of f ≡ window.top
          top_same =
              let b = k.low some-bare in
              let under : s.first b.0 < window.top = omega (arith, same b.0 b.1, b.3) in
              let at_tail : k.sees.at ≡ f.tail = elim (dec_lt k.sees.at f.tail) [
                | yes y ↦ absurd (omega (arith, k.sees.top, o.subs.filled k.sees.at b.0 y (omega (arith, b.1, k.sees.wide))))
                | no n ↦ omega (arith, k.sees.at_le, o.windows.order)
              ] in
              let e : window.top ≡ top_of f = rw at_tail at k.sees.top in
              sym e

          one : (f.head ≡ f.tail) × (k.sees.at ≡ f.head)
          one = one_window window k.sees top_same

          bottom_is : window.bottom ≡ f.base f.head
          bottom_is = rw one.1 at k.sees.bottom

          wide_is : window.width ≡ f.wide f.head
          wide_is = rw one.1 at k.sees.wide

          top_is : window.top ≡ mark_of f
          top_is = rw one.1 at k.sees.top

          done : (j : ℕ) → j < f.wide f.head → Done j
          done j l = by (k.missed j lj (visited_all k.index_lt lj))
            where
              lj : j < window.width
              lj = omega (arith, wide_is)

              by : ((window.top ≤ s.second j) ⊎ (k.sums.reads j ≤ higher (s.second j) window.bottom)) → Done j
              by (inl a) = inl (omega (arith, top_is))
              by (inr a) = inr (omega (arith, bottom_is, same j lj))
