-- The take window goes on to the next one. It may because every sub in its width is spent; a sub outside it has no row there.
use mathlib.Core.Path.{◌≡◌, refl}
use Prim.Native.Nat.{ℕ, suc, ◌≤◌, ◌<◌}
use native.Mathlib.Nat.{le_refl}
use native.Mathlib.Decide.{ℕ_discrete, dec_lt}
use native.Mathlib.Omega.{arith}
use Rattle.rules.specs.Sequential.{Contents}
use Rattle.rules.proofs.Types.{Settings}
use Rattle.rules.proofs.machine.Machine.{Frame, State, mark_of, dropped_of}
use Rattle.rules.proofs.queue.Inv.{Windows, Subs, Items, Pool, base_le}
use Rattle.rules.proofs.queue.Moves.{Upward}

module _ (g : Settings) (s : State) (q : Contents) (o : Pool g s q)
    (reached : (j : ℕ) → j < s.frame.wide s.frame.head → mark_of s.frame ≤ s.second j) where
  abbrev f : Frame
  f = s.frame

  abbrev f' : Frame
  f' = dropped_of f

  windows : f.head < f.tail → Windows g f'
  windows below =
      let w = o.windows in
      record {
        order = below;
        ground = w.ground;
        rise = w.rise;
        deep = w.deep;
        half = w.half;
        wide1 = w.wide1;
        wide_le = w.wide_le;
        room = omega (arith, w.room, base_le w f.head (suc f.head) (omega arith) (omega arith));
      }

  -- a sub with nothing above the take window's top holds nothing
  low : (j : ℕ) → s.first j ≤ mark_of f → s.first j ≤ s.second j
  low j l = elim (dec_lt j (f.wide f.head)) [
    | yes y ↦ omega (arith, reached j y)
    | no n ↦ o.subs.low j (o.subs.outside f.head j o.windows.order (omega arith) l)
  ]

  subs : f.head < f.tail → Subs f' s.first s.second
  subs below =
      let b = o.subs in
      record {
        held = b.held;
        put_le = b.put_le;
        taken_le = λ j. omega (arith, b.taken_le j, base_le o.windows (suc f.head) (suc (suc f.head)) (omega arith) (omega arith));
        filled = b.filled;
        spent = λ k j l m. elim (ℕ_discrete k f.head) [
          | yes e ↦ let m' : j < f.wide f.head = rw e at m in rw e (reached j m')
          | no n ↦ b.spent k j (omega arith) m
        ];
        outside = b.outside;
        low = low;
      }

  items : Items f' s.first s.item s.puts
  items =
      let x = o.items in
      record {
        few = x.few;
        rise = x.rise;
        apart = x.apart;
        below = x.below;
        place = λ j r l. let p = x.place j r l in
            record { at = p.at; at_le = p.at_le; inside = p.inside; above = p.above; within = p.within };
        there = x.there;
        order = x.order;
      }

  pub drop : (mark : ℕ) → mark ≡ mark_of f' → f.head < f.tail → Upward g s s.top mark f'
  drop mark same below =
      record {
        put_is = o.top;
        take_is = same;
        head = omega arith;
        tail = le_refl _;
        base = λ k l. refl;
        wide = λ k l. refl;
        top = le_refl _;
        windows = windows below;
        subs = subs below;
        items = items;
        plain = λ e. let p = o.plain e in
            record { base_is = p.base_is; wide_is = p.wide_is; next_wide = p.next_wide; next_deep = p.next_deep; total = p.total };
        live = λ e. omega (arith, o.live e);
      }
