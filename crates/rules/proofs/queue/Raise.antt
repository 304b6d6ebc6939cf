-- A new put window: a window of the next size is added at the end, and nothing else changes. It may be added because every sub in
-- the put window's width has reached its top; it holds nothing yet, for no last put row is above the put window's top.
use mathlib.Core.Path.{◌≡◌, sym, ◌∙◌}
use mathlib.Core.Bool.{true}
use Prim.Native.Nat.{ℕ, suc, ◌+◌, ◌-◌, ◌*◌, ◌≤◌, ◌<◌}
use native.Mathlib.Nat.{le_refl}
use native.Mathlib.Decide.{ℕ_discrete}
use native.Mathlib.Omega.{arith}
use Rattle.rules.specs.Limits.{windowed, most_live}
use Rattle.rules.specs.Sequential.{Contents}
use Rattle.rules.proofs.Types.{Settings}
use Rattle.rules.proofs.counts.Sums.{upd_same, upd_other}
use Rattle.rules.proofs.machine.Machine.{Frame, State, top_of, raised_of}
use Rattle.rules.proofs.queue.Inv.{Windows, Subs, Items, Plain, Pool, base_le}
use Rattle.rules.proofs.queue.Moves.{Upward}

module _ (g : Settings) (s : State) (q : Contents) (o : Pool g s q) (top : ℕ) (top_is : top ≡ top_of s.frame + s.next.depth) where
  abbrev f : Frame
  f = s.frame

  abbrev f' : Frame
  f' = raised_of f s.next.width top

  -- the windows that were, and the new one
  base_old : (k : ℕ) → k ≤ suc f.tail → f'.base k ≡ f.base k
  base_old k l = upd_other f.base (suc (suc f.tail)) top k (λ e. omega arith)

  base_new : f'.base (suc (suc f.tail)) ≡ top
  base_new = upd_same f.base (suc (suc f.tail)) top

  wide_old : (k : ℕ) → k ≤ f.tail → f'.wide k ≡ f.wide k
  wide_old k l = upd_other f.wide (suc f.tail) s.next.width k (λ e. omega arith)

  wide_new : f'.wide (suc f.tail) ≡ s.next.width
  wide_new = upd_same f.wide (suc f.tail) s.next.width

  -- what holds of the windows that were and of the new one holds of all
  each : (P : ℕ → Type 0) → ((k : ℕ) → k ≤ f.tail → P k) → P (suc f.tail) → (k : ℕ) → k ≤ suc f.tail → P k
  each P old new k l = elim (ℕ_discrete k (suc f.tail)) [ yes e ↦ rw e new | no n ↦ old k (omega arith) ]

  windows : top ≤ f.base f.head + g.rows → Windows g f'
  windows fits =
      let w = o.windows in
      let z = o.size in
      let up : (k : ℕ) → k ≤ suc f.tail → f.base k ≤ top_of f = λ k l. base_le w k (suc f.tail) l (le_refl _) in
      let end : f'.base (suc f.tail) ≡ top_of f = base_old (suc f.tail) (le_refl _) in
      record {
        order = omega (arith, w.order);
        ground = omega (arith, base_old 0 (omega arith), w.ground);
        rise = λ k m l u. elim (ℕ_discrete m (suc (suc f.tail))) [
          | yes e ↦ let l' : k < suc (suc f.tail) = rw e at l in
              rw e (omega (arith, base_new, top_is, base_old k (omega arith), up k (omega arith), z.depth1))
          | no n ↦ omega (arith, base_old k (omega arith), base_old m (omega arith), w.rise k m l (omega arith))
        ];
        deep = each (λ k. f'.base (suc k) ≤ f'.base k + 64)
            (λ k l. omega (arith, base_old k (omega arith), base_old (suc k) (omega arith), w.deep k l))
            (omega (arith, end, base_new, top_is, z.depth64));
        half = each (λ k. 2 * f'.base (suc k) ≤ 2 * f'.base k + g.rows)
            (λ k l. omega (arith, base_old k (omega arith), base_old (suc k) (omega arith), w.half k l))
            (omega (arith, end, base_new, top_is, z.depth_half));
        wide1 = each (λ k. 1 ≤ f'.wide k) (λ k l. omega (arith, wide_old k l, w.wide1 k l)) (omega (arith, wide_new, z.width1));
        wide_le = each (λ k. f'.wide k ≤ g.width) (λ k l. omega (arith, wide_old k l, w.wide_le k l)) (omega (arith, wide_new, z.width_most));
        room = omega (arith, base_new, base_old f.head (omega (arith, w.order)));
      }

  subs : ((j : ℕ) → j < f.wide f.tail → top_of f ≤ s.first j) → Subs f' s.first s.second
  subs reached =
      let w = o.windows in
      let b = o.subs in
      let end : f'.base (suc f.tail) ≡ top_of f = base_old (suc f.tail) (le_refl _) in
      record {
        held = b.held;
        put_le = λ j. omega (arith, base_new, top_is, b.put_le j);
        taken_le = λ j. omega (arith, base_old (suc f.head) (omega (arith, w.order)), b.taken_le j);
        filled = λ k j l m. elim (ℕ_discrete k f.tail) [
          | yes e ↦ let m' : j < f'.wide f.tail = rw e at m in
              rw e (omega (arith, end, reached j (omega (arith, wide_old f.tail (le_refl _)))))
          | no n ↦ omega (arith, base_old (suc k) (omega arith), b.filled k j (omega arith) (omega (arith, wide_old k (omega arith))))
        ];
        spent = λ k j l m. omega (
          arith,
          w.order,
          base_old (suc k) (omega (arith, w.order)),
          b.spent k j l (omega (arith, wide_old k (omega (arith, w.order)))),
        );
        outside = λ k j l. each (λ k. f'.wide k ≤ j → s.first j ≤ f'.base (suc k) → s.first j ≤ f'.base k)
            (λ k l a c. omega (arith, base_old k (omega arith), b.outside k j l (omega (arith, wide_old k l)) (omega (arith, base_old (suc k) (omega arith)))))
            (λ a c. omega (arith, end, b.put_le j)) k l;
        low = λ j l. b.low j (omega (arith, base_old f.head (omega (arith, w.order))));
      }

  items : Items f' s.first s.item s.puts
  items =
      let x = o.items in
      let b = o.subs in
      let end : f'.base (suc f.tail) ≡ top_of f = base_old (suc f.tail) (le_refl _) in
      record {
        few = x.few;
        rise = x.rise;
        apart = x.apart;
        below = x.below;
        place = λ j r l. let p = x.place j r l in record {
          at = p.at;
          at_le = omega (arith, p.at_le);
          inside = omega (arith, p.inside, wide_old p.at p.at_le);
          above = omega (arith, p.above, base_old p.at (omega (arith, p.at_le)));
          within = omega (arith, p.within, base_old (suc p.at) (omega (arith, p.at_le)));
        };
        there = λ k j r l. each (λ k. j < f'.wide k → f'.base k < r → r ≤ f'.base (suc k) → r ≤ s.first j → 1 ≤ (s.item j r).stamp)
            (λ k l a c d e. x.there k j r l (omega (arith, wide_old k l)) (omega (arith, base_old k (omega arith))) (omega (arith, base_old (suc k) (omega arith))) e)
            (λ a c d e. absurd (omega (arith, end, b.put_le j))) k l;
        order = λ c j m r r' l. each (λ c. r ≤ f'.base c → f'.base c < r' → 1 ≤ (s.item j r).stamp → 1 ≤ (s.item m r').stamp → (s.item j r).stamp < (s.item m r').stamp)
            (λ c l a d e h. x.order c j m r r' l (omega (arith, base_old c (omega arith))) (omega (arith, base_old c (omega arith))) e h)
            (λ a d e h. absurd (omega (arith, end, b.put_le m, x.below m r' h))) c l;
      }

  plain : Plain g f s.next s.first s.puts → Plain g f' s.next s.first s.puts
  plain p =
      record {
        base_is = λ k l. elim (ℕ_discrete k (suc (suc f.tail))) [
          | yes e ↦ rw e (omega (arith, base_new, top_is, p.base_is (suc f.tail) (le_refl _), p.next_deep))
          | no n ↦ omega (arith, base_old k (omega arith), p.base_is k (omega arith))
        ];
        wide_is = each (λ k. f'.wide k ≡ g.width) (λ k l. wide_old k l ∙ p.wide_is k l) (wide_new ∙ p.next_wide);
        next_wide = p.next_wide;
        next_deep = p.next_deep;
        total = p.total;
      }

  pub raise : top ≤ f.base f.head + g.rows → ((j : ℕ) → j < f.wide f.tail → top_of f ≤ s.first j)
      → (windowed g ≡ true → suc f.tail - f.head < most_live) → Upward g s top s.mark f'
  raise fits reached few =
      record {
        put_is = sym base_new;
        take_is = o.mark ∙ sym (base_old (suc f.head) (omega (arith, o.windows.order)));
        head = le_refl _;
        tail = omega arith;
        base = base_old;
        wide = wide_old;
        top = omega (arith, base_new, top_is);
        windows = windows fits;
        subs = subs reached;
        items = items;
        plain = λ e. plain (o.plain e);
        live = λ e. omega (arith, few e);
      }
