-- The words after a step that stores all that a step may store, but a queue's windows, say the machine's state after it. An outcome that stores less
-- leaves the same words (Writes, Follows).
use mathlib.Core.Path.{◌≡◌, refl, sym, ap, ◌∙◌}
use mathlib.Core.Logic.{◌≢◌}
use mathlib.Core.Bool.{true}
use mathlib.Core.List.{List}
use Prim.Native.Nat.{ℕ, ◌+◌, ◌≤◌, ◌<◌}
use native.Mathlib.Nat.{le_trans}
use native.Mathlib.Decide.{ℕ_discrete}
use native.Mathlib.Omega.{arith}
use lib.ListN.{length, get_or}
use Rattle.laws.specs.Wrap.{add32}
use Rattle.rules.specs.Limits.{step_limit}
use Rattle.rules.specs.Layout.{sub_at, worker_at, worker_words, cells_at, first_of, second_of, second_at, set_at, live_at, windows_at, pair_at, next_width_at, next_depth_at}
use Rattle.rules.specs.Windows.{has_windows}
use Rattle.rules.specs.Worker.{slot_at}
use Rattle.rules.specs.Held.{item_at, rows_below}
use Rattle.rules.proofs.Types.{Settings, Effect}
use Rattle.rules.proofs.Workers.{Read, worker_within, slots_apart}
use Rattle.rules.proofs.counts.Sums.{upd, upd_same, upd_other}
use Rattle.rules.proofs.counts.Wraps.{add32_suc}
use Rattle.rules.proofs.machine.Machine.{State, sub_in, view_in, below_in, after_in}
use Rattle.rules.proofs.machine.Slots.{Blank, has_none}
use Rattle.rules.proofs.machine.Does.{Keeps}
use Rattle.rules.proofs.words.Says.{Says, WindowsSay}
use Rattle.rules.proofs.words.Writes.{all_set, HeadKept, settings_kept, slot_kept, item_kept, size_same, next_same, all_length, all_off, all_steps, all_puts, all_top, all_mark, all_first, all_second, all_slot}

-- the windows of words that are as they were from the windows on, of a state with the same windows
pub windows_kept : (g : Settings) (ws vs : List ℕ) (s t : State) → ((m : ℕ) → windows_at g ≤ m → get_or vs m 0 ≡ get_or ws m 0)
    → t.next ≡ s.next → t.set ≡ s.set → t.frame ≡ s.frame → WindowsSay g ws s → WindowsSay g vs t
windows_kept g ws vs s t off next set frame w =
    record {
      next = next_same ws vs g (off (next_width_at g) (omega arith)) (off (next_depth_at g) (omega arith)) ∙ w.next ∙ sym next;
      set = off (set_at g) (omega arith) ∙ w.set ∙ sym set;
      live = rw frame (off (live_at g) (omega arith) ∙ w.live);
      size = λ k. rw frame (λ l. size_same ws vs g k k (off (pair_at g k) (omega arith)) (off (pair_at g k + 1) (omega arith)) ∙ w.size k l);
      none = λ k. rw frame (λ l m. size_same ws vs g k k (off (pair_at g k) (omega arith)) (off (pair_at g k + 1) (omega arith)) ∙ w.none k l m);
    }

-- the cells of the held rows have their items
abbrev pub CellsSay : Settings → List ℕ → State → Type 0
CellsSay g ws s =
    (k r : ℕ) → k < g.width → below_in g s k < r → r ≤ s.first k → (has_windows g ≡ true → 1 ≤ (s.item k r).stamp) → item_at ws g k r ≡ s.item k r

module _ (g : Settings) (ws : List ℕ) (s : State) (says : Says g ws s) (i : ℕ) (li : i < g.workers) (lj : sub_in s i < g.width) (e : Effect) where
  abbrev j : ℕ
  j = sub_in s i

  abbrev at : ℕ
  at = worker_at g i

  abbrev vs : List ℕ
  vs = all_set g ws at j e

  above : second_at j < at
  above = omega arith

  long : at + worker_words g.edition ≤ length ws
  long = omega (arith, says.long, worker_within g i li)

  -- a place before the workers, and one behind them, is none of a worker's
  before : (m : ℕ) → m < at → (k : ℕ) → Read g.edition k → m ≢ at + k
  before m l k r u = omega arith

  behind : (m : ℕ) → cells_at g ≤ m → (k : ℕ) → Read g.edition k → m ≢ at + k
  behind m l k r u = omega (arith, r.there, worker_within g i li)

  head : HeadKept ws vs
  head m s = let l = s.below in all_off g ws at j e m s.steps s.puts s.top s.mark (λ u. omega arith) (λ u. omega arith) (before m (omega arith))

  other_sub : (k : ℕ) → k < g.width → k ≢ j → (first_of vs k ≡ first_of ws k) × (second_of vs k ≡ second_of ws k)
  other_sub k l n = (
    all_off g ws at j e (sub_at k) (λ u. omega arith) (λ u. omega arith) (λ u. omega arith) (λ u. omega arith) (λ u. n (omega arith)) (λ u. omega arith) (before (sub_at k) (omega arith)),
    all_off g ws at j e (second_at k) (λ u. omega arith) (λ u. omega arith) (λ u. omega arith) (λ u. omega arith) (λ u. omega arith) (λ u. n (omega arith)) (before (second_at k) (omega arith)),
  )

  other_slot : (m : ℕ) → m ≢ i → slot_at g vs (worker_at g m) ≡ slot_at g ws (worker_at g m)
  other_slot m n =
      slot_kept g ws vs (worker_at g m) (λ k l. all_off g ws at j e (worker_at g m + k)
      (λ u. omega arith) (λ u. omega arith) (λ u. omega arith) (λ u. omega arith) (λ u. omega arith) (λ u. omega arith) (λ y r. slots_apart g i m k y l r n))

  cells_off : (m : ℕ) → cells_at g ≤ m → get_or vs m 0 ≡ get_or ws m 0
  cells_off m l =
      all_off g ws at j e m (λ u. omega arith) (λ u. omega arith) (λ u. omega arith) (λ u. omega arith) (λ u. omega arith) (λ u. omega arith) (behind m l)

  pub after_says : s.steps < step_limit → Blank g e.slot → CellsSay g ws (after_in s i e) → Says g vs (after_in s i e)
  after_says few blank cells =
      record {
        long = rw (all_length g ws at j e) says.long;
        settings = settings_kept ws vs head ∙ says.settings;
        steps = all_steps g ws at j e above long ∙ ap (λ (x : ℕ). add32 x 1) says.steps ∙ add32_suc s.steps (omega arith);
        puts = all_puts g ws at j e above long;
        top = all_top g ws at j e above long;
        mark = all_mark g ws at j e above long;
        first = λ k l. elim (ℕ_discrete k j) [
          | yes y ↦ rw y (all_first g ws at j e above long ∙ sym (upd_same s.first j e.first))
          | no n ↦ (other_sub k l n).0 ∙ says.first k l ∙ sym (upd_other s.first j e.first k n)
        ];
        second = λ k l. elim (ℕ_discrete k j) [
          | yes y ↦ rw y (all_second g ws at j e above long ∙ sym (upd_same s.second j e.second))
          | no n ↦ (other_sub k l n).1 ∙ says.second k l ∙ sym (upd_other s.second j e.second k n)
        ];
        slot = λ m l. elim (ℕ_discrete m i) [
          | yes y ↦ rw y (all_slot g ws at j e above long (λ old. blank (has_none g old)) ∙ sym (upd_same s.slot i e.slot))
          | no n ↦ other_slot m n ∙ says.slot m l ∙ sym (upd_other s.slot i e.slot m n)
        ];
        cell = λ k r l a b y. item_kept g ws vs cells_off k r ∙ cells k r l a b y;
        windows = λ has. windows_kept g ws vs s (after_in s i e) (λ m l. cells_off m (omega arith)) refl refl refl (says.windows has);
        blank = λ none k l. cells_off (windows_at g + k) (omega arith) ∙ says.blank none k l;
      }

  -- a step that adds no held row
  pub keeps_cells : Keeps g (view_in g s i) e → CellsSay g ws (after_in s i e)
  keeps_cells h k r l a b stamped = elim (ℕ_discrete k j) [
    | yes y ↦
        let a' : rows_below g (upd s.second j e.second j) < r = rw y at a in
        let b' : r ≤ upd s.first j e.first j = rw y at b in
        let a'' : rows_below g e.second < r = rw (upd_same s.second j e.second) at a' in
        let b'' : r ≤ e.first = rw (upd_same s.first j e.first) at b' in
        rw y (says.cell j r lj (le_trans (omega (arith, h.below)) a'') (le_trans b'' h.first) (rw y at stamped))
    | no n ↦
        says.cell k r l (rw (upd_other s.second j e.second k n) at a) (rw (upd_other s.first j e.first k n) at b) stamped
  ]
