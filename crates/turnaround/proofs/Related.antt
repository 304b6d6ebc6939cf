-- A move and the machine: the words that a move leaves say the state that the source's words said, but that each slot has the two words of the window
-- seen as the new edition has them. So a worker is in the phase that it was in, and the machine's invariant goes on holding, of the new edition.
use Prim.Native.Nat.{ℕ, suc, ◌+◌, ◌-◌, ◌*◌, ◌≤◌, ◌<◌}
use mathlib.Core.Path.{◌≡◌, refl, sym, ap, subst, ◌∙◌}
use mathlib.Core.Logic.{◌≢◌}
use mathlib.Core.Bool.{Bool, true, false, false≢true}
use mathlib.Core.List.{List}
use native.Mathlib.Nat.{le_refl, div-eq_of_eq-mul_left, lt_of_mul-lt-mul_right}
use native.Mathlib.Decide.{ℕ_discrete}
use native.Mathlib.Omega.{arith}
use lib.ListN.{get_or, length}
use Rattle.laws.specs.Wrap.{sub32}
use Rattle.rules.specs.Answers.{Out, number_of}
use Rattle.rules.specs.Layout.{steps_at, puts_at, top_at, mark_at, edition_at, cell_words, cells_at, cell_of, needed}
use Rattle.rules.specs.Limits.{settings_fit, windowed, most_live, Bounds}
use Rattle.rules.specs.Make.{in_edition}
use Rattle.rules.specs.Sequential.{Contents}
use Rattle.rules.specs.Windows.{has_windows, size_of}
use Rattle.rules.specs.Held.{item_at}
use Rattle.turnaround.specs.Move.{apart, own_live, moved_words, move_of}
use Rattle.turnaround.proofs.Types.{Settings}
use Rattle.rules.proofs.Fitness.{settings_bounds}
use Rattle.rules.proofs.Cells.{queue_below, cell_lt}
use Rattle.rules.proofs.machine.Machine.{State, size_at, phase_in}
use Rattle.rules.proofs.machine.Slots.{has_windows_law, has_queue}
use Rattle.rules.proofs.machine.Good.{good}
use Rattle.rules.proofs.words.Says.{Says, WindowsSay}
use Rattle.rules.proofs.queue.Inv.{Plain, Inv, puts_in, window_of}
use Rattle.rules.proofs.queue.Full.{times_less}
use Rattle.rules.proofs.queue.Turn.{queue_kind}
use Rattle.rules.proofs.stack.Inv.{versions_in}
use Rattle.rules.proofs.stack.Turn.{stack_kind}
use Rattle.rules.proofs.Transfer.{Whole, Related}
use Rattle.rules.proofs.BothKinds.{kind_by, kind_of}
use Rattle.rules.proofs.machine.Moved.{slot_moved, moved_in}
use Rattle.turnaround.proofs.May.{may_back, leads_apart}
use Rattle.turnaround.proofs.Words.{head_word, cell_word, first_kept, second_kept, moved_long, moved_settings, moved_blank, moved_next, moved_set, moved_live, moved_size, moved_none}
use Rattle.turnaround.proofs.Fits.{Movable, source_long, few_live, limits_moved, goes_on_law, slots_moved}
use Rattle.turnaround.proofs.Moved.{move_accepted}
use Rattle.turnaround.proofs.Kept.{common_moved, queue_phase_moved, queue_inv_moved, snap_moved}
use Rattle.turnaround.proofs.KeptStack.{stack_phase_moved, stack_inv_moved}

-- ---- what a move leaves, with the same list: every worker is in the phase that it was in, and whatever list it is, what holds goes on holding
pub record MovedRelated (g : Settings) (limits : settings_fit g ≡ true) (b : ℕ) {ws : List ℕ} {s : State} (r : Related g limits (kind_of g limits) ws s) (vs : List ℕ) : Type 0 where
  pub fits : settings_fit (in_edition b g) ≡ true
  pub related : Related (in_edition b g) fits (kind_of (in_edition b g) fits) vs (moved_in g (in_edition b g) s)
  pub list : related.list ≡ r.list
  pub phase : (i : ℕ) → phase_in (in_edition b g) (moved_in g (in_edition b g) s) i ≡ phase_in g s i
  pub whole : (q : Contents) → Whole g limits (kind_of g limits) s q → Whole (in_edition b g) fits (kind_of (in_edition b g) fits) (moved_in g (in_edition b g) s) q
  pub snap : (s₀ : State) (q₀ : Contents) (i : ℕ) → (kind_of g limits).Snap s₀ q₀ i s → (kind_of (in_edition b g) fits).Snap s₀ q₀ i (moved_in g (in_edition b g) s)

abbrev pub MoveRelated : Type 0
MoveRelated =
    (g : Settings) (limits : settings_fit g ≡ true) (b : ℕ) (ws : List ℕ) (s : State) (r : Related g limits (kind_of g limits) ws s) (area : List ℕ)
    → number_of (move_of g.edition b ws area).answer ≡ 0 → MovedRelated g limits b r (move_of g.edition b ws area).words

-- ---- the words
module _ (g : Settings) (b : ℕ) (ws : List ℕ) (s : State) (area : List ℕ) (says : Says g ws s) (m : Movable b ws g area) where
  abbrev h : Settings
  h = in_edition b g

  abbrev moved : List ℕ
  moved = moved_words ws g area h

  abbrev then : State
  then = moved_in g h s

  long : needed g ≤ length ws
  long = source_long b ws g area m

  few : has_windows h ≡ true → own_live ws g ≤ most_live
  few = few_live b ws g area m

  -- ---- a queue of windows of the pool's size
  module _ (kind : g.kind ≡ 0) (q : Contents) (inv : Inv g s q) where
    -- no size was ever set
    never_set : s.set ≡ 0
    never_set = go (windowed g) refl
      where
        go : (x : Bool) → windowed g ≡ x → s.set ≡ 0
        go false e = (inv.pool.old e).not_set
        go true e =
            let had = has_windows_law g e kind in
            sym (says.windows had).set ∙ (may_back ws g h m.may (none e (windowed h) refl) had).not_set
          where
            none : windowed g ≡ true → (y : Bool) → windowed h ≡ y → has_windows h ≡ false
            none e false f = rw f refl
            none e true f = absurd (false≢true (sym (leads_apart g b m.leads_on f) ∙ e))

    plain : Plain g s.frame s.next s.first s.puts
    plain = inv.pool.plain never_set

    -- how far P is above T
    apart_is : apart ws ≡ (s.frame.tail - s.frame.head) * g.depth
    apart_is =
        let o = inv.pool in
        let up = plain.base_is (suc s.frame.tail) (le_refl _) in
        let low = plain.base_is (suc s.frame.head) (omega (arith, o.windows.order)) in
        omega (arith, says.top, says.mark, o.top, o.mark, times_less s.frame.head s.frame.tail g.depth o.windows.order)

    few_windows : windowed h ≡ true → s.frame.tail < s.frame.head + most_live
    few_windows w =
        let on = goes_on_law b ws g area m (has_windows_law h w kind) in
        let l : (s.frame.tail - s.frame.head) * g.depth < most_live * g.depth = omega (arith, on.most, apart_is, plain.next_deep, inv.pool.size.depth1) in
        omega (arith, lt_of_mul-lt-mul_right g.depth l)

    -- so many windows are live
    live_is : own_live ws g ≡ suc s.frame.tail - s.frame.head
    live_is =
        let deep : 0 < g.depth = omega (arith, plain.next_deep, inv.pool.size.depth1) in
        omega (arith, div-eq_of_eq-mul_left {n = g.depth} {m = apart ws} {k = s.frame.tail - s.frame.head} deep apart_is, inv.pool.windows.order)

    own_at : (k : ℕ) → k ≤ s.frame.tail → size_of g ≡ size_at s.frame k
    own_at k l =
        let wide : g.width ≡ s.frame.wide k = sym (plain.wide_is k l) in
        let deep : g.depth ≡ s.frame.base (suc k) - s.frame.base k =
        omega (arith, plain.base_is (suc k) (omega arith), plain.base_is k (omega arith)) in
        λ u. record { width = wide u; depth = deep u }

    windows_say : has_windows h ≡ true → WindowsSay h moved then
    windows_say has =
        let wide : g.width ≡ s.next.width = sym plain.next_wide in
        let deep : g.depth ≡ s.next.depth = sym plain.next_deep in
        record {
          next = moved_next ws g area b long m.long few has ∙ (λ u. record { width = wide u; depth = deep u });
          set = moved_set ws g area b long m.long few has ∙ sym never_set;
          live = moved_live ws g area b long m.long few has ∙ live_is;
          size = λ k l. moved_size ws g area b long m.long few has k (omega (arith, live_is)) ∙ own_at (s.frame.head + k) l;
          none = λ k l z. moved_none ws g area b long m.long few has k (omega (arith, live_is)) z;
        }

    -- each held row has an item
    all_there : (j r : ℕ) → j < g.width → s.second j < r → r ≤ s.first j → 1 ≤ (s.item j r).stamp
    all_there j r l low high =
        let o = inv.pool in
        let k = window_of o.windows r (omega arith) (omega (arith, o.subs.put_le j)) in
        o.items.there k.0 j r k.1 (omega (arith, plain.wide_is k.0 k.1)) k.2 k.3 high

  -- ---- the words say the state
  cell_kept : Bounds g → (j r : ℕ) → j < g.width → item_at moved h j r ≡ item_at ws g j r
  cell_kept bounds j r l =
      let at = cell_words * (j * g.rows + cell_of g r) in
      let low = cell_lt g j (sub32 r 1) bounds l in
      let value = cell_word ws g area b long m.long few at (omega arith) in
      let stamp = cell_word ws g area b long m.long few (at + 1) (omega arith) in
      let here : (f : Settings) → cells_at f + (at + 1) ≡ cells_at f + at + 1 = λ f. omega arith in
      let stamp' : get_or moved (cells_at h + at + 1) 0 ≡ get_or ws (cells_at g + at + 1) 0 = rw (here h, here g) at stamp in
      λ u. record { value = value u; stamp = stamp' u }

  kept : (k : ℕ) → k < 12 → k ≢ edition_at → get_or moved k 0 ≡ get_or ws k 0
  kept k l n = head_word ws g area b long m.long few k (omega arith) n

  says_moved : Bounds g → (g.kind ≡ 0 → (q : Contents) × Inv g s q) → Says h moved then
  says_moved bounds queue =
      record {
        long = moved_long ws g area b long m.long few;
        settings = moved_settings ws g area b long m.long few says.settings;
        steps = kept steps_at (omega arith) (λ u. omega arith) ∙ says.steps;
        puts = kept puts_at (omega arith) (λ u. omega arith) ∙ says.puts;
        top = kept top_at (omega arith) (λ u. omega arith) ∙ says.top;
        mark = kept mark_at (omega arith) (λ u. omega arith) ∙ says.mark;
        first = λ j l. first_kept ws g area b long m.long few j l ∙ says.first j l;
        second = λ j l. second_kept ws g area b long m.long few j l ∙ says.second j l;
        slot = λ i l. slots_moved b ws g area m i l ∙ ap (slot_moved g h) (says.slot i l);
        cell = λ j r l low high y. cell_kept bounds j r l ∙ says.cell j r l low high (λ had.
            let kind = has_queue g had in
            let z = queue kind in
            all_there kind z.0 z.1 j r l (omega (arith, queue_below g kind (s.second j))) high);
        windows = λ has. let kind = has_queue h has in let z = queue kind in windows_say kind z.0 z.1 has;
        blank = λ none k l. moved_blank ws g area b long m.long few none k l;
      }

-- ---- of a kind
module _ (g : Settings) (limits : settings_fit g ≡ true) (b : ℕ) (ws : List ℕ) (s : State) (area : List ℕ) (says : Says g ws s) (m : Movable b ws g area) where
  fits : settings_fit (in_edition b g) ≡ true
  fits = limits_moved b ws g area m

  record Over (d : Dec (g.kind ≡ 0)) (q : Contents) : Type 0 where
    said : Says (in_edition b g) (moved_words ws g area (in_edition b g)) (moved_in g (in_edition b g) s)
    phase : (i : ℕ) → phase_in (in_edition b g) (moved_in g (in_edition b g) s) i ≡ phase_in g s i
    inv : (kind_by (in_edition b g) fits d).Inv (moved_in g (in_edition b g) s) q

  over : (d : Dec (g.kind ≡ 0)) (q : Contents) → (kind_by g limits d).Inv s q → Over d q
  unfolding kind_by queue_kind stack_kind
  over (yes e) q inv =
      record {
        said = says_moved g b ws s area says m (settings_bounds g limits) (λ kind. (q, inv));
        phase = queue_phase_moved g b s q e (good (in_edition b g) fits) inv (never_set g b ws s area says m e q inv);
        inv = queue_inv_moved g b s q e (good (in_edition b g) fits) inv (never_set g b ws s area says m e q inv) (few_windows g b ws s area says m e q inv);
      }
  over (no n) q inv =
      let kind : g.kind ≡ 1 = omega (arith, (settings_bounds g limits).kind1) in
      record {
        said = says_moved g b ws s area says m (settings_bounds g limits) (λ e. absurd (n e));
        phase = stack_phase_moved g b s kind;
        inv = stack_inv_moved g b s kind q inv;
      }

  link : (d : Dec (g.kind ≡ 0)) → ((i : ℕ) → phase_in (in_edition b g) (moved_in g (in_edition b g) s) i ≡ phase_in g s i)
      → (s₀ : State) (q₀ : Contents) (i : ℕ) → (kind_by g limits d).Snap s₀ q₀ i s → (kind_by (in_edition b g) fits d).Snap s₀ q₀ i (moved_in g (in_edition b g) s)
  unfolding kind_by queue_kind stack_kind
  link (yes e) same s₀ q₀ i z = rw (same i) (snap_moved g b (puts_in s₀) q₀ (puts_in s) (s.slot i).index (phase_in g s i) z)
  link (no n) same s₀ q₀ i z = rw (same i) (snap_moved g b (versions_in s₀) q₀ (versions_in s) (s.slot i).index (phase_in g s i) z)

pub move_related : MoveRelated
move_related g limits b ws s r area none =
    let w = move_accepted g.edition b ws area none in
    let own = r.says.settings in
    let m : Movable b ws g area = subst (λ (x : Settings). Movable b ws x area) own w.movable in
    let is : (move_of g.edition b ws area).words ≡ moved_words ws g area (in_edition b g) =
    ap (λ (o : Out). o.words) w.is ∙ ap (λ (x : Settings). moved_words ws x area (in_edition b x)) own in
    let d = ℕ_discrete g.kind 0 in
    let bounds = settings_bounds g limits in
    let o = over g limits b ws s area r.says m d r.list r.whole.inv in
    rw is (record {
      fits = fits g limits b ws s area r.says m;
      related = record { says = o.said; list = r.list; whole = record { common = common_moved g b s bounds r.whole.common; inv = o.inv } };
      list = refl;
      phase = o.phase;
      whole = λ q u. record { common = common_moved g b s bounds u.common; inv = (over g limits b ws s area r.says m d q u.inv).inv };
      snap = link g limits b ws s area r.says m d o.phase;
    })
