-- K8's moves: what a pool of edition 1 is given by a move on is just what a move back asks for, so that it goes back, and nothing of it is lost.
use Prim.Native.Nat.{ℕ, ◌+◌, ◌-◌, ◌/◌, ◌%◌, ◌≤◌, ◌<◌}
use mathlib.Core.Path.{◌≡◌, refl, sym, ap, subst, ◌∙◌}
use mathlib.Core.Bool.{Bool, true, false}
use mathlib.Core.List.{List}
use native.Mathlib.Decide.{ℕ_discrete}
use native.Mathlib.Omega.{arith}
use lib.ListN.{get_or, length}
use lib.Seq.{paste}
use lib.Dec.{eqb}
use borrow.Author.Tests.{eq-eqb, ne_eqb}
use Rattle.laws.specs.Choice.{cond, all}
use Rattle.rules.specs.Answers.{out}
use Rattle.rules.specs.Layout.{settings_of, lost_word, bottom_word, width_word, set_at, worker_at, needed}
use Rattle.rules.specs.Limits.{windowed, most_live}
use Rattle.rules.specs.Windows.{has_windows, size_of, next_size, live_of, nth_size}
use Rattle.rules.specs.Worker.{slot_at}
use Rattle.rules.specs.Make.{in_edition}
use Rattle.rules.specs.Fit.{past_window, FitPool}
use Rattle.rules.specs.NewWord.{new_word}
use Rattle.turnaround.specs.Move.{apart, subs_fit_in, own_size, seen_back, back_limits, may_move, own_live, moved_words, move_of, MovesOn}
use Rattle.turnaround.specs.Widening.{WindowsGiven, SeenGiven, Widened, MoveOnGives, OneToTwoToOne}
use Rattle.rules.specs.declared.Answer.TheVariants.{Moving}
use Rattle.turnaround.proofs.Types.{Settings, Size, Slot}
use Rattle.rules.proofs.Workers.{words_one, words_two}
use Rattle.rules.proofs.Fitness.{queue_limits_law, fit_head}
use Rattle.rules.proofs.machine.Slots.{has_windows_law, has_none, has_no_queue}
use Rattle.rules.proofs.words.Fit.{all_below_law, sub_is_fit, sub_anywhere}
use Rattle.turnaround.proofs.Stores.{windowed_old}
use Rattle.turnaround.proofs.May.{own_times}
use Rattle.rules.proofs.machine.Moved.{slot_moved}
use Rattle.turnaround.proofs.Slots.{bottom_given, width_given, stack_given}
use Rattle.turnaround.proofs.Words.{new_word_law, first_kept, second_kept, moved_blank, moved_next, moved_set, moved_live, moved_size, moved_none}
use Rattle.turnaround.proofs.Fits.{Movable, source_pool, source_long, few_live, goes_on_law, slots_moved}
use Rattle.turnaround.proofs.Moved.{move_accepted}
use Rattle.turnaround.proofs.Back.{word_kept, there_and_back}
use Rattle.std.specs.Prelude.{Ok}

-- a worker that has not looked at the window is given none
window_none : (g : Settings) (o : Slot) (k : ℕ) → past_window o.number ≡ false → new_word g o k ≡ 0
unfolding new_word cond
window_none g o k past = go (eqb g.kind 0) refl
  where
    go : (x : Bool) → eqb g.kind 0 ≡ x → new_word g o k ≡ 0
    go true e = rw (e, past) refl
    go false e = rw e refl

seen_deep : (from : List ℕ) (g : Settings) → MovesOn from g → (i : ℕ) → i < g.workers → past_window (slot_at g from (worker_at g i)).number ≡ true → g.depth ≤ (slot_at g from (worker_at g i)).window
unfolding slot_at
seen_deep from g on i l past = on.seen i l past

windowed_two : (g : Settings) → windowed (in_edition 2 g) ≡ true
unfolding windowed
windowed_two g = refl

-- a pool of edition 1, moved on
module _ (from : List ℕ) (g : Settings) (to : List ℕ) (m : Movable 2 from g to) (one : g.edition ≡ 1) where
  abbrev h : Settings
  h = in_edition 2 g

  abbrev moved : List ℕ
  moved = moved_words from g to h

  long : needed g ≤ length from
  long = source_long 2 from g to m

  few : has_windows h ≡ true → own_live from g ≤ most_live
  few = few_live 2 from g to m

  has : g.kind ≡ 0 → has_windows h ≡ true
  has kind = has_windows_law h (windowed_two g) kind

  on : g.kind ≡ 0 → MovesOn from g
  on kind = goes_on_law 2 from g to m (has kind)

  given : g.kind ≡ 0 → WindowsGiven from g moved h
  given kind =
      let live = moved_live from g to 2 long m.long few (has kind) in
      let times : own_live from g - 1 ≡ apart from / g.depth = omega arith in
      record {
        next = moved_next from g to 2 long m.long few (has kind);
        not_set = moved_set from g to 2 long m.long few (has kind);
        live1 = omega (arith, live);
        live16 = omega (arith, live, few (has kind));
        lead = rw (live, times) (omega (arith, own_times from g (on kind), (on kind).order));
        size = λ k l. moved_size from g to 2 long m.long few (has kind) k (omega (arith, live));
        none = λ k l z. moved_none from g to 2 long m.long few (has kind) k (omega (arith, live)) z;
      }

  -- a worker's two new words
  word : (i k : ℕ) → i < g.workers → lost_word < k → k ≤ width_word → get_or moved (worker_at h i + k) 0 ≡ new_word g (slot_at g from (worker_at g i)) k
  word i k l a z = new_word_law from g to 2 long m.long few i k l (omega (arith, words_one g.edition one)) (omega (arith, words_two 2 (omega arith)))

  seen_given : (i : ℕ) → i < g.workers → SeenGiven from g moved h i
  unfolding slot_at
  seen_given i l =
      let o = slot_at g from (worker_at g i) in
      let bottom = word i bottom_word l (omega arith) (omega arith) in
      let width = word i width_word l (omega arith) (omega arith) in
      record {
        wide = λ kind past. width ∙ width_given g o kind past;
        deep = λ kind past. omega (arith, bottom, bottom_given g o kind past, (on kind).seen i l past);
        not_past = λ past. (bottom ∙ window_none g o bottom_word past, width ∙ window_none g o width_word past);
        stack = λ n. (bottom ∙ stack_given g o bottom_word (ne_eqb g.kind 0 n), width ∙ stack_given g o width_word (ne_eqb g.kind 0 n));
      }

  widened : Widened from g moved h
  widened =
      record {
        windows = given;
        stack = λ n k l. moved_blank from g to 2 long m.long few (has_no_queue h n) k l;
        seen = seen_given;
      }

  -- ---- it goes back
  own_holds : (size : Size) → size ≡ size_of g → own_size h size ≡ true
  own_holds size e =
      rw (eq-eqb size.width g.width (ap (λ (z : Size). z.width) e), eq-eqb size.depth g.depth (ap (λ (z : Size). z.depth) e)) refl

  own_seen : g.kind ≡ 0 → (o : Slot) → (past_window o.number ≡ true → g.depth ≤ o.window) → seen_back h (slot_moved g h o) ≡ true
  unfolding cond
  own_seen kind o deep = go (past_window o.number) refl
    where
      go : (x : Bool) → past_window o.number ≡ x → seen_back h (slot_moved g h o) ≡ true
      go false e = rw e refl
      go true e =
          rw (
            e,
            windowed_two g,
            width_given g o kind e,
            bottom_given g o kind e,
            eq-eqb g.width g.width refl,
            eq-eqb (o.window - g.depth + g.depth) o.window (omega (arith, deep e)),
          ) refl

  seen_holds : g.kind ≡ 0 → (i : ℕ) → i < g.workers → seen_back h (slot_at h moved (worker_at h i)) ≡ true
  seen_holds kind i l =
      subst (λ (o : Slot). seen_back h o ≡ true) (sym (slots_moved 2 from g to m i l))
      (own_seen kind (slot_at g from (worker_at g i)) (seen_deep from g (on kind) i l))

  subs_hold : subs_fit_in moved g ≡ true
  subs_hold =
      let pool : FitPool g from = source_pool 2 from g to m in
      all_below_law g.width _ (λ j l.
      rw (first_kept from g to 2 long m.long few j l, second_kept from g to 2 long m.long few j l)
      (sub_is_fit g _ _ _ pool.bounds.kind1 (sub_anywhere g _ _ _ _ (has_none g (windowed_old g (omega arith))) (pool.sub j l))))

  goes_back : may_move moved h g ≡ true
  unfolding may_move cond
  goes_back = rw (has_none g (windowed_old g (omega arith))) (go (ℕ_discrete g.kind 0))
    where
      go : Dec (g.kind ≡ 0) → cond (has_windows h) (all (back_limits moved h g)) true ≡ true
      go (no n) = rw (has_no_queue h n) refl
      go (yes kind) =
          let w = given kind in
          let rows = (queue_limits_law g (fit_head g.edition from g m.fit).0 kind).1 (windowed_old g (omega arith)) in
          rw (
            has kind,
            eq-eqb (get_or moved (set_at h) 0) 0 w.not_set,
            eq-eqb (g.rows % g.depth) 0 rows,
            own_holds (next_size moved h) w.next,
            all_below_law (live_of moved h) (λ k. own_size h (nth_size moved h k)) (λ k l. own_holds (nth_size moved h k) (w.size k l)),
            all_below_law g.workers (λ i. seen_back h (slot_at h moved (worker_at h i))) (seen_holds kind),
            subs_hold,
          ) refl

pub move_on_gives : MoveOnGives
move_on_gives from to none =
    let w = move_accepted 1 2 from to none in
    rw w.is (widened from (settings_of from) to w.movable w.edition)

pub one_to_two_to_one : OneToTwoToOne
one_to_two_to_one from middle to none long =
    let w = move_accepted 1 2 from middle none in
    let g = settings_of from in
    let on = w.movable in
    let one : g.edition ≡ 1 = w.edition in
    let nine = words_one g.edition one in
    let eleven = words_two 2 (omega arith) in
    let same = there_and_back 2 from g middle to (omega arith) on long (goes_back from g middle on one) from (source_long 2 from g middle on) (λ m l. refl)
    (λ i k l a. sym (word_kept 2 from g middle on i k l a (omega arith))) (λ m l. refl) in
    rw w.is (subst (λ (a : ℕ). move_of 2 a (moved_words from g middle (in_edition 2 g)) to ≡ out (Ok Moving) (paste to 0 from (needed g))) one same)
