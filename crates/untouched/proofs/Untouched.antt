-- No call touches a word beyond the needed ones: every word that a definition stores lies below them, whatever the words hold.
-- A refusal gives back the same words; a fit pool's index is below its width, so its sub and its cell are among the needed ones. A put window is raised
-- only where fewer than 16 are live, so there is a pair for it.
use Prim.Native.Nat.{ℕ, zero, suc, ◌+◌, ◌*◌, ◌-◌, ◌%◌, ◌≤◌, ◌<◌}
use mathlib.Core.Path.{◌≡◌, refl, sym, subst, ◌∙◌}
use mathlib.Core.Bool.{Bool, true, false}
use mathlib.Core.List.{List, [], ◌∷◌}
use native.Mathlib.Omega.{arith}
use lib.ListN.{get_or, set, length, length-set}
use lib.Seq.{get_or-set_other, sets}
use lib.Dec.{leb, ltb, eqb}
use borrow.Author.Tests.{ltb-true, leb-false, eqb-true}
use Rattle.laws.specs.Choice.{cond, cases, both_true, all_below_at}
use Rattle.laws.specs.Wrap.{sub32}
use Rattle.rules.specs.Answers.{Out}
use Rattle.rules.specs.Layout.{needed, worker_words, lost_word, worker_at, settings_of, index_at, bottom_at, windows_at, windows_words, pairs_at, pair_words}
use Rattle.rules.specs.Limits.{settings_fit, windowed, most_live}
use Rattle.rules.specs.Windows.{has_windows, live_of, sizes_in, own_sizes, sizes_of}
use Rattle.rules.specs.Worker.{put_slot, words_of, seen_words}
use Rattle.rules.specs.Fit.{Checked, Unfit, Fit, checked_of, windows_fit, FitPool}
use Rattle.rules.specs.Make.{zeroed, new_head, new_windows, indexed, made_words, make_of}
use Rattle.rules.specs.Begin.{out_of_steps, slot_begin, fit_begin, checked_begin, begin_of}
use Rattle.rules.specs.Effects.{view_of, take_window, queue_view, nothing_for}
use Rattle.rules.specs.Window.{window_rule}
use Rattle.rules.specs.Read.{miss_of, queue_put_read, queue_take_read, stack_read}
use Rattle.rules.specs.Check.{check_rule}
use Rattle.rules.specs.Commit.{commit_by, queue_put_commit, queue_take_commit, queue_commit, stack_commit}
use Rattle.rules.specs.Shift.{shift_by, new_top, may_rise, queue_shift, stack_shift}
use Rattle.rules.specs.Confirm.{confirmed_of, confirm_by, queue_confirm, stack_confirm}
use Rattle.rules.specs.Apply.{count_lost, put_item, put_sub, put_landed, put_shifted, pair_added, put_raised, words_down, pair_gone, put_dropped, put_worker, apply_by, apply_of}
use Rattle.rules.specs.Step.{rule_by, rule_of, slot_step, fit_step, checked_step, step_of}
use Rattle.rules.specs.Resize.{put_size, fit_set_size, checked_set_size, set_size_of}
use Rattle.untouched.specs.Untouched.{Beyond, MakeKeeps, BeginKeeps, StepKeeps, SetSizeKeeps}
use Rattle.rules.specs.declared.Settings.{Settings}
use Rattle.rules.specs.declared.Size.{Size}
use Rattle.rules.specs.declared.Side.{Side}
use Rattle.rules.specs.declared.Side.TheVariants.{Putting, Taking}
use Rattle.rules.specs.declared.Phase.{Phase}
use Rattle.rules.specs.declared.Phase.TheVariants.{Idle, Window, QueuePutRead, QueueTakeRead, StackRead, Check, QueueCommit, StackCommit, QueueShift, StackShift, QueueConfirm, StackConfirm}
use Rattle.rules.specs.declared.View.{View}
use Rattle.rules.specs.declared.Slot.{Slot}
use Rattle.rules.specs.declared.Row.{Row}
use Rattle.rules.specs.declared.Stamp.{Stamp}
use Rattle.rules.specs.declared.Effect.{Effect}
use Rattle.rules.specs.declared.Outcome.{Outcome}
use Rattle.rules.specs.declared.Outcome.TheVariants.{Refused, Moving, Lost, Shifted, Raised, Dropped, Landed, Removed, Empty, Full}
use Rattle.rules.proofs.Workers.{slot_within, worker_within, words_two, windows_some, windowed_is}
use Rattle.rules.proofs.Cells.{cell_lt}
use Rattle.rules.proofs.Fitness.{fit_pool, fit_parts}

-- ---- stores below n
pub unchanged : (n : ℕ) (ws : List ℕ) → Beyond n ws ws
unchanged n ws = record { length_same = refl; same = λ k l. refl }

store_keeps : (n i v : ℕ) (ws after : List ℕ) → i < n → Beyond n ws after → Beyond n ws (set after i v)
store_keeps n i v ws after l b =
    record {
      length_same = length-set after i v ∙ b.length_same;
      same = λ k h. get_or-set_other after i k v 0 (λ e. omega arith) ∙ b.same k h;
    }

stores_keep : (vs : List ℕ) (n i : ℕ) (ws after : List ℕ) → i + length vs ≤ n → Beyond n ws after → Beyond n ws (sets after i vs)
stores_keep [] n i ws after l b = b
stores_keep (v ∷ vs) n i ws after l b = stores_keep vs n (suc i) ws (set after i v) (omega arith) (store_keeps n i v ws after (omega arith) b)

-- ---- make
zeroed_keeps : (n i : ℕ) (ws : List ℕ) → i ≤ n → Beyond n ws (zeroed ws i)
unfolding zeroed
zeroed_keeps n zero ws l = unchanged n ws
zeroed_keeps n (suc i) ws l = store_keeps n i 0 ws (zeroed ws i) (omega arith) (zeroed_keeps n i ws (omega arith))

indexed_keeps : (g : Settings) (i : ℕ) (ws after : List ℕ) → i ≤ g.workers → Beyond (needed g) ws after → Beyond (needed g) ws (indexed after g i)
unfolding indexed
indexed_keeps g zero ws after l b = b
indexed_keeps g (suc i) ws after l b =
    store_keeps (needed g) (index_at (worker_at g i)) (i % g.width) ws (indexed after g i) (omega (arith, worker_within g i l, slot_within g.edition)) (indexed_keeps g i ws after (omega arith) b)

windows_within : (g : Settings) → length (new_windows g) ≤ windows_words g.edition
windows_within g =
    cases (λ (xs : List ℕ). length xs ≤ windows_words g.edition) (has_windows g) _ _
    (λ has. omega (arith, windows_some g.edition (windowed_is g (both_true (windowed g) _ has).0)))
    (λ old. omega arith)

made_keeps : (ws : List ℕ) (g : Settings) → Beyond (needed g) ws (made_words ws g)
unfolding made_words
made_keeps ws g =
    let head = stores_keep (new_head g) (needed g) 0 ws (zeroed ws (needed g)) (omega arith) (zeroed_keeps (needed g) (needed g) ws (omega arith)) in
    indexed_keeps g g.workers ws _ (omega arith) (stores_keep (new_windows g) (needed g) (windows_at g) ws _ (omega (arith, windows_within g)) head)

pub make_keeps : MakeKeeps
unfolding make_of
make_keeps ws g =
    cases (λ (o : Out). Beyond (needed g) ws o.words) (settings_fit g) _ _
    (λ e. cases (λ (o : Out). Beyond (needed g) ws o.words) (ltb (length ws) (needed g)) _ _ (λ f. unchanged _ ws) (λ f. made_keeps ws g))
    (λ e. unchanged _ ws)

-- ---- begin and step
slot_keeps : (g : Settings) (i : ℕ) (x : Slot) (ws after : List ℕ) → i < g.workers → Beyond (needed g) ws after → Beyond (needed g) ws (put_slot g after (worker_at g i) x)
unfolding put_slot
slot_keeps g i x ws after l b =
    let low = stores_keep (words_of x) (needed g) (worker_at g i) ws after (omega (arith, worker_within g i l, slot_within g.edition)) b in
    cases (Beyond (needed g) ws) (windowed g) _ _
    (λ e. stores_keep (seen_words x) (needed g) (bottom_at (worker_at g i)) ws _ (omega (arith, worker_within g i l, words_two g.edition (windowed_is g e))) low)
    (λ e. low)

begin_slot_keeps : (g : Settings) (ws : List ℕ) (i : ℕ) (side : Side) (value : ℕ) → i < g.workers → Beyond (needed g) ws (slot_begin ws g (worker_at g i) side value).words
unfolding slot_begin
begin_slot_keeps g ws i side value l =
    cases (λ (o : Out). Beyond (needed g) ws o.words) (eqb (get_or ws (worker_at g i) 0) 0) _ _
    (λ e. cases (λ (o : Out). Beyond (needed g) ws o.words) (out_of_steps ws) _ _
    (λ f. unchanged _ ws)
    (λ f. slot_keeps g i _ ws ws l (unchanged _ ws)))
    (λ e. unchanged _ ws)

begin_fit_keeps : (g : Settings) (ws : List ℕ) (i : ℕ) (side : Side) (value : ℕ) → Beyond (needed g) ws (fit_begin ws g i side value).words
unfolding fit_begin
begin_fit_keeps g ws i side value =
    cases (λ (o : Out). Beyond (needed g) ws o.words) (leb g.workers i) _ _
    (λ e. unchanged _ ws)
    (λ e. begin_slot_keeps g ws i side value (leb-false _ _ e))

pub begin_keeps : BeginKeeps
unfolding begin_of checked_begin
begin_keeps ed ws i side value = go (checked_of ed ws) refl
  where
    go : (c : Checked) → checked_of ed ws ≡ c → Beyond (needed (settings_of ws)) ws (checked_begin ws c i side value).words
    go (Unfit n) e = unchanged _ ws
    go (Fit g) e =
        subst (λ (h : Settings). Beyond (needed h) ws (fit_begin ws g i side value).words) (sym (fit_pool ed ws g e).settings)
        (begin_fit_keeps g ws i side value)

-- ---- room for a put window more
-- where a step raises the put window, fewer than 16 windows are live
abbrev pub Room : Settings → ℕ → Outcome → Type 0
Room g live (Refused n) = Unit
Room g live Moving = Unit
Room g live Lost = Unit
Room g live Shifted = Unit
Room g live Raised = windowed g ≡ true → live < most_live
Room g live Dropped = Unit
Room g live (Landed value row stamp) = Unit
Room g live (Removed row) = Unit
Room g live Empty = Unit
Room g live Full = Unit

pub record RoomFor (g : Settings) (v : View) (e : Effect) : Type 0 where
  pub room : Room g v.sizes.live e.outcome

module _ (g : Settings) (v : View) where
  miss_room : (width scan : ℕ) (again after : Phase) (kept : Slot) → RoomFor g v (miss_of g width v scan again after kept)
  unfolding miss_of
  miss_room width scan again after kept = cases (RoomFor g v) _ _ _ (λ e. record { room = tt }) (λ e. record { room = tt })

  commit_room : (side : Side) (matches able : Bool) (done : Effect) → RoomFor g v done → RoomFor g v (commit_by g v side matches able done)
  unfolding commit_by
  commit_room side matches able done h =
      cases (RoomFor g v) matches _ _ (λ e. cases (RoomFor g v) able done _ (λ f. h) (λ f. record { room = tt })) (λ e. record { room = tt })

  shift_room : (side : Side) (same able : Bool) (moved stuck : Effect) → (able ≡ true → RoomFor g v moved) → RoomFor g v stuck
      → RoomFor g v (shift_by g v side same able moved stuck)
  unfolding shift_by
  shift_room side same able moved stuck h k =
      cases (RoomFor g v) same _ _ (λ e. cases (RoomFor g v) able moved stuck h (λ f. k)) (λ e. record { room = tt })

  confirm_room : (side : Side) (width scan left : ℕ) (again : Phase) (sure : Bool) → RoomFor g v (confirm_by g v side width scan left again sure)
  unfolding confirm_by confirmed_of
  confirm_room side width scan left again sure =
      cases (RoomFor g v) _ _ _ (λ e. record { room = tt }) (λ e. cases (RoomFor g v) sure _ _ (λ f. record { room = nothing side }) (λ f. record { room = tt }))
    where
      nothing : (s : Side) → Room g v.sizes.live (nothing_for s)
      nothing Putting = tt
      nothing Taking = tt

  -- the one step that raises it asks for room
  rise_room : may_rise g (queue_view v) ≡ true → Room g v.sizes.live Raised
  unfolding cond
  rise_room may has = ltb-true _ _ (rw has at may)

  phase_room : (phase : Phase) → RoomFor g v (rule_by g v phase)
  unfolding rule_by window_rule queue_put_read queue_take_read stack_read check_rule queue_commit queue_put_commit queue_take_commit stack_commit queue_shift stack_shift queue_confirm stack_confirm
  phase_room Idle = record { room = tt }
  phase_room (Window side) = cases (RoomFor g v) _ _ _ (λ e. record { room = tt }) (λ e. record { room = tt })
  phase_room (QueuePutRead window scan) = cases (RoomFor g v) _ _ _ (λ e. record { room = tt }) (λ e. miss_room _ _ _ _ _)
  phase_room (QueueTakeRead window bare scan sum) =
      cases (RoomFor g v) _ _ _ (λ e. miss_room _ _ _ _ _) (λ e. cases (RoomFor g v) _ _ _ (λ f. miss_room _ _ _ _ _) (λ f. record { room = tt }))
  phase_room (StackRead side window version scan sum) = cases (RoomFor g v) _ _ _ (λ e. record { room = tt }) (λ e. miss_room _ _ _ _ _)
  phase_room (Check side version seen) = cases (RoomFor g v) _ _ _ (λ e. record { room = tt }) (λ e. record { room = tt })
  phase_room (QueueCommit Putting window seen) = commit_room _ _ _ _ (record { room = tt })
  phase_room (QueueCommit Taking window seen) = commit_room _ _ _ _ (record { room = tt })
  phase_room (StackCommit Putting seen) = commit_room _ _ _ _ (record { room = tt })
  phase_room (StackCommit Taking seen) = commit_room _ _ _ _ (record { room = tt })
  phase_room (QueueShift Putting window) =
      shift_room _ _ _ _ _ (λ able. record { room = rise_room (both_true (leb (sub32 (new_top (queue_view v)) (take_window v).bottom) g.rows) _ able).1 })
      (record { room = tt })
  phase_room (QueueShift Taking window) = shift_room _ _ _ _ _ (λ able. record { room = tt }) (record { room = tt })
  phase_room (StackShift Putting version scan sum) = shift_room _ _ _ _ _ (λ able. record { room = tt }) (record { room = tt })
  phase_room (StackShift Taking version scan sum) = shift_room _ _ _ _ _ (λ able. record { room = tt }) (record { room = tt })
  phase_room (QueueConfirm window scan sum) = confirm_room _ _ _ _ _ _
  phase_room (StackConfirm side scan sum) = confirm_room _ _ _ _ _ _

  pub rule_room : RoomFor g v (rule_of g v)
  unfolding rule_of
  rule_room = phase_room v.worker.phase

-- what a worker reads of the live windows, or their words are zero
pub live_read : (ws : List ℕ) (g : Settings) → windows_fit ws g ≡ true → windowed g ≡ true → (sizes_of ws g).live ≡ live_of ws g
unfolding windows_fit sizes_of cond
live_read ws g fit e = go (has_windows g) refl fit
  where
    go : (b : Bool) → has_windows g ≡ b → windows_fit ws g ≡ true → (cond b (sizes_in ws g) (own_sizes g)).live ≡ live_of ws g
    go true has f = refl
    go false old f = sym (eqb-true _ _ (all_below_at (windows_words g.edition) _ 3 (omega (arith, windows_some g.edition (windowed_is g e))) (rw old at f)))

module _ (g : Settings) (ws : List ℕ) (fit : FitPool g ws) (windows : windows_fit ws g ≡ true) (i j : ℕ) (li : i < g.workers) (lj : j < g.width) where
  sub_keeps : (e : Effect) (after : List ℕ) → Beyond (needed g) ws after → Beyond (needed g) ws (put_sub after j e)
  unfolding put_sub
  sub_keeps e after b = store_keeps _ _ _ ws _ (omega arith) (store_keeps _ _ _ ws after (omega arith) b)

  shifted_keeps : (e : Effect) → Beyond (needed g) ws (put_shifted ws e)
  unfolding put_shifted
  shifted_keeps e = store_keeps _ _ _ ws _ (omega arith) (store_keeps _ _ _ ws ws (omega arith) (unchanged _ ws))

  added_keeps : windowed g ≡ true → live_of ws g < most_live → Beyond (needed g) ws (pair_added ws g)
  unfolding pair_added
  added_keeps w l =
      let some = windows_some g.edition (windowed_is g w) in
      store_keeps _ _ _ ws _ (omega arith) (store_keeps _ _ _ ws _ (omega arith) (store_keeps _ _ _ ws ws (omega arith) (unchanged _ ws)))

  raised_keeps : (e : Effect) → Room g (sizes_of ws g).live Raised → Beyond (needed g) ws (put_raised ws g e)
  unfolding put_raised
  raised_keeps e room =
      store_keeps _ _ _ ws _ (omega arith) (cases (Beyond (needed g) ws) (windowed g) _ _ (λ w. added_keeps w (omega (arith, room w, live_read ws g windows w))) (λ w. unchanged _ ws))

  down_keeps : (n at k : ℕ) → at + k ≤ n → Beyond n ws (words_down ws at k)
  unfolding words_down
  down_keeps n at zero l = unchanged n ws
  down_keeps n at (suc k) l = store_keeps n (at + k) _ ws (words_down ws at k) (omega arith) (down_keeps n at k (omega arith))

  gone_keeps : windowed g ≡ true → Beyond (needed g) ws (pair_gone ws g)
  unfolding pair_gone
  gone_keeps w =
      let some = windows_some g.edition (windowed_is g w) in
      let down = down_keeps (needed g) (pairs_at g) (pair_words * (most_live - 1)) (omega arith) in
      store_keeps _ _ _ ws _ (omega arith) (store_keeps _ _ _ ws _ (omega arith) (store_keeps _ _ _ ws _ (omega arith) down))

  dropped_keeps : (e : Effect) → Beyond (needed g) ws (put_dropped ws g e)
  unfolding put_dropped
  dropped_keeps e = store_keeps _ _ _ ws _ (omega arith) (cases (Beyond (needed g) ws) (windowed g) _ _ gone_keeps (λ w. unchanged _ ws))

  worker_keeps : (e : Effect) (after : List ℕ) → Beyond (needed g) ws after → Beyond (needed g) ws (put_worker after g (worker_at g i) e)
  unfolding put_worker
  worker_keeps e after b = slot_keeps g i e.slot ws _ li (store_keeps _ _ _ ws after (omega arith) b)

  lost_keeps : Beyond (needed g) ws (count_lost ws g (worker_at g i))
  unfolding count_lost
  lost_keeps =
      cases (Beyond (needed g) ws) (ltb lost_word (worker_words g.edition)) _ _
      (λ e. store_keeps _ _ _ ws ws (omega (arith, worker_within g i li, ltb-true lost_word (worker_words g.edition) e)) (unchanged _ ws))
      (λ e. unchanged _ ws)

  item_keeps : (value : ℕ) (row : Row) (stamp : Stamp) → Beyond (needed g) ws (put_item ws g j value row stamp)
  unfolding put_item
  item_keeps value row stamp =
      let low = cell_lt g j (sub32 row.0 1) fit.bounds lj in
      store_keeps _ _ _ ws _ (omega arith) (store_keeps _ _ _ ws ws (omega arith) (unchanged _ ws))

  landed_keeps : (value : ℕ) (row : Row) (stamp : Stamp) (e : Effect) → Beyond (needed g) ws (put_landed ws g j value row stamp e)
  unfolding put_landed
  landed_keeps value row stamp e = sub_keeps e _ (store_keeps _ _ _ ws _ (omega arith) (item_keeps value row stamp))

  apply_keeps : (e : Effect) (o : Outcome) → Room g (sizes_of ws g).live o → Beyond (needed g) ws (apply_by ws g (worker_at g i) j e o).words
  unfolding apply_by
  apply_keeps e (Refused n) room = unchanged _ ws
  apply_keeps e Moving room = worker_keeps e ws (unchanged _ ws)
  apply_keeps e Lost room = worker_keeps e _ lost_keeps
  apply_keeps e Shifted room = worker_keeps e _ (shifted_keeps e)
  apply_keeps e Raised room = worker_keeps e _ (raised_keeps e room)
  apply_keeps e Dropped room = worker_keeps e _ (dropped_keeps e)
  apply_keeps e (Landed value row stamp) room = worker_keeps e _ (landed_keeps value row stamp e)
  apply_keeps e (Removed row) room = worker_keeps e _ (sub_keeps e ws (unchanged _ ws))
  apply_keeps e Empty room = worker_keeps e ws (unchanged _ ws)
  apply_keeps e Full room = worker_keeps e ws (unchanged _ ws)

step_fit_keeps : (g : Settings) (ws : List ℕ) → FitPool g ws → windows_fit ws g ≡ true → (i : ℕ) → Beyond (needed g) ws (fit_step ws g i).words
unfolding fit_step slot_step apply_of view_of
step_fit_keeps g ws fit windows i =
    cases (λ (o : Out). Beyond (needed g) ws o.words) (leb g.workers i) _ _
    (λ e. unchanged _ ws)
    (λ e. cases (λ (o : Out). Beyond (needed g) ws o.words) (eqb (get_or ws (worker_at g i) 0) 0) _ _
    (λ f. unchanged _ ws)
    (λ f. cases (λ (o : Out). Beyond (needed g) ws o.words) (out_of_steps ws) _ _
    (λ h. unchanged _ ws)
    (λ h. apply_keeps g ws fit windows i _ (leb-false _ _ e) (fit.index i (leb-false _ _ e)) _ _ (rule_room g (view_of ws g (worker_at g i))).room)))

pub step_keeps : StepKeeps
unfolding step_of checked_step
step_keeps ed ws i = go (checked_of ed ws) refl
  where
    go : (c : Checked) → checked_of ed ws ≡ c → Beyond (needed (settings_of ws)) ws (checked_step ws c i).words
    go (Unfit n) e = unchanged _ ws
    go (Fit g) e =
        let fit = fit_pool ed ws g e in
        subst (λ (h : Settings). Beyond (needed h) ws (fit_step ws g i).words) (sym fit.settings) (step_fit_keeps g ws fit (fit_parts ed ws g e).windows i)

-- ---- the size call
size_keeps : (g : Settings) (ws : List ℕ) (size : Size) → windowed g ≡ true → Beyond (needed g) ws (put_size ws g size)
unfolding put_size
size_keeps g ws size w =
    let some = windows_some g.edition (windowed_is g w) in
    store_keeps _ _ _ ws _ (omega arith) (store_keeps _ _ _ ws _ (omega arith) (store_keeps _ _ _ ws ws (omega arith) (unchanged _ ws)))

set_size_fit_keeps : (g : Settings) (ws : List ℕ) (size : Size) → Beyond (needed g) ws (fit_set_size ws g size).words
unfolding fit_set_size
set_size_fit_keeps g ws size =
    cases (λ (o : Out). Beyond (needed g) ws o.words) (windowed g) _ _
    (λ w. cases (λ (o : Out). Beyond (needed g) ws o.words) _ _ _ (λ e. size_keeps g ws size w) (λ e. unchanged _ ws))
    (λ w. unchanged _ ws)

pub set_size_keeps : SetSizeKeeps
unfolding set_size_of checked_set_size
set_size_keeps ed ws size = go (checked_of ed ws) refl
  where
    go : (c : Checked) → checked_of ed ws ≡ c → Beyond (needed (settings_of ws)) ws (checked_set_size ws c size).words
    go (Unfit n) e = unchanged _ ws
    go (Fit g) e =
        subst (λ (h : Settings). Beyond (needed h) ws (fit_set_size ws g size).words) (sym (fit_pool ed ws g e).settings) (set_size_fit_keeps g ws size)
