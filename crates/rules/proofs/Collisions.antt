-- The workers' cards. A step that finds another count or version than the one seen is the one whose outcome is `Lost`, and no other rule has that
-- outcome; what any other outcome stores, and a begin, lies elsewhere. So a call adds one to a card just where it fails. From make on a card is
-- at most the steps counted, which never reach 2^32, so that it is the number of failed commits and not its remainder.
use mathlib.Core.Path.{◌≡◌, refl, sym, ap, ◌∙◌}
use mathlib.Core.Logic.{◌≢◌}
use mathlib.Core.Bool.{Bool, true, false, false≢true}
use mathlib.Core.List.{List, [], ◌∷◌}
use Prim.Native.Nat.{ℕ, suc, ◌+◌, ◌≤◌, ◌<◌}
use native.Mathlib.Nat.{le_refl}
use native.Mathlib.Decide.{ℕ_discrete}
use native.Mathlib.Omega.{arith}
use lib.ListN.{get_or, set}
use lib.Seq.{get_or-set_same, get_or-set_other}
use lib.Dec.{leb, eqb}
use borrow.Author.Tests.{lt-ltb, lt-leb, leb-true, leb-false, eq-eqb, ne_eqb}
use Rattle.laws.specs.Choice.{cond, cond_true, cond_false, cases, both, both_false, both_one, both_true}
use Rattle.laws.specs.Wrap.{add32}
use Rattle.rules.specs.Answers.{Out, number_of, refusal_number, refuse}
use Rattle.rules.specs.Limits.{settings_fit, step_limit, windowed, size_fit}
use Rattle.rules.specs.Windows.{has_windows}
use Rattle.rules.specs.Layout.{steps_at, puts_at, top_at, mark_at, first_at, second_at, worker_at, index_at, lost_at, cells_at, cell_at, stamp_at, lost_word}
use Rattle.rules.specs.Fit.{FitPool, Fit, checked_of}
use Rattle.rules.specs.Begin.{out_of_steps, idle_at, slot_begin, fit_begin, checked_begin, begin_of}
use Rattle.rules.specs.Resize.{fit_set_size, checked_set_size, set_size_of}
use Rattle.rules.specs.Effects.{view_of}
use Rattle.rules.specs.Window.{window_rule}
use Rattle.rules.specs.Read.{miss_of, queue_put_read, queue_take_read, stack_read}
use Rattle.rules.specs.Check.{check_rule}
use Rattle.rules.specs.Commit.{commit_by, queue_put_commit, queue_take_commit, queue_commit, stack_commit}
use Rattle.rules.specs.Shift.{shift_by, queue_shift, stack_shift}
use Rattle.rules.specs.Confirm.{confirm_by, confirmed_of, queue_confirm, stack_confirm}
use Rattle.rules.specs.Apply.{count_lost, put_item, put_sub, put_landed, put_shifted, put_raised, put_dropped, put_worker, apply_by, apply_of}
use Rattle.rules.specs.Step.{rule_by, rule_of, slot_step, fit_step, checked_step, step_of}
use Rattle.rules.specs.Make.{make_of}
use Rattle.rules.specs.Run.{Call, begin_put, begin_take, step, set_size, call_of}
use Rattle.rules.specs.Consequences.{words_after}
use Rattle.rules.specs.Collisions.{finds, finds_other, fails, failed_commits, HasCards, CardsFromOne, card_of, OneMore, CardsTrue}
use Rattle.rules.proofs.Types.{Settings, Size, Side, Putting, Taking, Phase, Idle, Window, QueuePutRead, QueueTakeRead, StackRead, Check, QueueCommit, StackCommit, QueueShift, StackShift, QueueConfirm, StackConfirm, View, Effect, Outcome}
use Rattle.rules.specs.declared.Outcome.TheVariants.{Refused, Moving, Lost, Shifted, Raised, Dropped, Landed, Removed, Empty, Full}
use Rattle.rules.proofs.Workers.{words_lost, Read, worker_within, same_worker, lost_apart}
use Rattle.rules.proofs.Fitness.{settings_bounds, fit_pool}
use Rattle.rules.proofs.Numbered.{number_high}
use Rattle.rules.proofs.counts.Wraps.{add32_suc}
use Rattle.rules.proofs.order.Law.{Next}
use Rattle.rules.proofs.machine.Machine.{State, view_in, apply_in, apply_in_by, step_in, set_size_in, next_in}
use Rattle.rules.proofs.machine.Calls.{Called, refuses, does, Steps, step_called, begin_called}
use Rattle.rules.proofs.machine.Turns.{LiveFits, Kind}
use Rattle.rules.proofs.words.Writes.{slot_off, raised_below, dropped_below, sized_off}
use Rattle.rules.proofs.words.Fit.{checked_fit}
use Rattle.rules.proofs.words.Stores.{view_same}
use Rattle.rules.proofs.Transfer.{Related, related_fit, next_related, made_related}
use Rattle.rules.proofs.BothKinds.{kind_of}
use Rattle.rules.proofs.words.Made.{accepted, made_card}
use Rattle.rules.specs.declared.Refusal.TheVariants.{NoSuchWorker, StepsSpent, WorkerIdle}
use Rattle.rules.specs.declared.Refusal.{Refusal}

pub cards_from_one : CardsFromOne
cards_from_one g l = words_lost g.edition l

-- ---- which rule counts a failed commit
abbrev is_lost : Outcome → Bool
is_lost (Refused n) = false
is_lost Moving = false
is_lost Lost = true
is_lost Shifted = false
is_lost Raised = false
is_lost Dropped = false
is_lost (Landed value row stamp) = false
is_lost (Removed row) = false
is_lost Empty = false
is_lost Full = false

abbrev LostIf : Bool → Effect → Type 0
LostIf b e = is_lost e.outcome ≡ b

commit_lost : (g : Settings) (v : View) (side : Side) (matches able : Bool) (done : Effect) → is_lost done.outcome ≡ false
    → LostIf (cond matches false true) (commit_by g v side matches able done)
unfolding commit_by cond
commit_lost g v side true true done e = e
commit_lost g v side true false done e = refl
commit_lost g v side false able done e = refl

rule_lost : (g : Settings) (v : View) (p : Phase) → LostIf (finds v p) (rule_by g v p)
unfolding rule_by window_rule miss_of queue_put_read queue_take_read stack_read check_rule queue_commit queue_put_commit queue_take_commit stack_commit shift_by queue_shift stack_shift confirm_by confirmed_of queue_confirm stack_confirm
rule_lost g v Idle = refl
rule_lost g v (Window side) = cases (LostIf false) _ _ _ (λ e. refl) (λ e. refl)
rule_lost g v (QueuePutRead window scan) = cases (LostIf false) _ _ _ (λ e. refl) (λ e. cases (LostIf false) _ _ _ (λ f. refl) (λ f. refl))
rule_lost g v (QueueTakeRead window bare scan sum) =
    cases (LostIf false) _ _ _ (λ e. cases (LostIf false) _ _ _ (λ f. refl) (λ f. refl))
    (λ e. cases (LostIf false) _ _ _ (λ f. cases (LostIf false) _ _ _ (λ h. refl) (λ h. refl)) (λ f. refl))
rule_lost g v (StackRead side window version scan sum) = cases (LostIf false) _ _ _ (λ e. refl) (λ e. cases (LostIf false) _ _ _ (λ f. refl) (λ f. refl))
rule_lost g v (Check side version seen) = cases (LostIf false) _ _ _ (λ e. refl) (λ e. refl)
rule_lost g v (QueueCommit Putting window seen) = commit_lost g v Putting _ _ _ refl
rule_lost g v (QueueCommit Taking window seen) = commit_lost g v Taking _ _ _ refl
rule_lost g v (StackCommit Putting seen) = commit_lost g v Putting _ _ _ refl
rule_lost g v (StackCommit Taking seen) = commit_lost g v Taking _ _ _ refl
rule_lost g v (QueueShift Putting window) = cases (LostIf false) _ _ _ (λ e. cases (LostIf false) _ _ _ (λ f. refl) (λ f. refl)) (λ e. refl)
rule_lost g v (QueueShift Taking window) = cases (LostIf false) _ _ _ (λ e. cases (LostIf false) _ _ _ (λ f. refl) (λ f. refl)) (λ e. refl)
rule_lost g v (StackShift Putting version scan sum) = cases (LostIf false) _ _ _ (λ e. cases (LostIf false) _ _ _ (λ f. refl) (λ f. refl)) (λ e. refl)
rule_lost g v (StackShift Taking version scan sum) = cases (LostIf false) _ _ _ (λ e. cases (LostIf false) _ _ _ (λ f. refl) (λ f. refl)) (λ e. refl)
rule_lost g v (QueueConfirm window scan sum) = cases (LostIf false) _ _ _ (λ e. refl) (λ e. cases (LostIf false) _ _ _ (λ f. refl) (λ f. refl))
rule_lost g v (StackConfirm Putting scan sum) = cases (LostIf false) _ _ _ (λ e. refl) (λ e. cases (LostIf false) _ _ _ (λ f. refl) (λ f. refl))
rule_lost g v (StackConfirm Taking scan sum) = cases (LostIf false) _ _ _ (λ e. refl) (λ e. cases (LostIf false) _ _ _ (λ f. refl) (λ f. refl))

-- ---- what a call leaves of worker i's card
module _ (ws : List ℕ) (g : Settings) (pool : FitPool g ws) (cards : HasCards g) (i : ℕ) (li : i < g.workers) where
  abbrev card : ℕ
  card = lost_at (worker_at g i)

  -- behind the subs and before the cells
  below : card < cells_at g
  below = omega (arith, worker_within g i li)

  -- it is no word that a rule reads
  card_apart : (j k : ℕ) → Read g.edition k → card ≢ worker_at g j + k
  card_apart j k r u = lost_apart g i j k cards r (sym u)

  module _ (j : ℕ) (lj : j < g.workers) (sub : ℕ) (ls : sub < g.width) (e : Effect) where
    abbrev at : ℕ
    at = worker_at g j

    off_worker : (vs : List ℕ) → get_or (put_worker vs g at e) card 0 ≡ get_or vs card 0
    unfolding put_worker
    off_worker vs = slot_off g _ at e.slot card (card_apart j) ∙ get_or-set_other vs steps_at card _ 0 (λ u. omega arith)

    off_shifted : get_or (put_shifted ws e) card 0 ≡ get_or ws card 0
    unfolding put_shifted
    off_shifted = let a : card ≢ top_at = λ u. omega arith in let b : card ≢ mark_at = λ u. omega arith in simp get_or-set_other

    off_raised : get_or (put_raised ws g e) card 0 ≡ get_or ws card 0
    off_raised = raised_below ws g e card (λ u. omega arith) (omega (arith, below))

    off_dropped : get_or (put_dropped ws g e) card 0 ≡ get_or ws card 0
    off_dropped = dropped_below ws g e card (λ u. omega arith) (omega (arith, below))

    off_sub : (vs : List ℕ) → get_or (put_sub vs sub e) card 0 ≡ get_or vs card 0
    unfolding put_sub
    off_sub vs = let a : card ≢ first_at sub = λ u. omega arith in let b : card ≢ second_at sub = λ u. omega arith in simp get_or-set_other

    stays_by : (o : Outcome) → is_lost o ≡ false → get_or (apply_by ws g at sub e o).words card 0 ≡ get_or ws card 0
    unfolding apply_by put_landed put_item
    stays_by (Refused n) h = refl
    stays_by Moving h = off_worker ws
    stays_by Lost h = absurd (false≢true (sym h))
    stays_by Shifted h = off_worker _ ∙ off_shifted
    stays_by Raised h = off_worker _ ∙ off_raised
    stays_by Dropped h = off_worker _ ∙ off_dropped
    stays_by (Landed value row stamp) h =
        let cell = cell_at g sub row.0 in
        let a : card ≢ puts_at = λ u. omega arith in
        let b : card ≢ cell = λ u. omega (arith, below) in
        let c : card ≢ stamp_at cell = λ u. omega (arith, below) in
        off_worker _ ∙ off_sub _ ∙ simp get_or-set_other
    stays_by (Removed row) h = off_worker _ ∙ off_sub ws
    stays_by Empty h = off_worker ws
    stays_by Full h = off_worker ws

    -- the card of the worker that failed counts it, and no other does
    counts_one : get_or (count_lost ws g at) card 0 ≡ cond (eqb j i) (add32 (get_or ws card 0) 1) (get_or ws card 0)
    unfolding count_lost
    counts_one = rw (lt-ltb _ _ cards, cond_true (set ws (lost_at at) (add32 (get_or ws (lost_at at) 0) 1)) ws) (elim (ℕ_discrete j i) [
      | yes y ↦ rw (y, eq-eqb i i refl, cond_true (add32 (get_or ws card 0) 1) (get_or ws card 0)) (get_or-set_same ws card _ 0 (omega (arith, below, pool.enough)))
      | no n ↦
          rw (ne_eqb j i n, cond_false (add32 (get_or ws card 0) 1) (get_or ws card 0))
          (get_or-set_other ws (lost_at at) card _ 0 (λ u. n (sym (same_worker g i j lost_word lost_word cards cards u))))
    ])

    -- by how a step ends
    abbrev After : Bool → ℕ → Type 0
    After lost x = x ≡ cond (both (eqb j i) lost) (add32 (get_or ws card 0) 1) (get_or ws card 0)

    abbrev Applied : Outcome → Type 0
    Applied o = After (both (leb (number_of (apply_by ws g at sub e o).answer) 4) (is_lost o)) (get_or (apply_by ws g at sub e o).words card 0)

    other : (o : Outcome) → is_lost o ≡ false → Applied o
    other o h =
        rw (
          h,
          both_false (leb (number_of (apply_by ws g at sub e o).answer) 4),
          both_false (eqb j i),
          cond_false (add32 (get_or ws card 0) 1) (get_or ws card 0),
        )
        (stays_by o h)

    applied : (o : Outcome) → Applied o
    unfolding apply_by
    applied (Refused n) = other (Refused n) refl
    applied Moving = other Moving refl
    applied Lost = rw (both_one (eqb j i)) (off_worker _ ∙ counts_one)
    applied Shifted = other Shifted refl
    applied Raised = other Raised refl
    applied Dropped = other Dropped refl
    applied (Landed value row stamp) = other (Landed value row stamp) refl
    applied (Removed row) = other (Removed row) refl
    applied Empty = other Empty refl
    applied Full = other Full refl

  -- ---- by the call
  abbrev Card : Bool → List ℕ → Type 0
  Card lost vs = get_or vs card 0 ≡ cond lost (add32 (get_or ws card 0) 1) (get_or ws card 0)

  same : Card false ws
  same = sym (cond_false (add32 (get_or ws card 0) 1) (get_or ws card 0))

  -- a step that was refused before its rule
  abbrev Stepped : ℕ → Out → Type 0
  Stepped j o = Card (both (eqb j i) (both (leb (number_of o.answer) 4) (finds_other g ws j))) o.words

  refused_step : (j : ℕ) (n : Refusal) → Stepped j (refuse n ws)
  refused_step j n = rw (lt-leb (refusal_number n) 4 (number_high n), both_false (eqb j i)) same

  rule_step : (j : ℕ) → j < g.workers → Stepped j (apply_of ws g (worker_at g j) (get_or ws (index_at (worker_at g j)) 0) (rule_of g (view_of ws g (worker_at g j))))
  unfolding apply_of rule_of
  rule_step j lj =
      let v = view_of ws g (worker_at g j) in
      let e : Effect = rule_by g v v.worker.phase in
      rw (sym (rule_lost g v v.worker.phase)) (applied j lj (get_or ws (index_at (worker_at g j)) 0) (pool.index j lj) e e.outcome)

  step_card : (j : ℕ) → Stepped j (fit_step ws g j)
  unfolding fit_step slot_step
  step_card j =
      cases (Stepped j) (leb g.workers j) _ _ (λ a. refused_step j NoSuchWorker)
      (λ a. cases (Stepped j) (idle_at ws (worker_at g j)) _ _ (λ b. refused_step j WorkerIdle)
      (λ b. cases (Stepped j) (out_of_steps ws) _ _ (λ c. refused_step j StepsSpent) (λ c. rule_step j (leb-false _ _ a))))

  begin_card : (j : ℕ) (side : Side) (value : ℕ) → Card false (fit_begin ws g j side value).words
  unfolding fit_begin slot_begin
  begin_card j side value =
      cases (λ (o : Out). Card false o.words) (leb g.workers j) _ _ (λ a. same)
      (λ a. cases (λ (o : Out). Card false o.words) (idle_at ws (worker_at g j)) _ _
      (λ b. cases (λ (o : Out). Card false o.words) (out_of_steps ws) _ _ (λ c. same) (λ c. slot_off g ws (worker_at g j) _ card (card_apart j) ∙ same))
      (λ b. same))

  -- a size call stores behind the cells
  size_card : (size : Size) → Card false (fit_set_size ws g size).words
  unfolding fit_set_size
  size_card size =
      cases Of (windowed g) _ _ (λ a. cases Of (both (eqb g.kind 0) (size_fit g size)) _ _
      (λ b. sized_off ws g size card (λ u. omega (arith, below)) (λ u. omega (arith, below)) (λ u. omega (arith, below)) ∙ same) (λ b. same)) (λ a. same)
    where
      Of : Out → Type 0
      Of o = Card false o.words

pub one_more : OneMore
unfolding call_of begin_of step_of set_size_of checked_begin checked_step checked_set_size
one_more ws g (begin_put j v) i fit cards li = rw fit (begin_card ws g (fit_pool g.edition ws g fit) cards i li j Putting v)
one_more ws g (begin_take j) i fit cards li = rw fit (begin_card ws g (fit_pool g.edition ws g fit) cards i li j Taking 0)
one_more ws g (step j) i fit cards li = rw fit (step_card ws g (fit_pool g.edition ws g fit) cards i li j)
one_more ws g (set_size width depth) i fit cards li = rw fit (size_card ws g (fit_pool g.edition ws g fit) cards i li (record { width = width; depth = depth }))

-- ---- the steps counted, in the machine
module _ (g : Settings) (s : State) where
  kept_by : (i : ℕ) (e : Effect) (o : Outcome) → s.steps ≤ (apply_in_by g s i e o).state.steps
  unfolding apply_in_by
  kept_by i e (Refused n) = le_refl _
  kept_by i e Moving = omega arith
  kept_by i e Lost = omega arith
  kept_by i e Shifted = omega arith
  kept_by i e Raised = omega arith
  kept_by i e Dropped = omega arith
  kept_by i e (Landed value row stamp) = omega arith
  kept_by i e (Removed row) = omega arith
  kept_by i e Empty = omega arith
  kept_by i e Full = omega arith

  called_keeps : {Able : Type 0} {made o : Next State} → Called s Able made o → s.steps ≤ made.state.steps → s.steps ≤ o.state.steps
  called_keeps (refuses n l unable e) m = rw e (le_refl _)
  called_keeps (does able e) m = rw e m

  size_keeps : (size : Size) → s.steps ≤ (set_size_in g s size).state.steps
  unfolding set_size_in
  size_keeps size = cases Of (windowed g) _ _ (λ a. cases Of (both (eqb g.kind 0) (size_fit g size)) _ _ (λ b. le_refl _) (λ b. le_refl _)) (λ a. le_refl _)
    where
      Of : Next State → Type 0
      Of o = s.steps ≤ o.state.steps

  steps_kept : (c : Call) → s.steps ≤ (next_in g s c).state.steps
  unfolding next_in apply_in
  steps_kept (begin_put i v) = called_keeps (begin_called g s i Putting v) (le_refl _)
  steps_kept (begin_take i) = called_keeps (begin_called g s i Taking 0) (le_refl _)
  steps_kept (step i) = called_keeps (step_called g s i) (kept_by i _ _)
  steps_kept (set_size width depth) = size_keeps (record { width = width; depth = depth })

  lost_counted : (i : ℕ) (e : Effect) (o : Outcome) → is_lost o ≡ true → (apply_in_by g s i e o).state.steps ≡ suc s.steps
  unfolding apply_in_by
  lost_counted i e (Refused n) h = absurd (false≢true h)
  lost_counted i e Moving h = absurd (false≢true h)
  lost_counted i e Lost h = refl
  lost_counted i e Shifted h = absurd (false≢true h)
  lost_counted i e Raised h = absurd (false≢true h)
  lost_counted i e Dropped h = absurd (false≢true h)
  lost_counted i e (Landed value row stamp) h = absurd (false≢true h)
  lost_counted i e (Removed row) h = absurd (false≢true h)
  lost_counted i e Empty h = absurd (false≢true h)
  lost_counted i e Full h = absurd (false≢true h)

-- ---- from make on
-- a card that is at most the steps counted stays so by one call more, and does not wrap
one_after : (before now end rest steps more : ℕ) (b : Bool) → before ≤ steps → steps ≤ step_limit → now ≡ cond b (add32 before 1) before
    → (b ≡ true → more ≡ suc steps) → steps ≤ more → (now ≤ more → end ≡ now + rest) → end ≡ before + (cond b 1 0 + rest)
unfolding cond
one_after before now end rest steps more true few limit one counted kept on =
    let next : add32 before 1 ≡ suc before = add32_suc before (omega arith) in
    omega (arith, next, on (omega (arith, next, counted refl)))
one_after before now end rest steps more false few limit one counted kept on = omega (arith, on (omega arith))

module _ (g : Settings) (limits : settings_fit g ≡ true) (k : Kind g) (cards : HasCards g) (i : ℕ) (li : i < g.workers) where
  abbrev Rel : List ℕ → State → Type 0
  Rel ws s = Related g limits k ws s

  live : {ws : List ℕ} {s : State} (r : Rel ws s) → has_windows g ≡ true → LiveFits g s
  live {ws} {s} r has = ((k.counts s r.list r.whole.inv).windows has).fits

  fit : {ws : List ℕ} {s : State} → Rel ws s → checked_of g.edition ws ≡ Fit g
  fit {ws} {s} r = checked_fit g limits (settings_bounds g limits).kind1 ws s r.says r.whole.common (live r) (k.counts s r.list r.whole.inv).sub

  -- a step that fails is counted
  fails_counted : {ws : List ℕ} {s : State} (r : Rel ws s) (c : Call) → fails g ws i c ≡ true → (next_in g s c).state.steps ≡ suc s.steps
  unfolding call_of next_in apply_in rule_of
  fails_counted r (begin_put j v) h = absurd (false≢true h)
  fails_counted r (begin_take j) h = absurd (false≢true h)
  fails_counted r (set_size width depth) h = absurd (false≢true h)
  fails_counted {ws} {s} r (step j) h = by (step_called g s j)
    where
      tests : (leb (number_of (step_of g.edition ws j).answer) 4 ≡ true) × (finds_other g ws j ≡ true)
      tests = both_true _ _ (both_true (eqb j i) _ h).1

      by : Called s (Steps g s j) (apply_in g s j (rule_of g (view_in g s j))) (step_in g s j) → (step_in g s j).state.steps ≡ suc s.steps
      by (refuses n l unable e) =
          let same = ap number_of ((next_related g limits k r (step j)).answer ∙ ap (λ (o : Next State). o.answer) e) in
          absurd (omega (arith, same, number_high n, leb-true (number_of (step_of g.edition ws j).answer) 4 tests.0))
      by (does able e) =
          let view = view_same g ws s r.says j able.worker (r.whole.common.slots j).index (live r) in
          let v = view_in g s j in
          let lost = rule_lost g v v.worker.phase ∙ ap (λ (x : View). finds x x.worker.phase) (sym view) ∙ tests.1 in
          rw e (lost_counted g s j (rule_by g v v.worker.phase) _ lost)

  -- the card is at most the steps counted, and so the failed commits themselves
  cards_after : {ws : List ℕ} {s : State} (r : Rel ws s) (cs : List Call) → card_of g ws i ≤ s.steps
      → card_of g (words_after g.edition ws cs) i ≡ card_of g ws i + failed_commits g ws i cs
  unfolding words_after failed_commits
  cards_after r [] few = omega arith
  cards_after {ws} {s} r (c ∷ cs) few =
      let n = next_related g limits k r c in
      one_after _ _ _ _ s.steps (next_in g s c).state.steps (fails g ws i c) few r.whole.common.steps_few (one_more ws g c i (related_fit g limits k r) cards li)
      (fails_counted r c) (steps_kept g s c) (λ l. cards_after {ws = (call_of g.edition ws c).words} n.related cs l)

pub cards_true : CardsTrue
cards_true ws g cs made cards i li =
    let a = accepted ws g made in
    let k = kind_of g a.limits in
    let none : card_of g (make_of ws g).words i ≡ 0 = rw a.words (made_card ws g a.enough i li cards) in
    let after = cards_after g a.limits k cards i li (made_related g a.limits k ws a) cs (omega arith) in
    omega (arith, after, none)
