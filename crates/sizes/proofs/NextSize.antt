-- What a size call does. In the machine the next size is one word of the state, which a size call alone changes, so after a list of calls it is the one set last. The
-- put window's top is changed by the outcome `Raised` alone, which adds a window of the next size; the words say the machine's windows before and after. And a commit
-- that fails is the one rule with a hop in it, which is by the pool's width.
use mathlib.Core.Path.{◌≡◌, refl, sym, ap, ◌∙◌}
use mathlib.Core.Logic.{◌≢◌}
use mathlib.Core.Bool.{Bool, true, false, false≢true}
use mathlib.Core.List.{List, [], ◌∷◌}
use Prim.Native.Nat.{ℕ, suc, ◌+◌, ◌%◌, ◌<◌}
use native.Mathlib.Omega.{arith}
use lib.ListN.{get_or, length-set}
use lib.Dec.{leb, eqb}
use borrow.Author.Tests.{lt-leb}
use Rattle.laws.specs.Choice.{cond, cases, both, both_true}
use Rattle.laws.specs.Wrap.{add32}
use Rattle.rules.specs.Answers.{Out, refuse, number_of, refusal_number}
use Rattle.rules.specs.Layout.{steps_at, top_at, worker_at, index_at, index_word}
use Rattle.rules.specs.Limits.{settings_fit, windowed, size_fit}
use Rattle.rules.specs.Fit.{FitPool}
use Rattle.rules.specs.Begin.{out_of_steps, idle_at}
use Rattle.rules.specs.Effects.{stride_of, hop_of, view_of, last_put, last_taken, sub_version}
use Rattle.rules.specs.Commit.{commit_by, queue_put_commit, queue_take_commit, queue_commit, stack_commit, lost_of}
use Rattle.rules.specs.Windows.{has_windows, next_size, live_of}
use Rattle.rules.specs.Worker.{slot_at, encode, encode_phase}
use Rattle.rules.specs.Apply.{count_lost, put_worker, apply_by, apply_of}
use Rattle.rules.specs.Step.{rule_by, rule_of, slot_step, fit_step, checked_step, step_of}
use Rattle.rules.specs.Run.{Call, begin_put, begin_take, step, set_size, call_of, run}
use Rattle.rules.specs.Consequences.{words_after}
use Rattle.rules.specs.Collisions.{finds, finds_other}
use Rattle.sizes.specs.NextSize.{size_after, last_size, NextSizeIsLast, Rises, RaisedHasNext, HopsByPool}
use Rattle.sizes.proofs.Types.{Settings, Size, Side, Putting, Taking, Phase, Idle, Window, QueuePutRead, QueueTakeRead, StackRead, Check, QueueCommit, StackCommit, QueueShift, StackShift, QueueConfirm, StackConfirm, View, Effect, Outcome}
use Rattle.rules.specs.declared.Outcome.TheVariants.{Refused, Moving, Lost, Shifted, Raised, Dropped, Landed, Removed, Empty, Full}
use Rattle.rules.proofs.Fitness.{settings_bounds, fit_pool}
use Rattle.rules.proofs.Numbered.{number_high}
use Rattle.sizes.proofs.KnownSizes.{raised_size, raised_top}
use Rattle.rules.proofs.order.Law.{Next}
use Rattle.rules.proofs.machine.Machine.{State, top_of, raised_of, size_at, view_in, apply_in, apply_in_by, set_size_in, next_in, made_in}
use Rattle.rules.proofs.machine.Calls.{Called, refuses, does, step_called, begin_called}
use Rattle.rules.proofs.machine.Slots.{has_queue}
use Rattle.rules.proofs.machine.Turns.{ItemIn, Counts, Kind}
use Rattle.rules.proofs.machine.Does.{SharedAfter, Counted, sized_in, rule_in, counted_in}
use Rattle.rules.proofs.Transfer.{Related, related_after, next_related, made_related}
use Rattle.rules.proofs.BothKinds.{kind_of}
use Rattle.rules.proofs.words.Made.{accepted}
use Rattle.rules.proofs.Workers.{worker_within}
use Rattle.rules.proofs.words.Writes.{word_on}
use Rattle.rules.proofs.words.Stays.{lost_length}
use Rattle.rules.specs.declared.Refusal.TheVariants.{NoSuchWorker, StepsSpent, WorkerIdle}
use Rattle.rules.specs.declared.Refusal.{Refusal}

-- ---- the next size
module _ (g : Settings) (s : State) where
  same_next : (i : ℕ) (e : Effect) (o : Outcome) → (apply_in_by g s i e o).state.next ≡ s.next
  unfolding apply_in_by
  same_next i e (Refused n) = refl
  same_next i e Moving = refl
  same_next i e Lost = refl
  same_next i e Shifted = refl
  same_next i e Raised = refl
  same_next i e Dropped = refl
  same_next i e (Landed value row stamp) = refl
  same_next i e (Removed row) = refl
  same_next i e Empty = refl
  same_next i e Full = refl

  called_next : {Able : Type 0} {made o : Next State} → Called s Able made o → made.state.next ≡ s.next → o.state.next ≡ s.next
  called_next (refuses n l unable e) m = ap (λ (o : Next State). o.state.next) e
  called_next (does able e) m = ap (λ (o : Next State). o.state.next) e ∙ m

  next_after_size : (width depth : ℕ) → (set_size_in g s (record { width = width; depth = depth })).state.next
      ≡ size_after s.next (set_size width depth) (number_of (set_size_in g s (record { width = width; depth = depth })).answer)
  unfolding set_size_in cond
  next_after_size width depth = cases Of (windowed g) _ _ (λ a. cases Of (both (eqb g.kind 0) (size_fit g (record { width = width; depth = depth }))) _ _ (λ b. refl) (λ b. refl)) (λ a. refl)
    where
      Of : Next State → Type 0
      Of o = o.state.next ≡ cond (eqb (number_of o.answer) 0) (record { width = width; depth = depth }) s.next

  next_after_call : (c : Call) → (next_in g s c).state.next ≡ size_after s.next c (number_of (next_in g s c).answer)
  unfolding next_in apply_in
  next_after_call (begin_put i v) = called_next (begin_called g s i Putting v) refl
  next_after_call (begin_take i) = called_next (begin_called g s i Taking 0) refl
  next_after_call (step i) = called_next (step_called g s i) (same_next i _ _)
  next_after_call (set_size width depth) = next_after_size width depth

module _ (g : Settings) (limits : settings_fit g ≡ true) (k : Kind g) (has : has_windows g ≡ true) where
  abbrev Rel : List ℕ → State → Type 0
  Rel ws s = Related g limits k ws s

  next_after : {ws : List ℕ} {s : State} → Rel ws s → (cs : List Call) → next_size (words_after g.edition ws cs) g ≡ last_size s.next (run g.edition ws cs)
  unfolding words_after run last_size
  next_after r [] = (r.says.windows has).next
  next_after {ws} {s} r (c ∷ cs) =
      let n = next_related g limits k r c in
      let size = next_after_call g s c ∙ ap (λ a. size_after s.next c (number_of a)) (sym n.answer) in
      next_after {ws = (call_of g.edition ws c).words} n.related cs ∙ ap (λ (z : Size). last_size z (run g.edition (call_of g.edition ws c).words cs)) size

  -- ---- the put window
  -- where its top has changed
  record RisesIn (s t : State) : Type 0 where
    frame : t.top ≢ s.top → t.frame ≡ raised_of s.frame s.next.width t.top
    top : t.top ≢ s.top → t.top ≡ top_of s.frame + s.next.depth

  stays : {s t : State} → t.top ≡ s.top → RisesIn s t
  stays e = record { frame = λ n. absurd (n e); top = λ n. absurd (n e) }

  module _ {ws : List ℕ} {s : State} (r : Rel ws s) where
    counts : Counts g s
    counts = k.counts s r.list r.whole.inv

    raised_by : (i : ℕ) (e : Effect) (o : Outcome) → SharedAfter g (view_in g s i) (ItemIn g s i) e o → Counted g (view_in g s i) (ItemIn g s i)
        → RisesIn s (apply_in_by g s i e o).state
    unfolding apply_in_by
    raised_by i e (Refused n) shared c = stays refl
    raised_by i e Moving shared c = stays shared.1.top
    raised_by i e Lost shared c = stays shared.1.top
    raised_by i e Shifted shared c = absurd (omega (arith, shared.1, has_queue g has))
    raised_by i e Raised shared c = record { frame = λ n. refl; top = λ n. raised_top g s i counts.windows has e shared }
    raised_by i e Dropped shared c = stays shared.top
    raised_by i e (Landed value row stamp) shared c = stays (shared c).window.top
    raised_by i e (Removed row) shared c = stays (shared c).window.top
    raised_by i e Empty shared c = stays shared.1.top
    raised_by i e Full shared c = stays shared.1.top

    raised_called : {Able : Type 0} {made o : Next State} → Called s Able made o → RisesIn s made.state → RisesIn s o.state
    raised_called (refuses n l unable e) h = rw e (stays refl)
    raised_called (does able e) h = rw e h

    raised_size_call : (size : Size) → RisesIn s (set_size_in g s size).state
    unfolding set_size_in
    raised_size_call size = cases Of (windowed g) _ _ (λ a. cases Of (both (eqb g.kind 0) (size_fit g size)) _ _ (λ b. stays refl) (λ b. stays refl)) (λ a. stays refl)
      where
        Of : Next State → Type 0
        Of o = RisesIn s o.state

    raised_next : (c : Call) → RisesIn s (next_in g s c).state
    unfolding next_in apply_in
    raised_next (begin_put i v) = raised_called (begin_called g s i Putting v) (stays refl)
    raised_next (begin_take i) = raised_called (begin_called g s i Taking 0) (stays refl)
    raised_next (step i) =
        let common = r.whole.common in
        let sized = sized_in g s (λ has. (counts.windows has).fits) in
        raised_called (step_called g s i)
        (raised_by i (rule_of g (view_in g s i)) (rule_of g (view_in g s i)).outcome (rule_in g (settings_bounds g limits) s common sized i).shared (counted_in g (settings_bounds g limits) s common sized counts i))
    raised_next (set_size width depth) = raised_size_call (record { width = width; depth = depth })

    raised_words : (c : Call) → get_or (call_of g.edition ws c).words top_at 0 ≢ get_or ws top_at 0 → Rises g ws (call_of g.edition ws c).words
    raised_words c other =
        let after = (next_related g limits k r c).related.says in
        let before = r.says in
        let t = (next_in g s c).state in
        let moved : t.top ≢ s.top = λ u. other (after.top ∙ u ∙ sym before.top) in
        let frame = (raised_next c).frame moved in
        let top = (raised_next c).top moved in
        let fits = (counts.windows has).fits in
        let tail : t.frame.tail ≡ suc s.frame.tail = ap (λ f. f.tail) (frame) in
        let head : t.frame.head ≡ s.frame.head = ap (λ f. f.head) (frame) in
        let live = (before.windows has).live in
        let last : t.frame.head + live_of ws g ≡ suc s.frame.tail = omega (arith, head, live, fits.order) in
        record {
          live = omega (arith, (after.windows has).live, live, tail, head, fits.order);
          size =
              (after.windows has).size (live_of ws g) (omega (arith, last, tail))
              ∙ ap (size_at t.frame) last
              ∙ ap (λ f. size_at f (suc s.frame.tail)) (frame)
              ∙ raised_size s t.top (top)
              ∙ sym (before.windows has).next;
          top = after.top ∙ top ∙ omega (arith, before.top, fits.top, ap (λ (z : Size). z.depth) (before.windows has).next);
        }

pub next_size_is_last : NextSizeIsLast
unfolding made_in
next_size_is_last ws g cs made has =
    let a = accepted ws g made in
    let k = kind_of g a.limits in
    next_after g a.limits k has (made_related g a.limits k ws a) cs

pub raised_has_next : RaisedHasNext
raised_has_next ws g cs made c has other =
    let a = accepted ws g made in
    let k = kind_of g a.limits in
    raised_words g a.limits k has (related_after g a.limits k (made_related g a.limits k ws a) cs).related c other

-- ---- the hop
commit_hops : (g : Settings) (v : View) (side : Side) (x y : ℕ) (able : Bool) (done : Effect) → cond (eqb x y) false true ≡ true → commit_by g v side (eqb x y) able done ≡ lost_of g v side
unfolding commit_by cond
commit_hops g v side x y able done = go (eqb x y)
  where
    go : (b : Bool) → cond b false true ≡ true → commit_by g v side b able done ≡ lost_of g v side
    go true h = absurd (false≢true h)
    go false h = refl

-- a step that finds another count or version is a lost commit, of either side
rule_hops : (g : Settings) (v : View) (p : Phase) → finds v p ≡ true → (side : Side) × (rule_by g v p ≡ lost_of g v side)
unfolding rule_by queue_commit queue_put_commit queue_take_commit stack_commit
rule_hops g v Idle h = absurd (false≢true h)
rule_hops g v (Window side) h = absurd (false≢true h)
rule_hops g v (QueuePutRead window scan) h = absurd (false≢true h)
rule_hops g v (QueueTakeRead window bare scan sum) h = absurd (false≢true h)
rule_hops g v (StackRead side window version scan sum) h = absurd (false≢true h)
rule_hops g v (Check side version seen) h = absurd (false≢true h)
rule_hops g v (QueueCommit Putting window seen) h = (Putting, commit_hops g v Putting (last_put v) seen _ _ h)
rule_hops g v (QueueCommit Taking window seen) h = (Taking, commit_hops g v Taking (last_taken v) seen _ _ h)
rule_hops g v (StackCommit Putting seen) h = (Putting, commit_hops g v Putting (sub_version v).0 seen.0 _ _ h)
rule_hops g v (StackCommit Taking seen) h = (Taking, commit_hops g v Taking (sub_version v).0 seen.0 _ _ h)
rule_hops g v (QueueShift side window) h = absurd (false≢true h)
rule_hops g v (StackShift side version scan sum) h = absurd (false≢true h)
rule_hops g v (QueueConfirm window scan sum) h = absurd (false≢true h)
rule_hops g v (StackConfirm side scan sum) h = absurd (false≢true h)

module _ (ws : List ℕ) (g : Settings) (pool : FitPool g ws) (i : ℕ) (li : i < g.workers) where
  abbrev at : ℕ
  at = worker_at g i

  -- the index that a lost commit stores
  lost_index : (sub : ℕ) (side : Side) → get_or (apply_of ws g at sub (lost_of g (view_of ws g at) side)).words (index_at at) 0 ≡ hop_of g (get_or ws (index_at at) 0)
  unfolding apply_of apply_by put_worker view_of slot_at encode encode_phase
  lost_index sub side =
      word_on g _ at _ (omega (arith, length-set (count_lost ws g at) steps_at (add32 (get_or (count_lost ws g at) steps_at 0) 1), lost_length ws g at, worker_within g i li, pool.enough)) index_word (omega arith)

  abbrev Hops : Out → Type 0
  Hops o = leb (number_of o.answer) 4 ≡ true → finds_other g ws i ≡ true → get_or o.words (index_at at) 0 ≡ (get_or ws (index_at at) 0 + stride_of g) % g.width

  refused_hops : (n : Refusal) → Hops (refuse n ws)
  refused_hops n few = absurd (false≢true (sym (lt-leb (refusal_number n) 4 (number_high n)) ∙ few))

  rule_index : Hops (apply_of ws g at (get_or ws (index_at at) 0) (rule_of g (view_of ws g at)))
  unfolding rule_of hop_of
  rule_index few other =
      let v = view_of ws g at in
      let h = rule_hops g v v.worker.phase other in
      ap (λ (e : Effect). get_or (apply_of ws g at (get_or ws (index_at at) 0) e).words (index_at at) 0) h.1 ∙ lost_index (get_or ws (index_at at) 0) h.0

  step_hops : Hops (fit_step ws g i)
  unfolding fit_step slot_step
  step_hops =
      cases Hops (leb g.workers i) _ _ (λ a. refused_hops NoSuchWorker)
      (λ a. cases Hops (idle_at ws at) _ _ (λ b. refused_hops WorkerIdle)
      (λ b. cases Hops (out_of_steps ws) _ _ (λ c. refused_hops StepsSpent) (λ c. rule_index)))

pub hops_by_pool : HopsByPool
unfolding call_of step_of checked_step
hops_by_pool ws g i fit li h =
    let tests = both_true (leb (number_of (step_of g.edition ws i).answer) 4) (finds_other g ws i) (both_true (eqb i i) (both (leb (number_of (step_of g.edition ws i).answer) 4) (finds_other g ws i)) h).1 in
    let step = step_hops ws g (fit_pool g.edition ws g fit) i li in
    let few : leb (number_of (fit_step ws g i).answer) 4 ≡ true = rw fit at tests.0 in
    rw fit (step few tests.1)
