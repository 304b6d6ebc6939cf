-- A store at a place of the settings may be made before a call on a fit pool or after it; and the settings may have another
-- stride, if it hops alike: a lost commit alone asks for it. So a call keeps each such word: to store what is there changes nothing before
-- the call, hence nothing after it.
use Prim.Native.Nat.{ℕ, ◌≤◌, ◌<◌}
use mathlib.Core.Path.{◌≡◌, refl, ap, ◌∙◌}
use mathlib.Core.List.{List}
use native.Mathlib.Omega.{arith}
use lib.ListN.{get_or, set, length}
use lib.Seq.{get_or-set_same, set-get_or}
use lib.Dec.{leb, eqb}
use borrow.Author.Tests.{leb-false}
use Rattle.laws.specs.Choice.{both, cond_both}
use Rattle.rules.specs.Answers.{Out, out}
use Rattle.rules.specs.Layout.{head_words, steps_at, worker_at, phase_at, index_at}
use Rattle.rules.specs.Limits.{windowed, size_fit}
use Rattle.rules.specs.Worker.{encode_phase, encode}
use Rattle.rules.specs.Fit.{Checked, Unfit, Fit, checked_of, FitPool}
use Rattle.rules.specs.Begin.{idle_at, out_of_steps, slot_begin, fit_begin, checked_begin}
use Rattle.rules.specs.Effects.{hop_of}
use Rattle.rules.specs.Apply.{count_lost, put_item, put_landed, apply_by, apply_of}
use Rattle.rules.specs.Step.{rule_of, slot_step, fit_step, checked_step}
use Rattle.rules.specs.Run.{Call, begin_put, begin_take, step, set_size, call_of}
use Rattle.rules.specs.Resize.{fit_set_size, checked_set_size}
use Rattle.rules.specs.Make.{with_stride}
use Rattle.rules.specs.declared.Outcome.TheVariants.{Refused, Moving, Lost, Shifted, Raised, Dropped, Landed, Removed, Empty, Full}
use Rattle.strides.proofs.Types.{Settings, Size, Side, Putting, Taking, Effect, Outcome}
use Rattle.rules.proofs.Fitness.{fit_pool}
use Rattle.strides.proofs.Checked.{checked_call, call_is, unfit_call}
use Rattle.untouched.proofs.Untouched.{begin_keeps, step_keeps, set_size_keeps}
use Rattle.rules.proofs.words.Writes.{Still}
use Rattle.strides.proofs.Stores.{lost_commutes, slot_commutes, worker_commutes, shifted_commutes, raised_commutes, dropped_commutes, size_commutes, sub_commutes, landed_commutes, off, high, same_items, sized_alike, reads_alike}
use Rattle.strides.proofs.Alike.{Alike, rule_same, taken_same, view_same}

-- an answer, and its words with a store after it
abbrev pub then_set : ℕ → ℕ → Out → Out
then_set p x o = out o.answer (set o.words p x)

-- the one is the other, with that store after it
abbrev Then : ℕ → ℕ → Out → Out → Type 0
Then p x s' s = s' ≡ then_set p x s

-- ---- on a fit pool
module _ (p : ℕ) (still : Still p) (x : ℕ) (g : Settings) (y : ℕ) (hops : (k : ℕ) → hop_of (with_stride g y) k ≡ hop_of g k)
    (ws : List ℕ) (pool : FitPool g ws) where
  abbrev h : Settings
  h = with_stride g y

  abbrev vs : List ℕ
  vs = set ws p x

  alike : Alike g y g.edition ws vs
  alike = reads_alike p still x g y ws

  apply_commutes : (at j : ℕ) (e : Effect) (o : Outcome) → head_words ≤ at → j < g.width → apply_by vs h at j e o ≡ then_set p x (apply_by ws g at j e o)
  unfolding apply_by count_lost put_landed put_item
  apply_commutes at j e (Refused n) l m = refl
  apply_commutes at j e Moving l m = rw (worker_commutes p still x g y at e l ws) refl
  apply_commutes at j e Lost l m = rw (lost_commutes p still x g at l ws, worker_commutes p still x g y at e l _) refl
  apply_commutes at j e Shifted l m = rw (shifted_commutes p still x e ws, worker_commutes p still x g y at e l _) refl
  apply_commutes at j e Raised l m = rw (raised_commutes p still x g y e ws, worker_commutes p still x g y at e l _) refl
  apply_commutes at j e Dropped l m = rw (dropped_commutes p still x g y e ws, worker_commutes p still x g y at e l _) refl
  apply_commutes at j e (Landed value row stamp) l m = rw (landed_commutes p still x g j value row stamp e ws, worker_commutes p still x g y at e l _) refl
  apply_commutes at j e (Removed row) l m =
      rw (taken_same g y g.edition ws vs alike (λ k r low. same_items p still x g y ws k r) j row m, sub_commutes p still x j e ws, worker_commutes p still x g y at e l _) refl
  apply_commutes at j e Empty l m = rw (worker_commutes p still x g y at e l ws) refl
  apply_commutes at j e Full l m = rw (worker_commutes p still x g y at e l ws) refl

  module _ (i : ℕ) where
    abbrev at : ℕ
    at = worker_at g i

    abbrev word : (m : ℕ) → head_words ≤ m → get_or vs m 0 ≡ get_or ws m 0
    word = high p still x g y ws

    steps : get_or vs steps_at 0 ≡ get_or ws steps_at 0
    steps = off p still x g y ws steps_at still.steps

    step_commutes : fit_step vs h i ≡ then_set p x (fit_step ws g i)
    unfolding fit_step slot_step apply_of rule_of
    step_commutes =
        cond_both (Then p x) (leb g.workers i) (λ t. refl) (λ few.
        let low = pool.index i (leb-false _ _ few) in
        rw (
          word (phase_at at) (omega arith),
          steps,
          word (index_at at) (omega arith),
          view_same g y g.edition ws vs alike i (leb-false _ _ few) low,
          rule_same g y g.edition (sized_alike p still x g y ws) hops _ _,
        )
        (cond_both (Then p x) (idle_at ws at) (λ t. refl) (λ busy. cond_both (Then p x) (out_of_steps ws) (λ t. refl) (λ left. apply_commutes at _ _ _ (omega arith) low))))

    begin_commutes : (side : Side) (value : ℕ) → fit_begin vs h i side value ≡ then_set p x (fit_begin ws g i side value)
    unfolding fit_begin slot_begin encode encode_phase
    begin_commutes side value =
        rw (word (phase_at at) (omega arith), steps, word (index_at at) (omega arith), slot_commutes p still x g y at _ (omega arith) ws)
        (cond_both (Then p x) (leb g.workers i) (λ t. refl)
        (λ few. cond_both (Then p x) (idle_at ws at) (λ idle. cond_both (Then p x) (out_of_steps ws) (λ t. refl) (λ left. refl)) (λ busy. refl)))

  size_call_commutes : (size : Size) → fit_set_size vs h size ≡ then_set p x (fit_set_size ws g size)
  unfolding fit_set_size windowed size_fit
  size_call_commutes size =
      cond_both (Then p x) (windowed g)
      (λ w. cond_both (Then p x) (both (eqb g.kind 0) (size_fit g size)) (λ ok. rw (size_commutes p still x g y size ws) refl) (λ off. refl)) (λ old. refl)

  pub call_commutes : (c : Call) → checked_call vs (Fit h) c ≡ then_set p x (checked_call ws (Fit g) c)
  unfolding checked_begin checked_step checked_set_size
  call_commutes (begin_put i v) = begin_commutes i Putting v
  call_commutes (begin_take i) = begin_commutes i Taking 0
  call_commutes (step i) = step_commutes i
  call_commutes (set_size width depth) = size_call_commutes (record { width = width; depth = depth })

-- ---- on any words
same_length : (ed : ℕ) (ws : List ℕ) (c : Call) → length (call_of ed ws c).words ≡ length ws
unfolding call_of
same_length ed ws (begin_put i v) = (begin_keeps ed ws i Putting v).length_same
same_length ed ws (begin_take i) = (begin_keeps ed ws i Taking 0).length_same
same_length ed ws (step i) = (step_keeps ed ws i).length_same
same_length ed ws (set_size width depth) = (set_size_keeps ed ws (record { width = width; depth = depth })).length_same

-- a call keeps the settings
pub kept : (ed p : ℕ) → Still p → (ws : List ℕ) (c : Call) → get_or (call_of ed ws c).words p 0 ≡ get_or ws p 0
kept ed p still ws c = rw (call_is ed ws c) (go (checked_of ed ws) refl (rw (call_is ed ws c) at (same_length ed ws c)))
  where
    go : (k : Checked) → checked_of ed ws ≡ k → length (checked_call ws (checked_of ed ws) c).words ≡ length ws → get_or (checked_call ws k c).words p 0 ≡ get_or ws p 0
    go (Unfit n) e l = rw (unfit_call ws n c) refl
    go (Fit g) e l =
        let o = checked_call ws (Fit g) c in
        let same : o ≡ then_set p (get_or ws p 0) o = rw (set-get_or ws p 0) at (call_commutes p still (get_or ws p 0) g g.stride (λ k. refl) ws (fit_pool ed ws g e) c) in
        let long : length o.words ≡ length ws = rw e at l in
        ap (λ (z : Out). get_or z.words p 0) same
        ∙ get_or-set_same o.words p (get_or ws p 0) 0 (omega (arith, still.below, (fit_pool ed ws g e).enough))
