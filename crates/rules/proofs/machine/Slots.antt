-- A slot's phase, which is idle only where its number is 0, and a slot that is written with a phase of its kind: it is fit where its index
-- and its scan are.
use mathlib.Core.Path.{◌≡◌, refl, sym, ap, ◌∙◌, subst}
use mathlib.Core.Logic.{◌≢◌}
use mathlib.Core.Bool.{Bool, true, false, false≢true}
use Prim.Native.Nat.{ℕ, ◌≤◌, ◌<◌}
use native.Mathlib.Decide.{ℕ_discrete}
use native.Mathlib.Omega.{arith}
use lib.Dec.{ltb, eqb}
use borrow.Author.Tests.{lt-ltb, ltb-false, le-leb, eq-eqb, ne_eqb, eqb-true, eqb-false}
use Rattle.laws.specs.Choice.{cond, cases, both_false, both_one, both_true, all, all_below, all_below_at}
use Rattle.rules.specs.Limits.{windowed}
use Rattle.rules.specs.Windows.{has_windows}
use Rattle.rules.specs.Fit.{phase_fit, past_window, span_limits, seen_fit, SpanFits}
use Rattle.rules.specs.Worker.{seen_by, kept, phase_of, queue_phase, stack_phase, encode, encode_phase}
use Rattle.rules.proofs.Types.{Settings, Putting, Taking, Phase, Idle, Window, QueuePutRead, QueueTakeRead, StackRead, Check, QueueCommit, StackCommit, QueueShift, StackShift, QueueConfirm, StackConfirm, Span, Slot}
use Rattle.rules.proofs.Fitness.{WorkerFits, span_fits}
use Rattle.rules.proofs.machine.Phases.{SpanTold, seen_told, OfQueue, OfStack, WindowIn, scan_in, worker, encode_index, encode_scan}

-- a phase of the kind
abbrev pub OfKind : Settings → Phase → Type 0
OfKind g p = (g.kind ≡ 0 → OfQueue g p) × (g.kind ≢ 0 → OfStack p)

-- ---- the phase of a slot: its scan and its window are the slot's, and a phase with a window is past the window phase
abbrev pub FromSlot : Settings → Slot → Phase → Type 0
FromSlot g o p = (scan_in p o.scan ≡ o.scan) × WindowIn (λ window. (window ≡ seen_by g o) × (past_window o.number ≡ true)) p

past : (o : Slot) (n : ℕ) → past_window n ≡ true → eqb o.number n ≡ true → past_window o.number ≡ true
past o n h e = subst (λ (x : ℕ). past_window x ≡ true) (sym (eqb-true o.number n e)) h

-- the numbers of a queue's phases that have a window
past_put : (past_window 2 ≡ true) × (past_window 4 ≡ true) × (past_window 5 ≡ true)
unfolding cond
past_put = (refl, refl, refl)

past_take : (past_window 10 ≡ true) × (past_window 12 ≡ true) × (past_window 13 ≡ true) × (past_window 14 ≡ true)
unfolding cond
past_take = (refl, refl, refl, refl)

queue_from : (g : Settings) (o : Slot) → OfQueue g (queue_phase g o) × FromSlot g o (queue_phase g o)
unfolding queue_phase
queue_from g o =
    cases P _ _ _ (λ e. (tt, (refl, tt))) (λ e. cases P _ _ _ (seen 2 past_put.0) (λ e. cases P _ _ _ (seen 4 past_put.1)
    (λ e. cases P _ _ _ (seen 5 past_put.2) (λ e. cases P _ _ _ (λ e. (tt, (refl, tt))) (λ e. cases P _ _ _ (seen 10 past_take.0)
    (λ e. cases P _ _ _ (seen 12 past_take.1) (λ e. cases P _ _ _ (seen 13 past_take.2) (λ e. cases P _ _ _ (seen 14 past_take.3) (λ e. (tt, (refl, tt)))))))))))
  where
    P : Phase → Type 0
    P p = OfQueue g p × FromSlot g o p

    seen : (n : ℕ) → past_window n ≡ true → eqb o.number n ≡ true → SpanTold g (seen_by g o) × ((o.scan ≡ o.scan) × ((seen_by g o ≡ seen_by g o) × (past_window o.number ≡ true)))
    seen n h e = (seen_told g o, (refl, (refl, past o n h e)))

stack_from : (g : Settings) (o : Slot) → OfStack (stack_phase o) × FromSlot g o (stack_phase o)
unfolding stack_phase
stack_from g o =
    cases P _ _ _ (λ e. (tt, (refl, tt))) (λ e. cases P _ _ _ (λ e. (tt, (refl, tt))) (λ e. cases P _ _ _ (λ e. (tt, (refl, tt)))
    (λ e. cases P _ _ _ (λ e. (tt, (refl, tt))) (λ e. cases P _ _ _ (λ e. (tt, (refl, tt))) (λ e. cases P _ _ _ (λ e. (tt, (refl, tt)))
    (λ e. cases P _ _ _ (λ e. (tt, (refl, tt))) (λ e. cases P _ _ _ (λ e. (tt, (refl, tt))) (λ e. cases P _ _ _ (λ e. (tt, (refl, tt)))
    (λ e. cases P _ _ _ (λ e. (tt, (refl, tt))) (λ e. cases P _ _ _ (λ e. (tt, (refl, tt))) (λ e. cases P _ _ _ (λ e. (tt, (refl, tt))) (λ e. (tt, (refl, tt))))))))))))))
  where
    P : Phase → Type 0
    P p = OfStack p × FromSlot g o p

pub phase_from : (g : Settings) (o : Slot) → OfKind g (phase_of g o) × FromSlot g o (phase_of g o)
unfolding phase_of
phase_from g o =
    cases (λ p. OfKind g p × FromSlot g o p) (eqb g.kind 0) _ _
    (λ e. (((λ k. (queue_from g o).0), (λ n. absurd (n (eqb-true _ _ e)))), (queue_from g o).1))
    (λ e. (((λ k. absurd (eqb-false _ _ e k)), (λ n. (stack_from g o).0)), (stack_from g o).1))

-- ---- the number of a fit slot's phase is the slot's own: computed for each of the numbers up to 14
abbrev numbered : Slot → ℕ → Slot
numbered o x =
    record {
      number = x;
      value = o.value;
      index = o.index;
      window = o.window;
      extra = o.extra;
      scan = o.scan;
      seen = o.seen;
      sum = o.sum;
      bottom = o.bottom;
      width = o.width;
    }

abbrev reads_back : Settings → ℕ → (Slot → Phase) → Slot → ℕ → Bool
reads_back g kind phase o x = cond (phase_fit kind x) (eqb (encode_phase g (phase (numbered o x)) 0 0 o).number x) true

queue_reads : (g : Settings) (o : Slot) → all_below 15 (reads_back g 0 (queue_phase g) o) ≡ true
unfolding all_below phase_fit queue_phase encode_phase cond
queue_reads g o = refl

stack_reads : (g : Settings) (o : Slot) → all_below 15 (reads_back g 1 stack_phase o) ≡ true
unfolding all_below phase_fit stack_phase encode_phase cond
stack_reads g o = refl

number_few : (kind x : ℕ) → phase_fit kind x ≡ true → x < 15
unfolding phase_fit
number_few kind x = cases (λ (b : Bool). b ≡ true → x < 15) (ltb 14 x) _ _ (λ t e. absurd (false≢true e)) (λ t e. omega (arith, ltb-false 14 x t))

read_back : (g : Settings) (kind : ℕ) (phase : Slot → Phase) (o : Slot) → all_below 15 (reads_back g kind phase o) ≡ true → phase_fit kind o.number ≡ true
    → (encode_phase g (phase o) 0 0 o).number ≡ o.number
unfolding cond
read_back g kind phase o all fit = eqb-true _ _ (rw fit at (all_below_at 15 (reads_back g kind phase o) o.number (number_few kind o.number fit) all))

number_back : (g : Settings) → g.kind ≤ 1 → (o : Slot) → phase_fit g.kind o.number ≡ true → (encode_phase g (phase_of g o) 0 0 o).number ≡ o.number
unfolding phase_of
number_back g l o fit =
    cases (λ (p : Phase). (encode_phase g p 0 0 o).number ≡ o.number) (eqb g.kind 0) _ _
    (λ y. read_back g 0 (queue_phase g) o (queue_reads g o) (subst (λ (k : ℕ). phase_fit k o.number ≡ true) (eqb-true _ _ y) fit))
    (λ n. let e : g.kind ≡ 1 = omega (arith, eqb-false g.kind 0 n) in
    read_back g 1 stack_phase o (stack_reads g o) (subst (λ (k : ℕ). phase_fit k o.number ≡ true) e fit))

-- so a worker whose phase's number is not 0 is not idle
pub not_idle : (g : Settings) → g.kind ≤ 1 → (o : Slot) → WorkerFits g o → o.number ≢ 0 → phase_of g o ≢ Idle
unfolding encode_phase
not_idle g l o fits busy e = busy (sym (number_back g l o fits.number) ∙ ap (λ (p : Phase). (encode_phase g p 0 0 o).number) e)

-- ---- a slot that is written with a phase of the kind
pub of_both : (kind : ℕ) (b : Bool) → (kind ≡ 0 → b ≡ true) → cond (eqb kind 0) b true ≡ true
of_both kind b h = cases (λ (c : Bool). c ≡ true) (eqb kind 0) b true (λ e. h (eqb-true _ _ e)) (λ e. refl)

-- a window that a queue's worker has seen is within the pool's width, and the worker in it
pub record InSpan (g : Settings) (window : Span) (x y : ℕ) : Type 0 where
  pub width1 : 1 ≤ window.width
  pub width_most : window.width ≤ g.width
  pub index : x < window.width
  pub scan : y < window.width

-- where windows have no sizes of their own, no worker has words of one
abbrev pub Blank : Settings → Slot → Type 0
Blank g o = has_windows g ≡ false → (o.bottom ≡ 0) × (o.width ≡ 0)

pub has_windows_law : (g : Settings) → windowed g ≡ true → g.kind ≡ 0 → has_windows g ≡ true
unfolding cond
has_windows_law g a k = rw (a, eq-eqb g.kind 0 k) refl

pub has_none : (g : Settings) → windowed g ≡ false → has_windows g ≡ false
unfolding cond
has_none g a = rw a refl

pub has_no_queue : (g : Settings) → g.kind ≢ 0 → has_windows g ≡ false
has_no_queue g n = rw (ne_eqb g.kind 0 n) (both_false (windowed g))

pub windowed_none : (g : Settings) → g.kind ≡ 0 → has_windows g ≡ false → windowed g ≡ false
unfolding cond
windowed_none g k e = sym (both_one (windowed g)) ∙ (rw (eq-eqb g.kind 0 k) at e)

pub has_queue : (g : Settings) → has_windows g ≡ true → g.kind ≡ 0
has_queue g e = eqb-true _ _ (both_true (windowed g) (eqb g.kind 0) e).1

module _ (g : Settings) where
  number_fits : (p : Phase) (v x : ℕ) (o : Slot) → OfKind g p → phase_fit g.kind (encode_phase g p v x o).number ≡ true
  unfolding phase_fit encode_phase cond
  number_fits Idle v x o t = of_both g.kind true (λ k. refl)
  number_fits (Window Putting) v x o t = of_both g.kind true (λ k. refl)
  number_fits (Window Taking) v x o t = of_both g.kind true (λ k. refl)
  number_fits (QueuePutRead window scan) v x o t = of_both g.kind true (λ k. refl)
  number_fits (QueueTakeRead window bare scan sum) v x o t = of_both g.kind true (λ k. refl)
  number_fits (StackRead Putting window version scan sum) v x o t = of_both g.kind true (λ k. refl)
  number_fits (StackRead Taking window version scan sum) v x o t = of_both g.kind true (λ k. refl)
  number_fits (Check Putting version seen) v x o t = of_both g.kind false (λ k. absurd (t.0 k))
  number_fits (Check Taking version seen) v x o t = of_both g.kind false (λ k. absurd (t.0 k))
  number_fits (QueueCommit Putting window seen) v x o t = of_both g.kind true (λ k. refl)
  number_fits (QueueCommit Taking window seen) v x o t = of_both g.kind true (λ k. refl)
  number_fits (StackCommit Putting seen) v x o t = of_both g.kind true (λ k. refl)
  number_fits (StackCommit Taking seen) v x o t = of_both g.kind true (λ k. refl)
  number_fits (QueueShift Putting window) v x o t = of_both g.kind true (λ k. refl)
  number_fits (QueueShift Taking window) v x o t = of_both g.kind true (λ k. refl)
  number_fits (StackShift Putting version scan sum) v x o t = of_both g.kind true (λ k. refl)
  number_fits (StackShift Taking version scan sum) v x o t = of_both g.kind true (λ k. refl)
  number_fits (QueueConfirm window scan sum) v x o t = of_both g.kind true (λ k. refl)
  number_fits (StackConfirm Putting scan sum) v x o t = of_both g.kind false (λ k. absurd (t.0 k))
  number_fits (StackConfirm Taking scan sum) v x o t = of_both g.kind true (λ k. refl)

  -- the words of the window seen
  span_limits_law : (s : Slot) → SpanFits g s → all (span_limits g s) ≡ true
  unfolding cond
  span_limits_law s h =
      rw (le-leb 1 s.width h.width1, le-leb s.width g.width h.width_most, lt-ltb s.index s.width h.index, lt-ltb s.scan s.width h.scan) refl

  seen_fits : (s : Slot) → (windowed g ≡ true → g.kind ≡ 0 → past_window s.number ≡ true → SpanFits g s) → Blank g s → seen_fit g s ≡ true
  unfolding seen_fit cond
  seen_fits s span blank =
      cases P (windowed g) _ _
      (λ a. cases P (eqb g.kind 0) _ _
      (λ e. cases P (past_window s.number) _ _ (λ c. span_limits_law s (span a (eqb-true _ _ e) c)) (λ c. refl))
      (λ e. let z = blank (has_no_queue g (eqb-false g.kind 0 e)) in rw (z.0, z.1) refl))
      (λ a. refl)
    where
      P : Bool → Type 0
      P b = b ≡ true

  in_span : {window : Span} {x scan : ℕ} → windowed g ≡ true → InSpan g window x scan → (s : Slot) → s.width ≡ kept g window.width → s.index ≡ x → s.scan ≡ scan → SpanFits g s
  unfolding cond
  in_span {window} {x} {scan} a h s wide index scans =
      let w : s.width ≡ window.width = rw a at wide in
      record { width1 = rw w h.width1; width_most = rw w h.width_most; index = rw (w, index) h.index; scan = rw (w, scans) h.scan }

  slot_span : (p : Phase) (v x : ℕ) (o : Slot) → windowed g ≡ true → OfQueue g p → WindowIn (λ window. InSpan g window x (scan_in p o.scan)) p
      → past_window (encode_phase g p v x o).number ≡ true → SpanFits g (encode_phase g p v x o)
  unfolding encode_phase cond
  slot_span Idle v x o a t h c = absurd (false≢true c)
  slot_span (Window Putting) v x o a t h c = absurd (false≢true c)
  slot_span (Window Taking) v x o a t h c = absurd (false≢true c)
  slot_span (QueuePutRead window scan) v x o a t h c = in_span a h _ refl refl refl
  slot_span (QueueTakeRead window bare scan sum) v x o a t h c = in_span a h _ refl refl refl
  slot_span (StackRead side window version scan sum) v x o a t h c = absurd t
  slot_span (Check side version seen) v x o a t h c = absurd t
  slot_span (QueueCommit side window seen) v x o a t h c = in_span a h _ refl refl refl
  slot_span (StackCommit side seen) v x o a t h c = absurd t
  slot_span (QueueShift side window) v x o a t h c = in_span a h _ refl refl refl
  slot_span (StackShift side version scan sum) v x o a t h c = absurd t
  slot_span (QueueConfirm window scan sum) v x o a t h c = in_span a h _ refl refl refl
  slot_span (StackConfirm side scan sum) v x o a t h c = absurd t

  -- a stack's phase keeps them
  none_kept : g.kind ≡ 0 → has_windows g ≡ false → (x : ℕ) → kept g x ≡ 0
  unfolding cond
  none_kept k none x = rw (windowed_none g k none) refl

  queue_blank : (g.kind ≢ 0 → ⊥) → has_windows g ≡ false → (a b : ℕ) → (kept g a ≡ 0) × (kept g b ≡ 0)
  queue_blank q none a b = elim (ℕ_discrete g.kind 0) [ yes k ↦ (none_kept k none a, none_kept k none b) | no n ↦ absurd (q n) ]

  blank_kept : (p : Phase) (v x : ℕ) (o : Slot) → OfKind g p → Blank g o → Blank g (encode_phase g p v x o)
  unfolding encode_phase
  blank_kept Idle v x o t h = h
  blank_kept (Window side) v x o t h = h
  blank_kept (QueuePutRead window scan) v x o t h = λ none. queue_blank t.1 none _ _
  blank_kept (QueueTakeRead window bare scan sum) v x o t h = λ none. queue_blank t.1 none _ _
  blank_kept (StackRead side window version scan sum) v x o t h = h
  blank_kept (Check side version seen) v x o t h = h
  blank_kept (QueueCommit side window seen) v x o t h = λ none. queue_blank t.1 none _ _
  blank_kept (StackCommit side seen) v x o t h = h
  blank_kept (QueueShift side window) v x o t h = λ none. queue_blank t.1 none _ _
  blank_kept (StackShift side version scan sum) v x o t h = h
  blank_kept (QueueConfirm window scan sum) v x o t h = λ none. queue_blank t.1 none _ _
  blank_kept (StackConfirm side scan sum) v x o t h = h

  -- a phase with its scan, at an index
  pub record PhaseFits (p : Phase) (o : Slot) (x : ℕ) : Type 0 where
    pub kind : OfKind g p
    pub scan : scan_in p o.scan < g.width
    pub span : has_windows g ≡ true → WindowIn (λ window. InSpan g window x (scan_in p o.scan)) p

  pub encode_fits : (v x : ℕ) (p : Phase) (o : Slot) → x < g.width → PhaseFits p o x → Blank g o → WorkerFits g (encode g (worker v x p) o)
  unfolding encode
  encode_fits v x p o lx h blank = record {
    index = subst (λ (i : ℕ). i < g.width) (sym (encode_index g (worker v x p) o)) lx;
    scan = subst (λ (i : ℕ). i < g.width) (sym (encode_scan g (worker v x p) o)) h.scan;
    number = number_fits p v x o h.kind;
    seen = seen_fits (encode_phase g p v x o)
        (λ a k. slot_span p v x o a (h.kind.0 k) (h.span (has_windows_law g a k)))
        (blank_kept p v x o h.kind blank);
  }

  pub encode_blank : (v x : ℕ) (p : Phase) (o : Slot) → OfKind g p → Blank g o → Blank g (encode g (worker v x p) o)
  unfolding encode
  encode_blank v x p o t h = blank_kept p v x o t h

  -- what a fit slot says of the window that its phase has seen
  -- (of a stack, or of editions that have no such words)
  pub blank_read : (o : Slot) → WorkerFits g o → (windowed g ≡ false → (o.bottom ≡ 0) × (o.width ≡ 0)) → Blank g o
  unfolding seen_fit cond
  blank_read o h old none = go (windowed g) refl
    where
      go : (b : Bool) → windowed g ≡ b → (o.bottom ≡ 0) × (o.width ≡ 0)
      go true a =
          let n : g.kind ≢ 0 = λ k. absurd (false≢true (sym none ∙ has_windows_law g a k)) in
          let t = both_true (eqb o.bottom 0) (eqb o.width 0) (rw (a, ne_eqb g.kind 0 n) at h.seen) in
          (eqb-true _ _ t.0, eqb-true _ _ t.1)
      go false a = old a

  seen_in : (o : Slot) → WorkerFits g o → has_windows g ≡ true → (window : Span) → (window ≡ seen_by g o) × (past_window o.number ≡ true) → InSpan g window o.index o.scan
  unfolding seen_by cond
  seen_in o h has window (same, c) =
      let f = span_fits g o has c h.seen in
      let e : window.width ≡ o.width = ap (λ (z : Span). z.width) same ∙ (rw (both_true (windowed g) _ has).0 refl) in
      record { width1 = rw e f.width1; width_most = rw e f.width_most; index = rw e f.index; scan = rw e f.scan }

  pub span_from : (o : Slot) → WorkerFits g o → (p : Phase) → FromSlot g o p → has_windows g ≡ true → WindowIn (λ window. InSpan g window o.index o.scan) p
  span_from o h Idle f has = tt
  span_from o h (Window side) f has = tt
  span_from o h (QueuePutRead window scan) f has = seen_in o h has window f.1
  span_from o h (QueueTakeRead window bare scan sum) f has = seen_in o h has window f.1
  span_from o h (StackRead side window version scan sum) f has = tt
  span_from o h (Check side version seen) f has = tt
  span_from o h (QueueCommit side window seen) f has = seen_in o h has window f.1
  span_from o h (StackCommit side seen) f has = tt
  span_from o h (QueueShift side window) f has = seen_in o h has window f.1
  span_from o h (StackShift side version scan sum) f has = tt
  span_from o h (QueueConfirm window scan sum) f has = seen_in o h has window f.1
  span_from o h (StackConfirm side scan sum) f has = tt

-- ---- a slot that is written with a phase other than idle is busy
abbrev pub Working : Phase → Type 0
Working Idle = ⊥
Working (Window side) = Unit {0}
Working (QueuePutRead window scan) = Unit {0}
Working (QueueTakeRead window bare scan sum) = Unit {0}
Working (StackRead side window version scan sum) = Unit {0}
Working (Check side version seen) = Unit {0}
Working (QueueCommit side window seen) = Unit {0}
Working (StackCommit side seen) = Unit {0}
Working (QueueShift side window) = Unit {0}
Working (StackShift side version scan sum) = Unit {0}
Working (QueueConfirm window scan sum) = Unit {0}
Working (StackConfirm side scan sum) = Unit {0}

pub encode_busy : (g : Settings) (v x : ℕ) (p : Phase) (o : Slot) → Working p → (encode g (worker v x p) o).number ≢ 0
unfolding encode encode_phase
encode_busy g v x Idle o w e = w
encode_busy g v x (Window side) o w e = omega arith
encode_busy g v x (QueuePutRead window scan) o w e = omega arith
encode_busy g v x (QueueTakeRead window bare scan sum) o w e = omega arith
encode_busy g v x (StackRead side window version scan sum) o w e = omega arith
encode_busy g v x (Check side version seen) o w e = omega arith
encode_busy g v x (QueueCommit side window seen) o w e = omega arith
encode_busy g v x (StackCommit side seen) o w e = omega arith
encode_busy g v x (QueueShift side window) o w e = omega arith
encode_busy g v x (StackShift side version scan sum) o w e = omega arith
encode_busy g v x (QueueConfirm window scan sum) o w e = omega arith
encode_busy g v x (StackConfirm side scan sum) o w e = omega arith
