-- The exact figure is reached, and so the framework paper's is exceeded where it is below. How often the window rises after x's put is
-- the smaller of floor((d - 1) / s), when x may still be taken, and what R has room for; where R has room for one shift alone, x is the
-- item in row d. A stack of one sub has the figure 0, which every take has.
use mathlib.Core.Path.{◌≡◌, sym, ap, ◌∙◌, subst}
use mathlib.Core.Logic.{◌⊎◌, inl, inr}
use mathlib.Core.Bool.{true}
use mathlib.Core.List.{List, [], ◌∷◌}
use Prim.Native.Nat.{ℕ, suc, ◌+◌, ◌-◌, ◌*◌, ◌/◌, ◌≤◌, ◌<◌}
use native.Mathlib.Nat.{le_refl, le_antisymm, mul-le-mul_left, mul-le-mul_right, eq-or-lt_of_le}
use native.Mathlib.Decide.{dec_le}
use native.Mathlib.Omega.{arith}
use Rattle.rules.specs.Answers.{number_of}
use Rattle.rules.specs.Consequences.{words_after}
use Rattle.rules.specs.Limits.{settings_fit, Bounds}
use Rattle.rules.specs.Windows.{size_of}
use Rattle.rules.specs.Sequential.{bound_by}
use Rattle.rules.specs.Newer.{highest_window, exact_rows, exact_bound}
use Rattle.rules.specs.Make.{make_of}
use Rattle.rules.specs.Run.{Call, step, call_of, stamp_in, distance_in}
use Rattle.rules.specs.Spacers.{answer_after, measures_after}
use Rattle.rules.specs.declared.Stamp.{Stamp}
use Rattle.reached.specs.Reached.{Reached, FrameworkExceeded}
use Rattle.reached.proofs.Types.{Settings, Putting, Taking, StackCommit, Size}
use Rattle.rules.proofs.Fitness.{settings_bounds}
use Rattle.rules.proofs.machine.Machine.{State, sub_in, phase_in, next_in, made_in}
use Rattle.rules.proofs.machine.Turns.{Kind}
use Rattle.rules.proofs.machine.Good.{good}
use Rattle.rules.proofs.words.Made.{accepted}
use Rattle.rules.proofs.figures.Figures.{times, times_low, bound_stack, below_highest, highest_rows}
use Rattle.rules.proofs.figures.Exactness.{framework_low}
use Rattle.rules.proofs.stack.Turn.{stack_kind}
use Rattle.rules.proofs.Transfer.{Related, next_related, made_related}
use Rattle.rules.proofs.Spacers.{never_above}
use Rattle.rules.proofs.Corollaries.{takes_within_exact}
use Rattle.reached.proofs.Run.{after, new, got_made}
use Rattle.reached.proofs.Walks.{there, comes_to_commit}
use Rattle.reached.proofs.Commits.{BroughtOne}
use Rattle.reached.proofs.Sweeps.{operations}
use Rattle.reached.proofs.Scene.{Waits, ComesTo}
use Rattle.reached.proofs.Opening.{Only, first_bare, scene_of, opened}
use Rattle.reached.proofs.Rises.{risen_none, risen_times, few_times}
use Rattle.reached.proofs.Ending.{About, ends, ends_ready}
use Rattle.reached.proofs.Taken.{Found, takes, found}

module _ (g : Settings) (limits : settings_fit g ≡ true) (kind : g.kind ≡ 1) where
  bounds : Bounds g
  bounds = settings_bounds g limits

  -- ---- one sub
  -- one put, and its take
  module _ (one : g.width ≡ 1) where
    nothing : exact_bound g ≡ 0
    unfolding exact_bound
    nothing = bound_stack g _ _ kind ∙ (let w : g.width - 1 ≡ 0 = omega arith in rw w (omega arith))

    taken_again : (b : BroughtOne g limits kind 5 (made_in g) 0 0 1) → Found g
    taken_again b =
        let a =
        comes_to_commit g limits kind b.to 0 0 bounds.workers1 Taking b.later.got (omega (arith, b.later.steps, (new g).steps))
        (there b.rests b.index_is) (omega (arith, b.held 0 (le_refl _) (le_refl _), b.top, (new g).top)) in
        let waits : phase_in g a.to 0 ≡ StackCommit Taking (record { 0 = a.to.second (sub_in a.to 0) }) =
        subst (λ (j : ℕ). phase_in g a.to 0 ≡ StackCommit Taking (record { 0 = a.to.second j })) (sym a.index_is) (rw a.second a.phase) in
        takes g limits kind a.to a.got 0 bounds.workers1 (omega (arith, a.steps, b.later.steps, (new g).steps)) waits (omega (arith, nothing))

    alone : Found g
    alone =
        taken_again
        (operations g limits kind Putting 0 0 1 bounds.workers1 0 (made_in g) (got_made g limits kind) (omega (arith, (new g).steps))
        (there ((new g).rests 0) ((new g).index_is 0 bounds.width1)) (omega (arith, (new g).bare 0)) (omega (arith, (new g).top, bounds.depth1)))

  -- ---- more than one
  module _ (last : ℕ) (last-is : suc last ≡ g.width) (two : 2 ≤ g.workers) (another : 1 ≤ last) where
    -- the window rises so often after x's put, and once more
    found_risen : (k : ℕ) → k ≤ times g → g.depth + g.shift + k * g.shift + g.shift ≤ g.rows
        → g.depth + g.shift + k * g.shift + g.shift ≡ exact_rows g → Found g
    found_risen k l room exact =
        let o = opened g limits kind last last-is two another in
        let few = few_times g bounds in
        let r = risen_times g limits kind last last-is two (risen_none g limits kind last last-is two o.3 o.4) k (omega arith) (omega arith) in
        let e =
        ends_ready g limits kind last last-is two another (omega arith) (omega arith) (omega (arith, mul-le-mul_right g.shift l, times_low g, bounds.depth1)) room
        r.1.ready r.1.scene in
        found g limits kind last last-is two another o.0 (g.depth + g.shift) _ exact e.0 e.1

    -- x is the item in row d
    lowest : {s : State} → Only g limits kind last last-is two another (ComesTo g last) Waits g.depth g.depth 163857 s
        → About g limits kind last last-is two another (ComesTo g last) Waits (s.item last g.depth).stamp g.depth g.depth g.depth g.depth 163857 s
    lowest o =
        record {
          got = o.got;
          scene = scene_of g limits kind last last-is two another o bounds.depth1;
          top_is = o.top_is;
          held_is = o.held;
          low = λ j l. omega (arith, o.bare j l);
          mover_is = o.mover_is;
          does = o.does;
          few = o.few;
        }

    found_lowest : g.depth + g.shift ≡ exact_rows g → Found g
    found_lowest exact =
        let o = first_bare g limits kind last last-is two another in
        let e =
        ends g limits kind last last-is two another (o.0.item last g.depth).stamp g.depth g.depth 163857 (omega arith)
        (omega (arith, bounds.depth1)) (omega (arith, bounds.shift_depth, bounds.rows2)) o.0 (lowest o.1) in
        found g limits kind last last-is two another (o.0.item last g.depth).stamp g.depth (g.depth + g.shift) exact e.0 e.1

    -- ---- how many shifts R has room for
    abbrev fits : ℕ
    fits = (g.rows - g.depth) / g.shift

    one_fits : 1 ≤ fits
    one_fits = go (dec_le 1 fits)
      where
        go : Dec (1 ≤ fits) → 1 ≤ fits
        go (yes y) = y
        go (no ne) =
            let z : fits ≡ 0 = omega arith in
            absurd (omega (arith, rw z at (below_highest g 1 bounds.shift1 (omega (arith, bounds.shift_depth, bounds.rows2))), bounds.shift1))

    high : highest_window g ≤ g.rows
    high = highest_rows g (omega (arith, bounds.rows2))

    several : Found g
    several = go (dec_le (2 + times g) fits) (dec_le 2 fits)
      where
        go : Dec (2 + times g ≤ fits) → Dec (2 ≤ fits) → Found g
        go (yes y) d =
            let m = mul-le-mul_left g.shift y in
            found_risen (times g) (le_refl _) (omega (arith, high)) (omega arith)
        go (no ne) (yes y) =
            let e : g.shift * fits ≡ g.shift * (fits - 2) + 2 * g.shift =
            let u : fits ≡ (fits - 2) + 2 = omega arith in ap (λ (z : ℕ). g.shift * z) u ∙ omega arith in
            let l : fits - 2 ≤ times g = omega arith in
            let m = mul-le-mul_left g.shift l in
            found_risen (fits - 2) l (omega (arith, high)) (omega arith)
        go (no ne) (no y) =
            let one : fits ≡ 1 = omega (arith, one_fits) in
            let e : g.shift * fits ≡ g.shift = ap (λ (z : ℕ). g.shift * z) one ∙ omega arith in
            found_lowest (omega arith)

  -- of the machine
  reached_machine : 2 ≤ g.workers → Found g
  reached_machine two = go (eq-or-lt_of_le bounds.width1)
    where
      go : (1 ≡ g.width) ⊎ (1 < g.width) → Found g
      go (inl e) = alone (sym e)
      go (inr l) = several (g.width - 1) (omega arith) two (omega arith)

-- ---- of the words
-- they answer as the machine does, after the same calls
answer_same : (g : Settings) (limits : settings_fit g ≡ true) (k : Kind g) {ws : List ℕ} {s : State} → Related g limits k ws s
    → (cs : List Call) (c : Call) → (call_of g.edition (words_after g.edition ws cs) c).answer ≡ (next_in g (after g s cs) c).answer
unfolding words_after after
answer_same g limits k r [] c = (next_related g limits k r c).answer
answer_same g limits k {ws = ws} r (d ∷ cs) c = answer_same g limits k {ws = (call_of g.edition ws d).words} (next_related g limits k r d).related cs c

-- a stack's figure looks at no window's size
exact_of_any : (g : Settings) → g.kind ≡ 1 → (size : Size) → bound_by g (exact_rows g) size ≡ exact_bound g
unfolding exact_bound
exact_of_any g kind size = bound_stack g (exact_rows g) size kind ∙ sym (bound_stack g (exact_rows g) (size_of g) kind)

-- what is reported is passed over, and no more is
pub reached : Reached
reached ws g made kind two =
    let a = accepted ws g made in
    let k = stack_kind g (good g a.limits) kind in
    let m = reached_machine g a.limits kind two in
    let same = answer_same g a.limits k (made_related g a.limits k ws a) m.calls (step m.worker) in
    let taken = ap number_of same ∙ m.taken in
    let reports = ap distance_in same ∙ m.reports in
    let stamp : Stamp = record { 0 = stamp_in (answer_after g.edition (make_of ws g).words m.calls m.worker) } in
    let t = takes_within_exact ws g m.calls made m.worker taken in
    record {
      calls = m.calls;
      worker = m.worker;
      taken = taken;
      passes = le_antisymm (omega (arith, t.passes, exact_of_any g kind (measures_after g.edition (make_of ws g).words m.calls m.worker).size)) (omega (arith, t.reports, reports, (never_above g).held (words_after g.edition (make_of ws g).words m.calls) stamp));
      reports = reports;
    }

pub framework_exceeded : FrameworkExceeded
framework_exceeded ws g made kind w two l room =
    (exact_bound g, reached ws g made kind two, (framework_low g (accepted ws g made).limits kind w).1 (l, room))
