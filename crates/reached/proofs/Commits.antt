-- One put or take of a worker that comes to a sub where it hits. From one state of the run to a later one the rows that stay keep
-- their items, and the rows that come hold newer ones than all before.
use mathlib.Core.Path.{◌≡◌, refl, sym, ap, ◌∙◌}
use mathlib.Core.Logic.{◌≢◌, ◌⊎◌, inl, inr}
use mathlib.Core.Bool.{true}
use Prim.Native.Nat.{ℕ, suc, ◌+◌, ◌-◌, ◌≤◌, ◌<◌}
use native.Mathlib.Nat.{le_refl, le_trans}
use native.Mathlib.Decide.{ℕ_discrete, dec_le}
use native.Mathlib.Omega.{arith}
use borrow.Author.Tests.{lt-ltb, eq-eqb}
use Rattle.rules.specs.Limits.{settings_fit, step_limit}
use Rattle.rules.specs.Held.{Item}
use Rattle.rules.specs.Worker.{fresh, encode, encode_phase}
use Rattle.rules.specs.Run.{step}
use Rattle.reached.proofs.Types.{Settings, Side, Putting, Taking, Phase, Idle, StackCommit, Version, Slot}
use Rattle.rules.proofs.counts.Sums.{upd, upd_same, upd_other}
use Rattle.rules.proofs.counts.Stamps.{Added, added}
use Rattle.rules.proofs.machine.Machine.{State, sub_in, phase_in, apply_in}
use Rattle.rules.proofs.machine.Good.{good}
use Rattle.rules.proofs.stack.Inv.{Hit}
use Rattle.rules.proofs.stack.Moves.{Stepping}
use Rattle.rules.proofs.stack.Corridor.{count_after}
use Rattle.rules.proofs.stack.Commit.{put_room, take_row, committed}
use Rattle.rules.proofs.stack.CommitPut.{apply_landed}
use Rattle.rules.proofs.stack.CommitTake.{apply_removed}
use Rattle.reached.proofs.Run.{Got, got_call}
use Rattle.reached.proofs.Rules.{step_is, put_rule, take_rule}
use Rattle.reached.proofs.Steps.{Walked}
use Rattle.reached.proofs.Walks.{Comes, comes_to_commit}

-- a row that stays was there in between
abbrev pub Between : State → State → State → Type 0
Between s t u = (m r : ℕ) → r ≤ s.first m → r ≤ u.first m → r ≤ t.first m

-- a sub that is not among those from low to last
abbrev pub Outside : ℕ → ℕ → ℕ → Type 0
Outside low last m = (m < low) ⊎ (last < m)

pub outside_one : (j m : ℕ) → m ≢ j → Outside j j m
outside_one j m ne = elim (dec_le m j) [ yes l ↦ inl (omega arith) | no l ↦ inr (omega arith) ]

one_of : (j m : ℕ) → Outside j j m → m ≢ j
one_of j m (inl l) e = omega arith
one_of j m (inr l) e = omega arith

module _ (g : Settings) (limits : settings_fit g ≡ true) (kind : g.kind ≡ 1) where
  -- ---- from one state of the run to a later one
  pub record Later (n : ℕ) (s t : State) : Type 0 where
    pub got : Got g limits kind t
    pub steps : t.steps ≤ s.steps + n
    pub puts : s.puts ≤ t.puts
    pub old : (m r : ℕ) → r ≤ s.first m → r ≤ t.first m → t.item m r ≡ s.item m r
    pub new : (m r : ℕ) → s.first m < r → r ≤ t.first m → s.puts < (t.item m r).stamp

  -- no item came or went
  pub later_same : {n : ℕ} {s t : State} → Got g limits kind t → t.steps ≤ s.steps + n → t.puts ≡ s.puts → t.first ≡ s.first → t.item ≡ s.item
      → Later n s t
  later_same {s = s} got steps puts first item =
      record {
        got = got;
        steps = steps;
        puts = omega arith;
        old = λ m r x y. ap (λ (f : ℕ → ℕ → Item). f m r) item;
        new = λ m r x y. let z : r ≤ s.first m = rw first at y in absurd (omega arith);
      }

  pub later_then : {n m k : ℕ} {s t u : State} → n + m ≤ k → Between s t u → Later n s t → Later m t u → Later k s u
  later_then {s = s} {t = t} {u = u} l between a b =
      record {
        got = b.got;
        steps = omega (arith, a.steps, b.steps);
        puts = le_trans a.puts b.puts;
        old = λ m r x y. b.old m r (between m r x y) y ∙ a.old m r x (between m r x y);
        new = λ m r x y. new m r x y (dec_le r (t.first m));
      }
    where
      new : (m r : ℕ) → s.first m < r → r ≤ u.first m → Dec (r ≤ t.first m) → s.puts < (u.item m r).stamp
      new m r x y (yes z) = omega (arith, ap (λ (it : Item). it.stamp) (b.old m r z y), a.new m r x z)
      new m r x y (no z) = omega (arith, a.puts, b.new m r (omega arith) y)

  -- ---- worker i brings the subs from low to last to c items each, and rests at a sub
  pub record Brought (n : ℕ) (s : State) (i low last c at : ℕ) : Type 0 where
    pub to : State
    pub later : Later n s to
    pub top : to.top ≡ s.top
    pub mark : to.mark ≡ s.mark
    pub held : (m : ℕ) → low ≤ m → m ≤ last → to.first m ≡ c
    pub held_off : (m : ℕ) → Outside low last m → to.first m ≡ s.first m
    pub version_off : (m : ℕ) → Outside low last m → to.second m ≡ s.second m
    pub off : (m : ℕ) → m ≢ i → to.slot m ≡ s.slot m
    pub rests : (to.slot i).number ≡ 0
    pub index_is : sub_in to i ≡ at

  abbrev pub BroughtOne : ℕ → State → ℕ → ℕ → ℕ → Type 0
  BroughtOne n s i j c = Brought n s i j j c j

  -- ---- one operation: the commit, and the walk to it
  idle_number : (x : ℕ) → ((fresh g 0 x Idle).number ≡ 0) × ((fresh g 0 x Idle).index ≡ x)
  unfolding encode encode_phase
  idle_number x = (refl, refl)

  module _ (s : State) (got : Got g limits kind s) (i : ℕ) (l : i < g.workers) (time : s.steps < step_limit) (seen : Version) (live : seen.0 ≡ s.second (sub_in s i)) where
    a : Stepping g s got.live.list i
    a = record { good = good g limits; kind = kind; common = got.live.common; inv = got.live.inv; time = time }

    abbrev j : ℕ
    j = sub_in s i

    commit : (side : Side) (puts : ℕ) (item : ℕ → ℕ → Item) → Later 1 s (committed g s i side puts item)
        → BroughtOne 1 s i j (count_after side (s.first j))
    commit side puts item later =
        record {
          to = committed g s i side puts item;
          later = later;
          top = refl;
          mark = refl;
          held = λ m u v. let e : m ≡ j = omega arith in rw e (upd_same s.first j (count_after side (s.first j)));
          held_off = λ m o. upd_other s.first j (count_after side (s.first j)) m (one_of j m o);
          version_off = λ m o. upd_other s.second j (suc (s.second j)) m (one_of j m o);
          off = λ m ne. upd_other s.slot i (fresh g 0 j Idle) m ne;
          rests = ap (λ (y : Slot). y.number) (upd_same s.slot i (fresh g 0 j Idle)) ∙ (idle_number j).0;
          index_is = ap (λ (y : Slot). y.index) (upd_same s.slot i (fresh g 0 j Idle)) ∙ (idle_number j).1;
        }

    -- a put adds the row above, with the next stamp; a take adds none
    later_landed : phase_in g s i ≡ StackCommit Putting seen
        → Later 1 s (committed g s i Putting (suc s.puts) (upd s.item j (upd (s.item j) (suc (s.first j)) (record { value = (s.slot i).value; stamp = suc s.puts }))))
    later_landed e =
        let it : Item = record { value = (s.slot i).value; stamp = suc s.puts } in
        let put : Added s.first s.item j (suc (s.first j)) it _ _ = added s.first s.item j (suc (s.first j)) it (le_refl _) in
        record {
          got =
              got_call g limits kind got (step i) tt _
              (step_is g s i l time (StackCommit Putting seen) e tt
              ∙ ap (apply_in g s i) (put_rule g s i seen (eq-eqb _ _ (sym live)) (lt-ltb _ _ (put_room got.live.inv i seen e live)))
              ∙ apply_landed a seen e live);
          steps = omega arith;
          puts = omega arith;
          old = λ m r x y. put.old m r (λ e e'. let x' : r ≤ s.first j = rw e at x in omega arith);
          new = λ m r x y. new m r x y (ℕ_discrete m j) put;
        }
      where
        new : (m r : ℕ) → s.first m < r → r ≤ upd s.first j (suc (s.first j)) m → Dec (m ≡ j)
            → Added s.first s.item j (suc (s.first j)) (record { value = (s.slot i).value; stamp = suc s.puts }) (upd s.first j (suc (s.first j)))
            (upd s.item j (upd (s.item j) (suc (s.first j)) (record { value = (s.slot i).value; stamp = suc s.puts })))
            → s.puts < (upd s.item j (upd (s.item j) (suc (s.first j)) (record { value = (s.slot i).value; stamp = suc s.puts })) m r).stamp
        new m r x y (yes e) put =
            let x' : s.first j < r = rw e at x in
            let y' : r ≤ upd s.first j (suc (s.first j)) j = rw e at y in
            let row : r ≡ suc (s.first j) = omega (arith, put.here) in
            rw (e, row, put.it) (le_refl _)
        new m r x y (no ne) put = absurd (omega (arith, put.off m ne))

    later_removed : phase_in g s i ≡ StackCommit Taking seen → Later 1 s (committed g s i Taking s.puts s.item)
    later_removed e =
        let some : 1 ≤ s.first j = take_row got.live.inv i seen e live in
        record {
          got =
              got_call g limits kind got (step i) tt _
              (step_is g s i l time (StackCommit Taking seen) e tt
              ∙ ap (apply_in g s i) (take_rule g s i seen (eq-eqb _ _ (sym live)) (lt-ltb _ _ some))
              ∙ apply_removed a seen e live);
          steps = omega arith;
          puts = le_refl _;
          old = λ m r x y. refl;
          new = λ m r x y. absurd (new m r x y (ℕ_discrete m j));
        }
      where
        new : (m r : ℕ) → s.first m < r → r ≤ upd s.first j (s.first j - 1) m → Dec (m ≡ j) → ⊥
        new m r x y (yes e) =
            let x' : s.first j < r = rw e at x in
            let y' : r ≤ upd s.first j (s.first j - 1) j = rw e at y in
            omega (arith, upd_same s.first j (s.first j - 1))
        new m r x y (no ne) = omega (arith, upd_other s.first j (s.first j - 1) m ne)

    commits : (side : Side) → phase_in g s i ≡ StackCommit side seen → BroughtOne 1 s i j (count_after side (s.first j))
    commits Putting e = commit Putting _ _ (later_landed e)
    commits Taking e = commit Taking _ _ (later_removed e)

  -- after steps that change nothing shared
  walk_then : {n m k : ℕ} {s : State} {i j c : ℕ} {p : Phase} → n + m ≤ k → (a : Walked g limits kind n s i j p) → BroughtOne m a.to i j c
      → BroughtOne k s i j c
  walk_then l a b =
      record {
        to = b.to;
        later = later_then l (λ m r x y. rw a.first x) (later_same a.got a.steps a.puts a.first a.item) b.later;
        top = b.top ∙ a.top;
        mark = b.mark ∙ a.mark;
        held = b.held;
        held_off = λ m o. b.held_off m o ∙ ap (λ (f : ℕ → ℕ). f m) a.first;
        version_off = λ m o. b.version_off m o ∙ ap (λ (f : ℕ → ℕ). f m) a.second;
        off = λ m ne. b.off m ne ∙ a.off m ne;
        rests = b.rests;
        index_is = b.index_is;
      }

  -- a worker that comes to sub j, where it hits, puts one there, or takes one
  module _ (side : Side) (s : State) (i j : ℕ) (l : i < g.workers) (time : s.steps + 5 ≤ step_limit) where
    finish : Walked g limits kind 4 s i j (StackCommit side (record { 0 = s.second j })) → BroughtOne 5 s i j (count_after side (s.first j))
    finish a =
        let live : s.second j ≡ a.to.second (sub_in a.to i) = rw (a.index_is, a.second) refl in
        let b : BroughtOne 1 a.to i j (count_after side (s.first j)) =
        rw (← a.index_is, ← a.first) (commits a.to a.got i l (omega (arith, a.steps)) (record { 0 = s.second j }) live side a.phase) in
        walk_then (omega arith) a b

    pub operation : Got g limits kind s → Comes g side s i j → Hit g side s.top (s.first j) → BroughtOne 5 s i j (count_after side (s.first j))
    operation got c h = finish (comes_to_commit g limits kind s i j l side got (omega arith) c h)
