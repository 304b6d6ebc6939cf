-- Demand 3 over begins, steps, size calls and moves, of a new pool of any edition: a run as one, with one order. A move keeps what holds of the pool, the
-- list with it, and no operation under way sees it (Related), so that the run is a course of the machine (crates/rules, Course). Editions 1 and 2 may answer
-- differently, so no run is said to be that of a pool that never moved: what holds at each place holds by the rules of the edition that the pool is in there.
use Prim.Native.Nat.{ℕ, ◌+◌}
use mathlib.Core.Path.{◌≡◌, sym, ap, ◌∙◌, subst}
use mathlib.Core.Bool.{Bool, true}
use mathlib.Core.List.{List, [], ◌∷◌}
use native.Mathlib.Omega.{arith}
use lib.Dec.{eqb}
use borrow.Author.Tests.{eqb-true}
use Rattle.laws.specs.Choice.{cases}
use Rattle.rules.specs.Answers.{number_of}
use Rattle.rules.specs.Held.{Item, held_items, count_items}
use Rattle.rules.specs.Limits.{settings_fit}
use Rattle.rules.specs.Layout.{settings_of}
use Rattle.rules.specs.Make.{make_of, in_edition}
use Rattle.turnaround.specs.Move.{move_of}
use Rattle.rules.specs.Sequential.{Operation, Contents, demand3_rows}
use Rattle.rules.specs.Run.{Call, begin}
use Rattle.rules.specs.Consequences.{words_after, items_in}
use Rattle.rules.specs.Newer.{exact_rows}
use Rattle.solo.specs.Solo.{solo_steps}
use Rattle.turnaround.specs.Turnaround.{Act, call, move, Place, here, place_after, place_over, run_over, ExactOverMoves, Demand3OverMoves, NothingLostOverMoves, SizesKnownOverMoves, SoundOverMoves, SoloFrom, SoloOverMoves, K3OverMoves}
use Rattle.turnaround.proofs.Types.{Settings}
use Rattle.rules.proofs.Fitness.{fit_head, settings_bounds}
use Rattle.rules.proofs.order.Closest.{OneAtATime}
use Rattle.rules.proofs.machine.Machine.{State, made_in}
use Rattle.rules.proofs.Transfer.{Related, related_fit, next_related, made_related}
use Rattle.rules.proofs.Runs.{none_accounted, one_accounted, takes_within_after, full_after, safe_after}
use Rattle.rules.proofs.BothKinds.{kind_of}
use Rattle.rules.proofs.Course.{At, Carried, Kept, Course, none, calls, moves, course_order}
use Rattle.rules.proofs.words.Made.{Accepted, accepted}
use Rattle.rules.proofs.counts.Held.{count_none}
use Rattle.rules.proofs.figures.Figures.{exact_most}
use Rattle.rules.proofs.order.Relaxed.{relaxed}
use Rattle.solo.proofs.Forms.{ends_later}
use Rattle.solo.proofs.Theorem.{ends_solo, exact_k3}
use Rattle.sizes.proofs.KnownSizes.{course_known}
use Rattle.turnaround.proofs.Moved.{move_does}
use Rattle.turnaround.proofs.Related.{MovedRelated, move_related}

module _ (g : Settings) where
  -- ---- a pool where it lies
  pub record Lies (p : Place) : Type 0 where
    pub limits : settings_fit (in_edition p.edition g) ≡ true
    pub state : State
    pub related : Related (in_edition p.edition g) limits (kind_of (in_edition p.edition g) limits) p.words state

  abbrev pub at_place : {p : Place} → Lies p → At g
  at_place {p} l = record { edition = p.edition; limits = l.limits; state = l.state }

  abbrev pub made_lies : (ws : List ℕ) → Accepted ws g → Lies (here g (make_of ws g).words)
  made_lies ws a = record { limits = a.limits; state = made_in g; related = made_related g a.limits (kind_of g a.limits) ws a }

  -- a call leaves it there
  abbrev pub call_lies : {p : Place} → Lies p → (c : Call) → Lies (place_after p (call c))
  call_lies {p} l c =
      record { limits = l.limits; state = _; related = (next_related (in_edition p.edition g) l.limits (kind_of (in_edition p.edition g) l.limits) l.related c).related }

  -- ---- and a move
  abbrev moved_place : Place → ℕ → ℕ → List ℕ → Place
  moved_place p a b area = record { edition = b; words = (move_of a b p.words area).words }

  abbrev MovedFrom : {p : Place} → Lies p → ℕ → List ℕ → Type 0
  MovedFrom {p} l b vs = MovedRelated (in_edition p.edition g) l.limits b l.related vs

  pub moved_from : {p : Place} (l : Lies p) (a b : ℕ) (area : List ℕ) → number_of (move_of a b p.words area).answer ≡ 0 → MovedFrom l b (move_of a b p.words area).words
  moved_from {p} l a b area done =
      let own : p.edition ≡ a =
      ap (λ (h : Settings). h.edition) (sym l.related.says.settings) ∙ (fit_head a p.words (settings_of p.words) (move_does a b p.words area done).fit_before).1 in
      subst (λ (x : ℕ). MovedFrom l b (move_of x b p.words area).words) own
      (move_related (in_edition p.edition g) l.limits b p.words l.state l.related area
      (subst (λ (x : ℕ). number_of (move_of x b p.words area).answer ≡ 0) (sym own) done))

  abbrev pub moved_lies : {p : Place} (l : Lies p) (a b : ℕ) (area : List ℕ) → number_of (move_of a b p.words area).answer ≡ 0 → Lies (moved_place p a b area)
  moved_lies l a b area done = let m = moved_from l a b area done in record { limits = m.fits; state = _; related = m.related }

  -- as the machine has it
  carried : {p : Place} (l : Lies p) (b : ℕ) {vs : List ℕ} (m : MovedFrom l b vs) → Carried g (at_place l) b m.fits
  carried l b m = record { phase = m.phase; whole = m.whole; snap = λ x₀ q₀ i z. m.snap x₀.state q₀ i z }

  -- ---- over any acts
  pub course_over : (p : Place) (l : Lies p) (xs : List Act) → Course g (at_place l) (run_over p xs)
  unfolding run_over
  course_over p l [] = none
  course_over p l (call c ∷ xs) =
      let n = next_related (in_edition p.edition g) l.limits (kind_of (in_edition p.edition g) l.limits) l.related c in
      calls c (λ u. record { call = c; answer = n.answer u; measures = n.measures u }) (course_over (place_after p (call c)) (call_lies l c) xs)
  course_over p l (move a b area ∷ xs) =
      cases (λ (q : Place). Course g (at_place l) (run_over q xs)) (eqb (number_of (move_of a b p.words area).answer) 0) (moved_place p a b area) p
      (λ t.
      let done = eqb-true _ _ t in
      let m = moved_from l a b area done in
      moves b m.fits (carried l b m) (course_over (moved_place p a b area) (moved_lies l a b area done) xs))
      (λ t. course_over p l xs)

  pub order_over : (ws : List ℕ) (a : Accepted ws g) (xs : List Act) → OneAtATime g (run_over (here g (make_of ws g).words) xs)
  order_over ws a xs = course_order g a.limits (course_over (here g (make_of ws g).words) (made_lies ws a) xs)

  -- ---- no item is lost or invented
  pub accounted_over : (p : Place) (l : Lies p) (xs : List Act) (t : Item → Bool)
      → count_items t (held_items (place_over p xs).words (in_edition (place_over p xs).edition g)) + count_items t (items_in 2 (run_over p xs))
      ≡ count_items t l.related.list.items + count_items t (items_in 1 (run_over p xs))
  unfolding place_over run_over
  accounted_over p l [] t = none_accounted (in_edition p.edition g) l.limits (kind_of (in_edition p.edition g) l.limits) l.related t
  accounted_over p l (call c ∷ xs) t =
      one_accounted (in_edition p.edition g) l.limits (kind_of (in_edition p.edition g) l.limits) l.related c _ _ t
      (accounted_over (place_after p (call c)) (call_lies l c) xs t)
  accounted_over p l (move a b area ∷ xs) t =
      cases (λ (q : Place). count_items t (held_items (place_over q xs).words (in_edition (place_over q xs).edition g)) + count_items t (items_in 2 (run_over q xs))
      ≡ count_items t l.related.list.items + count_items t (items_in 1 (run_over q xs)))
      (eqb (number_of (move_of a b p.words area).answer) 0) (moved_place p a b area) p
      (λ e.
      let done = eqb-true _ _ e in
      let same = ap (λ (q : Contents). count_items t q.items) (moved_from l a b area done).list in
      omega (arith, accounted_over (moved_place p a b area) (moved_lies l a b area done) xs t, same))
      (λ e. accounted_over p l xs t)

  -- ---- where it lies after any acts, with what is so and stays so
  module _ (P : At g → Type 0) (stays : Kept g P) where
    pub record LiesSo (p : Place) : Type 0 where
      pub lies : Lies p
      pub so : P (at_place lies)

    pub lies_so_over : (p : Place) → LiesSo p → (xs : List Act) → LiesSo (place_over p xs)
    unfolding place_over
    lies_so_over p x [] = x
    lies_so_over p x (call c ∷ xs) =
        let l = x.lies in
        lies_so_over (place_after p (call c)) (record { lies = call_lies l c; so = stays.called (at_place l) l.related.list l.related.whole x.so c }) xs
    lies_so_over p x (move a b area ∷ xs) =
        let l = x.lies in
        cases (λ (q : Place). LiesSo (place_over q xs)) (eqb (number_of (move_of a b p.words area).answer) 0) (moved_place p a b area) p
        (λ e.
        let m = moved_from l a b area (eqb-true _ _ e) in
        lies_so_over (moved_place p a b area) (record {
          lies = moved_lies l a b area (eqb-true _ _ e);
          so = stays.carried (at_place l) l.related.list l.related.whole x.so b m.fits (carried l b m);
        }) xs)
        (λ e. lies_so_over p x xs)

  pub lies_over : (p : Place) → Lies p → (xs : List Act) → Lies (place_over p xs)
  lies_over p l xs =
      (lies_so_over (λ x. Unit {0}) (record { called = λ x q h so c. tt; carried = λ x q h so b fits m. tt }) p (record { lies = l; so = tt }) xs).lies

  -- ---- K3
  solo_over : (ws : List ℕ) (a : Accepted ws g) (xs : List Act) (i : ℕ) (o : Operation) (ys : List Act)
      → SoloFrom (place_over (here g (make_of ws g).words) xs) i o (solo_steps g o) ys
  solo_over ws a xs i o ys b solo =
      let p = place_over (here g (make_of ws g).words) xs in
      let l = lies_over (here g (make_of ws g).words) (made_lies ws a) xs in
      ends_solo g (at_place l) l.related i o b (course_over (place_after p (call (begin i o))) (call_lies l (begin i o)) ys) solo

-- ---- from make on
pub exact_over_moves : ExactOverMoves
exact_over_moves ws g xs made = order_over g ws (accepted ws g made) xs

pub demand3_over_moves : Demand3OverMoves
demand3_over_moves ws g xs made =
    relaxed g (exact_rows g) (demand3_rows g) (exact_most g (settings_bounds g (accepted ws g made).limits).depth1) _ (exact_over_moves ws g xs made)

pub nothing_lost_over_moves : NothingLostOverMoves
unfolding made_related
nothing_lost_over_moves ws g xs made p =
    omega (arith, accounted_over g (here g (make_of ws g).words) (made_lies g ws (accepted ws g made)) xs p, count_none p)

pub sizes_known_over_moves : SizesKnownOverMoves
sizes_known_over_moves ws g xs made p own =
    let a = accepted ws g made in
    course_known g p own a.limits (course_over g (here g (make_of ws g).words) (made_lies g ws a) xs)

pub sound_over_moves : SoundOverMoves
unfolding words_after
sound_over_moves ws g xs made =
    let l = lies_over g (here g (make_of ws g).words) (made_lies g ws (accepted ws g made)) xs in
    let h = in_edition (place_over (here g (make_of ws g).words) xs).edition g in
    let k = kind_of h l.limits in
    record {
      fit = related_fit h l.limits k l.related;
      takes = takes_within_after h l.limits k l.related [];
      full = full_after h l.limits k l.related [];
      sums = safe_after h l.limits k l.related [];
    }

solo_exact_over_moves : SoloOverMoves solo_steps
solo_exact_over_moves ws g xs made i o ys = solo_over g ws (accepted ws g made) xs i o ys

pub k3_over_moves : K3OverMoves
k3_over_moves = (
  λ ws g xs made i o ys b solo.
      let few = exact_k3 g o in
      ends_later few (solo_exact_over_moves ws g xs made i o ys (record { accepted = b.accepted; enough = omega (arith, b.enough) }) solo),
  solo_exact_over_moves,
)
