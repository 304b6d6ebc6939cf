-- A stretch of a queue's run that starts with no put under way. While none begins, the put window stands still, and a take window that
-- moves finds an item: takes owe less than in the worst case. Once a put begins, its worker owes w + 4, whatever its share was while it was
-- idle. So two debts are kept of each worker: `worst`, where a take that starts low has 2w left, and `calm`, where it has w + 1.
use mathlib.Core.Path.{◌≡◌, sym, ap, ◌∙◌}
use mathlib.Core.Logic.{◌⊎◌, inl, inr}
use mathlib.Core.List.{List, ◌∷◌}
use Prim.Native.Nat.{ℕ, ◌+◌, ◌-◌, ◌*◌, ◌≤◌, ◌<◌}
use native.Mathlib.Nat.{le_refl}
use native.Mathlib.Decide.{ℕ_discrete}
use native.Mathlib.Omega.{arith}
use Rattle.rules.specs.Make.{in_edition}
use Rattle.rules.specs.Sequential.{Contents}
use Rattle.rules.specs.Run.{Call, step, Event, Final}
use Rattle.stretch.specs.Stretch.{counted_call}
use Rattle.stretch.proofs.Types.{Settings, Size, Putting, Taking, Idle}
use Rattle.rules.proofs.counts.Sums.{upd, upd_all, sum_n, sum_swap}
use Rattle.rules.proofs.machine.Machine.{State, phase_in, with_size, next_in}
use Rattle.rules.proofs.machine.Calls.{begun}
use Rattle.rules.proofs.machine.Good.{Good}
use Rattle.rules.proofs.machine.Turns.{Common}
use Rattle.rules.proofs.queue.Inv.{Inv}
use Rattle.rules.proofs.Course.{At, settings_at, HoldsAt, next_at, moved_at, Course, none as no_more, calls, moves, after_call}
use Rattle.rules.proofs.machine.Moved.{moved_in}
use Rattle.rules.proofs.progress.QueueLeft.{Behind}
use Rattle.rules.proofs.progress.QueueResult.{put_in, Filled, Moved}
use Rattle.solo.proofs.Law.{twice}
use Rattle.stretch.proofs.Owed.{OwesIn, Debts, begun_others, begun_put_owes}
use Rattle.stretch.proofs.Acts.{Acts, acts, put_begun, put_begun_other}
use Rattle.stretch.proofs.Debts.{Pays, Account, account}
use Rattle.stretch.proofs.Bounded.{Bounded, finishes_here, bounded_more, bounded_none, bounded_by_debts}
use Rattle.stretch.proofs.Stocked.{Keeps, put_or_keeps, ready_filled}
use Rattle.stretch.proofs.Over.{SamePhases, put_over, debts_over}
use Rattle.stretch.proofs.Past.{once, good_at, inv_at}

-- no put is under way, and a take window below the put window finds an item when it moves
pub record Calm (g : Settings) (s : State) : Type 0 where
  pub no_put : (i : ℕ) → i < g.workers → put_in g s i ≡ 0
  pub stock : Behind s → Filled s

-- n steps are enough: for the takes if no put begins, and if an idle worker begins one
pub record Enough (g : Settings) (s : State) (worst calm : ℕ → ℕ) (n : ℕ) : Type 0 where
  pub most : Debts g (2 * g.width) s worst
  pub least : Debts g (g.width + 1) s calm
  pub takes : sum_n calm g.workers ≤ n
  pub spare : (x : ℕ) → x < g.workers → phase_in g s x ≡ Idle → sum_n worst g.workers + (g.width + 4) ≤ n + worst x

-- ---- what stays calm
module _ (g : Settings) (s : State) (calm : Calm g s) where
  calm_begins : (i v : ℕ) → Calm g (begun g s i Taking v)
  calm_begins i v =
      record {
        no_put = λ j l. elim (ℕ_discrete j i) [
          | yes e ↦ rw e (put_begun g s i Taking v)
          | no n ↦ put_begun_other g s i Taking v j n ∙ calm.no_put j l
        ];
        stock = calm.stock;
      }

  calm_sizes : (size : Size) → Calm g (with_size s size)
  calm_sizes size = record { no_put = calm.no_put; stock = calm.stock }

  calm_goes : (t : State) (i : ℕ) → i < g.workers → Moved g s i t → ((j : ℕ) → put_in g t j ≡ put_in g s j) → Calm g t
  calm_goes t i li m keeps = by (put_or_keeps g s t i m)
    where
      none : (j : ℕ) → j < g.workers → put_in g t j ≡ 0
      none j l = keeps j ∙ calm.no_put j l

      by : (put_in g s i ≡ 1) ⊎ Keeps s t → Calm g t
      by (inl one) = absurd (omega (arith, calm.no_put i li))
      by (inr kept) = record { no_put = none; stock = λ l. kept.filled (calm.stock (kept.below l)) }

-- ---- a put begins
put_begins : (g : Settings) (s : State) (worst : ℕ → ℕ) (i v : ℕ) → Debts g (2 * g.width) s worst
    → Debts g (2 * g.width) (begun g s i Putting v) (upd worst i (g.width + 4))
put_begins g s worst i v owed j l =
    upd_all (λ m (x : ℕ). OwesIn g (2 * g.width) (begun g s i Putting v) x m) worst i (g.width + 4) j
    (λ e. rw e (begun_put_owes g (2 * g.width) s i v))
    (λ n. begun_others g (2 * g.width) s (worst j) i Putting v j n (owed j l))

module _ (g : Settings) (good : Good g) (kind : g.kind ≡ 0) where
  -- ---- one call, from how the rest goes on where a put has begun, and where it is calm
  module _ (s : State) (q : Contents) (common : Common g s) (inv : Inv g s q) (calm : Calm g s) (b c : ℕ → ℕ) (n : ℕ) (x : Enough g s b c n)
      (call : Call) (e : Event) (es : List Event) (u : e.call ≡ call) (v : e.answer ≡ (next_in g s call).answer)
      (put_rest : (after : ℕ → ℕ) → Debts g (2 * g.width) (next_in g s call).state after → Bounded (sum_n after g.workers) es)
      (calm-rest : (b' c' : ℕ → ℕ) (m : ℕ) → Calm g (next_in g s call).state → Enough g (next_in g s call).state b' c' m → Bounded m es) where
    abbrev t : State
    t = (next_in g s call).state

    abbrev counted : ℕ
    counted = counted_call call (next_in g s call).answer

    paid_both : Calm g t → Pays g (2 * g.width) s b call (next_in g s call) → Pays g (g.width + 1) s c call (next_in g s call) → Bounded n (e ∷ es)
    paid_both still-calm y z =
        let some : counted ≤ n = omega (arith, z.paid, x.takes) in
        bounded_more n (n - counted) e es (rw (u, v) (omega arith))
        (calm-rest y.after z.after (n - counted) still-calm (record {
          most = y.owed;
          least = z.owed;
          takes = omega (arith, z.paid, x.takes);
          spare = λ k l idle.
              let was = y.idle k idle in
              let kept : y.after k ≡ b k = was.1 in
              omega (arith, x.spare k l was.0, y.paid);
        }))

    answered : (i : ℕ) → call ≡ step i → Final (next_in g s call).answer → Bounded n (e ∷ es)
    answered i w f = let f' : Final e.answer = rw v f in inl (finishes_here i e es (u ∙ w) f')

    stays : Calm g t → Bounded n (e ∷ es)
    stays still-calm =
        by (account g good kind (2 * g.width) (twice g good kind) s q common inv (λ l. inl (le_refl _)) b x.most call)
        (account g good kind (g.width + 1) (once g good kind) s q common inv (λ l. ready_filled g s q inv (calm.stock l) l) c x.least call)
      where
        by : Account g (2 * g.width) s b call (next_in g s call) → Account g (g.width + 1) s c call (next_in g s call) → Bounded n (e ∷ es)
        by (Account.answers i w l f idle) z = answered i w f
        by (Account.pays y) (Account.answers i w l f idle) = answered i w f
        by (Account.pays y) (Account.pays z) = paid_both still-calm y z

    by_acts : Acts g s call (next_in g s call) → Bounded n (e ∷ es)
    by_acts (Acts.same w) = stays (rw w calm)
    by_acts (Acts.begins i Putting k l idle none w) =
        let owed : Debts g (2 * g.width) t (upd b i (g.width + 4)) = rw w (put_begins g s b i k x.most) in
        let fits : sum_n (upd b i (g.width + 4)) g.workers ≤ n =
        omega (arith, sum_swap b g.workers i (g.width + 4) l, x.spare i l idle) in
        bounded_more n (sum_n (upd b i (g.width + 4)) g.workers) e es (rw (u, v, none) (omega arith)) (put_rest (upd b i (g.width + 4)) owed)
    by_acts (Acts.begins i Taking k l idle none w) = stays (rw w (calm_begins g s calm i k))
    by_acts (Acts.sizes size none w) = stays (rw w (calm_sizes g s calm size))
    by_acts (Acts.goes i l m keeps) = stays (calm_goes g s calm t i l m keeps)
    by_acts (Acts.answers i w l f idle keeps m) = answered i w f

    one_call : Bounded n (e ∷ es)
    one_call = by_acts (acts g good kind s q common inv call)

-- ---- over a move
module _ (g : Settings) (b : ℕ) (s : State) (same : SamePhases g b s) where
  abbrev h : Settings
  h = in_edition b g

  abbrev moved : State
  moved = moved_in g h s

  calm_over : Calm g s → Calm h moved
  calm_over x = record { no_put = λ i l. put_over g b s same i ∙ x.no_put i l; stock = x.stock }

  enough_over : (worst calm : ℕ → ℕ) (n : ℕ) → Enough g s worst calm n → Enough h moved worst calm n
  enough_over worst calm n x =
      record {
        most = debts_over g b s same (2 * g.width) worst x.most;
        least = debts_over g b s same (g.width + 1) calm x.least;
        takes = x.takes;
        spare = λ i l idle. x.spare i l (sym (same i) ∙ idle);
      }

-- ---- along a course
module _ (g : Settings) (kind : g.kind ≡ 0) where
  pub calm_stretch : (x : At g) (q : Contents) → HoldsAt g x q → Calm (settings_at g x) x.state → (b c : ℕ → ℕ) (n : ℕ) → Enough (settings_at g x) x.state b c n
      → {es : List Event} → Course g x es → Bounded n es
  calm_stretch x q h calm b c n y no_more = bounded_none n
  calm_stretch x q h calm b c n y (calls {e = e} {es = es} call u r) =
      let k = settings_at g x in
      let o = after_call g x q h call in
      one_call k (good_at g kind x) kind x.state q h.common (inv_at g kind x q h) calm b c n y call e es (ap (λ (z : Event). z.call) u) (ap (λ (z : Event). z.answer) u)
      (λ after owed. bounded_by_debts g kind (next_at g x call).state o.list o.whole after owed r)
      (λ b' c' m still-calm z. calm_stretch (next_at g x call).state o.list o.whole still-calm b' c' m z r)
  calm_stretch x q h calm b c n y (moves e fits m r) =
      calm_stretch (moved_at g x e fits) q (m.whole q h) (calm_over (settings_at g x) e x.state m.phase calm) b c n
      (enough_over (settings_at g x) e x.state m.phase b c n y) r
