-- The claim by positions, from how the events go on; and from it the plain form, with nothing between the worker's steps.
use mathlib.Core.Path.{◌≡◌, refl, ap, subst}
use mathlib.Core.Logic.{◌≢◌}
use mathlib.Core.List.{List, ◌∷◌}
use Prim.Native.Nat.{ℕ, zero, suc, ◌+◌, ◌-◌, ◌≤◌, ◌<◌}
use native.Mathlib.Omega.{arith}
use native.Mathlib.Decide.{dec_lt}
use lib.ListN.{length, replicate}
use lib.Dec.{eqb}
use borrow.Author.Tests.{eqb-true, eqb-false}
use Rattle.laws.specs.Choice.{cases}
use Rattle.rules.specs.Answers.{number_of}
use Rattle.rules.specs.Run.{Call, begin_put, begin_take, step, set_size, call_of, Event, run, at, Final}
use Rattle.solo.specs.Solo.{Solo, step_of_worker, steps_before, InTime, EndsWithin, Ends}
use Rattle.solo.proofs.Solo.{Ending, no_more, between, moving, final}

-- ---- by positions
other_call : (i : ℕ) (c : Call) → c ≢ step i → step_of_worker i c ≡ 0
other_call i (begin_put j v) n = refl
other_call i (begin_take j) n = refl
other_call i (set_size width depth) n = refl
other_call i (step j) n = cases (λ (k : ℕ). k ≡ 0) (eqb j i) 1 0 (λ e. absurd (n (ap step (eqb-true _ _ e)))) (λ e. refl)

own_call : (i : ℕ) (c : Call) → c ≡ step i → step_of_worker i c ≡ 1
own_call i c e = rw e (cases (λ (k : ℕ). k ≡ 1) (eqb i i) 1 0 (λ u. refl) (λ u. absurd (eqb-false i i u refl)))

one_later : (i n : ℕ) (e : Event) (es : List Event) (p m : ℕ) → step_of_worker i e.call + n ≡ m → InTime i n es p → InTime i m (e ∷ es) (suc p)
unfolding steps_before
one_later i n e es p m u x = record { accepted = x.accepted; within = omega (arith, x.within); last = λ z. x.last (omega arith) }

pub by_position : {i n : ℕ} {es : List Event} → Ending i n es → EndsWithin i (suc n) es
unfolding steps_before
by_position no_more p l u still = absurd (omega arith)
by_position (between w x) zero l u still = absurd (w u)
by_position {i} {n} (between {e = e} {es = es} w x) (suc p) l u still =
    one_later i (suc n) e es p (suc n) (omega (arith, other_call i e.call w)) (by_position x p (omega arith) u (λ q m. still (suc q) (omega arith)))
by_position (moving w a x) zero l u still = record { accepted = omega arith; within = omega arith; last = λ z. absurd (omega arith) }
by_position {i} (moving {n = n} {e = e} {es = es} w a x) (suc p) l u still =
    one_later i (suc n) e es p (suc (suc n)) (omega (arith, own_call i e.call w))
    (by_position x p (omega arith) u (λ q m. still (suc q) (omega arith)))
by_position (final w f) zero l u still = record { accepted = f.high; within = omega arith; last = λ z. f }
by_position (final w f) (suc p) l u still = absurd (still 0 (omega arith) w f)

-- more steps than enough
pub ends_later : {i n m : ℕ} {es : List Event} → n ≤ m → EndsWithin i n es → EndsWithin i m es
ends_later l ends p k u still =
    let x = ends p k u still in
    record { accepted = x.accepted; within = omega (arith, x.within); last = λ z. x.last (omega (arith, x.within)) }

-- ---- plain: every call is a step of worker i, so the first of its final answers is the first that is not 0
module _ (i n : ℕ) (es : List Event) (length-is : length es ≡ n) (own : (p : ℕ) → p < n → (at es p).call ≡ step i)
    (before : (p : ℕ) → p < n → steps_before i es p ≡ p) (ends : EndsWithin i n es) where
  data Found (m : ℕ) : Type 0 where
    none : ((p : ℕ) → p < m → number_of (at es p).answer ≡ 0) → Found m
    ended : Ends n es → Found m

  in_time : (m : ℕ) → m < n → ((p : ℕ) → p < m → number_of (at es p).answer ≡ 0) → InTime i n es m
  in_time m l quiet = ends m (omega arith) (own m l) (λ p k u f. omega (arith, f.low, quiet p k))

  found_more : (m : ℕ) → m < n → Found m → Found (suc m)
  found_more m l (ended e) = ended e
  found_more m l (none quiet) = elim (dec_lt 0 (number_of (at es m).answer)) [
    | yes some ↦
        let last : Final (at es m).answer = record { low = some; high = (in_time m l quiet).accepted } in
        let here : m ≡ suc m - 1 = omega arith in
        ended (record {
          k = suc m;
          low = omega arith;
          high = l;
          moving = λ p u. quiet p (omega arith);
          final = subst (λ (p : ℕ). Final (at es p).answer) here last;
        })
    | no u ↦
        none (λ p k. elim (dec_lt p m) [
          | yes a ↦ quiet p a
          | no a ↦ let e : p ≡ m = omega arith in rw e (omega arith)
        ])
  ]

  found : (m : ℕ) → m ≤ n → Found m
  found zero l = none (λ p k. absurd (omega arith))
  found (suc m) l = found_more m l (found m (omega arith))

  pub plain : 1 ≤ n → Ends n es
  plain l = by (found n (omega arith))
    where
      by : Found n → Ends n es
      by (ended e) = e
      by (none quiet) =
          let here : n - 1 < n = omega arith in
          let x : InTime i n es (n - 1) = in_time (n - 1) here (λ p k. quiet p (omega arith)) in
          let last : Final (at es (n - 1)).answer = x.last (omega (arith, before (n - 1) here)) in
          absurd (omega (arith, last.low, quiet (n - 1) here))

-- the run of worker i's steps alone
module _ (ed i : ℕ) where
  pub steps_length : (ws : List ℕ) (n : ℕ) → length (run ed ws (replicate n (step i))) ≡ n
  unfolding run
  steps_length ws zero = refl
  steps_length ws (suc n) = ap suc (steps_length (call_of ed ws (step i)).words n)

  pub steps_own : (ws : List ℕ) (n p : ℕ) → p < n → (at (run ed ws (replicate n (step i))) p).call ≡ step i
  unfolding run
  steps_own ws zero p l = absurd (omega arith)
  steps_own ws (suc n) zero l = refl
  steps_own ws (suc n) (suc p) l = steps_own (call_of ed ws (step i)).words n p (omega arith)

  pub steps_before_law : (ws : List ℕ) (n p : ℕ) → p < n → steps_before i (run ed ws (replicate n (step i))) p ≡ p
  unfolding run steps_before
  steps_before_law ws zero p l = absurd (omega arith)
  steps_before_law ws (suc n) zero l = refl
  steps_before_law ws (suc n) (suc p) l = omega (arith, own_call i (step i) refl, steps_before_law (call_of ed ws (step i)).words n p (omega arith))

  pub steps_solo : (ws : List ℕ) (n : ℕ) → Solo i (run ed ws (replicate n (step i)))
  unfolding run
  steps_solo ws zero j p x = absurd (omega (arith, x.accepted))
  steps_solo ws (suc n) j zero x = let u = x.called in cc
  steps_solo ws (suc n) j (suc p) x = steps_solo (call_of ed ws (step i)).words n j p (record { called = x.called; accepted = x.accepted })
