-- Which numbers are phases of a queue, and of a stack, and which are behind the look at the window.
use Rattle.std.proofs.Common.{◌≢◌, ℕ, ◌<◌, ◌≤◌, Bool, true, false, not, refl, ne_eqb, le-ltb, lt-ltb, le-leb, ◌/◌, ◌^◌, ◌==◌, bit_and, ◌≡◌, arith, sym}
use Rattle.std.proofs.lemmas.Bool.{lt-leb}
use Rattle.laws.specs.Choice.{cond, all_below, all_below_at}
use Rattle.rules.specs.Fit.{phase_fit, past_window}

-- ---- a queue's
agree : Bool → Bool → Bool
agree true b = b
agree false b = not b

same_of : (a b : Bool) → agree a b ≡ true → a ≡ b
unfolding agree
same_of true b e = sym e
same_of false false e = refl
same_of false true e = cc

-- the word of bits has a bit for each, and none for the others up to the last
pub bit_tells : (x : ℕ) → x ≤ 14 → (bit_and (30263 / 2 ^ x) 1 == 1) ≡ phase_fit 0 x
unfolding agree phase_fit cond all_below
bit_tells x l = same_of _ _ (all_below_at 15 (λ k. agree (bit_and (30263 / 2 ^ k) 1 == 1) (phase_fit 0 k)) x (omega arith) refl)

-- ---- of either kind
pub none_above : (kind x : ℕ) → 15 ≤ x → phase_fit kind x ≡ false
unfolding phase_fit cond
none_above kind x a = rw (lt-ltb 14 x a) refl

pub ruleset queue_phases = (bit_tells, none_above)

-- ---- a stack's
pub puts : (kind x : ℕ) → kind ≢ 0 → x < 7 → phase_fit kind x ≡ true
unfolding phase_fit cond
puts kind x k a = rw (le-ltb 14 x (omega arith), le-ltb 6 x (omega arith), ne_eqb kind 0 k) refl

pub takes : (kind x : ℕ) → kind ≢ 0 → 9 ≤ x → x < 15 → phase_fit kind x ≡ true
unfolding phase_fit cond
takes kind x k a b = rw (le-ltb 14 x (omega arith), lt-ltb 6 x (omega arith), lt-leb x 8 (omega arith), ne_eqb kind 0 k) refl

pub none_between : (kind x : ℕ) → 7 ≤ x → x < 9 → phase_fit kind x ≡ false
unfolding phase_fit cond
none_between kind x a b = rw (le-ltb 14 x (omega arith), lt-ltb 6 x (omega arith), le-leb x 8 (omega arith)) refl

pub ruleset stack_phases = (puts, takes, none_between, none_above)

-- ---- behind the look at the window
pub before_window : (x : ℕ) → x < 2 → past_window x ≡ false
unfolding cond
before_window x a = rw (le-leb x 1 (omega arith)) refl

pub at_take_window : (x : ℕ) → 9 ≤ x → x < 10 → past_window x ≡ false
unfolding cond
at_take_window x a b = let n : x ≡ 9 = omega arith in rw n refl

pub behind_window : (x : ℕ) → 2 ≤ x → x ≢ 9 → past_window x ≡ true
unfolding cond
behind_window x a b = rw (lt-leb x 1 (omega arith), ne_eqb x 9 b) refl

pub ruleset window_phases = (before_window, at_take_window, behind_window)
