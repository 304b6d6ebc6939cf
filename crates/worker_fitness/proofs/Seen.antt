-- A worker's index and scan lie below one width: that of the window that it has seen, where it has seen one, or the pool's. So one bound is asked for in
-- place of two, and it is at least 1 where the index lies below it.
use Rattle.std.proofs.Common.{ℕ, ◌≤◌, ◌<◌, refl, ap, Bool, true, false, le_refl, ltb, leb, eqb, le-leb, lt-ltb, leb-true, ltb-true, ◌≡◌, sym, arith}
use Rattle.laws.specs.Choice.{cond, both, both_false, both_one}
use Rattle.rules.specs.Fit.{phase_fit, past_window, seen_fit, worker_fit}
use Rattle.rules.specs.Limits.{windowed}
use Rattle.rules.specs.Windows.{has_windows}
use Rattle.rules.specs.declared.Settings.{Settings}
use Rattle.rules.specs.declared.Slot.{Slot}

-- a width within the pool's, and two numbers below it
abbrev inside : ℕ → ℕ → ℕ → ℕ → Bool
inside wide width index scan = both (leb width wide) (both (ltb index width) (ltb scan width))

-- two numbers below a width are below every greater one, and the width is at least 1
narrower : (wide width index scan : ℕ)
    → inside wide width index scan ≡ both (ltb index wide) (both (ltb scan wide) (both (leb 1 width) (both (leb width wide) (both (ltb index width) (both (ltb scan width) true)))))
narrower wide width index scan = go (leb width wide) refl (ltb index width) refl (ltb scan width) refl
  where
    Same : Bool → Bool → Bool → Type 0
    Same a b c = both a (both b c) ≡ both (ltb index wide) (both (ltb scan wide) (both (leb 1 width) (both a (both b (both c true)))))

    none : (x y z : Bool) → both x (both y (both z false)) ≡ false
    none x y z = rw (both_false z, both_false y, both_false x) refl

    go : (a : Bool) → leb width wide ≡ a → (b : Bool) → ltb index width ≡ b → (c : Bool) → ltb scan width ≡ c → Same a b c
    go false p b q c r = sym (none (ltb index wide) (ltb scan wide) (leb 1 width))
    go true p false q c r = sym (none (ltb index wide) (ltb scan wide) (leb 1 width))
    go true p true q false r = sym (none (ltb index wide) (ltb scan wide) (leb 1 width))
    go true p true q true r =
        let w : width ≤ wide = leb-true _ _ p in
        let i : index < width = ltb-true _ _ q in
        let s : scan < width = ltb-true _ _ r in
        sym (rw (lt-ltb index wide (omega arith), lt-ltb scan wide (omega arith), le-leb 1 width (omega arith)) refl)

-- two numbers below the pool's width, by one bound
both_assoc : (a b c : Bool) → both (both a b) c ≡ both a (both b c)
both_assoc true b c = refl
both_assoc false b c = refl

by_one : (wide index scan : ℕ) (rest : Bool)
    → both (leb wide wide) (both (both (ltb index wide) (ltb scan wide)) rest) ≡ both (ltb index wide) (both (ltb scan wide) (both rest true))
by_one wide index scan rest = rw (le-leb wide wide (le_refl wide), both_one rest) (both_assoc (ltb index wide) (ltb scan wide) rest)

-- what is asked of a stack's words of a window
abbrev pub unseen_fit : Settings → Slot → Bool
unseen_fit g s = cond (windowed g) (cond (eqb g.kind 0) true (both (eqb s.bottom 0) (eqb s.width 0))) true

-- the width that index and scan lie below
abbrev pub bound_of : Settings → Slot → ℕ
bound_of g s = cond (both (has_windows g) (past_window s.number)) s.width g.width

pub worker_by_width : (g : Settings) (s : Slot)
    → both (phase_fit g.kind s.number) (both (leb (bound_of g s) g.width) (both (both (ltb s.index (bound_of g s)) (ltb s.scan (bound_of g s))) (unseen_fit g s)))
    ≡ worker_fit g s
unfolding worker_fit seen_fit cond
worker_by_width g s = go (windowed g) refl (eqb g.kind 0) refl (past_window s.number) refl
  where
    Says : Bool → Bool → Bool → Type 0
    Says w q p =
        let bound : ℕ = cond (both (both w q) p) s.width g.width in
        both (phase_fit g.kind s.number) (both (leb bound g.width) (both (both (ltb s.index bound) (ltb s.scan bound)) (cond w (cond q true (both (eqb s.bottom 0) (eqb s.width 0))) true)))
        ≡ both (phase_fit g.kind s.number) (both (ltb s.index g.width) (both (ltb s.scan g.width)
        (both (cond w (cond q (cond p (both (leb 1 s.width) (both (leb s.width g.width) (both (ltb s.index s.width) (both (ltb s.scan s.width) true)))) true) (both (eqb s.bottom 0) (eqb s.width 0))) true) true)))

    go : (w : Bool) → windowed g ≡ w → (q : Bool) → eqb g.kind 0 ≡ q → (p : Bool) → past_window s.number ≡ p → Says w q p
    go false a q b p c = ap (both (phase_fit g.kind s.number)) (by_one g.width s.index s.scan true)
    go true a false b p c =
        ap (both (phase_fit g.kind s.number)) (by_one g.width s.index s.scan (both (eqb s.bottom 0) (eqb s.width 0)))
    go true a true b false c = ap (both (phase_fit g.kind s.number)) (by_one g.width s.index s.scan true)
    go true a true b true c =
        ap (both (phase_fit g.kind s.number))
        (rw (both_one (both (ltb s.index s.width) (ltb s.scan s.width)), both_one (both (leb 1 s.width) (both (leb s.width g.width) (both (ltb s.index s.width) (both (ltb s.scan s.width) true)))))
        (narrower g.width s.width s.index s.scan))
