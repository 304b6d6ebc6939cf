-- `shared_fitness::windows::live_fit` meets its contract: each window gone through is within limits, and the top so far is the bottom of the next. Sums of
-- 64 bits do not wrap.
use Rattle.rules.specs.declared.Size.{Size}
use Rattle.rules.specs.declared.Settings.{Settings}
use Rattle.rules.specs.Windows.{nth_size, bottom_of}
use Rattle.rules.specs.Limits.{size_fit}
use Rattle.laws.specs.Choice.{all_below_fails, all_below_more, all_below_none}
use Rattle.std.proofs.Common.{◌≡◌, ℕ, ◌+◌, Bool, List, sym, refl, ap, ◌∙◌, add-one, arith, rules}
use Rattle.shared_fitness.proofs.windows.live_fit.Goals as goal

-- whether the size of window k is within limits
abbrev is_fit : List ℕ → Settings → ℕ → Bool
is_fit ws g k = size_fit g (nth_size ws g k)

next_bottom : (ws : List ℕ) (g : Settings) (k : ℕ) → bottom_of ws g (k + 1) ≡ bottom_of ws g k + (nth_size ws g k).depth
unfolding bottom_of
next_bottom ws g k = rw (add-one k) refl

pub loop-k-init : goal.loop-k-init
loop-k-init c = (search rules, all_below_none _, c.from-top.ensures ∙ c.take_bottom.ensures)

pub loop-k-preserved : goal.loop-k-preserved
loop-k-preserved c =
    let l = c.loop-k in
    let a = c.args in
    let size = c.nth_size-size.ensures in (
      omega arith,
      all_below_more l.k (is_fit a.words.now a.g) l.invariant.1 (ap (size_fit a.g) (sym size) ∙ sym c.size_fit.ensures ∙ c.if-not-size_fit.false),
      omega (arith, l.invariant.2, next_bottom a.words.now a.g l.k, ap (λ (s : Size). s.depth) size),
    )

pub returns-then-not-size_fit : goal.returns-then-not-size_fit
returns-then-not-size_fit c =
    let l = c.loop-k in
    let a = c.args in
    let unfit = ap (size_fit a.g) (sym c.nth_size-size.ensures) ∙ sym c.size_fit.ensures ∙ c.if-not-size_fit.true in
    sym (rw (all_below_fails a.live (is_fit a.words.now a.g) l.k c.loop-k-test.true unfit) refl)
