-- A queue whose windows have sizes of their own has all their pairs among the needed words, and as many live as there are pairs for.
use Rattle.std.proofs.Common.{ℕ, ◌-◌, ◌≤◌, ◌≡◌, refl, Bool, true, false, List, arith, length}
use Rattle.laws.specs.Choice.{cond, cond_under, both_true}
use Rattle.rules.specs.Layout.{pair_at}
use Rattle.rules.specs.Limits.{most_live}
use Rattle.rules.specs.Windows.{size_of, own_sizes, live_of, next_size, nth_size, sizes_in, sizes_of, has_windows}
use Rattle.rules.specs.Fit.{FitPool}
use Rattle.rules.specs.declared.Settings.{Settings}
use Rattle.rules.specs.declared.Sizes.{Sizes}
use Rattle.rules.proofs.Workers.{windowed_is, windows_some}

pub pairs_there : (ws : List ℕ) (g : Settings) → FitPool g ws → has_windows g ≡ true → pair_at g most_live ≤ length ws
pairs_there ws g f e = omega (arith, f.enough, windows_some g.edition (windowed_is g (both_true _ _ e).0))

-- the take window's size, and that of the one after it
pub take_is : (ws : List ℕ) (g : Settings) → (sizes_of ws g).take ≡ cond (has_windows g) (nth_size ws g 0) (size_of g)
unfolding sizes_of
take_is ws g = cond_under (λ (z : Sizes). z.take) (has_windows g) (sizes_in ws g) (own_sizes g)

pub after_is : (ws : List ℕ) (g : Settings) → (sizes_of ws g).after ≡ cond (has_windows g) (nth_size ws g 1) (size_of g)
unfolding sizes_of
after_is ws g = cond_under (λ (z : Sizes). z.after) (has_windows g) (sizes_in ws g) (own_sizes g)

-- what is read of a queue's windows where these have sizes of their own, else the pool's
pub own_or_is : {A : Type 0} (g : Settings) {r own pool : A} → (has_windows g ≡ true → r ≡ own) → (has_windows g ≡ false → r ≡ pool) → r ≡ cond (has_windows g) own pool
unfolding cond
own_or_is g {r} {own} {pool} h p = go (has_windows g) refl
  where
    go : (b : Bool) → has_windows g ≡ b → r ≡ cond b own pool
    go true e = h e
    go false e = p e

-- the put window's, the next put window's, and how many are live
pub put_is : (ws : List ℕ) (g : Settings) → (sizes_of ws g).put ≡ cond (has_windows g) (nth_size ws g (live_of ws g - 1)) (size_of g)
unfolding sizes_of
put_is ws g = cond_under (λ (z : Sizes). z.put) (has_windows g) (sizes_in ws g) (own_sizes g)

pub next_is : (ws : List ℕ) (g : Settings) → (sizes_of ws g).next ≡ cond (has_windows g) (next_size ws g) (size_of g)
unfolding sizes_of
next_is ws g = cond_under (λ (z : Sizes). z.next) (has_windows g) (sizes_in ws g) (own_sizes g)

pub live_is : (ws : List ℕ) (g : Settings) → (sizes_of ws g).live ≡ cond (has_windows g) (live_of ws g) 0
unfolding sizes_of
live_is ws g = cond_under (λ (z : Sizes). z.live) (has_windows g) (sizes_in ws g) (own_sizes g)
