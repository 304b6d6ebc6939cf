-- What the sequential specification gives for each of the four answers, from what a kind shows of its list.
use mathlib.Core.Path.{◌≡◌, refl}
use mathlib.Core.List.{[], ◌∷◌}
use Prim.Native.Nat.{ℕ, suc, ◌+◌, ◌≤◌}
use native.Mathlib.Omega.{arith}
use lib.ListN.{length}
use borrow.Author.Tests.{le-leb}
use Rattle.laws.specs.Choice.{cond}
use Rattle.rules.specs.Held.{Item}
use Rattle.rules.specs.Measures.{Measures}
use Rattle.rules.specs.Sequential.{putting, taking, Contents, Found, give_by, leaving, bound_by, least_by, passed_by, reported_by}
use Rattle.rules.specs.Newer.{exact_rows}
use Rattle.rules.specs.Run.{Final}
use Rattle.rules.proofs.order.Closest.{Gives}
use Rattle.rules.proofs.Types.{Settings, Row}
use Rattle.rules.specs.declared.Answer.TheVariants.{Put, Taken, Empty, Full}
use Rattle.rules.proofs.counts.Find.{RowFound}
use Rattle.std.specs.Prelude.{Ok}

-- the specification's list after a put of v with the next stamp, and after a take
abbrev pub put_on : Contents → ℕ → Contents
put_on q v = record { items = record { value = v; stamp = suc q.count } ∷ q.items; count = suc q.count }

abbrev pub taken_off : Contents → Found → Contents
taken_off q f = record { items = f.others; count = q.count }

module _ (g : Settings) (q : Contents) (m : Measures) where
  pub gives_put : (v j : ℕ) (row : Row) (stamp : ℕ) → stamp ≡ suc q.count → Gives g q (putting v) (Ok (Put v j row (record { 0 = stamp }))) m (put_on q v)
  unfolding give_by cond
  gives_put v j row stamp e = let n : q.count + 1 ≡ suc q.count = omega arith in rw (n, e) refl

  pub gives_taken : (it : Item) (j : ℕ) (row : Row) (distance : ℕ) → (f : RowFound it q.items)
      → distance ≡ reported_by g q it.stamp → passed_by g q it.stamp ≤ bound_by g (exact_rows g) m.size
      → Gives g q taking (Ok (Taken it.value j row (record { 0 = it.stamp }) distance)) m (taken_off q f.out)
  unfolding give_by leaving cond
  gives_taken it j row distance f e l =
      rw f.found (rw f.item_is (rw (le-leb (passed_by g q it.stamp) (bound_by g (exact_rows g) m.size) l, e) refl))

  pub gives_empty : q.items ≡ [] → Gives g q taking (Ok Empty) m q
  unfolding give_by cond
  gives_empty e = rw e refl

  pub gives_full : (v : ℕ) → least_by g m.places ≤ length q.items → Gives g q (putting v) (Ok Full) m q
  unfolding give_by cond
  gives_full v l = rw (le-leb (least_by g m.places) (length q.items) l) refl

-- the four answers are final
pub final_put : (v j : ℕ) (row : Row) (stamp : _) → Final (Ok (Put v j row stamp))
final_put v j row stamp = record { low = omega arith; high = omega arith }

pub final_taken : (v j : ℕ) (row : Row) (stamp : _) (distance : ℕ) → Final (Ok (Taken v j row stamp distance))
final_taken v j row stamp distance = record { low = omega arith; high = omega arith }

pub final_empty : Final (Ok Empty)
final_empty = record { low = omega arith; high = omega arith }

pub final_full : Final (Ok Full)
final_full = record { low = omega arith; high = omega arith }
