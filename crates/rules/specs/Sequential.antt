-- "The one-at-a-time list": the sequential specification. It is fed the finished operations in order, and nothing of the pool's words.
use Rattle.std.specs.Prelude.{ℕ, ◌+◌, ◌-◌, ◌*◌, Bool, List, [], ◌∷◌, length, leb, eqb}
use Rattle.std.proofs.Math.Option.{Option, none, some}
use Rattle.laws.specs.Choice.{cond}
use Rattle.rules.specs.Windows.{size_of}
use Rattle.rules.specs.Held.{Item, count_items, passed_over, reported}
use Rattle.rules.specs.Measures.{Measures}
use Rattle.rules.specs.declared.Settings.{Settings}
use Rattle.rules.specs.declared.Size.{Size}

-- what an operation is begun as: a put of a value, or a take
pub data Operation : Type 0 where
  putting : ℕ → Operation
  taking : Operation

-- items, each a value and a stamp, and the puts counted
pub record Contents : Type 0 where
  pub items : List Item
  pub count : ℕ

-- at first it has no items and the count is 0
abbrev pub no_items : Contents
no_items = record { items = []; count = 0 }

-- it is fed put or take, the value begun, the answer's number and, for a 2, the answer's stamp; and "two things more: with a 2 the width and depth of
-- the window seen at its commit, and with a 4 how many those places are"
pub record Fed : Type 0 where
  pub operation : Operation
  pub number : ℕ
  pub stamp : ℕ
  pub measures : Measures

-- what it gives, and what it holds afterwards
pub record Given : Type 0 where
  pub next : Contents
  pub value : ℕ
  pub stamp : ℕ
  pub distance : ℕ

-- ---- demand 3's numbers
-- the items that a take may pass over: (width - 1) × depth older ones in a queue, by the sizes of its own window; so many newer ones of each other
-- sub in a stack
abbrev pub bound_by : Settings → ℕ → Size → ℕ
bound_by g each size = cond (eqb g.kind 0) ((size.width - 1) * size.depth) ((g.width - 1) * each)

-- the newer items of each other sub that demand 3 allows; specs/Newer has closer figures
abbrev pub demand3_rows : Settings → ℕ
demand3_rows g = 2 * g.depth + 2 * g.shift

-- the least items held where a put is answered "full": in a queue as many as there are places after the take window
abbrev pub least_by : Settings → ℕ → ℕ
least_by g places = cond (eqb g.kind 0) places (g.width * (g.rows - g.shift + 1))

-- the same of windows of the pool's size: (w - 1) d in a queue, and w (R - d)
unfoldable pub most_passed : Settings → ℕ
most_passed g = bound_by g (demand3_rows g) (size_of g)

unfoldable pub least_full : Settings → ℕ
least_full g = least_by g (g.width * (g.rows - g.depth))

-- ---- what it allows and gives
-- given only where the test holds
abbrev pub allowed : Bool → Given → Option Given
allowed b x = cond b (some x) none

-- both give zeros and change nothing
abbrev pub unchanged : Contents → Given
unchanged q = record { next = q; value = 0; stamp = 0; distance = 0 }

-- 1: the count grows by 1; the value begun joins with the count as its stamp, distance 0
abbrev pub joined : Contents → ℕ → Given
joined q v =
    record {
      next = record { items = record { value = v; stamp = q.count + 1 } ∷ q.items; count = q.count + 1 };
      value = v;
      stamp = q.count + 1;
      distance = 0;
    }

-- the item with a stamp, and the others
pub record Found : Type 0 where
  pub item : Item
  pub others : List Item

abbrev pub keeping : Item → Option Found → Option Found
keeping x none = none
keeping x (some f) = some (record { item = f.item; others = x ∷ f.others })

unfoldable pub find : ℕ → List Item → Option Found
find stamp [] = none
find stamp (x ∷ xs) = cond (eqb x.stamp stamp) (some (record { item = x; others = xs })) (keeping x (find stamp xs))

-- the items with a smaller stamp (queue) or a greater one (stack): "the limit on items passed over still counts them all"
abbrev pub passed_by : Settings → Contents → ℕ → ℕ
passed_by g q stamp = count_items (passed_over g.kind stamp) q.items

-- those of them with a value other than 0: "the reported number skips spacers"
abbrev pub reported_by : Settings → Contents → ℕ → ℕ
reported_by g q stamp = count_items (reported g.kind stamp) q.items

-- 2: its value and stamp, and the number reported just before; it leaves
abbrev pub without : Settings → Contents → Found → Given
without g q f =
    record {
      next = record { items = f.others; count = q.count };
      value = f.item.value;
      stamp = f.item.stamp;
      distance = reported_by g q f.item.stamp;
    }

-- an item with the fed stamp must be there, with no more passed over than a bound allows
unfoldable pub leaving : ℕ → Settings → Contents → Option Found → Option Given
leaving most g q none = none
leaving most g q (some f) = allowed (leb (passed_by g q f.item.stamp) most) (without g q f)

-- a put may answer 1, or 4 where at least so many items are there;
-- a take may answer 2, or 3 where no item is there
unfoldable pub give_by : ℕ → ℕ → Settings → Contents → ℕ → ℕ → Operation → Option Given
give_by most least g q number stamp (putting v) =
    cond (eqb number 1) (some (joined q v))
    (cond (eqb number 4) (allowed (leb least (length q.items)) (unchanged q)) none)
give_by most least g q number stamp taking =
    cond (eqb number 2) (leaving most g q (find stamp q.items))
    (cond (eqb number 3) (allowed (eqb (length q.items) 0) (unchanged q)) none)

-- by what it is fed, with a bound on the newer items of each other sub of a stack; demand 3's is `demand3_rows`
abbrev pub give : ℕ → Settings → Contents → Fed → Option Given
give each g q f =
    give_by (bound_by g each f.measures.size) (least_by g f.measures.places) g q f.number f.stamp f.operation
