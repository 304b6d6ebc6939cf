-- `shared_fitness::subs::queue_fit` meets its contract: where the last put row is above the level, the wrapped difference is how far, less 1; else it is
-- above every number of 32 bits.
use Rattle.rules.specs.declared.Settings.{Settings}
use Rattle.rules.specs.Windows.{level_of}
use Rattle.rules.specs.Fit.{above_by, queue_sub_fit}
use Rattle.std.proofs.Common.{◌≡◌, ℕ, ◌+◌, ◌-◌, ◌%◌, ◌^◌, ◌<◌, Bool, true, false, ◌||◌, eqb, ltb, leb, refl, ap, ◌∙◌, arith, rules, ltb-false, ltb-true, le-ltb, lt-ltb, leb-false, leb-true}
use Rattle.rules.specs.Fit.{above_by}
use Rattle.laws.specs.Choice.{cond, both}
use Rattle.shared_fitness.proofs.subs.queue_fit.Goals as goal

queue_by : (g : Settings) (bottom put taken above : ℕ) {level : ℕ} → level ≡ level_of g taken bottom → ltb above g.rows ≡ above_by g.rows put level
    → (eqb put taken || ltb above g.rows) ≡ queue_sub_fit g bottom put taken
unfolding cond
queue_by g bottom put taken above {level} e f = go (eqb put taken) refl
  where
    go : (b : Bool) → eqb put taken ≡ b → (b || ltb above g.rows) ≡ cond b true (above_by g.rows put (level_of g taken bottom))
    go true h = refl
    go false h = f ∙ ap (above_by g.rows put) e

wraps_above : (rows put level : ℕ) → rows < 2 ^ 32 → put < 2 ^ 32 → level < 2 ^ 32
    → ltb ((put + (2 ^ 64 - (level + 1))) % 2 ^ 64) rows ≡ above_by rows put level
wraps_above rows put level a b c = go (ltb level put) refl
  where
    above : ℕ
    above = (put + (2 ^ 64 - (level + 1))) % 2 ^ 64

    within : level < put → (t : Bool) → leb (put - level) rows ≡ t → ltb above rows ≡ t
    within l true h = lt-ltb above rows (omega (arith, leb-true (put - level) rows h))
    within l false h = le-ltb above rows (omega (arith, leb-false (put - level) rows h))

    go : (t : Bool) → ltb level put ≡ t → ltb above rows ≡ both t (leb (put - level) rows)
    go true h = within (ltb-true level put h) (leb (put - level) rows) refl
    go false h = le-ltb above rows (omega (arith, ltb-false level put h))

pub returns : goal.returns
returns c =
    let a = c.args in
    rw (c.from.ensures, c.from-2.ensures, c.from-3.ensures) (queue_by a.g a.bottom a.put a.taken _ c.level_of-level.ensures (wraps_above a.g.rows a.put c.level_of-level.result (search rules) (search rules) (search rules)))
