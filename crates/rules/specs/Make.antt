-- "Make": P = T = d, or G = d; worker i has index i mod w; from edition 2 on a queue has its windows; all other needed words but the settings, the
-- edition among them, are zero.
use Rattle.std.specs.Prelude.{ℕ, zero, suc, ◌%◌, List, [], ◌∷◌, set, length, ltb, eqb, Ok}
use Rattle.std.proofs.lemmas.List.Edits.{sets}
use Rattle.laws.specs.Choice.{cond}
use Rattle.rules.specs.Answers.{Out, out, refuse}
use Rattle.rules.specs.Layout.{worker_at, index_at, windows_at, needed}
use Rattle.rules.specs.Limits.{settings_fit}
use Rattle.rules.specs.Windows.{has_windows}
use Rattle.rules.specs.declared.Settings.{Settings}
use Rattle.rules.specs.declared.Answer.TheVariants.{Moving}
use Rattle.rules.specs.declared.Refusal.TheVariants.{OffLimits, TooFewWords}

-- the edition of the shipped calls: "Edition 2, made by make and then the only fit one"
abbrev pub shipped : ℕ
shipped = 2

-- the settings that a call of make names, in its order; it names no edition
abbrev pub settings_from : ℕ → ℕ → ℕ → ℕ → ℕ → ℕ → ℕ → Settings
settings_from kind width depth shift rows workers stride =
    record { kind = kind; width = width; depth = depth; shift = shift; rows = rows; workers = workers; stride = stride; edition = shipped }

-- the same settings in an edition
abbrev pub in_edition : ℕ → Settings → Settings
in_edition e g =
    record { kind = g.kind; width = g.width; depth = g.depth; shift = g.shift; rows = g.rows; workers = g.workers; stride = g.stride; edition = e }

-- and with a stride
abbrev pub with_stride : Settings → ℕ → Settings
with_stride g x =
    record { kind = g.kind; width = g.width; depth = g.depth; shift = g.shift; rows = g.rows; workers = g.workers; stride = x; edition = g.edition }

-- settings as a call of make that names them has them
abbrev pub shipped_from : Settings → Settings
shipped_from g = in_edition shipped g

-- the first n words zero
unfoldable pub zeroed : List ℕ → ℕ → List ℕ
zeroed ws zero = ws
zeroed ws (suc i) = set (zeroed ws i) i 0

-- T = d, or version 0
abbrev pub new_mark : Settings → ℕ
new_mark g = cond (eqb g.kind 0) g.depth 0

-- the first words of a new pool, in their order
abbrev pub new_head : Settings → List ℕ
new_head g =
    g.kind ∷ g.width ∷ g.depth ∷ g.shift ∷ g.rows ∷ g.workers ∷ 0 ∷ 0 ∷ g.depth ∷ new_mark g ∷ g.stride ∷ g.edition ∷ []

-- the first words of its windows: "until then the size is the pool's", and one window is both put window and take window
abbrev pub new_windows : Settings → List ℕ
new_windows g = cond (has_windows g) (g.width ∷ g.depth ∷ 0 ∷ 1 ∷ g.width ∷ g.depth ∷ []) []

-- each worker below n has its index
unfoldable pub indexed : List ℕ → Settings → ℕ → List ℕ
indexed ws g zero = ws
indexed ws g (suc i) = set (indexed ws g i) (index_at (worker_at g i)) (i % g.width)

unfoldable pub made_words : List ℕ → Settings → List ℕ
made_words ws g = indexed (sets (sets (zeroed ws (needed g)) 0 (new_head g)) (windows_at g) (new_windows g)) g g.workers

-- 22, then 21
unfoldable pub make_of : List ℕ → Settings → Out
make_of ws g = cond (settings_fit g) (cond (ltb (length ws) (needed g)) (refuse TooFewWords ws) (out (Ok Moving) (made_words ws g))) (refuse OffLimits ws)
