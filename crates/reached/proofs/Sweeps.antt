-- Many puts or takes of one worker: at a sub, as far as the window lets it; then on to the next sub, for a sub that has come so far is
-- one that the next operation misses. So a put's worker fills the subs from its own on up to the window, and around from the last to
-- the first; and a take's worker lowers them to d below it.
use mathlib.Core.Path.{◌≡◌, refl, sym, ap, ◌∙◌, subst}
use mathlib.Core.Logic.{◌⊎◌, inl, inr}
use mathlib.Core.Bool.{true}
use Prim.Native.Nat.{ℕ, zero, suc, ◌+◌, ◌-◌, ◌*◌, ◌≤◌, ◌<◌}
use native.Mathlib.Nat.{le_refl}
use native.Mathlib.Decide.{ℕ_discrete, dec_le}
use native.Mathlib.Omega.{arith}
use Rattle.rules.specs.Limits.{settings_fit, Bounds, step_limit}
use Rattle.rules.specs.Effects.{next_of}
use Rattle.reached.proofs.Types.{Settings, Side, Putting, Taking}
use Rattle.rules.proofs.Fitness.{settings_bounds}
use Rattle.rules.proofs.machine.Machine.{State, sub_in}
use Rattle.rules.proofs.stack.Inv.{Hit, Missed, window_le, held_le}
use Rattle.rules.proofs.stack.Corridor.{count_after}
use Rattle.reached.proofs.Run.{Got}
use Rattle.reached.proofs.Walks.{Comes, there, before, next_up, next_around}
use Rattle.reached.proofs.Commits.{Outside, outside_one, later_then, Brought, operation}

-- ---- from a items to c by k puts, or takes
abbrev pub By : Side → ℕ → ℕ → ℕ → Type 0
By Putting k a c = c ≡ a + k
By Taking k a c = a ≡ c + k

-- hits alone lead to c
abbrev pub Upto : Settings → Side → ℕ → ℕ → Type 0
Upto g Putting top c = c ≤ top
Upto g Taking top c = top ≤ c + g.depth

by_hits : (g : Settings) (side : Side) (k top a c : ℕ) → By side (suc k) a c → Upto g side top c → Hit g side top a
by_hits g Putting k top a c by upto = omega arith
by_hits g Taking k top a c by upto = omega arith

by_rest : (side : Side) (k a c : ℕ) → By side (suc k) a c → By side k (count_after side a) c
by_rest Putting k a c by = omega arith
by_rest Taking k a c by = omega arith

by_none : (side : Side) (a c : ℕ) → By side 0 a c → a ≡ c
by_none Putting a c by = omega arith
by_none Taking a c by = omega arith

by_between : (side : Side) (k a c r : ℕ) → By side (suc k) a c → r ≤ a → r ≤ c → r ≤ count_after side a
by_between Putting k a c r by l m = omega arith
by_between Taking k a c r by l m = omega arith

-- ---- as far as the window lets it, from a items that are not there yet
abbrev pub Target : Settings → Side → ℕ → ℕ → Type 0
Target g Putting top c = c ≡ top
Target g Taking top c = c + g.depth ≡ top

abbrev pub Short : Side → ℕ → ℕ → Type 0
Short Putting a c = a < c
Short Taking a c = c < a

target_upto : (g : Settings) (side : Side) (top c : ℕ) → Target g side top c → Upto g side top c
target_upto g Putting top c t = omega arith
target_upto g Taking top c t = omega arith

pub target_missed : (g : Settings) (side : Side) (top c : ℕ) → Target g side top c → Missed g side top c
target_missed g Putting top c t = omega arith
target_missed g Taking top c t = omega arith

-- a sub has 1,024 rows at most
few : (g : Settings) (side : Side) (top a c : ℕ) → Target g side top c → Short side a c → top ≤ 1024 → a ≤ 1024 → (k : ℕ) × (suc k ≤ 1024) × By side (suc k) a c
few g Putting top a c t short high held = (c - a - 1, omega arith, omega arith)
few g Taking top a c t short high held = (a - c - 1, omega arith, omega arith)

-- subs p to q and then p' to q', apart from each other, are the subs from low to last
pub record Parts (p q p' q' low last : ℕ) : Type 0 where
  pub apart : (m : ℕ) → Outside p q m ⊎ Outside p' q' m
  pub all : (m : ℕ) → low ≤ m → m ≤ last → ((p ≤ m) × (m ≤ q)) ⊎ ((p' ≤ m) × (m ≤ q'))
  pub out : (m : ℕ) → Outside low last m → Outside p q m × Outside p' q' m

module _ (low mid last : ℕ) (a : low ≤ suc mid) (b : mid ≤ last) where
  pub upwards : Parts low mid (suc mid) last low last
  upwards =
      record {
        apart = λ m. elim (dec_le m mid) [ yes l ↦ inr (inl (omega arith)) | no l ↦ inl (inr (omega arith)) ];
        all = λ m x y. elim (dec_le m mid) [ yes l ↦ inl (x, l) | no l ↦ inr (omega arith, y) ];
        out = λ m o. elim o [ inl l ↦ (inl l, inl (omega arith)) | inr l ↦ (inr (omega arith), inr l) ];
      }

  pub around : Parts (suc mid) last low mid low last
  around =
      record {
        apart = λ m. elim (dec_le m mid) [ yes l ↦ inl (inl (omega arith)) | no l ↦ inr (inr (omega arith)) ];
        all = λ m x y. elim (dec_le m mid) [ yes l ↦ inr (x, l) | no l ↦ inl (omega arith, y) ];
        out = λ m o. elim o [ inl l ↦ (inl (omega arith), inl l) | inr l ↦ (inr l, inr (omega arith)) ];
      }

module _ (g : Settings) (limits : settings_fit g ≡ true) (kind : g.kind ≡ 1) where
  bounds : Bounds g
  bounds = settings_bounds g limits

  abbrev Brings : ℕ → State → ℕ → ℕ → ℕ → ℕ → ℕ → Type 0
  Brings n s i low last c at = Brought g limits kind n s i low last c at

  pub in_steps : {n m : ℕ} {s : State} {i low last c at : ℕ} → n ≤ m → Brings n s i low last c at → Brings m s i low last c at
  in_steps l b =
      record {
        to = b.to;
        later = record { got = b.later.got; steps = omega (arith, b.later.steps); puts = b.later.puts; old = b.later.old; new = b.later.new };
        top = b.top;
        mark = b.mark;
        held = b.held;
        held_off = b.held_off;
        version_off = b.version_off;
        off = b.off;
        rests = b.rests;
        index_is = b.index_is;
      }

  -- ---- one sub
  module _ (side : Side) (i j c : ℕ) (l : i < g.workers) where
    again : (k n : ℕ) (s : State) → By side (suc k) (s.first j) c → (a : Brings 5 s i j j (count_after side (s.first j)) j) → Brings n a.to i j j c j
        → Brings (5 + n) s i j j c j
    again k n s by a b =
        record {
          to = b.to;
          later = later_then g limits kind (le_refl _) (λ m r x y. between m r x y (ℕ_discrete m j)) a.later b.later;
          top = b.top ∙ a.top;
          mark = b.mark ∙ a.mark;
          held = b.held;
          held_off = λ m o. b.held_off m o ∙ a.held_off m o;
          version_off = λ m o. b.version_off m o ∙ a.version_off m o;
          off = λ m ne. b.off m ne ∙ a.off m ne;
          rests = b.rests;
          index_is = b.index_is;
        }
      where
        between : (m r : ℕ) → r ≤ s.first m → r ≤ b.to.first m → Dec (m ≡ j) → r ≤ a.to.first m
        between m r x y (yes e) =
            let x' : r ≤ s.first j = rw e at x in
            let y' : r ≤ b.to.first j = rw e at y in
            rw e (omega (arith, by_between side k (s.first j) c r by x' (omega (arith, b.held j (le_refl _) (le_refl _))), a.held j (le_refl _) (le_refl _)))
        between m r x y (no ne) = omega (arith, a.held_off m (outside_one j m ne))

    pub operations : (k : ℕ) (s : State) → Got g limits kind s → s.steps + 5 * suc k ≤ step_limit → Comes g side s i j → By side (suc k) (s.first j) c
        → Upto g side s.top c → Brings (5 * suc k) s i j j c j
    operations zero s got time comes by upto =
        subst (λ (x : ℕ). Brings (5 * suc zero) s i j j x j) (by_none side _ c (by_rest side 0 (s.first j) c by))
        (operation g limits kind side s i j l (omega arith) got comes (by_hits g side 0 s.top (s.first j) c by upto))
    operations (suc k) s got time comes by upto =
        let a = operation g limits kind side s i j l (omega arith) got comes (by_hits g side (suc k) s.top (s.first j) c by upto) in
        in_steps (omega arith) (again (suc k) (5 * suc k) s by a
        (operations k a.to a.later.got (omega (arith, a.later.steps)) (there a.rests a.index_is)
        (rw (a.held j (le_refl _) (le_refl _)) (by_rest side (suc k) (s.first j) c by)) (rw a.top upto)))

  -- ---- one sub after the other
  module _ (i c : ℕ) where
    both : {n n' k p q p' q' low last at at' : ℕ} {s : State} → n + n' ≤ k → Parts p q p' q' low last → (a : Brings n s i p q c at) → Brings n' a.to i p' q' c at'
        → Brings k s i low last c at'
    both {p = p} {q = q} {p' = p'} {q' = q'} {s = s} l parts a b =
        record {
          to = b.to;
          later = later_then g limits kind l (λ m r x y. between m r x y (parts.apart m)) a.later b.later;
          top = b.top ∙ a.top;
          mark = b.mark ∙ a.mark;
          held = λ m x y. held m (parts.all m x y) (parts.apart m);
          held_off = λ m o. b.held_off m (parts.out m o).1 ∙ a.held_off m (parts.out m o).0;
          version_off = λ m o. b.version_off m (parts.out m o).1 ∙ a.version_off m (parts.out m o).0;
          off = λ m ne. b.off m ne ∙ a.off m ne;
          rests = b.rests;
          index_is = b.index_is;
        }
      where
        between : (m r : ℕ) → r ≤ s.first m → r ≤ b.to.first m → Outside p q m ⊎ Outside p' q' m → r ≤ a.to.first m
        between m r x y (inl o) = omega (arith, a.held_off m o)
        between m r x y (inr o) = omega (arith, b.held_off m o)

        inside : (m : ℕ) → p ≤ m → m ≤ q → Outside p q m → ⊥
        inside m x y (inl z) = omega arith
        inside m x y (inr z) = omega arith

        held : (m : ℕ) → ((p ≤ m) × (m ≤ q)) ⊎ ((p' ≤ m) × (m ≤ q')) → Outside p q m ⊎ Outside p' q' m → b.to.first m ≡ c
        held m (inl h) (inl o) = absurd (inside m h.0 h.1 o)
        held m (inl h) (inr o) = b.held_off m o ∙ a.held m h.0 h.1
        held m (inr h) o = b.held m h.0 h.1

  -- an operation takes 5 steps at most, and a sub 1,024 of them: 5,120 steps for each sub, and 81,920 for all, are enough
  module _ (side : Side) (i c : ℕ) (l : i < g.workers) where
    sub : (j : ℕ) (s : State) → Got g limits kind s → j < g.width → s.steps + 5120 ≤ step_limit → Comes g side s i j → Target g side s.top c
        → Short side (s.first j) c → Brings 5120 s i j j c j
    sub j s got lj time comes target short =
        let o = got.live.inv.pool in
        let k = few g side s.top (s.first j) c target short (omega (arith, window_le o, bounds.rows1024)) (omega (arith, held_le o j lj, bounds.rows1024)) in
        in_steps (omega (arith, k.1)) (operations side i j c l k.0 s got (omega (arith, k.1)) comes k.2 (target_upto g side s.top c target))

    pub sweep : (k low last : ℕ) (s : State) → low + k ≡ last → last < g.width → Got g limits kind s → s.steps + 5120 * suc k ≤ step_limit
        → Comes g side s i low → Target g side s.top c → ((m : ℕ) → low ≤ m → m ≤ last → Short side (s.first m) c)
        → Brings (5120 * suc k) s i low last c last
    sweep zero low last s e w got time comes target short =
        let x : low ≡ last = omega arith in
        in_steps (omega arith) (subst (λ (y : ℕ). Brings 5120 s i low y c y) x (sub low s got (omega arith) (omega arith) comes target (short low (le_refl _) (omega arith))))
    sweep (suc k) low last s e w got time comes target short =
        let a = sub low s got (omega arith) (omega arith) comes target (short low (le_refl _) (omega arith)) in
        let next : next_of g.width (sub_in a.to i) ≡ suc low = ap (next_of g.width) a.index_is ∙ next_up g low (omega arith) in
        let done : Missed g side a.to.top (a.to.first (sub_in a.to i)) = rw (a.index_is, a.held low (le_refl _) (le_refl _), a.top) (target_missed g side s.top c target) in
        both i c (omega arith) (upwards low low last (omega arith) (omega arith)) a
        (sweep k (suc low) last a.to (omega arith) w a.later.got (omega (arith, a.later.steps)) (before a.rests next (omega arith) done)
        (rw a.top target) (λ m x y. rw (a.held_off m (inr (omega arith))) (short m (omega arith) y)))

  -- ---- all subs, from the worker's own around to the one before it
  module _ (i : ℕ) (l : i < g.workers) (last : ℕ) (last-is : suc last ≡ g.width) where
    abbrev pub Fills : ℕ → State → Type 0
    Fills from s = (at : ℕ) × (at ≤ last) × (from ≡ 1 → at ≡ 0) × Brings 81920 s i 0 last s.top at

    fill_around : (n : ℕ) (s : State) → suc n ≤ last → s.steps + 81920 ≤ step_limit → ((m : ℕ) → m ≤ last → s.first m < s.top)
        → (a : Brings (5120 * suc (last - suc n)) s i (suc n) last s.top last) → Brings 81920 s i 0 last s.top n
    fill_around n s u time low a =
        let next : next_of g.width (sub_in a.to i) ≡ 0 = ap (next_of g.width) a.index_is ∙ next_around g last last-is in
        let full : a.to.top ≤ a.to.first (sub_in a.to i) = rw (a.index_is, a.held last u (le_refl _), a.top) (le_refl _) in
        both i s.top (omega (arith, bounds.width16)) (around 0 n last (omega arith) (omega arith)) a
        (sweep Putting i s.top l n 0 n a.to (omega arith) (omega arith) a.later.got (omega (arith, a.later.steps, bounds.width16))
        (before a.rests next (omega arith) full) (sym a.top) (λ m x y. rw (a.held_off m (inl (omega arith))) (low m (omega arith))))

    pub fill : (from : ℕ) (s : State) → from ≤ last → Got g limits kind s → s.steps + 81920 ≤ step_limit → (s.slot i).number ≡ 0 → sub_in s i ≡ from
        → ((m : ℕ) → m ≤ last → s.first m < s.top) → Fills from s
    fill zero s u got time z x low = (
      last,
      le_refl _,
      (λ e. absurd (omega arith)),
      in_steps (omega (arith, bounds.width16)) (sweep Putting i s.top l last 0 last s (omega arith) (omega arith) got (omega (arith, bounds.width16)) (there z x) refl (λ m a b. low m b)),
    )
    fill (suc n) s u got time z x low = (
      n,
      omega arith,
      (λ e. omega arith),
      fill_around n s u time low
          (sweep Putting i s.top l (last - suc n) (suc n) last s (omega arith) (omega arith) got (omega (arith, bounds.width16)) (there z x) refl (λ m a b. low m b)),
    )
