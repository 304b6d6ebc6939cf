-- The two workers of the run, and what it is about. Worker 0, the shifter, begins at sub 0 and puts nothing until the end: it misses
-- every sub, waits at its shift, and raises the window. Worker 1, the mover, fills the subs and takes from them. Item x lies in the
-- last sub, and every item of another sub is newer: that stays, since what is put later is newer than all before.
use mathlib.Core.Path.{◌≡◌, ap, ◌∙◌}
use mathlib.Core.Bool.{true}
use Prim.Native.Nat.{ℕ, suc, ◌+◌, ◌≤◌, ◌<◌}
use native.Mathlib.Nat.{le_refl, le_trans}
use native.Mathlib.Decide.{dec_le}
use native.Mathlib.Omega.{arith}
use Rattle.rules.specs.Limits.{settings_fit, Bounds, step_limit}
use Rattle.rules.specs.Held.{Item}
use Rattle.rules.specs.Worker.{phase_of}
use Rattle.reached.proofs.Types.{Settings, Putting, Taking, Window, StackShift, Slot}
use Rattle.rules.proofs.Fitness.{settings_bounds}
use Rattle.rules.proofs.machine.Machine.{State, sub_in, phase_in}
use Rattle.reached.proofs.Run.{Got}
use Rattle.reached.proofs.Walks.{Comes, Passed, passes}
use Rattle.reached.proofs.Commits.{Later, later_same}
use Rattle.reached.proofs.Sweeps.{Fills, fill}
use Rattle.reached.proofs.Rise.{Raised, raise}

abbrev pub shifter : ℕ
shifter = 0

abbrev pub mover : ℕ
mover = 1

-- ---- the shifter
-- it is about to look at the window
pub record Looks (g : Settings) (s : State) : Type 0 where
  pub phase : phase_in g s shifter ≡ Window Putting
  pub index_is : sub_in s shifter ≡ 0

-- it has missed every sub and waits at its shift
pub record Waits (g : Settings) (s : State) : Type 0 where
  pub sum : ℕ
  pub phase : phase_in g s shifter ≡ StackShift Putting (record { 0 = s.mark }) 0 sum
  pub index_is : sub_in s shifter ≡ 0

-- ---- the mover: its take comes to the last sub
abbrev pub ComesTo : Settings → ℕ → State → Type 0
ComesTo g last s = Comes g Taking s mover last

-- ---- a worker that others leave alone
pub phase_kept : (g : Settings) {x y : Slot} → x ≡ y → phase_of g x ≡ phase_of g y
phase_kept g e = ap (λ (z : Slot). phase_of g z) e

pub index_kept : {x y : Slot} → x ≡ y → x.index ≡ y.index
index_kept e = ap (λ (z : Slot). z.index) e

pub number_kept : {x y : Slot} → x ≡ y → x.number ≡ y.number
number_kept e = ap (λ (z : Slot). z.number) e

pub still_looks : {g : Settings} {s t : State} → t.slot shifter ≡ s.slot shifter → Looks g s → Looks g t
still_looks {g} e h = record { phase = phase_kept g e ∙ h.phase; index_is = index_kept e ∙ h.index_is }

pub still_waits : {g : Settings} {s t : State} → t.slot shifter ≡ s.slot shifter → t.mark ≡ s.mark → Waits g s → Waits g t
still_waits {g} e m h = record { sum = h.sum; phase = phase_kept g e ∙ rw m h.phase; index_is = index_kept e ∙ h.index_is }

module _ (g : Settings) (limits : settings_fit g ≡ true) (kind : g.kind ≡ 1) (last : ℕ) (last-is : suc last ≡ g.width) (two : 2 ≤ g.workers) where
  bounds : Bounds g
  bounds = settings_bounds g limits

  -- ---- item x and the newer ones
  pub record Scene (x row : ℕ) (s : State) : Type 0 where
    pub x_old : x ≤ s.puts
    pub x_held : row ≤ s.first last
    pub x_is : (s.item last row).stamp ≡ x
    pub newer : (j r : ℕ) → j < last → 1 ≤ r → r ≤ s.first j → x < (s.item j r).stamp

  pub scene_later : {x row n : ℕ} {s t : State} → Later g limits kind n s t → row ≤ t.first last → Scene x row s → Scene x row t
  scene_later {x} {row} {n} {s} {t} o keep h =
      record {
        x_old = le_trans h.x_old o.puts;
        x_held = keep;
        x_is = ap (λ (it : Item). it.stamp) (o.old last row h.x_held keep) ∙ h.x_is;
        newer = λ j r l u v. newer j r l u v (dec_le r (s.first j));
      }
    where
      newer : (j r : ℕ) → j < last → 1 ≤ r → r ≤ t.first j → Dec (r ≤ s.first j) → x < (t.item j r).stamp
      newer j r l u v (yes y) = omega (arith, ap (λ (it : Item). it.stamp) (o.old j r y v), h.newer j r l u y)
      newer j r l u v (no y) = omega (arith, o.new j r (omega arith) v, h.x_old)

  -- what keeps the scene, whatever x is
  abbrev pub Keeps : State → State → Type 0
  Keeps s t = (x row : ℕ) → Scene x row s → Scene x row t

  -- ---- full subs, and the shifter at its shift
  -- the mover rests at a sub, every sub is below the window, and the shifter is about to look at it; n bounds the steps so far, which
  -- stay far below the 4,000,000,000 of a pool
  pub record Low (top at n : ℕ) (s : State) : Type 0 where
    pub got : Got g limits kind s
    pub top_is : s.top ≡ top
    pub low : (m : ℕ) → m ≤ last → s.first m < top
    pub at_le : at ≤ last
    pub rests : (s.slot mover).number ≡ 0
    pub index_is : sub_in s mover ≡ at
    pub looks : Looks g s
    pub few : s.steps ≤ n

  -- every sub is full up to the window, and the shifter is about to look at it, or waits
  pub record Full (Does : Settings → State → Type 0) (top at n : ℕ) (s : State) : Type 0 where
    pub got : Got g limits kind s
    pub top_is : s.top ≡ top
    pub full : (m : ℕ) → m ≤ last → s.first m ≡ top
    pub at_le : at ≤ last
    pub rests : (s.slot mover).number ≡ 0
    pub index_is : sub_in s mover ≡ at
    pub does : Does g s
    pub few : s.steps ≤ n

  abbrev pub Ready : ℕ → ℕ → ℕ → State → Type 0
  Ready top at n s = Full Waits top at n s

  -- the mover fills them
  filled : {top at n : ℕ} {s : State} → Low top at n s → (f : Fills g limits kind mover two last last-is at s)
      → Full Looks top f.0 (n + 81920) f.3.to × Keeps s f.3.to
  filled {s = s} o f =
      let b = f.3 in (
        record {
          got = b.later.got;
          top_is = b.top ∙ o.top_is;
          full = λ m l. b.held m (omega arith) l ∙ o.top_is;
          at_le = f.1;
          rests = b.rests;
          index_is = b.index_is;
          does = still_looks (b.off shifter (λ z. omega arith)) o.looks;
          few = omega (arith, b.later.steps, o.few);
        },
        λ x row h. scene_later b.later (omega (arith, h.x_held, o.low last (le_refl _), b.held last (omega arith) (le_refl _), o.top_is)) h,
      )

  fills : {top at n : ℕ} {s : State} → Low top at n s → n + 81920 ≤ step_limit → Fills g limits kind mover two last last-is at s
  fills {at = at} {s = s} o time =
      fill g limits kind mover two last last-is at s o.at_le o.got (omega (arith, o.few)) o.rests o.index_is
      (λ m l. omega (arith, o.low m l, o.top_is))

  -- the shifter passes over them
  waiting : {top at n : ℕ} {s : State} → Full Looks top at n s → (p : Passed g limits kind shifter (omega arith) 17 s)
      → Ready top at (n + 17) p.1.to × Keeps s p.1.to
  waiting {s = s} o p =
      let a = p.1 in
      let alone : a.to.slot mover ≡ s.slot mover = a.off mover (λ z. omega arith) in (
        record {
          got = a.got;
          top_is = a.top ∙ o.top_is;
          full = λ m l. rw a.first (o.full m l);
          at_le = o.at_le;
          rests = number_kept alone ∙ o.rests;
          index_is = index_kept alone ∙ o.index_is;
          does = record { sum = p.0; phase = rw a.mark a.phase; index_is = a.index_is };
          few = omega (arith, a.steps, o.few);
        },
        λ x row h. scene_later (later_same g limits kind a.got a.steps a.puts a.first a.item) (rw a.first h.x_held) h,
      )

  pub pass : {top at n : ℕ} {s : State} → Full Looks top at n s → n + 17 ≤ step_limit → (t : State) × Ready top at (n + 17) t × Keeps s t
  pass {s = s} o time =
      let p =
      passes g limits kind shifter (omega arith) s o.got (omega (arith, o.few)) o.does.phase o.does.index_is
      (λ j l. omega (arith, o.full j (omega arith), o.top_is)) in
      (p.1.to, (waiting o p).0, (waiting o p).1)

  pub ready : {top at n : ℕ} {s : State} → Low top at n s → n + 81937 ≤ step_limit
      → (t : State) × (at' : ℕ) × (at ≡ 1 → at' ≡ 0) × Ready top at' (n + 81920 + 17) t × Keeps s t
  ready {s = s} o time =
      let f = fills o (omega arith) in
      let b = filled o f in
      let p = pass b.0 (omega arith) in
      (p.0, f.0, f.2, p.1, λ x row h. p.2 x row (b.1 x row h))

  -- ---- the window rises
  pub rises : {top at n : ℕ} {s : State} → Ready top at n s → n < step_limit → top + g.shift ≤ g.rows → Raised g limits kind s shifter
  rises {s = s} o time able =
      raise g limits kind s o.got shifter (omega arith) (omega (arith, o.few)) 0 o.does.sum o.does.phase (omega (arith, o.top_is))

  pub risen : {top at n : ℕ} {s : State} → Ready top at n s → (a : Raised g limits kind s shifter) → Low (top + g.shift) at (n + 1) a.to × Keeps s a.to
  risen {s = s} o a =
      let alone : a.to.slot mover ≡ s.slot mover = a.off mover (λ z. omega arith) in (
        record {
          got = a.later.got;
          top_is = omega (arith, a.top, o.top_is);
          low = λ m l. omega (arith, ap (λ (f : ℕ → ℕ). f m) a.first, o.full m l, bounds.shift1);
          at_le = o.at_le;
          rests = number_kept alone ∙ o.rests;
          index_is = index_kept alone ∙ o.index_is;
          looks = record { phase = a.phase; index_is = a.index_is ∙ o.does.index_is };
          few = omega (arith, a.later.steps, o.few);
        },
        λ x row h. scene_later a.later (rw a.first h.x_held) h,
      )
