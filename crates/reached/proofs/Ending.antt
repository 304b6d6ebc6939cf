-- How the run ends. The mover comes to item x, the top one of the last sub by then, and waits at the commit of its take. The shifter
-- raises the window and puts on, from sub 0 up to the sub before the last: all of them are full up to the new window, and the last sub
-- has not changed. So the mover's commit takes x, and passes over every item of the other subs.
use mathlib.Core.Path.{◌≡◌, sym, ap, ◌∙◌}
use mathlib.Core.Logic.{◌⊎◌, inl, inr}
use mathlib.Core.Bool.{true}
use Prim.Native.Nat.{ℕ, suc, ◌+◌, ◌-◌, ◌*◌, ◌≤◌, ◌<◌}
use native.Mathlib.Nat.{le_refl, eq-or-lt_of_le}
use native.Mathlib.Decide.{dec_le}
use native.Mathlib.Omega.{arith}
use Rattle.rules.specs.Limits.{settings_fit, Bounds, step_limit}
use Rattle.rules.specs.Effects.{next_of}
use Rattle.reached.proofs.Types.{Settings, Putting, Taking, StackCommit}
use Rattle.rules.proofs.Fitness.{settings_bounds}
use Rattle.rules.proofs.machine.Machine.{State, sub_in, phase_in}
use Rattle.rules.proofs.stack.Inv.{Missed, window_ge}
use Rattle.reached.proofs.Run.{Got}
use Rattle.reached.proofs.Steps.{Walked}
use Rattle.reached.proofs.Walks.{there, before, begun, next_up, comes_to_commit}
use Rattle.reached.proofs.Commits.{Brought, BroughtOne, later_same}
use Rattle.reached.proofs.Sweeps.{operations, in_steps, sweep}
use Rattle.reached.proofs.Rise.{Raised, raise}
use Rattle.reached.proofs.Scene.{shifter, mover, Looks, Waits, ComesTo, still_waits, phase_kept, index_kept, Scene, scene_later, Ready}

module _ (g : Settings) (limits : settings_fit g ≡ true) (kind : g.kind ≡ 1) (last : ℕ) (last-is : suc last ≡ g.width) (two : 2 ≤ g.workers)
    (another : 1 ≤ last) where
  bounds : Bounds g
  bounds = settings_bounds g limits

  abbrev On : ℕ → ℕ → State → Type 0
  On x row s = Scene g limits kind last last-is two x row s

  -- the last sub holds so many items, and no other sub more than some; the mover comes to the last sub, or waits there
  pub record About (Mover : State → Type 0) (Does : Settings → State → Type 0) (x row held most top n : ℕ) (s : State) : Type 0 where
    pub got : Got g limits kind s
    pub scene : On x row s
    pub top_is : s.top ≡ top
    pub held_is : s.first last ≡ held
    pub low : (j : ℕ) → j < last → s.first j ≤ most
    pub mover_is : Mover s
    pub does : Does g s
    pub few : s.steps ≤ n

  -- at the commit of its take, with the last sub as it saw it
  abbrev pub AtCommit : State → Type 0
  AtCommit s = (phase_in g s mover ≡ StackCommit Taking (record { 0 = s.second last })) × (sub_in s mover ≡ last)

  -- ---- back to the last sub: each sub on the way is lowered to d below the window
  lowered : {x row top at n : ℕ} {s : State} → at < last → Ready g limits kind last last-is two top at n s → On x row s
      → (b : Brought g limits kind (5120 * suc (last - 1 - at)) s mover at (last - 1) (top - g.depth) (last - 1))
      → About (ComesTo g last) Waits x row top top top (n + 81920) b.to
  lowered {top = top} {at = at} {s = s} u o h b =
      let deep : g.depth ≤ top = omega (arith, window_ge o.got.live.inv.pool, o.top_is) in
      let next : next_of g.width (sub_in b.to mover) ≡ last = ap (next_of g.width) b.index_is ∙ next_up g (last - 1) (omega arith) ∙ omega arith in
      let missed : Missed g Taking b.to.top (b.to.first (sub_in b.to mover)) =
      rw (b.index_is, b.held (last - 1) (omega arith) (le_refl _), b.top, o.top_is) (omega arith) in
      record {
        got = b.later.got;
        scene = scene_later g limits kind last last-is two b.later (omega (arith, h.x_held, b.held_off last (inr (omega arith)))) h;
        top_is = b.top ∙ o.top_is;
        held_is = b.held_off last (inr (omega arith)) ∙ o.full last (le_refl _);
        low = λ j l. low j l (dec_le at j);
        mover_is = before b.rests next (omega arith) missed;
        does = still_waits (b.off shifter (λ z. omega arith)) b.mark o.does;
        few = omega (arith, b.later.steps, o.few, bounds.width16);
      }
    where
      low : (j : ℕ) → j < last → Dec (at ≤ j) → b.to.first j ≤ top
      low j l (yes y) = omega (arith, b.held j y (omega arith))
      low j l (no y) = omega (arith, b.held_off j (inl (omega arith)), o.full j (omega arith))

  back : {x row top at n : ℕ} {s : State} → n + 81920 ≤ step_limit → Ready g limits kind last last-is two top at n s → On x row s
      → (t : State) × About (ComesTo g last) Waits x row top top top (n + 81920) t
  back {x} {row} {top} {at} {n} {s} time o h = go (eq-or-lt_of_le o.at_le)
    where
      go : (at ≡ last) ⊎ (at < last) → (t : State) × About (ComesTo g last) Waits x row top top top (n + 81920) t
      go (inl e) = (
        s,
        record {
          got = o.got;
          scene = h;
          top_is = o.top_is;
          held_is = o.full last (le_refl _);
          low = λ j l. omega (arith, o.full j (omega arith));
          mover_is = there o.rests (o.index_is ∙ e);
          does = o.does;
          few = omega (arith, o.few);
        },
      )
      go (inr u) =
          let deep : g.depth ≤ top = omega (arith, window_ge o.got.live.inv.pool, o.top_is) in
          let b =
          sweep g limits kind Taking mover (top - g.depth) two (last - 1 - at) at (last - 1) s (omega arith) (omega arith) o.got
          (omega (arith, o.few, bounds.width16)) (there o.rests o.index_is) (omega (arith, o.top_is))
          (λ m y z. omega (arith, o.full m (omega arith), bounds.depth1)) in
          (b.to, lowered u o h b)

  -- ---- down to x
  at_x : {x row top n : ℕ} {s : State} → About (ComesTo g last) Waits x row top top top n s → (b : BroughtOne g limits kind 320 s mover last row)
      → About (ComesTo g last) Waits x row row top top (n + 320) b.to
  at_x o b =
      record {
        got = b.later.got;
        scene = scene_later g limits kind last last-is two b.later (omega (arith, b.held last (le_refl _) (le_refl _))) o.scene;
        top_is = b.top ∙ o.top_is;
        held_is = b.held last (le_refl _) (le_refl _);
        low = λ j l. omega (arith, b.held_off j (inl l), o.low j l);
        mover_is = there b.rests b.index_is;
        does = still_waits (b.off shifter (λ z. omega arith)) b.mark o.does;
        few = omega (arith, b.later.steps, o.few);
      }

  down : {x row top n : ℕ} {s : State} → n + 320 ≤ step_limit → row ≤ top → top < row + g.depth → About (ComesTo g last) Waits x row top top top n s
      → (t : State) × About (ComesTo g last) Waits x row row top top (n + 320) t
  down {x} {row} {top} {n} {s} time l near o = go (eq-or-lt_of_le l)
    where
      go : (row ≡ top) ⊎ (row < top) → (t : State) × About (ComesTo g last) Waits x row row top top (n + 320) t
      go (inl e) = (
        s,
        record {
          got = o.got;
          scene = o.scene;
          top_is = o.top_is;
          held_is = o.held_is ∙ sym e;
          low = o.low;
          mover_is = o.mover_is;
          does = o.does;
          few = omega (arith, o.few);
        },
      )
      go (inr u) =
          let b : BroughtOne g limits kind 320 s mover last row =
          in_steps g limits kind (omega (arith, bounds.depth64))
          (operations g limits kind Taking mover last row two (top - row - 1) s o.got (omega (arith, o.few, bounds.depth64)) o.mover_is
          (omega (arith, o.held_is)) (omega (arith, o.top_is))) in
          (b.to, at_x o b)

  -- ---- the take of x waits at its commit
  parked : {x row top n : ℕ} {s : State} → About (ComesTo g last) Waits x row row top top n s
      → (a : Walked g limits kind 4 s mover last (StackCommit Taking (record { 0 = s.second last }))) → About AtCommit Waits x row row top top (n + 4) a.to
  parked {s = s} o a =
      record {
        got = a.got;
        scene =
            scene_later g limits kind last last-is two (later_same g limits kind a.got a.steps a.puts a.first a.item)
            (rw a.first o.scene.x_held) o.scene;
        top_is = a.top ∙ o.top_is;
        held_is = rw a.first o.held_is;
        low = λ j l. rw a.first (o.low j l);
        mover_is = (rw a.second a.phase, a.index_is);
        does = still_waits (a.off shifter (λ z. omega arith)) a.mark o.does;
        few = omega (arith, a.steps, o.few);
      }

  -- ---- the window rises
  risen : {x row top n : ℕ} {s : State} → About AtCommit Waits x row row top top n s → (a : Raised g limits kind s shifter)
      → About AtCommit Looks x row row top (top + g.shift) (n + 1) a.to
  risen {s = s} o a =
      let alone : a.to.slot mover ≡ s.slot mover = a.off mover (λ z. omega arith) in
      record {
        got = a.later.got;
        scene = scene_later g limits kind last last-is two a.later (rw a.first o.scene.x_held) o.scene;
        top_is = omega (arith, a.top, o.top_is);
        held_is = rw a.first o.held_is;
        low = λ j l. rw a.first (o.low j l);
        mover_is = (phase_kept g alone ∙ rw a.second o.mover_is.0, index_kept alone ∙ o.mover_is.1);
        does = record { phase = a.phase; index_is = a.index_is ∙ o.does.index_is };
        few = omega (arith, a.later.steps, o.few);
      }

  -- ---- the shifter fills the other subs, and x is about to be taken
  pub record Last (x row high : ℕ) (s : State) : Type 0 where
    pub got : Got g limits kind s
    pub scene : On x row s
    pub held : s.first last ≡ row
    pub full : (j : ℕ) → j < last → s.first j ≡ high
    pub waits : phase_in g s mover ≡ StackCommit Taking (record { 0 = s.second last })
    pub index_is : sub_in s mover ≡ last
    pub few : s.steps < step_limit

  filled : {x row top n : ℕ} {s : State} → n + 81920 < step_limit → About AtCommit Looks x row row top (top + g.shift) n s
      → (b : Brought g limits kind (5120 * suc (last - 1)) s shifter 0 (last - 1) (top + g.shift) (last - 1)) → Last x row (top + g.shift) b.to
  filled {s = s} time o b =
      let alone : b.to.slot mover ≡ s.slot mover = b.off mover (λ z. omega arith) in
      let same : b.to.second last ≡ s.second last = b.version_off last (inr (omega arith)) in
      let held : b.to.first last ≡ s.first last = b.held_off last (inr (omega arith)) in
      record {
        got = b.later.got;
        scene = scene_later g limits kind last last-is two b.later (omega (arith, o.scene.x_held)) o.scene;
        held = held ∙ o.held_is;
        full = λ j l. b.held j (omega arith) (omega arith);
        waits = phase_kept g alone ∙ rw same o.mover_is.0;
        index_is = index_kept alone ∙ o.mover_is.1;
        few = omega (arith, b.later.steps, o.few, bounds.width16);
      }

  -- ---- from the take that comes to x on
  module _ (x row top n : ℕ) (time : n + 90000 ≤ step_limit) (near : top < row + g.depth) (able : top + g.shift ≤ g.rows) where
    fills : (s : State) → About AtCommit Looks x row row top (top + g.shift) (n + 4 + 1) s → (t : State) × Last x row (top + g.shift) t
    fills s o =
        let b =
        sweep g limits kind Putting shifter (top + g.shift) (omega arith) (last - 1) 0 (last - 1) s (omega arith) (omega arith) o.got
        (omega (arith, o.few, bounds.width16)) (begun o.does.phase o.does.index_is) (sym o.top_is)
        (λ m u v. omega (arith, o.low m (omega arith), bounds.shift1)) in
        (b.to, filled (omega arith) o b)

    rises : (s : State) → About AtCommit Waits x row row top top (n + 4) s → (t : State) × Last x row (top + g.shift) t
    rises s o =
        let a =
        raise g limits kind s o.got shifter (omega arith) (omega (arith, o.few)) 0 o.does.sum o.does.phase (omega (arith, o.top_is)) in
        fills a.to (risen o a)

    pub ends : (s : State) → About (ComesTo g last) Waits x row row top top n s → (t : State) × Last x row (top + g.shift) t
    ends s o =
        let a = comes_to_commit g limits kind s mover last two Taking o.got (omega (arith, o.few)) o.mover_is (omega (arith, o.held_is, o.top_is)) in
        rises a.to (parked o a)

  pub ends_ready : {x row top at n : ℕ} {s : State} → n + 180000 ≤ step_limit → row ≤ top → top < row + g.depth → top + g.shift ≤ g.rows
      → Ready g limits kind last last-is two top at n s → On x row s → (t : State) × Last x row (top + g.shift) t
  ends_ready {x} {row} {top} {at} {n} time l near able o h =
      let a = back (omega arith) o h in
      let b = down (omega arith) l near a.1 in
      ends x row top (n + 81920 + 320) (omega arith) near able b.0 b.1
