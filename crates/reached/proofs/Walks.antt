-- Walks of one worker that change nothing shared: to the read of the sub that its next operation looks at first, or comes to after
-- one miss; on to the commit there; and past every sub to the shift.
use mathlib.Core.Path.{◌≡◌, refl, ap, ◌∙◌, subst}
use mathlib.Core.Logic.{◌⊎◌, inl, inr}
use mathlib.Core.Bool.{true}
use Prim.Native.Nat.{ℕ, zero, suc, ◌+◌, ◌-◌, ◌≤◌, ◌<◌}
use native.Mathlib.Omega.{arith}
use Rattle.rules.specs.Limits.{settings_fit, Bounds, step_limit}
use Rattle.rules.specs.Effects.{next_of}
use Rattle.reached.proofs.Types.{Settings, Side, Putting, Phase, Window, Check, StackCommit, StackShift}
use Rattle.rules.proofs.Fitness.{settings_bounds}
use Rattle.rules.proofs.counts.Wraps.{next_cases}
use Rattle.rules.proofs.machine.Machine.{State, sub_in, phase_in}
use Rattle.rules.proofs.stack.Inv.{Hit, Missed}
use Rattle.reached.proofs.Run.{Got}
use Rattle.reached.proofs.Steps.{Walked, stay, slower, then, Reads, still_reads, begin, window, hit, miss, miss_last, check}
use Rattle.reached.proofs.Rules.{sum_after}

pub next_up : (g : Settings) (x : ℕ) → suc x < g.width → next_of g.width x ≡ suc x
next_up g x l = go (next_cases g.width x (omega arith))
  where
    go : ((suc x < g.width) × (next_of g.width x ≡ suc x)) ⊎ ((suc x ≡ g.width) × (next_of g.width x ≡ 0)) → next_of g.width x ≡ suc x
    go (inl h) = h.1
    go (inr h) = absurd (omega (arith, h.0))

pub next_around : (g : Settings) (x : ℕ) → suc x ≡ g.width → next_of g.width x ≡ 0
next_around g x l = go (next_cases g.width x (omega arith))
  where
    go : ((suc x < g.width) × (next_of g.width x ≡ suc x)) ⊎ ((suc x ≡ g.width) × (next_of g.width x ≡ 0)) → next_of g.width x ≡ 0
    go (inl h) = absurd (omega (arith, h.0))
    go (inr h) = h.1

-- worker i comes to sub j: it rests there; or it rests at the sub before, which it will miss; or it has begun and is to look at the window
pub data Comes (g : Settings) (side : Side) (s : State) (i j : ℕ) : Type 0 where
  there : (s.slot i).number ≡ 0 → sub_in s i ≡ j → Comes g side s i j
  before : (s.slot i).number ≡ 0 → next_of g.width (sub_in s i) ≡ j → 2 ≤ g.width → Missed g side s.top (s.first (sub_in s i)) → Comes g side s i j
  begun : phase_in g s i ≡ Window side → sub_in s i ≡ j → Comes g side s i j

module _ (g : Settings) (limits : settings_fit g ≡ true) (kind : g.kind ≡ 1) where
  bounds : Bounds g
  bounds = settings_bounds g limits

  abbrev Walk : ℕ → State → ℕ → ℕ → Phase → Type 0
  Walk n s i j p = Walked g limits kind n s i j p

  module _ (s : State) (i j : ℕ) (l : i < g.workers) (side : Side) where
    -- ---- to the read
    abbrev Arrives : Type 0
    Arrives = (scan : ℕ) × (sum : ℕ) × Walk 2 s i j (Reads s side scan sum)

    to_read : {k : ℕ} → Walk 0 s i k (Window side) → s.steps < step_limit → Walk 1 s i k (Reads s side 0 0)
    to_read {k} a time =
        let b : Walk 1 a.to i k (Reads s side 0 0) =
        rw (← a.index_is, ← a.top, ← a.mark) (window g limits kind a.to a.got i l (omega (arith, a.steps)) side a.phase) in
        then g limits kind (omega arith) a b

    arrive_next : Walk 1 s i (sub_in s i) (Reads s side 0 0) → s.steps + 1 < step_limit → 2 ≤ g.width → next_of g.width (sub_in s i) ≡ j
        → Missed g side s.top (s.first (sub_in s i)) → Arrives
    arrive_next a time w x h =
        let h' : Missed g side a.to.top (a.to.first (sub_in a.to i)) = rw (a.top, a.first, a.index_is) h in
        let x' : next_of g.width (sub_in a.to i) ≡ j = rw a.index_is x in
        let sum : ℕ = sum_after a.to i 0 in
        let b : Walk 1 a.to i j (Reads s side 1 sum) =
        rw (← x', ← a.top, ← a.mark) (miss g limits kind a.to a.got i l (omega (arith, a.steps)) side 0 0 (still_reads g limits kind a) h' (omega arith)) in
        (1, sum, then g limits kind (omega arith) a b)

    pub arrive : Got g limits kind s → s.steps + 1 < step_limit → Comes g side s i j → Arrives
    arrive got time (there z x) =
        (0, 0, slower g limits kind (omega arith) (to_read (subst (λ (y : ℕ). Walk 0 s i y (Window side)) x (begin g limits kind s got i l (omega arith) side z)) (omega arith)))
    arrive got time (before z x w h) = arrive_next (to_read (begin g limits kind s got i l (omega arith) side z) (omega arith)) time w x h
    arrive got time (begun e x) = (0, 0, slower g limits kind (omega arith) (to_read (stay g limits kind got e x) (omega arith)))

    -- ---- to the commit
    to_check : Arrives → s.steps + 2 < step_limit → Hit g side s.top (s.first j)
        → Walk 3 s i j (Check side (record { 0 = s.mark }) (record { 0 = s.second j }))
    to_check (scan, sum, a) time h =
        let h' : Hit g side a.to.top (a.to.first (sub_in a.to i)) = rw (a.top, a.first, a.index_is) h in
        let seen : a.to.second (sub_in a.to i) ≡ s.second j = rw (a.index_is, a.second) refl in
        let b : Walk 1 a.to i j (Check side (record { 0 = s.mark }) (record { 0 = s.second j })) =
        rw (← seen, ← a.mark, ← a.index_is) (hit g limits kind a.to a.got i l (omega (arith, a.steps)) side scan sum (still_reads g limits kind a) h') in
        then g limits kind (omega arith) a b

    to_commit : Walk 3 s i j (Check side (record { 0 = s.mark }) (record { 0 = s.second j })) → s.steps + 3 < step_limit
        → Walk 4 s i j (StackCommit side (record { 0 = s.second j }))
    to_commit a time =
        let e : phase_in g a.to i ≡ Check side (record { 0 = a.to.mark }) (record { 0 = s.second j }) = rw a.mark a.phase in
        then g limits kind (omega arith) a
        (subst (λ (y : ℕ). Walk 1 a.to i y (StackCommit side (record { 0 = s.second j }))) a.index_is
        (check g limits kind a.to a.got i l (omega (arith, a.steps)) side (record { 0 = s.second j }) e))

    pub comes_to_commit : Got g limits kind s → s.steps + 3 < step_limit → Comes g side s i j → Hit g side s.top (s.first j)
        → Walk 4 s i j (StackCommit side (record { 0 = s.second j }))
    comes_to_commit got time c h = to_commit (to_check (arrive got (omega arith) c) (omega arith) h) time

  -- ---- past every sub, from sub 0 on, by a put that finds each of them full
  module _ (i : ℕ) (l : i < g.workers) where
    abbrev pub Passed : ℕ → State → Type 0
    Passed n s = (sum : ℕ) × Walk n s i 0 (StackShift Putting (record { 0 = s.mark }) 0 sum)

    pass_on : (n m : ℕ) (s : State) (x : ℕ) (p : Phase) → suc n ≤ m → (a : Walk 1 s i x p) → Passed n a.to → Passed m s
    pass_on n m s x p u a b =
        let c : Walk n a.to i 0 (StackShift Putting (record { 0 = s.mark }) 0 b.0) = rw (← a.mark) b.1 in
        (b.0, then g limits kind (omega arith) a c)

    pass_from : (rest scan sum : ℕ) (s : State) → Got g limits kind s → scan + suc rest ≡ g.width → s.steps + suc rest ≤ step_limit
        → phase_in g s i ≡ Reads s Putting scan sum → sub_in s i ≡ scan → ((j : ℕ) → j < g.width → s.top ≤ s.first j) → Passed (suc rest) s
    pass_from zero scan sum s got w time e x full = (
      sum_after s i sum,
      subst (λ (y : ℕ). Walk 1 s i y (StackShift Putting (record { 0 = s.mark }) 0 (sum_after s i sum))) (ap (next_of g.width) x ∙ next_around g scan (omega arith))
          (miss_last g limits kind s got i l (omega arith) Putting scan sum e (full (sub_in s i) (omega arith)) (omega arith)),
    )
    pass_from (suc rest) scan sum s got w time e x full =
        let a = miss g limits kind s got i l (omega arith) Putting scan sum e (full (sub_in s i) (omega arith)) (omega arith) in
        pass_on (suc rest) (suc (suc rest)) s (next_of g.width (sub_in s i)) _ (omega arith) a
        (pass_from rest (suc scan) (sum_after s i sum) a.to a.got (omega arith) (omega (arith, a.steps)) (still_reads g limits kind a)
        (a.index_is ∙ ap (next_of g.width) x ∙ next_up g scan (omega arith)) (λ j u. rw (a.first, a.top) (full j u)))

    pub passes : (s : State) → Got g limits kind s → s.steps + 17 ≤ step_limit → phase_in g s i ≡ Window Putting → sub_in s i ≡ 0
        → ((j : ℕ) → j < g.width → s.top ≤ s.first j) → Passed 17 s
    passes s got time e x full =
        let a = window g limits kind s got i l (omega arith) Putting e in
        pass_on (suc (g.width - 1)) 17 s (sub_in s i) _ (omega (arith, bounds.width16, bounds.width1)) a
        (pass_from (g.width - 1) 0 0 a.to a.got (omega (arith, bounds.width1)) (omega (arith, a.steps, bounds.width16, bounds.width1))
        (still_reads g limits kind a) (a.index_is ∙ x) (λ j u. rw (a.first, a.top) (full j u)))
