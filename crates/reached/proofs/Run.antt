-- The run so far: a state of the abstract machine together with a list of calls that leads to it from make. It has the stack's
-- invariant, so every test of a rule can be told, and no sum wraps. No call puts a spacer, so all that a take passes over is reported.
use mathlib.Core.Path.{◌≡◌, refl, ap, ◌∙◌, subst}
use mathlib.Core.Bool.{true}
use mathlib.Core.List.{List, [], ◌∷◌, ◌++◌}
use Prim.Native.Nat.{ℕ, ◌<◌}
use native.Mathlib.Nat.{mod-eq_of_lt}
use Rattle.rules.specs.Limits.{settings_fit}
use Rattle.rules.specs.Sequential.{Contents}
use Rattle.rules.specs.Run.{Call}
use Rattle.rules.specs.Spacers.{NoSpacer}
use Rattle.reached.proofs.Types.{Settings}
use Rattle.rules.proofs.order.Law.{Next}
use Rattle.rules.proofs.machine.Machine.{State, sub_in, next_in, made_in}
use Rattle.rules.proofs.machine.Good.{good}
use Rattle.rules.proofs.machine.Turns.{Common}
use Rattle.rules.proofs.stack.Inv.{Inv}
use Rattle.rules.proofs.stack.Turn.{stack_kind}
use Rattle.rules.proofs.Transfer.{NoSpacers, onward, made_whole, made_no_spacers}

-- the state after a list of calls
unfoldable pub after : Settings → State → List Call → State
after g s [] = s
after g s (c ∷ cs) = after g (next_in g s c).state cs

after_more : (g : Settings) (s : State) (cs : List Call) (c : Call) → after g s (cs ++ (c ∷ [])) ≡ (next_in g (after g s cs) c).state
unfolding after
after_more g s [] c = refl
after_more g s (x ∷ cs) c = after_more g (next_in g s x).state cs c

-- a new stack: its window is d, every sub is bare, and each worker rests at the sub of its number
pub record New (g : Settings) : Type 0 where
  pub steps : (made_in g).steps ≡ 0
  pub top : (made_in g).top ≡ g.depth
  pub bare : (j : ℕ) → (made_in g).first j ≡ 0
  pub rests : (i : ℕ) → ((made_in g).slot i).number ≡ 0
  pub index_is : (i : ℕ) → i < g.width → sub_in (made_in g) i ≡ i

pub new : (g : Settings) → New g
unfolding made_in
new g = record { steps = refl; top = refl; bare = λ j. refl; rests = λ i. refl; index_is = λ i l. mod-eq_of_lt l }

module _ (g : Settings) (limits : settings_fit g ≡ true) (kind : g.kind ≡ 1) where
  pub record Live (s : State) : Type 0 where
    pub list : Contents
    pub common : Common g s
    pub inv : Inv g s list
    pub no_spacers : NoSpacers g limits (stack_kind g (good g limits) kind) s list

  pub record Got (s : State) : Type 0 where
    pub calls : List Call
    pub ends : after g (made_in g) calls ≡ s
    pub live : Live s

  pub got_made : Got (made_in g)
  unfolding after stack_kind
  got_made =
      let h = made_whole g limits (stack_kind g (good g limits) kind) in
      record { calls = []; ends = refl; live = record { list = _; common = h.common; inv = h.inv; no_spacers = made_no_spacers g limits (stack_kind g (good g limits) kind) } }

  live_next : (s : State) (c : Call) → NoSpacer c → Live s → Live (next_in g s c).state
  unfolding stack_kind
  live_next s c plain l =
      let n = onward g limits (stack_kind g (good g limits) kind) s l.list (record { common = l.common; inv = l.inv }) c in
      record { list = n.list; common = n.whole.common; inv = n.whole.inv; no_spacers = n.no_spacers plain l.no_spacers }

  -- one call more
  pub got_call : {s : State} → Got s → (c : Call) → NoSpacer c → (n : Next State) → next_in g s c ≡ n → Got n.state
  got_call {s} got c plain n e =
      let u : (next_in g s c).state ≡ n.state = ap (λ (o : Next State). o.state) e in
      record {
        calls = got.calls ++ (c ∷ []);
        ends = after_more g (made_in g) got.calls c ∙ ap (λ (x : State). (next_in g x c).state) got.ends ∙ u;
        live = subst Live u (live_next s c plain got.live);
      }
