-- What is true of a queue from make at any time, for the exact figure:
--
--   lead      some worker owes no more than an operation that it has just begun (Lead), where a take that starts low has 2w left
--   second    the same with w + 1, which is enough where the take window's next move finds an item; or a put is under way
--   stocked   where the take window is below the put window, it finds one; or a put is under way (Stocked)
use mathlib.Core.Path.{◌≡◌, refl, sym, ◌∙◌}
use mathlib.Core.Logic.{◌⊎◌, inl, inr}
use mathlib.Core.Bool.{true}
use mathlib.Core.List.{List, [], ◌∷◌}
use Prim.Native.Nat.{ℕ, ◌+◌, ◌*◌, ◌<◌}
use native.Mathlib.Decide.{dec_lt}
use native.Mathlib.Nat.{le_refl}
use native.Mathlib.Omega.{arith}
use Rattle.rules.specs.Limits.{settings_fit}
use Rattle.rules.specs.Make.{make_of, in_edition}
use Rattle.rules.specs.Sequential.{Contents}
use Rattle.rules.specs.Run.{Call, call_of}
use Rattle.rules.specs.Consequences.{words_after}
use Rattle.stretch.proofs.Types.{Settings, Idle}
use Rattle.rules.proofs.machine.Machine.{State, phase_in, with_size, next_in, made_in}
use Rattle.rules.proofs.machine.Phases.{idle_phase}
use Rattle.rules.proofs.machine.Good.{Good, good}
use Rattle.rules.proofs.machine.Turns.{Common}
use Rattle.rules.proofs.queue.Inv.{Inv}
use Rattle.rules.proofs.words.Made.{Accepted}
use Rattle.rules.proofs.Transfer.{Related, next_related, made_related}
use Rattle.rules.proofs.BothKinds.{kind_of, inv_of}
use Rattle.rules.proofs.Course.{At, settings_at, HoldsAt, Kept, made_at}
use Rattle.rules.proofs.machine.Moved.{moved_in}
use Rattle.rules.proofs.progress.QueueResult.{Filled}
use Rattle.solo.proofs.Law.{twice}
use Rattle.stretch.proofs.Acts.{Acts, acts}
use Rattle.stretch.proofs.Over.{SamePhases, put_over, owes_over}
use Rattle.stretch.proofs.Stocked.{PutOpen, put_open_begins, put_open_goes, Stocked, stocked_next, ready_filled}
use Rattle.stretch.proofs.Lead.{Lead, idle_leads, lead_next}

pub record Past (g : Settings) (s : State) : Type 0 where
  pub lead : Lead g (2 * g.width) s
  pub second : Lead g (g.width + 1) s ⊎ PutOpen g s
  pub stocked : Stocked g s

module _ (g : Settings) (good : Good g) (kind : g.kind ≡ 0) where
  pub once : g.width < g.width + 1
  once = omega arith

  past_made : Past g (made_in g)
  unfolding made_in
  past_made =
      let idle : phase_in g (made_in g) 0 ≡ Idle = idle_phase g ((made_in g).slot 0) refl in
      record {
        lead = idle_leads g good (2 * g.width) (twice g good kind) (made_in g) 0 good.bounds.workers1 idle;
        second = inl (idle_leads g good (g.width + 1) once (made_in g) 0 good.bounds.workers1 idle);
        stocked = λ l. absurd (omega arith);
      }

  -- ---- after a call
  module _ (s : State) (q : Contents) (common : Common g s) (inv : Inv g s q) (past : Past g s) (c : Call) where
    abbrev t : State
    t = (next_in g s c).state

    abbrev Second : Type 0
    Second = Lead g (g.width + 1) t ⊎ PutOpen g t

    open_next : PutOpen g s → Acts g s c (next_in g s c) → Second
    open_next x (Acts.same e) = inr (rw e x)
    open_next x (Acts.begins i side v l e z u) = inr (rw u (put_open_begins g s i side v e x))
    open_next x (Acts.sizes size z u) = inr (rw u (put_open_goes g s (with_size s size) (λ j. refl) x))
    open_next x (Acts.goes i l m keeps) = inr (put_open_goes g s t keeps x)
    open_next x (Acts.answers i w l f e keeps m) = inl (idle_leads g good (g.width + 1) once t i l e)

    lead_small : Lead g (g.width + 1) s → Second
    lead_small x = elim (dec_lt s.frame.head s.frame.tail) [
      | yes l ↦ by (past.stocked l)
      | no l ↦ inl (lead_next g good (g.width + 1) once kind s q common inv (λ b. absurd (l b)) x c)
    ]
      where
        by : Filled s ⊎ PutOpen g s → Second
        by (inl y) = inl (lead_next g good (g.width + 1) once kind s q common inv (ready_filled g s q inv y) x c)
        by (inr y) = open_next y (acts g good kind s q common inv c)

    second_next : Lead g (g.width + 1) s ⊎ PutOpen g s → Second
    second_next (inl x) = lead_small x
    second_next (inr x) = open_next x (acts g good kind s q common inv c)

    past_next : Past g t
    past_next =
        record {
          lead = lead_next g good (2 * g.width) (twice g good kind) kind s q common inv (λ l. inl (le_refl _)) past.lead c;
          second = second_next past.second;
          stocked = stocked_next g s past.stocked (acts g good kind s q common inv c);
        }

-- ---- after a move
module _ (g : Settings) (b : ℕ) (s : State) (same : SamePhases g b s) where
  abbrev h : Settings
  h = in_edition b g

  abbrev moved : State
  moved = moved_in g h s

  lead_over : (L : ℕ) → Lead g L s → Lead h L moved
  lead_over L x =
      record {
        who = x.who;
        among = x.among;
        debt = x.debt;
        small = x.small;
        put_small = λ one. x.put_small (sym (put_over g b s same x.who) ∙ one);
        owes = owes_over g b s same L x.debt x.who x.owes;
      }

  open_over : PutOpen g s → PutOpen h moved
  open_over x = record { who = x.who; among = x.among; putting = put_over g b s same x.who ∙ x.putting }

  pub past_over : Past g s → Past h moved
  past_over x = record { lead = lead_over (2 * g.width) x.lead; second = second x.second; stocked = λ l. stocked (x.stocked l) }
    where
      second : Lead g (g.width + 1) s ⊎ PutOpen g s → Lead h (g.width + 1) moved ⊎ PutOpen h moved
      second (inl y) = inl (lead_over (g.width + 1) y)
      second (inr y) = inr (open_over y)

      stocked : Filled s ⊎ PutOpen g s → Filled moved ⊎ PutOpen h moved
      stocked (inl y) = inl y
      stocked (inr y) = inr (open_over y)

-- ---- along any course of a new queue
module _ (g : Settings) (kind : g.kind ≡ 0) where
  abbrev pub good_at : (x : At g) → Good (settings_at g x)
  good_at x = good (settings_at g x) x.limits

  pub inv_at : (x : At g) (q : Contents) → HoldsAt g x q → Inv (settings_at g x) x.state q
  inv_at x q h = inv_of (settings_at g x) x.limits kind x.state q h.inv

  abbrev pub PastAt : At g → Type 0
  PastAt x = Past (settings_at g x) x.state

  pub past_kept : Kept g PastAt
  past_kept =
      record {
        called = λ x q h past c. past_next (settings_at g x) (good_at x) kind x.state q h.common (inv_at x q h) past c;
        carried = λ x q h past b fits m. past_over (settings_at g x) b x.state m.phase past;
      }

  pub past_first : (limits : settings_fit g ≡ true) → PastAt (made_at g limits)
  past_first limits = past_made g (good g limits) kind

  -- ---- where a queue lies: words that a new one comes to
  pub record Reached (limits : settings_fit g ≡ true) (ws : List ℕ) : Type 0 where
    pub state : State
    pub related : Related g limits (kind_of g limits) ws state
    pub past : Past g state

  pub reached : (limits : settings_fit g ≡ true) (ws : List ℕ) → Accepted ws g → (cs : List Call) → Reached limits (words_after g.edition (make_of ws g).words cs)
  unfolding words_after
  reached limits ws a cs = go (record { state = made_in g; related = made_related g limits (kind_of g limits) ws a; past = past_first limits }) cs
    where
      go : {ws : List ℕ} → Reached limits ws → (cs : List Call) → Reached limits (words_after g.edition ws cs)
      go r [] = r
      go {ws = now} r (c ∷ cs) =
          let k = r.related in
          go {ws = (call_of g.edition now c).words} (record {
            state = (next_in g r.state c).state;
            related = (next_related g limits (kind_of g limits) k c).related;
            past = past_next g (good g limits) kind r.state k.list k.whole.common (inv_of g limits kind r.state k.list k.whole.inv) r.past c;
          }) cs
