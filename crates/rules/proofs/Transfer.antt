-- From a kind's law of one step to the words: every call keeps the machine's invariant, with the specification's list, and the words follow the machine
-- from make on. So the run over the words is one of the machine's, which has its order (Course).
use mathlib.Core.Path.{◌≡◌, refl, sym, ap, ◌∙◌, subst}
use mathlib.Core.Bool.{true}
use mathlib.Core.List.{List, [], ◌∷◌}
use Prim.Native.Nat.{ℕ, ◌≤◌}
use native.Mathlib.Omega.{arith}
use Rattle.rules.specs.Answers.{number_of}
use Rattle.rules.specs.Limits.{settings_fit}
use Rattle.rules.specs.Held.{is_spacer}
use Rattle.rules.specs.Fit.{Fit, checked_of}
use Rattle.rules.specs.Make.{make_of}
use Rattle.rules.specs.Measures.{Measures}
use Rattle.rules.specs.Sequential.{Contents, no_items, bound_by}
use Rattle.rules.specs.Run.{Call, call_of, measures_at}
use Rattle.rules.specs.Consequences.{words_after}
use Rattle.rules.specs.Newer.{exact_rows}
use Rattle.rules.specs.Spacers.{NoSpacer}
use Rattle.rules.proofs.Types.{Settings, Answered}
use Rattle.rules.proofs.counts.Held.{count_none}
use Rattle.rules.proofs.order.Law.{Next, Status, idle, pending, tried, AllSame, refused, passes, opened, walks, tries, stays, loses, ends, wins, Others}
use Rattle.rules.proofs.order.NoSpacers.{NoSpacerUnderWay, NoSpacers as NoSpacersOf, no_spacers_next, begun_no_spacer, no_spacer_joins}
use Rattle.rules.proofs.Fitness.{settings_bounds}
use Rattle.rules.proofs.machine.Machine.{State, next_in, made_in}
use Rattle.rules.proofs.machine.Phases.{status_of, idle_phase}
use Rattle.rules.proofs.machine.Turns.{Common, Kind, Turned, status_in, turn}
use Rattle.rules.proofs.machine.Does.{sized_in, common_next, common_made}
use Rattle.rules.proofs.order.Given.{Changed, unchanged_by, gives_changed}
use Rattle.rules.proofs.words.Says.{Says}
use Rattle.rules.proofs.words.Told.{measures_same}
use Rattle.rules.proofs.words.Fit.{checked_fit}
use Rattle.rules.proofs.words.Follows.{Follows, follows}
use Rattle.rules.proofs.words.Made.{Accepted, made_says}

module _ (g : Settings) (limits : settings_fit g ≡ true) (k : Kind g) where
  width1 : 1 ≤ g.width
  width1 = (settings_bounds g limits).width1

  -- ---- the machine
  -- what is common to both kinds, and the kind's invariant
  pub record Whole (s : State) (q : Contents) : Type 0 where
    pub common : Common g s
    pub inv : k.Inv s q

  abbrev After : State → Contents → Call → Next State → Type 0
  After s q c o = Turned g Whole k.Snap s q c o

  -- with what is common added to a kind's law
  rest : {s t : State} {i : ℕ} → Others g (next_in g) (status_in g) k.Inv k.Snap s i t → Others g (next_in g) (status_in g) Whole k.Snap s i t
  rest w = record { same = w.same; kept = w.kept }

  all_rest : {s t : State} → AllSame g (next_in g) (status_in g) k.Inv k.Snap s t → AllSame g (next_in g) (status_in g) Whole k.Snap s t
  all_rest w = record { same = w.same; kept = w.kept }

  whole : {s : State} {q : Contents} → Common g s → k.Inv s q → Whole s q
  whole common inv = record { common = common; inv = inv }

  with_common : {s : State} {q : Contents} {c : Call} {o : Next State} → Common g o.state → Turned g k.Inv k.Snap s q c o → After s q c o
  with_common m (refused n e) = refused n e
  with_common m (passes no_step n same h) = passes no_step n (all_rest same) (whole m h)
  with_common m (opened i op u n a b w h) = opened i op u n a b (rest w) (whole m h)
  with_common m (walks i op u n a b w h) = walks i op u n a b (rest w) (whole m h)
  with_common m (tries i op u n a b w h z) = tries i op u n a b (rest w) (whole m h) z
  with_common m (stays i op u n a b w h z) = stays i op u n a b (rest w) (whole m h) z
  with_common m (loses i op u n a b w h) = loses i op u n a b (rest w) (whole m h)
  with_common m (ends i op u n a b w q' give h) = ends i op u n a b (rest w) q' give (whole m h)
  with_common m (wins i op u n l a b w h z) = wins i op u n l a b (rest w) (whole m h) z

  pub whole_turn : (s : State) (q : Contents) → Whole s q → (c : Call) → After s q c (next_in g s c)
  whole_turn s q h c =
      with_common (common_next g (settings_bounds g limits) s h.common (sized_in g s (λ has. ((k.counts s q h.inv).windows has).fits)) c) (turn g k s q h.common h.inv c)

  -- ---- the list after a call
  -- no spacer is on the list, and none is under way
  abbrev pub NoSpacers : State → Contents → Type 0
  NoSpacers s q = NoSpacersOf g (next_in g) (status_in g) Whole k.Snap s q

  -- what a take may pass over, by what its answer is held to
  abbrev pub bound_in : Measures → ℕ
  bound_in m = bound_by g (exact_rows g) m.size

  pub record Onward (s : State) (q : Contents) (c : Call) (o : Next State) : Type 0 where
    pub list : Contents
    pub whole : Whole o.state list
    pub changed : Changed (bound_in o.measures) g q o.answer list
    pub no_spacers : NoSpacer c → NoSpacers s q → NoSpacers o.state list

  -- worker i's operation goes on, and the list stays
  no_spacers_kept : {s t : State} {q : Contents} (i : ℕ) (x y : Status) → status_in g s i ≡ x → status_in g t i ≡ y → (NoSpacerUnderWay x → NoSpacerUnderWay y)
      → Others g (next_in g) (status_in g) Whole k.Snap s i t → NoSpacers s q → NoSpacers t q
  no_spacers_kept i x y a b on w n = no_spacers_next g (next_in g) (status_in g) Whole k.Snap i x y a b on w n.listed n

  idle_by : {s : State} {q : Contents} {c : Call} {o : Next State} → number_of o.answer ≡ 0 → Whole o.state q
      → (NoSpacer c → NoSpacers s q → NoSpacers o.state q) → Onward s q c o
  idle_by {q = q} {o = o} n h kept =
      record { list = q; whole = h; changed = unchanged_by (bound_in o.measures) g q o.answer (λ e. omega arith) (λ e. omega arith); no_spacers = kept }

  onward_by : (s : State) (q : Contents) (c : Call) → Whole s q → After s q c (next_in g s c) → Onward s q c (next_in g s c)
  onward_by s q c h (refused n e) =
      record {
        list = q;
        whole = rw e h;
        changed = unchanged_by (bound_in (next_in g s c).measures) g q _ (λ u. omega arith) (λ u. omega arith);
        no_spacers = λ ok v. rw e v;
      }
  onward_by s q c h (passes no_step n same h') =
      idle_by n h' (λ ok v. record { listed = v.listed; under_way = λ j. subst NoSpacerUnderWay (sym (same.same j)) (v.under_way j) })
  onward_by s q c h (opened i op u n a b w h') = idle_by n h' (λ ok v. no_spacers_kept i idle (pending op) a b (λ z. begun_no_spacer c i op u ok) w v)
  onward_by s q c h (walks i op u n a b w h') = idle_by n h' (λ ok v. no_spacers_kept i (pending op) (pending op) a b (λ z. z) w v)
  onward_by s q c h (tries i op u n a b w h' z) = idle_by n h' (λ ok v. no_spacers_kept i (pending op) (tried op) a b (λ y. y) w v)
  onward_by s q c h (stays i op u n a b w h' z) = idle_by n h' (λ ok v. no_spacers_kept i (tried op) (tried op) a b (λ y. y) w v)
  onward_by s q c h (loses i op u n a b w h') = idle_by n h' (λ ok v. no_spacers_kept i (tried op) (pending op) a b (λ z. z) w v)
  onward_by s q c h (ends i op u n a b w q' give h') =
      record {
        list = q';
        whole = h';
        changed = gives_changed (exact_rows g) g q _ _ q' op give;
        no_spacers = λ ok v. no_spacers_next g (next_in g) (status_in g) Whole k.Snap i (pending op) idle a b (λ z. tt) w (no_spacer_joins g q (next_in g s c).answer (next_in g s c).measures q' op (rw a at (v.under_way i)) give v.listed) v;
      }
  onward_by s q c h (wins i op u n l a b w h' z) =
      record {
        list = q;
        whole = h';
        changed = unchanged_by (bound_in (next_in g s c).measures) g q _ (λ e. omega arith) (λ e. omega arith);
        no_spacers = λ ok v. no_spacers_kept i (tried op) idle a b (λ y. tt) w v;
      }

  pub onward : (s : State) (q : Contents) → Whole s q → (c : Call) → Onward s q c (next_in g s c)
  onward s q h c = onward_by s q c h (whole_turn s q h c)

  pub made_whole : Whole (made_in g) no_items
  made_whole = record { common = common_made g width1; inv = k.at_first }

  pub made_idle : (i : ℕ) → status_in g (made_in g) i ≡ idle
  unfolding made_in
  made_idle i = ap (status_of 0) (idle_phase g _ refl)

  pub made_no_spacers : NoSpacers (made_in g) no_items
  made_no_spacers = record { listed = count_none is_spacer; under_way = λ i. rw (made_idle i) tt }

  -- ---- the words
  pub record Related (ws : List ℕ) (s : State) : Type 0 where
    pub says : Says g ws s
    pub list : Contents
    pub whole : Whole s list

  -- so the pool is fit
  pub related_fit : {ws : List ℕ} {s : State} → Related ws s → checked_of g.edition ws ≡ Fit g
  related_fit {ws} {s} r = checked_fit g limits (settings_bounds g limits).kind1 ws s r.says r.whole.common (λ has. ((k.counts s r.list r.whole.inv).windows has).fits)
      (k.counts s r.list r.whole.inv).sub

  -- the words after a call, with the list after it
  pub record NextRelated (ws : List ℕ) (s : State) (q : Contents) (c : Call) : Type 0 where
    pub answer : (call_of g.edition ws c).answer ≡ (next_in g s c).answer
    pub measures : measures_at ws c (call_of g.edition ws c).answer ≡ (next_in g s c).measures
    pub related : Related (call_of g.edition ws c).words (next_in g s c).state
    pub changed : Changed (bound_in (measures_at ws c (call_of g.edition ws c).answer)) g q (call_of g.edition ws c).answer related.list
    pub no_spacers : NoSpacer c → NoSpacers s q → NoSpacers (next_in g s c).state related.list

  pub next_related : {ws : List ℕ} {s : State} (r : Related ws s) (c : Call) → NextRelated ws s r.list c
  next_related {ws} {s} r c =
      let h = r.whole in
      let f : Follows g (call_of g.edition ws c) (next_in g s c) = follows g limits ws s r.says h.common (k.counts s r.list h.inv) c in
      let n = onward s r.list h c in
      let told : measures_at ws c (call_of g.edition ws c).answer ≡ (next_in g s c).measures =
      ap (measures_at ws c) f.answer ∙ measures_same g s ws r.says (λ has. ((k.counts s r.list h.inv).windows has).fits) c in
      record {
        answer = f.answer;
        measures = told;
        related = record { says = f.says; list = n.list; whole = n.whole };
        changed =
            subst (λ (m : Measures). Changed (bound_in m) g r.list (call_of g.edition ws c).answer n.list) (sym told)
            (subst (λ (a : Answered). Changed (bound_in (next_in g s c).measures) g r.list a n.list) (sym f.answer) n.changed);
        no_spacers = n.no_spacers;
      }

  -- the words after a list of calls
  pub record AfterCalls (ws : List ℕ) : Type 0 where
    pub state : State
    pub related : Related ws state

  pub related_after : {ws : List ℕ} {s : State} → Related ws s → (cs : List Call) → AfterCalls (words_after g.edition ws cs)
  unfolding words_after
  related_after {s = s} r [] = record { state = s; related = r }
  related_after {ws = ws} r (c ∷ cs) = related_after {ws = (call_of g.edition ws c).words} (next_related r c).related cs

  unfoldable pub made_related : (ws : List ℕ) → Accepted ws g → Related (make_of ws g).words (made_in g)
  made_related ws a =
      record { says = rw a.words (made_says ws g a.enough); list = no_items; whole = made_whole }
