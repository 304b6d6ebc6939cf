-- Two pools whose settings differ in stride and edition alone, and whose words read alike: the shared words, the subs, the workers' words and the
-- cells of either are the same, each at its place. Then whatever is read of them is the same: what a worker sees, the items held, the fitness, what an
-- answer is held to. The rules ask for the stride only where a commit failed, and of the edition only whether its windows have sizes of their own: so
-- either both editions have such windows, and then all the words behind the head are the same, or neither has.
use Prim.Native.Nat.{ℕ, zero, suc, ◌+◌, ◌-◌, ◌*◌, ◌≤◌, ◌<◌}
use mathlib.Core.Path.{◌≡◌, refl, sym, ap, ◌∙◌}
use mathlib.Core.Bool.{Bool, true, false}
use mathlib.Core.List.{List, [], ◌∷◌}
use native.Mathlib.Omega.{arith}
use lib.ListN.{get_or, length}
use lib.Dec.{leb, ltb, eqb}
use Rattle.laws.specs.Choice.{cond, both, all, cond_both, cond_under, both_true, all_below, all_below_none, all_below_same}
use Rattle.rules.specs.Layout.{head_words, kind_at, width_at, depth_at, shift_at, rows_at, worker_count_at, stride_at, edition_at, settings_of, puts_at, top_at, mark_at, first_of, second_of, sub_at, second_at, worker_words, worker_at, index_at, index_word, next_width_at, next_depth_at, set_at, live_at, pair_at, windows_at, windows_words, needed}
use Rattle.rules.specs.Limits.{windowed, most_live, size_fit}
use Rattle.rules.specs.Windows.{has_windows, next_size, live_of, nth_size, sizes_in, sizes_of, bottom_of, higher, lower, level_of}
use Rattle.rules.specs.Worker.{slot_at, seen_by, queue_phase, phase_of, decode, encode_phase, encode}
use Rattle.rules.specs.Fit.{Checked, Unfit, Fit, sub_fit, subs_fit, seen_fit, worker_fit, workers_fit, no_size_fit, pair_fit, sizes_fit, tops_fit, windows_fit, body_fit, body_checked}
use Rattle.rules.specs.Effects.{hop_of, view_of}
use Rattle.rules.specs.Held.{Band, item_at, band_count, band_of, window_band, sub_band, band_between, items_above, held_bands, held_sub, held_below, count_items, reported, distance_of}
use Rattle.rules.specs.Window.{window_rule}
use Rattle.rules.specs.Read.{miss_of, queue_put_read, queue_take_read, stack_read}
use Rattle.rules.specs.Check.{check_rule}
use Rattle.rules.specs.Commit.{commit_by, queue_put_commit, queue_take_commit, queue_commit, stack_commit}
use Rattle.rules.specs.Shift.{shift_by, queue_shift, stack_shift}
use Rattle.rules.specs.Confirm.{confirmed_of, confirm_by, queue_confirm, stack_confirm}
use Rattle.rules.specs.Apply.{taken_of}
use Rattle.rules.specs.Step.{rule_by}
use Rattle.rules.specs.Measures.{measured, seen_size, places_after, places_of, measures_of}
use Rattle.rules.specs.Run.{Call, begin_put, begin_take, step, set_size, measures_at}
use Rattle.rules.specs.Make.{in_edition, with_stride}
use Rattle.rules.specs.declared.Answer.TheVariants.{Taken}
use Rattle.strides.proofs.Types.{Settings, Size, Sizes, Putting, Taking, Phase, Idle, Window, QueuePutRead, QueueTakeRead, StackRead, Check, QueueCommit, StackCommit, QueueShift, StackShift, QueueConfirm, StackConfirm, Slot, Worker, View, Row, Answered}
use Rattle.rules.proofs.Workers.{words_two, windows_none, windows_some, windowed_is, windowed_not, Read, read_low}
use Rattle.rules.proofs.words.Writes.{slot_same}
use Rattle.std.specs.Prelude.{Ok}

-- settings by their words
pub settings_alike : (ws vs : List ℕ) (y e : ℕ)
    → ((m : ℕ) → m < stride_at → get_or vs m 0 ≡ get_or ws m 0) → get_or vs stride_at 0 ≡ y → get_or vs edition_at 0 ≡ e
    → settings_of vs ≡ in_edition e (with_stride (settings_of ws) y)
settings_alike ws vs y e low stride edition =
    λ u. record {
      kind = low kind_at (omega arith) u;
      width = low width_at (omega arith) u;
      depth = low depth_at (omega arith) u;
      shift = low shift_at (omega arith) u;
      rows = low rows_at (omega arith) u;
      workers = low worker_count_at (omega arith) u;
      stride = stride u;
      edition = edition u;
    }

module _ (g : Settings) (y e : ℕ) where
  abbrev h : Settings
  h = in_edition e (with_stride g y)

  -- what is checked of the one, of the other
  abbrev pub in_other : Checked → Checked
  in_other (Unfit n) = Unfit n
  in_other (Fit f) = Fit h

  -- ---- the rules
  module _ (sized : windowed h ≡ windowed g) where
    level_same : (last bottom : ℕ) → level_of h last bottom ≡ level_of g last bottom
    unfolding level_of
    level_same last bottom = rw sized refl

    phase_same : (phase : Phase) (v x : ℕ) (o : Slot) → encode_phase h phase v x o ≡ encode_phase g phase v x o
    unfolding encode_phase
    phase_same Idle v x o = refl
    phase_same (Window side) v x o = refl
    phase_same (QueuePutRead window scan) v x o = rw sized refl
    phase_same (QueueTakeRead window bare scan sum) v x o = rw sized refl
    phase_same (StackRead side window version scan sum) v x o = refl
    phase_same (Check side version seen) v x o = refl
    phase_same (QueueCommit side window seen) v x o = rw sized refl
    phase_same (StackCommit side seen) v x o = refl
    phase_same (QueueShift side window) v x o = rw sized refl
    phase_same (StackShift side version scan sum) v x o = refl
    phase_same (QueueConfirm window scan sum) v x o = rw sized refl
    phase_same (StackConfirm side scan sum) v x o = refl

    encode_same : (k : Worker) (o : Slot) → encode h k o ≡ encode g k o
    unfolding encode
    encode_same k o = phase_same k.phase k.value k.index o

    decode_same : (s : Slot) → decode h s ≡ decode g s
    unfolding phase_of queue_phase seen_by
    decode_same s = rw sized refl

    module _ (hops : (k : ℕ) → hop_of h k ≡ hop_of g k) where
      pub rule_same : (v : View) (phase : Phase) → rule_by h v phase ≡ rule_by g v phase
      unfolding rule_by window_rule miss_of queue_put_read queue_take_read stack_read check_rule commit_by queue_commit queue_put_commit queue_take_commit stack_commit shift_by queue_shift stack_shift confirmed_of confirm_by queue_confirm stack_confirm
      rule_same v Idle = refl
      rule_same v (Window side) = simp encode_same
      rule_same v (QueuePutRead window scan) = simp encode_same
      rule_same v (QueueTakeRead window bare scan sum) = simp (encode_same, level_same)
      rule_same v (StackRead Putting window version scan sum) = simp encode_same
      rule_same v (StackRead Taking window version scan sum) = simp encode_same
      rule_same v (Check side version seen) = simp encode_same
      rule_same v (QueueCommit Putting window seen) = simp (encode_same, level_same, hops)
      rule_same v (QueueCommit Taking window seen) = simp (encode_same, level_same, hops)
      rule_same v (StackCommit Putting seen) = simp (encode_same, hops)
      rule_same v (StackCommit Taking seen) = simp (encode_same, hops)
      rule_same v (QueueShift Putting window) = simp (encode_same, sized)
      rule_same v (QueueShift Taking window) = simp encode_same
      rule_same v (StackShift Putting version scan sum) = simp encode_same
      rule_same v (StackShift Taking version scan sum) = simp encode_same
      rule_same v (QueueConfirm window scan sum) = simp (encode_same, level_same, sized)
      rule_same v (StackConfirm side scan sum) = simp encode_same

  -- ---- the words
  pub record Alike (ws vs : List ℕ) : Type 0 where
    -- editions 0 and 1, or two with windows that have sizes of their own, which have all their words at the same places
    pub sized : windowed h ≡ windowed g
    pub behind : windowed g ≡ true → (m : ℕ) → head_words ≤ m → get_or vs m 0 ≡ get_or ws m 0
    pub puts : get_or vs puts_at 0 ≡ get_or ws puts_at 0
    pub top : get_or vs top_at 0 ≡ get_or ws top_at 0
    pub mark : get_or vs mark_at 0 ≡ get_or ws mark_at 0
    pub first : (j : ℕ) → j < g.width → first_of vs j ≡ first_of ws j
    pub second : (j : ℕ) → j < g.width → second_of vs j ≡ second_of ws j
    pub word : (i k : ℕ) → i < g.workers → Read g.edition k → get_or vs (worker_at h i + k) 0 ≡ get_or ws (worker_at g i + k) 0

  module _ (ws vs : List ℕ) (alike : Alike ws vs) where
    -- ---- the windows
    module _ (w : windowed g ≡ true) where
      places : worker_words e ≡ worker_words g.edition
      places = words_two e (windowed_is h (alike.sized ∙ w)) ∙ sym (words_two g.edition (windowed_is g w))

      next_same : next_size vs h ≡ next_size ws g
      next_same = rw places (λ u. record { width = alike.behind w (next_width_at g) (omega arith) u; depth = alike.behind w (next_depth_at g) (omega arith) u })

      set_same : get_or vs (set_at h) 0 ≡ get_or ws (set_at g) 0
      set_same = rw places (alike.behind w (set_at g) (omega arith))

      live_same : live_of vs h ≡ live_of ws g
      live_same = rw places (alike.behind w (live_at g) (omega arith))

      size_same : (k : ℕ) → nth_size vs h k ≡ nth_size ws g k
      size_same k = rw places (λ u. record { width = alike.behind w (pair_at g k) (omega arith) u; depth = alike.behind w (pair_at g k + 1) (omega arith) u })

      bottom_same : (k : ℕ) → bottom_of vs h k ≡ bottom_of ws g k
      unfolding bottom_of
      bottom_same zero = λ u. alike.mark u - (size_same 0 u).depth
      bottom_same (suc k) = λ u. bottom_same k u + (size_same k u).depth

      lead_same : bottom_of vs h (live_of vs h) ≡ bottom_of ws g (live_of ws g)
      lead_same = ap (bottom_of vs h) live_same ∙ bottom_same (live_of ws g)

      last_same : nth_size vs h (live_of vs h - 1) ≡ nth_size ws g (live_of ws g - 1)
      last_same = ap (λ (n : ℕ). nth_size vs h (n - 1)) live_same ∙ size_same (live_of ws g - 1)

      sizes_in_law : sizes_in vs h ≡ sizes_in ws g
      sizes_in_law = λ u. record { put = last_same u; take = size_same 0 u; after = size_same 1 u; next = next_same u; live = live_same u }

      -- of any worker
      slot_any : (i : ℕ) → slot_at h vs (worker_at h i) ≡ slot_at g ws (worker_at g i)
      slot_any i = slot_same g h ws vs (worker_at g i) (worker_at h i) alike.sized (λ k r. rw places (alike.behind w (worker_at g i + k) (omega arith)))

    windowed_in : has_windows g ≡ true → windowed g ≡ true
    windowed_in has = (both_true (windowed g) _ has).0

    sizes_same : sizes_of vs h ≡ sizes_of ws g
    unfolding sizes_of
    sizes_same = rw alike.sized (cond_both (λ (a b : Sizes). a ≡ b) (has_windows g) (λ has. sizes_in_law (windowed_in has)) (λ none. refl))

    -- ---- a worker
    pub slots_same : (i : ℕ) → i < g.workers → slot_at h vs (worker_at h i) ≡ slot_at g ws (worker_at g i)
    slots_same i l = slot_same g h ws vs (worker_at g i) (worker_at h i) alike.sized (λ k r. alike.word i k l r)

    pub view_same : (i : ℕ) → i < g.workers → get_or ws (index_at (worker_at g i)) 0 < g.width → view_of vs h (worker_at h i) ≡ view_of ws g (worker_at g i)
    unfolding view_of
    view_same i l low =
        let index = alike.word i index_word l (read_low g.edition index_word (omega arith)) in
        let first = ap (λ (x : ℕ). get_or vs (sub_at x) 0) index ∙ alike.first _ low in
        let second = ap (λ (x : ℕ). get_or vs (second_at x) 0) index ∙ alike.second _ low in
        let worker = decode_same alike.sized (slot_at h vs (worker_at h i)) ∙ ap (decode g) (slots_same i l) in
        λ u. record {
          top = alike.top u;
          mark = alike.mark u;
          sizes = sizes_same u;
          puts = alike.puts u;
          first = first u;
          second = second u;
          worker = worker u;
          kept = slots_same i l u;
        }

    -- ---- the items held
    band_count_law : band_count vs h ≡ band_count ws g
    unfolding band_count
    band_count_law = rw alike.sized (cond_both (λ (a b : ℕ). a ≡ b) (has_windows g) (λ has. live_same (windowed_in has)) (λ none. refl))

    band_same : (j k : ℕ) → j < g.width → band_of vs h j k ≡ band_of ws g j k
    unfolding band_of
    band_same j k l =
        rw alike.sized
        (cond_both (λ (a b : Band). a ≡ b) (has_windows g) (λ has. window_band_law (windowed_in has)) (λ none u. sub_band g (alike.first j l u) (alike.second j l u)))
      where
        window_band_law : windowed g ≡ true → window_band vs h j k ≡ window_band ws g j k
        window_band_law w =
            λ u. cond (ltb j (size_same w k u).width)
            (band_between (higher (alike.second j l u) (bottom_same w k u)) (lower (alike.first j l u) (bottom_same w (suc k) u))) (band_between 0 0)

    module _ (item : (j r : ℕ) → j < g.width → item_at vs h j r ≡ item_at ws g j r) where
      items_same : (j t k : ℕ) → j < g.width → items_above vs h j t k ≡ items_above ws g j t k
      unfolding items_above
      items_same j t zero l = refl
      items_same j t (suc k) l = rw (items_same j t k l, item j (t + k + 1) l) refl

      bands_same : (j m : ℕ) → j < g.width → held_bands vs h j m ≡ held_bands ws g j m
      unfolding held_bands
      bands_same j zero l = refl
      bands_same j (suc m) l = rw (bands_same j m l, band_same j m l, items_same j (band_of ws g j m).below (band_of ws g j m).rows l) refl

      pub held_same : (m : ℕ) → m ≤ g.width → held_below vs h m ≡ held_below ws g m
      unfolding held_below held_sub
      held_same zero l = refl
      held_same (suc m) l = rw (held_same m (omega arith), band_count_law, bands_same m (band_count ws g) l) refl

      pub taken_same : (j : ℕ) (row : Row) → j < g.width → taken_of vs h j row ≡ taken_of ws g j row
      unfolding taken_of distance_of
      taken_same j row l =
          let it = item j row.0 l in
          λ u. Ok (Taken (it u).value j row (record { 0 = (it u).stamp }) (count_items (reported g.kind (it u).stamp) (held_same g.width (omega arith) u)))

    -- ---- the fitness
    level_bottom : (last : ℕ) → level_of h last (bottom_of vs h 0) ≡ level_of g last (bottom_of ws g 0)
    unfolding level_of
    level_bottom last = rw alike.sized (cond_both (λ (a b : ℕ). a ≡ b) (windowed g) (λ w u. higher last (bottom_same w 0 u)) (λ old. refl))

    subs_same : subs_fit vs h ≡ subs_fit ws g
    unfolding subs_fit sub_fit
    subs_same = all_below_same g.width _ _ (λ j l. rw (alike.first j l, alike.second j l, level_bottom (second_of ws j)) refl)

    workers_same : workers_fit vs h ≡ workers_fit ws g
    unfolding workers_fit worker_fit seen_fit
    workers_same = all_below_same g.workers _ _ (λ i l. rw (slots_same i l, alike.sized) refl)

    windows_same : windows_fit vs h ≡ windows_fit ws g
    unfolding windows_fit size_fit
    windows_same = rw alike.sized (cond_both (λ (a b : Bool). a ≡ b) (has_windows g) (λ has. live_fit (windowed_in has)) (λ none. blank (windowed g) refl))
      where
        live_fit : windowed g ≡ true
            → both (leb (get_or vs (set_at h) 0) 1) (both (all (sizes_fit vs h)) (all (tops_fit vs h)))
            ≡ both (leb (get_or ws (set_at g) 0) 1) (both (all (sizes_fit ws g)) (all (tops_fit ws g)))
        live_fit w =
            let pairs : all_below most_live (pair_fit vs h) ≡ all_below most_live (pair_fit ws g) = all_below_same most_live _ _ (λ k l u. cond (ltb k (live_same w u)) (size_fit g (size_same w k u)) (no_size_fit (size_same w k u))) in
            λ u. both (leb (set_same w u) 1)
            (both (all (leb 1 (live_same w u) ∷ leb (live_same w u) most_live ∷ size_fit g (next_same w u) ∷ pairs u ∷ []))
            (all (leb (size_same w 0 u).depth (alike.mark u) ∷ eqb (lead_same w u) (alike.top u) ∷ [])))

        blank : (b : Bool) → windowed g ≡ b
            → all_below (windows_words e) (λ k. eqb (get_or vs (windows_at h + k) 0) 0) ≡ all_below (windows_words g.edition) (λ k. eqb (get_or ws (windows_at g + k) 0) 0)
        blank true w =
            rw (windows_some e (windowed_is h (alike.sized ∙ w)), windows_some g.edition (windowed_is g w), places w)
            (all_below_same 36 _ _ (λ k l. rw (alike.behind w (windows_at g + k) (omega arith)) refl))
        blank false old =
            rw (windows_none e (windowed_not h (alike.sized ∙ old)), windows_none g.edition (windowed_not g old)) (all_below_none _ ∙ sym (all_below_none _))

    pub body_same : ltb (length vs) (needed h) ≡ ltb (length ws) (needed g) → body_checked vs h ≡ in_other (body_checked ws g)
    unfolding body_checked
    body_same long =
        rw (long, windows_same, subs_same, workers_same, cond_under in_other (ltb (length ws) (needed g)) _ _, cond_under in_other (all (body_fit ws g)) _ _) refl

    -- ---- what an answer is held to
    seen_same : (i : ℕ) → seen_size h (slot_at h vs (worker_at h i)) ≡ seen_size g (slot_at g ws (worker_at g i))
    unfolding seen_size
    seen_same i =
        rw alike.sized
        (cond_both (λ (a b : Size). a ≡ b) (has_windows g)
        (λ has u. let s : Slot = slot_any (windowed_in has) i u in record { width = s.width; depth = s.window - s.bottom }) (λ none. refl))

    after_same : windowed g ≡ true → (m : ℕ) → places_after vs h m ≡ places_after ws g m
    unfolding places_after
    after_same w zero = refl
    after_same w (suc m) = λ u. after_same w m u + (size_same w (suc m) u).width * (size_same w (suc m) u).depth

    places_same : places_of vs h ≡ places_of ws g
    unfolding places_of
    places_same =
        rw alike.sized
        (cond_both (λ (a b : ℕ). a ≡ b) (has_windows g)
        (λ has. let w = windowed_in has in ap (λ (n : ℕ). places_after vs h (n - 1)) (live_same w) ∙ after_same w (live_of ws g - 1))
        (λ none u. g.width * (alike.top u - alike.mark u)))

    pub measures_alike : settings_of ws ≡ g → settings_of vs ≡ h → (c : Call) (a : Answered) → measures_at vs c a ≡ measures_at ws c a
    unfolding measures_at measures_of
    measures_alike one two (begin_put i v) a = refl
    measures_alike one two (begin_take i) a = refl
    measures_alike one two (step i) a =
        ap (λ (f : Settings). measures_of vs f (worker_at f i) a) two
        ∙ (λ u. measured (seen_same i u) (places_same u) a)
        ∙ sym (ap (λ (f : Settings). measures_of ws f (worker_at f i) a) one)
    measures_alike one two (set_size width depth) a = refl
