-- No step and no begin stores at a place of the settings, and once the settings are known none reads there. So a store there
-- commutes with what they store, and the words read alike, whatever stride the settings have.
use Prim.Native.Nat.{ℕ, zero, suc, ◌+◌, ◌-◌, ◌*◌, ◌%◌, ◌≤◌}
use mathlib.Core.Path.{◌≡◌, refl, sym}
use mathlib.Core.Logic.{◌≢◌}
use mathlib.Core.Bool.{Bool}
use mathlib.Core.List.{List, [], ◌∷◌}
use native.Mathlib.Omega.{arith}
use lib.ListN.{get_or, set}
use lib.Seq.{get_or-set_other, set_comm, sets}
use lib.Dec.{ltb}
use Rattle.laws.specs.Choice.{cond, cond_under}
use Rattle.laws.specs.Wrap.{add32}
use Rattle.rules.specs.Layout.{head_words, steps_at, puts_at, top_at, mark_at, worker_words, first_at, second_at, worker_at, index_at, bottom_at, cell_at, stamp_at, lost_word, lost_at, windows_at, next_width_at, next_depth_at, set_at, live_at, pairs_at, pair_words, pair_at}
use Rattle.rules.specs.Limits.{windowed, most_live}
use Rattle.rules.specs.Windows.{live_of}
use Rattle.rules.specs.Worker.{words_of, seen_words, put_slot}
use Rattle.rules.specs.Make.{with_stride, new_windows, indexed}
use Rattle.rules.specs.Held.{item_at}
use Rattle.rules.specs.Apply.{put_item, put_sub, put_landed, put_shifted, pair_added, put_raised, words_down, pair_gone, put_dropped, put_worker, count_lost}
use Rattle.rules.specs.Resize.{put_size}
use Rattle.strides.proofs.Types.{Settings, Size, Slot, Row, Stamp, Effect}
use Rattle.rules.proofs.words.Writes.{Still, item_kept}
use Rattle.strides.proofs.Alike.{Alike}

module _ (p : ℕ) (still : Still p) (x : ℕ) where
  beyond : (m : ℕ) → head_words ≤ m → p ≢ m
  beyond m l u = omega (arith, still.below)

  -- ---- stores
  abbrev Commutes : (List ℕ → List ℕ) → Type 0
  Commutes f = (ws : List ℕ) → f (set ws p x) ≡ set (f ws) p x

  -- with another stride in the settings, which no store knows
  abbrev Across : Settings → ℕ → (Settings → List ℕ → List ℕ) → Type 0
  Across g y f = (ws : List ℕ) → f (with_stride g y) (set ws p x) ≡ set (f g ws) p x

  one_commutes : (i v : ℕ) → p ≢ i → Commutes (λ ws. set ws i v)
  one_commutes i v n ws = set_comm ws p i x v n

  -- a store more
  more_commutes : (f : List ℕ → List ℕ) (i v : ℕ) → p ≢ i → Commutes f → Commutes (λ ws. set (f ws) i v)
  more_commutes f i v n h ws = rw (h ws) (one_commutes i v n (f ws))

  all_commute : (vs : List ℕ) (i : ℕ) → head_words ≤ i → Commutes (λ ws. sets ws i vs)
  all_commute [] i l ws = refl
  all_commute (v ∷ vs) i l ws = rw (one_commutes i v (beyond i l) ws) (all_commute vs (suc i) (omega arith) (set ws i v))

  -- one of two, by a test
  choice_commutes : (b : Bool) (f f' : List ℕ → List ℕ) → Commutes f → Commutes f' → Commutes (λ ws. cond b (f ws) (f' ws))
  choice_commutes b f f' h h' ws = rw (h ws, h' ws) (sym (cond_under (λ (vs : List ℕ). set vs p x) b (f ws) (f' ws)))

  pub slot_commutes : (g : Settings) (y at : ℕ) (s : Slot) → head_words ≤ at → Across g y (λ k ws. put_slot k ws at s)
  unfolding put_slot windowed
  slot_commutes g y at s l =
      choice_commutes (windowed g) (λ ws. sets (sets ws at (words_of s)) (bottom_at at) (seen_words s)) (λ ws. sets ws at (words_of s))
      (λ ws. rw (all_commute (words_of s) at l ws) (all_commute (seen_words s) (bottom_at at) (omega arith) (sets ws at (words_of s))))
      (all_commute (words_of s) at l)

  pub worker_commutes : (g : Settings) (y at : ℕ) (e : Effect) → head_words ≤ at → Across g y (λ k ws. put_worker ws k at e)
  unfolding put_worker
  worker_commutes g y at e l ws =
      rw (get_or-set_other ws p steps_at x 0 (λ u. still.steps (sym u)), one_commutes steps_at _ still.steps ws) (slot_commutes g y at e.slot l _)

  -- a word behind the head, as it was
  read : (ws : List ℕ) (m : ℕ) → head_words ≤ m → get_or (set ws p x) m 0 ≡ get_or ws m 0
  read ws m l = get_or-set_other ws p m x 0 (λ u. beyond m l (sym u))

  pub lost_commutes : (g : Settings) (at : ℕ) → head_words ≤ at → Commutes (λ ws. count_lost ws g at)
  unfolding count_lost
  lost_commutes g at l =
      choice_commutes (ltb lost_word (worker_words g.edition)) (λ ws. set ws (lost_at at) (add32 (get_or ws (lost_at at) 0) 1)) (λ ws. ws)
      (λ ws. rw (read ws (lost_at at) (omega arith)) (one_commutes (lost_at at) _ (beyond (lost_at at) (omega arith)) ws))
      (λ ws. refl)

  pub shifted_commutes : (e : Effect) → Commutes (λ ws. put_shifted ws e)
  unfolding put_shifted
  shifted_commutes e = more_commutes (λ ws. set ws top_at e.top) mark_at e.mark still.mark (one_commutes top_at e.top still.top)

  -- the pair of a window more, and of one that goes
  added_commutes : (g : Settings) → Commutes (λ ws. pair_added ws g)
  unfolding pair_added
  added_commutes g ws =
      rw (read ws (live_at g) (omega arith), read ws (next_width_at g) (omega arith), read ws (next_depth_at g) (omega arith))
      (more_commutes (λ vs. set (set vs pair (get_or ws (next_width_at g) 0)) (pair + 1) (get_or ws (next_depth_at g) 0)) (live_at g) (live_of ws g + 1) (beyond _ (omega arith))
      (more_commutes (λ vs. set vs pair (get_or ws (next_width_at g) 0)) (pair + 1) (get_or ws (next_depth_at g) 0) (beyond _ (omega arith)) (one_commutes pair _ (beyond _ (omega arith)))) ws)
    where
      pair : ℕ
      pair = pair_at g (live_of ws g)

  pub raised_commutes : (g : Settings) (y : ℕ) (e : Effect) → Across g y (λ k ws. put_raised ws k e)
  unfolding put_raised pair_added windowed
  raised_commutes g y e =
      more_commutes (λ ws. cond (windowed g) (pair_added ws g) ws) top_at e.top still.top
      (choice_commutes (windowed g) (λ ws. pair_added ws g) (λ ws. ws) (added_commutes g) (λ ws. refl))

  down_commutes : (at k : ℕ) → head_words ≤ at → Commutes (λ ws. words_down ws at k)
  unfolding words_down
  down_commutes at zero l ws = refl
  down_commutes at (suc k) l ws =
      rw (down_commutes at k l ws, read ws (at + k + pair_words) (omega arith)) (one_commutes (at + k) _ (beyond _ (omega arith)) (words_down ws at k))

  gone_commutes : (g : Settings) → Commutes (λ ws. pair_gone ws g)
  unfolding pair_gone
  gone_commutes g ws =
      rw (read ws (live_at g) (omega arith))
      (more_commutes (λ vs. set (set (down vs) last 0) (last + 1) 0) (live_at g) (live_of ws g - 1) (beyond _ (omega arith))
      (more_commutes (λ vs. set (down vs) last 0) (last + 1) 0 (beyond _ (omega arith))
      (more_commutes down last 0 (beyond _ (omega arith)) (down_commutes (pairs_at g) (pair_words * (most_live - 1)) (omega arith)))) ws)
    where
      last : ℕ
      last = pair_at g (most_live - 1)

      down : List ℕ → List ℕ
      down vs = words_down vs (pairs_at g) (pair_words * (most_live - 1))

  pub dropped_commutes : (g : Settings) (y : ℕ) (e : Effect) → Across g y (λ k ws. put_dropped ws k e)
  unfolding put_dropped pair_gone windowed
  dropped_commutes g y e =
      more_commutes (λ ws. cond (windowed g) (pair_gone ws g) ws) mark_at e.mark still.mark
      (choice_commutes (windowed g) (λ ws. pair_gone ws g) (λ ws. ws) (gone_commutes g) (λ ws. refl))

  pub size_commutes : (g : Settings) (y : ℕ) (size : Size) → Across g y (λ k ws. put_size ws k size)
  unfolding put_size
  size_commutes g y size =
      more_commutes (λ ws. set (set ws (next_width_at g) size.width) (next_depth_at g) size.depth) (set_at g) 1 (beyond _ (omega arith))
      (more_commutes (λ ws. set ws (next_width_at g) size.width) (next_depth_at g) size.depth (beyond _ (omega arith))
      (one_commutes (next_width_at g) size.width (beyond _ (omega arith))))

  pub sub_commutes : (j : ℕ) (e : Effect) → Commutes (λ ws. put_sub ws j e)
  unfolding put_sub
  sub_commutes j e =
      more_commutes (λ ws. set ws (first_at j) e.first) (second_at j) e.second (beyond _ (omega arith)) (one_commutes (first_at j) e.first (beyond _ (omega arith)))

  pub landed_commutes : (g : Settings) (j value : ℕ) (row : Row) (stamp : Stamp) (e : Effect) → Commutes (λ ws. put_landed ws g j value row stamp e)
  unfolding put_landed put_item
  landed_commutes g j value row stamp e ws =
      let cell = cell_at g j row.0 in
      rw (
        one_commutes cell value (beyond cell (omega arith)) ws,
        one_commutes (stamp_at cell) stamp.0 (beyond (stamp_at cell) (omega arith)) (set ws cell value),
        one_commutes puts_at e.puts still.puts (put_item ws g j value row stamp),
      )
      (sub_commutes j e _)

  pub windows_commute : (g : Settings) → Commutes (λ ws. sets ws (windows_at g) (new_windows g))
  windows_commute g = all_commute (new_windows g) (windows_at g) (omega arith)

  pub indexed_commutes : (g : Settings) (y n : ℕ) (ws : List ℕ) → indexed (set ws p x) (with_stride g y) n ≡ set (indexed ws g n) p x
  unfolding indexed
  indexed_commutes g y zero ws = refl
  indexed_commutes g y (suc n) ws =
      rw (indexed_commutes g y n ws) (one_commutes (index_at (worker_at g n)) (n % g.width) (beyond _ (omega arith)) (indexed ws g n))

  -- ---- reads
  module _ (g : Settings) (y : ℕ) (ws : List ℕ) where
    abbrev h : Settings
    h = with_stride g y

    abbrev vs : List ℕ
    vs = set ws p x

    pub off : (m : ℕ) → p ≢ m → get_or vs m 0 ≡ get_or ws m 0
    off m n = get_or-set_other ws p m x 0 (λ u. n (sym u))

    pub high : (m : ℕ) → head_words ≤ m → get_or vs m 0 ≡ get_or ws m 0
    high m l = off m (beyond m l)

    pub same_items : (j r : ℕ) → item_at vs h j r ≡ item_at ws g j r
    same_items = item_kept g ws vs (λ m l. high m (omega arith))

    pub sized_alike : windowed h ≡ windowed g
    unfolding windowed
    sized_alike = refl

    pub reads_alike : Alike g y g.edition ws vs
    reads_alike =
        record {
          sized = sized_alike;
          behind = λ w. high;
          puts = off puts_at still.puts;
          top = off top_at still.top;
          mark = off mark_at still.mark;
          first = λ j l. high (first_at j) (omega arith);
          second = λ j l. high (second_at j) (omega arith);
          word = λ i k l m. high (worker_at g i + k) (omega arith);
        }
