-- Strides 0 and 1 are one: they hop alike, and at a width other than 1 both are within limits or neither, so that the pool is found fit
-- with either or with neither. Then each call passes by the store of the stride (Calls), and so does every list of calls.
use Prim.Native.Nat.{ℕ, zero, suc, ◌≤◌, ◌<◌}
use mathlib.Core.Path.{◌≡◌, refl, sym, ap, ◌∙◌}
use mathlib.Core.Logic.{◌≢◌}
use mathlib.Core.Bool.{true}
use mathlib.Core.List.{List, [], ◌∷◌}
use native.Mathlib.Decide.{dec_le}
use native.Mathlib.Omega.{arith}
use lib.ListN.{get_or, set, take, length, length-set}
use lib.Seq.{get_or-set_same, get_or-set_other, set_comm, set-set, sets}
use lib.Dec.{eqb}
use borrow.Author.Tests.{lt-ltb, le-ltb}
use Rattle.laws.specs.Choice.{cond, cond_under}
use Rattle.rules.specs.Answers.{Out, out, number_of}
use Rattle.rules.specs.Layout.{head_words, width_at, stride_at, edition_at, windows_at, needed, settings_of}
use Rattle.rules.specs.Limits.{settings_fit, windowed}
use Rattle.rules.specs.Fit.{Checked, Unfit, Fit, head_checked, checked_by, checked_of}
use Rattle.rules.specs.Make.{in_edition, with_stride, zeroed, new_head, new_windows, indexed, made_words, make_of}
use Rattle.rules.specs.Run.{Call, call_of, measures_at, run}
use Rattle.rules.specs.Consequences.{words_after}
use Rattle.strides.specs.Stride.{StrideOneOnWords, AsStrideZero, StrideOne, WidthTwo}
use Rattle.rules.specs.declared.Answer.TheVariants.{Moving}
use Rattle.strides.proofs.Types.{Settings, Answered}
use Rattle.rules.proofs.Fitness.{settings_bounds, fit_pool}
use Rattle.rules.proofs.Hops.{hops_alike}
use Rattle.rules.proofs.words.Writes.{Still, still_low, still_high, set_kept}
use Rattle.rules.proofs.words.Made.{accepted, made_says}
use Rattle.strides.proofs.Alike.{measures_alike, settings_alike, in_other, body_same}
use Rattle.strides.proofs.Stores.{windows_commute, indexed_commutes, reads_alike}
use Rattle.strides.proofs.Checked.{checked_call, call_is, unfit_call}
use Rattle.strides.proofs.Calls.{then_set, call_commutes, kept}
use Rattle.std.specs.Prelude.{Ok}
use Rattle.rules.specs.declared.Refusal.TheVariants.{NotFit}

stride_still : Still stride_at
stride_still = still_high stride_at (omega arith) (omega arith)

width_still : Still width_at
width_still = still_low width_at (omega arith)

-- ---- settings
-- a width of 0 is off limits itself
limits_alike : (g : Settings) → g.stride ≡ 0 → g.width ≢ 1 → settings_fit (with_stride g 1) ≡ settings_fit g
unfolding settings_fit windowed
limits_alike g z n = elim (dec_le 2 g.width) [
  | yes l ↦ rw (z, lt-ltb 1 g.width l, lt-ltb 0 g.width (omega arith)) refl
  | no l ↦ let none : g.width ≡ 0 = omega arith in rw none refl
]

-- words so short that there is none have no other stride either
settings_by : (ws : List ℕ) (x y : ℕ) → get_or (set ws stride_at x) stride_at 0 ≡ y → settings_of (set ws stride_at x) ≡ with_stride (settings_of ws) y
settings_by ws x y is =
    let other : (m : ℕ) → m ≢ stride_at → get_or (set ws stride_at x) m 0 ≡ get_or ws m 0 = λ m n. get_or-set_other ws stride_at m x 0 n in
    settings_alike ws (set ws stride_at x) y (get_or ws edition_at 0) (λ m a. other m (λ u. omega arith)) is (other edition_at (λ u. omega arith))

settings_set : (ws : List ℕ) (x : ℕ) → stride_at < length ws → settings_of (set ws stride_at x) ≡ with_stride (settings_of ws) x
settings_set ws x l = settings_by ws x x (get_or-set_same ws stride_at x 0 l)

measures_set : (ws : List ℕ) (x : ℕ) (c : Call) (a : Answered) → measures_at (set ws stride_at x) c a ≡ measures_at ws c a
measures_set ws x =
    let y = get_or (set ws stride_at x) stride_at 0 in
    measures_alike (settings_of ws) y (settings_of ws).edition ws (set ws stride_at x) (reads_alike stride_at stride_still x (settings_of ws) y ws) refl (settings_by ws x y refl)

-- ---- a call, and a run
module _ (ed : ℕ) (ws : List ℕ) (z : get_or ws stride_at 0 ≡ 0) (n : get_or ws width_at 0 ≢ 1) where
  abbrev one : List ℕ
  one = set ws stride_at 1

  abbrev in_one : Checked → Checked
  in_one = in_other (settings_of ws) 1 (settings_of ws).edition

  head_alike : head_checked NotFit ed one (with_stride (settings_of ws) 1) ≡ in_one (head_checked NotFit ed ws (settings_of ws))
  unfolding head_checked
  head_alike =
      rw (
        limits_alike (in_edition ed (settings_of ws)) z n,
        body_same (settings_of ws) 1 (settings_of ws).edition ws one (reads_alike stride_at stride_still 1 (settings_of ws) 1 ws) (rw (length-set ws stride_at 1) refl),
        cond_under in_one (settings_fit (in_edition ed (settings_of ws))) _ _,
        cond_under in_one (eqb (settings_of ws).edition ed) _ _,
      )
      refl

  checked_alike : checked_of ed one ≡ in_one (checked_of ed ws)
  unfolding checked_by cond
  checked_alike = elim (dec_le head_words (length ws)) [
    | yes l ↦
        rw (
          length-set ws stride_at 1,
          le-ltb (length ws) head_words l,
          settings_set ws 1 (omega arith),
        )
        head_alike
    | no l ↦ rw (length-set ws stride_at 1, lt-ltb (length ws) head_words (omega arith)) refl
  ]

  call_alike : (c : Call) → call_of ed one c ≡ then_set stride_at 1 (call_of ed ws c)
  call_alike c = rw (call_is ed ws c, call_is ed one c, checked_alike) (go (checked_of ed ws) refl)
    where
      go : (k : Checked) → checked_of ed ws ≡ k → checked_call one (in_one k) c ≡ then_set stride_at 1 (checked_call ws k c)
      go (Unfit n) e = rw (unfit_call ws n c, unfit_call one n c) refl
      go (Fit g) e =
          let is = (fit_pool ed ws g e).settings in
          let zero_stride : g.stride ≡ 0 = ap (λ (h : Settings). h.stride) (sym is) ∙ z in
          ap (λ (h : Settings). checked_call one (Fit (with_stride h 1)) c) is
          ∙ call_commutes stride_at stride_still 1 g 1 (hops_alike g zero_stride) ws (fit_pool ed ws g e) c

record Alike (ed : ℕ) (ws : List ℕ) (cs : List Call) : Type 0 where
  answers : run ed (set ws stride_at 1) cs ≡ run ed ws cs
  words : words_after ed (set ws stride_at 1) cs ≡ set (words_after ed ws cs) stride_at 1

runs_alike : (ed : ℕ) (ws : List ℕ) → get_or ws stride_at 0 ≡ 0 → get_or ws width_at 0 ≢ 1 → (cs : List Call) → Alike ed ws cs
unfolding run words_after
runs_alike ed ws z n [] = record { answers = refl; words = refl }
runs_alike ed ws z n (c ∷ cs) =
    let rest = runs_alike ed (call_of ed ws c).words (kept ed stride_at stride_still ws c ∙ z) (λ u. n (sym (kept ed width_at width_still ws c) ∙ u)) cs in
    let answer : (call_of ed (set ws stride_at 1) c).answer ≡ (call_of ed ws c).answer = ap (λ (o : Out). o.answer) (call_alike ed ws z n c) in
    let words : (call_of ed (set ws stride_at 1) c).words ≡ set (call_of ed ws c).words stride_at 1 = ap (λ (o : Out). o.words) (call_alike ed ws z n c) in
    let told = measures_set ws 1 c in
    let later : run ed (call_of ed (set ws stride_at 1) c).words cs ≡ run ed (call_of ed ws c).words cs = ap (λ (vs : List ℕ). run ed vs cs) words ∙ rest.answers in
    record {
      answers = λ u. record { call = c; answer = answer u; measures = (ap (measures_at (set ws stride_at 1) c) answer ∙ told (call_of ed ws c).answer) u } ∷ later u;
      words = rw (call_alike ed ws z n c, rest.words) refl;
    }

-- ---- on any words
zero_set : (ws : List ℕ) (m : ℕ) → get_or (set ws m 0) m 0 ≡ 0
zero_set [] m = refl
zero_set (w ∷ ws) zero = refl
zero_set (w ∷ ws) (suc m) = zero_set ws m

pub stride_one_on_words : StrideOneOnWords
stride_one_on_words ed ws cs n =
    let width : get_or (set ws stride_at 0) width_at 0 ≡ get_or ws width_at 0 = get_or-set_other ws stride_at width_at 0 0 (λ u. omega arith) in
    let r = runs_alike ed (set ws stride_at 0) (zero_set ws stride_at) (λ u. n (sym width ∙ u)) cs in
    record { answers = rw (set-set ws stride_at 0 1) at r.answers; words = rw (set-set ws stride_at 0 1) at r.words }

-- ---- on a new pool
made_is : (ws : List ℕ) (g : Settings) → settings_fit g ≡ true → needed g ≤ length ws → make_of ws g ≡ out (Ok Moving) (made_words ws g)
unfolding make_of cond
made_is ws g limits enough = rw (limits, le-ltb (length ws) (needed g) enough) refl

-- the stride is a word of the head that make stores
made_set : (ws : List ℕ) (g : Settings) (x : ℕ) → made_words ws (with_stride g x) ≡ set (made_words ws (with_stride g 0)) stride_at x
unfolding made_words windowed
made_set ws g x =
    let head : List ℕ = sets (zeroed ws (needed g)) 0 (take stride_at (new_head g)) in
    let again : set (set head stride_at x) edition_at g.edition ≡ set (set (set head stride_at 0) edition_at g.edition) stride_at x =
    ap (λ (vs : List ℕ). set vs edition_at g.edition) (sym (set-set head stride_at 0 x))
    ∙ set_comm (set head stride_at 0) stride_at edition_at x g.edition (λ u. omega arith) in
    let zero_head : List ℕ = set (set head stride_at 0) edition_at g.edition in
    ap (λ (vs : List ℕ). indexed (sets vs (windows_at g) (new_windows g)) (with_stride g x) g.workers) again
    ∙ ap (λ (vs : List ℕ). indexed vs (with_stride g x) g.workers) (windows_commute stride_at stride_still x g zero_head)
    ∙ indexed_commutes stride_at stride_still x (with_stride g 0) x g.workers (sets zero_head (windows_at g) (new_windows g))

stride_after : (ed : ℕ) (ws : List ℕ) (cs : List Call) → get_or (words_after ed ws cs) stride_at 0 ≡ get_or ws stride_at 0
unfolding words_after
stride_after ed ws [] = refl
stride_after ed ws (c ∷ cs) = stride_after ed (call_of ed ws c).words cs ∙ kept ed stride_at stride_still ws c

by_stride : (ws : List ℕ) (g : Settings) (cs : List Call) (x : ℕ) → x ≤ 1 → number_of (make_of ws (with_stride g x)).answer ≡ 0 → AsStrideZero ws (with_stride g x) cs
by_stride ws g cs zero l made =
    let a = accepted ws (with_stride g 0) made in
    let says = made_says ws (with_stride g 0) a.enough in
    let z : get_or (make_of ws (with_stride g 0)).words stride_at 0 ≡ 0 = rw a.words (ap (λ (h : Settings). h.stride) says.settings) in
    record { made = refl; answers = refl; words = sym (set_kept _ stride_at 0 (stride_after g.edition _ cs ∙ z)) }
by_stride ws g cs (suc zero) l made =
    let a = accepted ws (with_stride g 1) made in
    let wide = (settings_bounds (with_stride g 1) a.limits).stride_width in
    let limits = sym (limits_alike (with_stride g 0) refl (λ u. omega arith)) ∙ a.limits in
    let made0 = made_is ws (with_stride g 0) limits a.enough in
    let says = made_says ws (with_stride g 0) a.enough in
    let width = ap (λ (h : Settings). h.width) says.settings in
    let r = runs_alike g.edition (made_words ws (with_stride g 0)) (ap (λ (h : Settings). h.stride) says.settings) (λ u. omega arith) cs in
    record {
      made = rw (made_is ws (with_stride g 1) a.limits a.enough, made0) refl;
      answers = rw (a.words, made_set ws g 1, made0) r.answers;
      words = rw (a.words, made_set ws g 1, made0) r.words;
    }
by_stride ws g cs (suc (suc x)) l made = absurd (omega arith)

pub stride_one : StrideOne
stride_one ws g cs made one = by_stride ws g cs g.stride (omega arith) made

pub width_two : WidthTwo
width_two ws g cs made narrow =
    let below = (settings_bounds g (accepted ws g made).limits).stride_width in
    by_stride ws g cs g.stride (omega arith) made
