-- `bridge::behind::move_windows` meets its contract: the words are cleared, and a queue's put where the edition has them.
use Rattle.std.proofs.Common.{◌≡◌, ℕ, zero, suc, ◌+◌, ◌-◌, ◌≤◌, List, [], ◌∷◌, true, false, length, refl, sym, ap, ◌∙◌, length-drop, length-take, add-one, arith}
use Rattle.std.proofs.Math.ListN.{replicate, length-replicate}
use Rattle.std.proofs.Math.Seq.{paste}
use Rattle.std.proofs.lemmas.List.Edits.{sets, paste_none, fill_from_more}
use Rattle.std.proofs.lemmas.Slice.{put_mid-paste}
use borrow.Rule.Slice.PartMut.{put_mid, mid_of, same_len_mid}
use Rattle.laws.specs.Choice.{cond, both_true}
use Rattle.rules.specs.Layout.{windows_at, windows_words, needed}
use Rattle.rules.specs.Limits.{windowed}
use Rattle.rules.specs.Windows.{has_windows}
use Rattle.rules.specs.declared.Settings.{Settings}
use Rattle.rules.proofs.Workers.{pairs_within}
use Rattle.turnaround.specs.Move.{own_live, cleared, own_pairs, windows_moved}
use Rattle.bridge.proofs.behind.move_windows.Goals as goal

-- cleared words are zeros in a row
zeros : (ws : List ℕ) (at n : ℕ) → at + n ≤ length ws → paste ws at (replicate n 0) n ≡ cleared ws at n
unfolding cleared
zeros ws at zero l = sym (paste_none ws at [])
zeros ws at (suc n) l = rw (← zeros ws at n (omega arith)) (sym (rw add-one at (fill_from_more ws at n 0 (omega arith))))

abbrev none : List ℕ → Settings → List ℕ
none to h = cleared to (windows_at h) (windows_words h.edition)

-- the words behind the cells, filled with zeros
filled : (ws zs : List ℕ) (at n : ℕ) (h : Settings) → at ≡ windows_at h → n ≡ windows_words h.edition → needed h ≤ length ws
    → zs ≡ replicate (length (mid_of at (at + n - at) ws)) 0 → put_mid at (at + n - at) ws zs ≡ none ws h
filled ws zs at n h e f l z =
    let most : windows_at h + windows_words h.edition ≤ length ws = omega arith in
    let size : length (mid_of at (at + n - at) ws) ≡ n = simp (length-drop, length-take) (omega arith) in
    let all : zs ≡ replicate n 0 = z ∙ ap (λ (m : ℕ). replicate m 0) size in
    put_mid-paste at (at + n - at) ws zs (replicate n 0) n all (omega arith) (sym (length-replicate n 0)) ∙ zeros ws at n (omega arith) ∙ rw (e, f) refl

some_is : (from to : List ℕ) (h : Settings) → has_windows h ≡ true
    → own_pairs (sets (none to h) (windows_at h) (h.width ∷ h.depth ∷ 0 ∷ own_live from h ∷ [])) h (own_live from h) ≡ windows_moved from to h
unfolding windows_moved cond
some_is from to h e = rw e refl

none_is : (from to : List ℕ) (h : Settings) → has_windows h ≡ false → none to h ≡ windows_moved from to h
unfolding windows_moved cond
none_is from to h e = rw e refl

pub put_windows-requires-clause-pairs_in_bounds : goal.put_windows-requires-clause-pairs_in_bounds
put_windows-requires-clause-pairs_in_bounds c =
    let h = c.args.h in
    let has = sym c.has_windows.ensures ∙ c.if-has_windows.true in
    let long = same_len_mid c.windows_at-at.result (c.windows_at-at.result + c.windows_words.result - c.windows_at-at.result) c.args.to.now c.fill.new.self c.fill.ensures.len in
    (pairs_within h _ (both_true (windowed h) _ has).0 (omega (arith, c.requires.words_in_bounds.1, long)), omega (arith, c.own_live.ensures, c.requires.live_in_bounds has))

pub returns-then-has_windows : goal.returns-then-has_windows
returns-then-has_windows c =
    let a = c.args in
    let h = a.h in
    let none-is = filled a.to.now c.fill.new.self c.windows_at-at.result c.windows_words.result h c.windows_at-at.ensures c.windows_words.ensures (omega (arith, c.requires.words_in_bounds.1)) (c.fill.ensures.after (λ y e. e)) in
    c.put_windows.ensures ∙ (rw (none-is, c.own_live.ensures) (some_is a.from.now a.to.now h (sym c.has_windows.ensures ∙ c.if-has_windows.true)))

pub returns-else-has_windows : goal.returns-else-has_windows
returns-else-has_windows c =
    let a = c.args in
    let h = a.h in
    filled a.to.now c.fill.new.self c.windows_at-at.result c.windows_words.result h c.windows_at-at.ensures c.windows_words.ensures (omega (arith, c.requires.words_in_bounds.1)) (c.fill.ensures.after (λ y e. e))
    ∙ none_is a.from.now a.to.now h (sym c.has_windows.ensures ∙ c.if-has_windows.false)
