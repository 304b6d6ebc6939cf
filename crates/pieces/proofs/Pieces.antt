-- A FILE IN PIECES: over the pieces of a file's bytes, one after the other, stretches write what is printed of it (`begins`, `goes`, `flushed`, `completes`).
-- Each turn moves its text from what is to come to what is written; a piece that starts at a whole word has the file's words (`piece_reads`).
use Prim.Native.Nat.{ℕ, zero, suc, ◌+◌, ◌*◌, ◌-◌, ◌/◌, ◌^◌, ◌<◌, ◌≤◌}
use mathlib.Core.Bool.{Bool, true, false}
use mathlib.Core.List.{List, [], ◌∷◌, ◌++◌, append_assoc, append-nil}
use mathlib.Core.Path.{◌≡◌, refl, sym, ap, subst, ◌∙◌}
use native.Mathlib.Omega.{arith}
use lib.ListN.{length, take, length-append}
use lib.Seq.{take-paste, take-length}
use Rattle.laws.specs.Choice.{cond, cases}
use Rattle.runfile.specs.Words.{reads_of, read_at}
use Rattle.replay.specs.Replay.{lent}
use Rattle.printing.specs.Printings.{ends_with, printed_text}
use Rattle.printing.specs.Print.{print_then, text_of, print_of}
use Rattle.turns.specs.Turn.{Turned, turn_of}
use Rattle.turns.specs.Turns.{turns_from, turns_of}
use Rattle.pieces.specs.Stretch.{new_stretch, put_at, Stretched, stretched, stretch_turn, goes_on, stretch_from, turns_in, stretch_of}
use Rattle.pieces.specs.Progress.{ToCome, Progress, Piece}
use Rattle.printing.specs.declared.printed.Mode.{Mode}
use Rattle.printing.specs.declared.printed.Printed.{Printed}
use Rattle.turns.specs.declared.Printer.{Printer}
use Rattle.turns.proofs.Whole.{turns_print}
use Rattle.pieces.proofs.Stretches.{goes_room, goes_incomplete}

-- ---- a turn's text
-- what a turn prints, and what is to come after it
text_cond : (b : Bool) (rest : List Printed) → text_of (cond b [] rest) ≡ cond b [] (text_of rest)
unfolding text_of cond
text_cond true rest = refl
text_cond false rest = refl

text_then : (x : Printed) (rest : List Printed) → text_of (print_then x rest) ≡ printed_text x ++ cond (ends_with x) [] (text_of rest)
unfolding text_of
text_then x rest = ap (λ (l : List ℕ). printed_text x ++ l) (text_cond (ends_with x) rest)

-- a text that is put is what the output holds after it
text_put : (out : List ℕ) (used : ℕ) (text : List ℕ) → used ≤ length out → take (used + length text) (put_at out used text) ≡ take used out ++ text
text_put out used text fits = take-paste out used text (length text) fits (omega arith) ∙ rw take-length

-- ---- a turn
-- where a turn is the last, nothing is to come
to_come : (m : Mode) (b : Bool) (bytes : List ℕ) (k : ℕ) (text ws : List ℕ) (p : Printer)
    → text ++ cond b [] (text_of (turns_from m (length bytes / 4 + 1 - k) bytes k ws p)) ≡ print_of m bytes → ToCome m b bytes k text ws p
unfolding cond
to_come m true bytes k text ws p h = sym (append-nil text) ∙ h
to_come m false bytes k text ws p h = h

-- the turn at word k moves its text
moved : (m : Mode) (bytes : List ℕ) (k : ℕ) (text ws : List ℕ) (p : Printer) → k < length bytes / 4 + 1 → (t : Turned) → turn_of m ws p (read_at bytes k) ≡ t
    → ToCome m false bytes k text ws p → ToCome m (ends_with t.turn.printed) bytes (k + 1) (text ++ printed_text t.turn.printed) t.words t.turn.printer
unfolding turns_from
moved m bytes k text ws p more t e h =
    let n = length bytes / 4 + 1 - (k + 1) in
    let left : length bytes / 4 + 1 - k ≡ suc n = omega arith in
    let now = t.turn.printed in
    let later = turns_from m n bytes (k + 1) t.words t.turn.printer in
    let whole : text ++ text_of (print_then now later) ≡ print_of m bytes = rw (left, e) at h in
    to_come m (ends_with now) bytes (k + 1) (text ++ printed_text now) t.words t.turn.printer
    (append_assoc text (printed_text now) _ ∙ (ap (λ (x : List ℕ). text ++ x) (sym (text_then now later)) ∙ whole))

-- a stretch's turn, where its bytes have the file's word
turn_keeps : (m : Mode) (bytes src : List ℕ) (k : ℕ) (written : List ℕ) (s : Stretched) → k < length bytes / 4 + 1 → read_at src s.stretch.at ≡ read_at bytes k
    → goes_on s.stretch (length s.out) ≡ true → Progress m bytes k written s → Progress m bytes (k + 1) written (stretch_turn m src s)
unfolding stretch_turn
turn_keeps m bytes src k written s more same goes h =
    let used = s.stretch.used in
    let t = turn_of m s.words s.stretch.printer (read_at src s.stretch.at) in
    let text = printed_text t.turn.printed in
    let room = goes_room s.stretch (length s.out) goes in
    let now = take used s.out in
    let before : ToCome m false bytes k (written ++ now) s.words s.stretch.printer =
    subst (λ (b : Bool). ToCome m b bytes k (written ++ now) s.words s.stretch.printer) (goes_incomplete s.stretch (length s.out) goes) h in
    let put : (written ++ now) ++ text ≡ written ++ take (used + length text) (put_at s.out used text) =
    append_assoc written now text ∙ ap (λ (x : List ℕ). written ++ x) (sym (text_put s.out used text (omega arith))) in
    subst (λ (x : List ℕ). ToCome m (ends_with t.turn.printed) bytes (k + 1) x t.words t.turn.printer) put
    (moved m bytes k (written ++ now) s.words s.stretch.printer more t (ap (turn_of m s.words s.stretch.printer) (sym same)) before)

-- ---- a piece
-- what is in front of a piece is whole words
front_reads : (front rest : List ℕ) (p j : ℕ) → length front ≡ 4 * p → read_at (front ++ rest) (p + j) ≡ read_at rest j
unfolding read_at reads_of
front_reads [] rest p j e = let q : p + j ≡ j = omega arith in rw q
front_reads (a ∷ []) rest p j e = absurd (omega arith)
front_reads (a ∷ b ∷ []) rest p j e = absurd (omega arith)
front_reads (a ∷ b ∷ c ∷ []) rest p j e = absurd (omega arith)
front_reads (a ∷ b ∷ c ∷ d ∷ front) rest zero j e = absurd (omega arith)
front_reads (a ∷ b ∷ c ∷ d ∷ front) rest (suc p) j e = let q : suc p + j ≡ suc (p + j) = omega arith in rw q (front_reads front rest p j (omega arith))

-- what is behind it changes none of its words
behind_reads : (src behind : List ℕ) (j : ℕ) → j < length src / 4 → read_at (src ++ behind) j ≡ read_at src j
unfolding read_at reads_of
behind_reads [] behind j h = absurd (omega arith)
behind_reads (a ∷ []) behind j h = absurd (omega arith)
behind_reads (a ∷ b ∷ []) behind j h = absurd (omega arith)
behind_reads (a ∷ b ∷ c ∷ []) behind j h = absurd (omega arith)
behind_reads (a ∷ b ∷ c ∷ d ∷ src) behind zero h = refl
behind_reads (a ∷ b ∷ c ∷ d ∷ src) behind (suc j) h = behind_reads src behind j (omega arith)

piece_turns : (bytes : List ℕ) (p : ℕ) (src : List ℕ) (last : Bool) → Piece bytes p src last → p + turns_in src last ≤ length bytes / 4 + 1
unfolding cond
piece_turns bytes p src true piece = let l = ap length piece.whole in omega (arith, simp length-append at l, piece.words)
piece_turns bytes p src false piece = let l = ap length piece.whole in omega (arith, simp length-append at l, piece.words)

piece_reads : (bytes : List ℕ) (p : ℕ) (src : List ℕ) (last : Bool) → Piece bytes p src last → (j : ℕ) → j < turns_in src last → read_at src j ≡ read_at bytes (p + j)
unfolding cond
piece_reads bytes p src true piece j h =
    let e : bytes ≡ piece.front ++ src = piece.whole ∙ rw (piece.none refl, append-nil src) in
    rw e (sym (front_reads piece.front src p j piece.words))
piece_reads bytes p src false piece j h =
    rw piece.whole (sym (front_reads piece.front (src ++ piece.behind) p j piece.words ∙ behind_reads src piece.behind j h))

module _ (m : Mode) (bytes : List ℕ) (p : ℕ) (src : List ℕ) (last : Bool) (piece : Piece bytes p src last) (written : List ℕ) where
  turns_keep : (n : ℕ) (s : Stretched) → n ≤ turns_in src last - s.stretch.at → Progress m bytes (p + s.stretch.at) written s
      → Progress m bytes (p + (stretch_from m n src s).stretch.at) written (stretch_from m n src s)
  unfolding stretch_from stretch_turn
  turns_keep zero s few h = h
  turns_keep (suc n) s few h =
      cases (λ (r : Stretched). Progress m bytes (p + r.stretch.at) written r) (goes_on s.stretch (length s.out)) _ _
      (λ goes. turns_keep n (stretch_turn m src s) (omega arith) (next goes))
      (λ stays. h)
    where
      next : goes_on s.stretch (length s.out) ≡ true → Progress m bytes (p + (s.stretch.at + 1)) written (stretch_turn m src s)
      next goes =
          let k : p + (s.stretch.at + 1) ≡ p + s.stretch.at + 1 = omega arith in
          rw k
          (turn_keeps m bytes src (p + s.stretch.at) written s (omega (arith, piece_turns bytes p src last piece)) (piece_reads bytes p src last piece s.stretch.at (omega arith)) goes h)

  -- a stretch over a piece
  pub goes : (s : Stretched) → Progress m bytes (p + s.stretch.at) written s → Progress m bytes (p + (stretch_of m src last s).stretch.at) written (stretch_of m src last s)
  unfolding stretch_of
  goes s h = turns_keep (turns_in src last - s.stretch.at) s (omega arith) h

-- before the first word
pub begins : (m : Mode) (bytes out : List ℕ) → length bytes < 2 ^ 64
    → Progress m bytes 0 [] (stretched new_stretch lent out)
unfolding print_of turns_of
begins m bytes out few = let all : length bytes / 4 + 1 - 0 ≡ length bytes / 4 + 1 = omega arith in rw all (ap text_of (turns_print m bytes few))

-- what the output holds is written, and the output used anew
pub flushed : (m : Mode) (bytes : List ℕ) (k : ℕ) (written : List ℕ) (s : Stretched) → Progress m bytes k written s
    → (at : ℕ) → Progress m bytes k (written ++ take s.stretch.used s.out)
    (stretched (record { printer = s.stretch.printer; at = at; used = 0; complete = s.stretch.complete }) s.words s.out)
flushed m bytes k written s h at =
    subst (λ (x : List ℕ). ToCome m s.stretch.complete bytes k x s.words s.stretch.printer) (sym (append-nil (written ++ take s.stretch.used s.out))) h

-- once all is printed, it is all written
pub completes : (m : Mode) (bytes : List ℕ) (k : ℕ) (written : List ℕ) (s : Stretched) → s.stretch.complete ≡ true → Progress m bytes k written s
    → written ++ take s.stretch.used s.out ≡ print_of m bytes
completes m bytes k written s e h =
    subst (λ (b : Bool). ToCome m b bytes k (written ++ take s.stretch.used s.out) s.words s.stretch.printer) e h

-- and the turn of the file's end completes it
pub ends : (m : Mode) (bytes written : List ℕ) (s : Stretched) → Progress m bytes (length bytes / 4 + 1) written s
    → written ++ take s.stretch.used s.out ≡ print_of m bytes
unfolding turns_from text_of
ends m bytes written s h = go s.stretch.complete h
  where
    go : (b : Bool) → ToCome m b bytes (length bytes / 4 + 1) (written ++ take s.stretch.used s.out) s.words s.stretch.printer
        → written ++ take s.stretch.used s.out ≡ print_of m bytes
    go true h' = h'
    go false h' =
        let none : length bytes / 4 + 1 - (length bytes / 4 + 1) ≡ 0 = omega arith in
        sym (append-nil (written ++ take s.stretch.used s.out)) ∙ (rw none at h')
