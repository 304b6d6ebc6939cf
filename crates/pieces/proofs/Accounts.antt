-- AN ACCOUNT IS KEPT: by the start of a program, by a read, by the end of the input, by a stretch over the piece, by a write of the output, and by the step to
-- the next piece, which starts with the bytes of the word that this one cuts. Once all is printed and written, it says what the program printed.
use Prim.Native.Nat.{ℕ, ◌+◌, ◌*◌, ◌/◌, ◌%◌, ◌^◌, ◌<◌, ◌≤◌}
use mathlib.Core.Bool.{Bool, true, false, false≢true}
use mathlib.Core.List.{List, [], ◌++◌, append_assoc, append-nil}
use mathlib.Core.Path.{◌≡◌, refl, sym, ap, ◌∙◌}
use native.Mathlib.Omega.{arith}
use lib.ListN.{length, take, drop, length-append, take-append-drop}
use lib.Seq.{length-take-le}
use Rattle.runfile.specs.Words.{word_bytes}
use Rattle.replay.specs.Replay.{lent}
use Rattle.printing.specs.declared.printed.Mode.{Mode}
use Rattle.pieces.specs.Stretch.{new_stretch, Stretched, stretched, stretch_of}
use Rattle.pieces.specs.Progress.{ToCome, Progress}
use Rattle.pieces.specs.Account.{Counts, Account, AllPrinted}
use Rattle.pieces.proofs.Pieces.{begins, goes, flushed, completes}

-- more bytes are counted
counts_on : (n : ℕ) (xs ys : List ℕ) → Counts n xs → Counts ((n + length ys) % 2 ^ 64) (xs ++ ys)
counts_on n xs ys h = omega (arith, length-append xs ys)

-- before anything is read
pub opens : (m : Mode) (out : List ℕ) → Account m 0 0 false [] (stretched new_stretch lent out)
opens m out =
    record {
      bytes = [];
      text = [];
      bytes_read = refl;
      text_written = refl;
      front = [];
      words = 0;
      front_words = refl;
      front_piece = refl;
      progress = λ more none few. begins m more out few;
    }

-- a piece is read, behind what is there
pub reads : (m : Mode) (read written : ℕ) (piece : List ℕ) (s : Stretched) (more : List ℕ) → Account m read written false piece s
    → Account m ((read + length more) % 2 ^ 64) written false (piece ++ more) s
reads m read written piece s more a =
    record {
      bytes = a.bytes ++ more;
      text = a.text;
      bytes_read = counts_on read a.bytes more a.bytes_read;
      text_written = a.text_written;
      front = a.front;
      words = a.words;
      front_words = a.front_words;
      front_piece = ap (λ (l : List ℕ). l ++ more) a.front_piece ∙ append_assoc a.front piece more;
      progress = λ rest none few.
          rw (append_assoc a.bytes more rest)
          (a.progress (more ++ rest) (λ e. absurd (false≢true e)) (rw (append_assoc a.bytes more rest) at few));
    }

-- nothing is read or written: the account is kept where the progress is
goes_on_law : (m : Mode) (read written : ℕ) (ended ended' : Bool) (piece : List ℕ) (s s' : Stretched) (a : Account m read written ended piece s)
    → ((more : List ℕ) → (ended' ≡ true → more ≡ []) → length (a.bytes ++ more) < 2 ^ 64 → Progress m (a.bytes ++ more) (a.words + s'.stretch.at) a.text s')
    → Account m read written ended' piece s'
goes_on_law m read written ended ended' piece s s' a progress =
    record {
      bytes = a.bytes;
      text = a.text;
      bytes_read = a.bytes_read;
      text_written = a.text_written;
      front = a.front;
      words = a.words;
      front_words = a.front_words;
      front_piece = a.front_piece;
      progress = progress;
    }

-- the input has ended
pub ends : (m : Mode) (read written : ℕ) (piece : List ℕ) (s : Stretched) → Account m read written false piece s → Account m read written true piece s
ends m read written piece s a =
    goes_on_law m read written false true piece s s a (λ more none few. a.progress more (λ e. absurd (false≢true e)) few)

-- a stretch over the piece
pub prints : (m : Mode) (read written : ℕ) (ended : Bool) (piece : List ℕ) (s : Stretched) → Account m read written ended piece s
    → Account m read written ended piece (stretch_of m piece ended s)
prints m read written ended piece s a =
    goes_on_law m read written ended ended piece s (stretch_of m piece ended s) a
    (λ more none few.
    goes m (a.bytes ++ more) a.words piece ended
    (record {
      front = a.front;
      behind = more;
      words = a.front_words;
      whole = ap (λ (l : List ℕ). l ++ more) a.front_piece ∙ append_assoc a.front piece more;
      none = none;
    })
    a.text s (a.progress more none few))

-- what the output holds is written, and the output used anew
pub writes : (m : Mode) (read written : ℕ) (ended : Bool) (piece : List ℕ) (s : Stretched) → s.stretch.used ≤ length s.out → Account m read written ended piece s
    → Account m read ((written + s.stretch.used) % 2 ^ 64) ended piece
    (stretched (record { printer = s.stretch.printer; at = s.stretch.at; used = 0; complete = s.stretch.complete }) s.words s.out)
writes m read written ended piece s fits a =
    let held = take s.stretch.used s.out in
    let long : length held ≡ s.stretch.used = length-take-le s.stretch.used s.out fits in
    record {
      bytes = a.bytes;
      text = a.text ++ held;
      bytes_read = a.bytes_read;
      text_written = rw long at (counts_on written a.text held a.text_written);
      front = a.front;
      words = a.words;
      front_words = a.front_words;
      front_piece = a.front_piece;
      progress = λ more none few. flushed m (a.bytes ++ more) (a.words + s.stretch.at) a.text s (a.progress more none few) s.stretch.at;
    }

-- all words of the piece are printed, or all of the file: the next piece starts with the bytes of the word that it cuts
abbrev pub cut_of : List ℕ → List ℕ
cut_of piece = drop (word_bytes * (length piece / word_bytes)) piece

pub carries : (m : Mode) (read written : ℕ) (piece : List ℕ) (s : Stretched) → (s.stretch.complete ≡ false → s.stretch.at ≡ length piece / word_bytes)
    → Account m read written false piece s
    → Account m read written false (cut_of piece)
    (stretched (record { printer = s.stretch.printer; at = 0; used = s.stretch.used; complete = s.stretch.complete }) s.words s.out)
carries m read written piece s all a =
    let whole = word_bytes * (length piece / word_bytes) in
    record {
      bytes = a.bytes;
      text = a.text;
      bytes_read = a.bytes_read;
      text_written = a.text_written;
      front = a.front ++ take whole piece;
      words = a.words + length piece / word_bytes;
      front_words = omega (arith, length-append a.front (take whole piece), length-take-le whole piece (omega arith), a.front_words);
      front_piece = a.front_piece ∙ (ap (λ (l : List ℕ). a.front ++ l) (sym (take-append-drop whole piece)) ∙ sym (append_assoc a.front (take whole piece) (drop whole piece)));
      progress = λ more none few. by s.stretch.complete refl (a.bytes ++ more) (a.progress more none few);
    }
  where
    by : (b : Bool) → s.stretch.complete ≡ b → (bytes : List ℕ)
        → ToCome m b bytes (a.words + s.stretch.at) (a.text ++ take s.stretch.used s.out) s.words s.stretch.printer
        → ToCome m b bytes (a.words + length piece / word_bytes + 0) (a.text ++ take s.stretch.used s.out) s.words s.stretch.printer
    by true e bytes h = h
    by false e bytes h =
        let same : a.words + s.stretch.at ≡ a.words + length piece / word_bytes + 0 = omega (arith, all e) in
        rw same at h

-- all is printed, and nothing is left in the output
pub closes : (m : Mode) (read written : ℕ) (ended : Bool) (piece : List ℕ) (s : Stretched) → s.stretch.complete ≡ true → s.stretch.used ≡ 0
    → Account m read written ended piece s → AllPrinted m read written ended
closes m read written ended piece s all none a =
    record {
      bytes = a.bytes;
      text = a.text;
      bytes_read = a.bytes_read;
      text_written = a.text_written;
      prints = λ more last few.
          let h = completes m (a.bytes ++ more) (a.words + s.stretch.at) a.text s all (a.progress more last few) in
          sym (append-nil a.text) ∙ (rw none at h);
    }
