-- The account is kept by each step of the loop: by a read (`fed_keeps`), and by the step to the next piece (`carry_keeps`). Each is the law of crates/pieces
-- (proofs/Accounts) at the run's fields.
-- No step forgets a failure, the last write neither, so that a run which is over stays so to the end (`flushed_over`).
use Rattle.std.proofs.Common.{◌≡◌, ℕ, ◌+◌, ◌*◌, ◌-◌, ◌/◌, ◌%◌, ◌^◌, ◌<◌, ◌≤◌, Bool, true, false, List, [], ◌++◌, ◌⊎◌, inl, inr, ◌==◌, refl, sym, ap, subst, ◌∙◌, arith, length, take, drop, length-drop, length-take-le}
use Rattle.std.proofs.Math.Seq.{paste}
use Rattle.std.proofs.lemmas.Bool.{false≢true}
use Rattle.std.proofs.lemmas.List.{take-append-le, drop-take}
use lib.Seq.{take-add, take-take}
use Rattle.laws.specs.Choice.{cond}
use Rattle.runfile.specs.Words.{word_bytes}
use Rattle.replay.specs.Replay.{lent}
use Rattle.printing.specs.declared.printed.Mode.{Mode}
use Rattle.pieces.specs.Stretch.{Stretched, stretched}
use Rattle.pieces.specs.Account.{Account}
use Rattle.pieces.specs.declared.stretch.Stretch.{Stretch}
use Rattle.pieces.proofs.Accounts.{opens, reads, ends, carries, cut_of, closes}
use Rattle.buffers.specs.Kept.{AccountOf, Keeps, ReadsNothing, WritesNothing, Remembers, at_start, FlushedTo, Fed, Unfed, most_reads}
use Rattle.buffers.specs.declared.run.Run.{Run}
use Rattle.buffers.proofs.Keeping.{remembers_twice, still_remembers, flush_keeps}
use Rattle.program.specs.Ran.{Left, new_run, over, Ran}

-- nothing is forgotten by a piece that is read and printed, and the read is counted
pub piece_counts : {run piece printed : Run} {n : ℕ} → run.reads < most_reads → Fed run n piece → ReadsNothing piece printed → Remembers piece printed
    → (printed.reads ≡ run.reads + 1) × Remembers run printed
piece_counts below f same kept =
    (same.reads ∙ (f.reading.reads ∙ omega arith), remembers_twice (still_remembers f.unread f.reading.writing) kept)

-- ---- a read
ended_by : (m : Mode) (read written : ℕ) (b : Bool) (piece : List ℕ) (s : Stretched) → Account m read written false piece s → Account m read written b piece s
ended_by m read written true piece s a = ends m read written piece s a
ended_by m read written false piece s a = a

-- what lies in the input after it are what was carried over, and what was read
fed_keeps : (before after : Run) (src src' ws out : List ℕ) (n : ℕ) → Fed before n after → before.ended ≡ false
    → before.carried + n ≤ length src' → take before.carried src' ≡ take before.carried src
    → (m : Mode) → Keeps m before (take before.carried src) ws out after (take (before.carried + n) src') ws out
fed_keeps before after src src' ws out n f going fits same m a =
    let c = before.carried in
    let more = take n (drop c src') in
    let long : length more ≡ n = length-take-le n (drop c src') (omega (arith, length-drop c src')) in
    let piece : take (c + n) src' ≡ take c src ++ more = take-add c n src' ∙ ap (λ (l : List ℕ). l ++ more) same in
    let s = stretched before.stretch ws out in
    let a' : Account m before.read before.written false (take c src) s = rw going at a in
    let r : Account m ((before.read + n) % 2 ^ 64) before.written false (take (c + n) src') s =
    subst (λ (l : List ℕ). Account m ((before.read + n) % 2 ^ 64) before.written false l s) (sym piece)
    (subst (λ (k : ℕ). Account m ((before.read + k) % 2 ^ 64) before.written false (take c src ++ more) s) long (reads m before.read before.written (take c src) s more a')) in
    rw (f.reading.stretch, f.read, f.reading.writing.written, f.ended) (ended_by m _ before.written (n == 0) (take (c + n) src') s r)

-- ---- the next piece
-- bytes that are copied to the front of a list stand there
front_paste : (src tail : List ℕ) (n : ℕ) → n ≤ length tail → take n (paste src 0 tail n) ≡ take n tail
front_paste src tail n fits =
    take-append-le n (take n tail) (drop (0 + n) src) (omega (arith, length-take-le n tail fits)) ∙ take-take n n tail (omega arith)

-- what is carried over are the bytes of the word that the piece cuts
cut_carried : (end : ℕ) (src : List ℕ) → end ≤ length src
    → cut_of (take end src) ≡ take (end % word_bytes) (paste src 0 (drop (end - end % word_bytes) src) (end % word_bytes))
cut_carried end src fits =
    let k = end - end % word_bytes in
    let cut = end % word_bytes in
    let whole : word_bytes * (length (take end src) / word_bytes) ≡ k = rw (length-take-le end src fits) (omega arith) in
    let parts : end ≡ k + cut = omega arith in
    rw whole (ap (λ (n : ℕ). drop k (take n src)) parts ∙ drop-take k cut src ∙ sym (front_paste src (drop k src) cut (omega (arith, length-drop k src))))

pub carry_keeps : (before after : Run) (src src' ws out : List ℕ) (end : ℕ) → end ≤ length src → before.ended ≡ false
    → (before.stretch.complete ≡ false → before.stretch.at ≡ length (take end src) / word_bytes)
    → src' ≡ paste src 0 (drop (end - end % word_bytes) src) (end % word_bytes)
    → after.stretch ≡ at_start before.stretch → ReadsNothing before after → WritesNothing before after → after.carried ≡ end % word_bytes
    → (m : Mode) → AccountOf m before (take end src) ws out → Left m after src' ws out
carry_keeps before after src src' ws out end fits going all pasted s r w c m a =
    let a' : Account m before.read before.written false (take end src) (stretched before.stretch ws out) = rw going at a in
    record {
      piece = cut_of (take end src);
      carried = λ _. rw (c, pasted) (cut_carried end src fits);
      account = rw (s, r.read, w.written, r.ended, going) (carries m before.read before.written (take end src) (stretched before.stretch ws out) all a');
    }

-- ---- a turn of the loop
-- the input can't be read: what was carried over is still there
pub unfed_keeps : (before after : Run) (src src' ws out : List ℕ) → Unfed before after → take before.carried src' ≡ take before.carried src
    → (m : Mode) → Left m before src ws out → Left m after src' ws out
unfed_keeps before after src src' ws out u same m h =
    record {
      piece = h.piece;
      carried = λ e. h.carried (sym u.ended ∙ e) ∙ (sym same ∙ rw u.reading.carried);
      account = rw (u.reading.stretch, u.read, u.reading.writing.written, u.ended) h.account;
    }

-- a piece is read
pub left_fed : (before after : Run) (src src' ws out : List ℕ) (n : ℕ) → Fed before n after → before.ended ≡ false
    → before.carried + n ≤ length src' → take before.carried src' ≡ take before.carried src
    → (m : Mode) → Left m before src ws out → AccountOf m after (take (before.carried + n) src') ws out
left_fed before after src src' ws out n f going fits same m h =
    fed_keeps before after src src' ws out n f going fits same m (subst (λ (l : List ℕ). AccountOf m before l ws out) (h.carried going) h.account)

-- and the last one of the file is printed
pub last_left : (run : Run) (src piece ws out : List ℕ) → run.ended ≡ true → (m : Mode) → AccountOf m run piece ws out → Left m run src ws out
last_left run src piece ws out last m a = record { piece = piece; carried = λ e. absurd (false≢true (sym e ∙ last)); account = a }

-- ---- the program
-- before anything is read
pub started : (m : Mode) (run : Run) (src ws out : List ℕ) → run ≡ new_run → ws ≡ lent → Left m run src ws out
started m run src ws out r w = rw (r, w) (record { piece = []; carried = λ _. refl; account = opens m out })

-- a run that is not over has input left
pub over_going : (r : Run) → over r ≡ false → r.ended ≡ false
unfolding over cond
over_going r e = by r.stretch.complete r.ended e
  where
    by : (b b' : Bool) → cond b true (cond b' true (cond r.unread true r.unwritten)) ≡ false → b' ≡ false
    by true b' h = absurd (false≢true (sym h))
    by false true h = absurd (false≢true (sym h))
    by false false h = refl

-- a run that is over stays so when what is left in the output is written
flushed_over : (before after : Run) → FlushedTo before after → over before ≡ true → over after ≡ true
unfolding over cond
flushed_over before after f e =
    rw (ap (λ (s : Stretch). s.complete) f.stretch, f.reading.ended, f.reading.unread)
    (by before.stretch.complete before.ended before.unread e)
  where
    by : (b b' b'' : Bool) → cond b true (cond b' true (cond b'' true before.unwritten)) ≡ true → cond b true (cond b' true (cond b'' true after.unwritten)) ≡ true
    by true b' b'' h = refl
    by false true b'' h = refl
    by false false true h = refl
    by false false false h = f.remembers.unwritten h

-- what is left in the output is written, and that is all
pub ran : (m : Mode) (run after : Run) (src ws out : List ℕ) → FlushedTo run after → run.stretch.used ≤ length out → (run.ended ≡ true → run.stretch.complete ≡ true)
    → (over run ≡ true) ⊎ (run.reads ≡ most_reads) → Left m run src ws out → Ran m after
ran m run after src ws out f fits last stop h =
    record {
      stops = elim stop [ inl e ↦ inl (flushed_over run after f e) | inr e ↦ inr (f.reading.reads ∙ e) ];
      prints = λ all.
          closes m after.read after.written after.ended h.piece (stretched after.stretch ws out) all (ap (λ (s : Stretch). s.used) f.stretch)
          (flush_keeps run after out f fits m h.piece ws h.account);
      completes = λ e. ap (λ (s : Stretch). s.complete) f.stretch ∙ last (sym f.reading.ended ∙ e);
    }
