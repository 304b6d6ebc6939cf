-- ONE WORD AT A TIME PRINTS THE FILE: the turns over a file, in order, print exactly what the program prints of its replay (`turns_print`).
-- By induction on the bytes, four at a time: a turn at a word is the first step of `print_from`, if it goes on (`next_prints`). The printer after it
-- is that of the next word, and its tally counts as `tally_after` does, since no file has 2^64 words.
use Rattle.std.proofs.Common.{◌≡◌, ℕ, zero, suc, ◌+◌, ◌/◌, ◌%◌, ◌^◌, ◌<◌, ◌≤◌, Bool, true, false, eqb, Option, Some, None, List, [], ◌∷◌, length, refl, ap, ◌∙◌, mod-eq_of_lt, arith}
use Rattle.laws.specs.Choice.{cond}
use Rattle.rules.specs.Answers.{number_of}
use Rattle.rules.specs.declared.Refusal.{Refusal}
use Rattle.runfile.specs.Words.{word_of, reads_of, read_at}
use Rattle.runfile.specs.declared.word.Read.{Read}
use Rattle.runfile.specs.declared.word.Read.TheVariants.{Word}
use Rattle.replay.specs.Replay.{lent, next_of, goes_on, next_place, replay_from, replay_of, place_after, Event, Next, goes, ends}
use Rattle.tally.specs.Tally.{is_refused, count_on, wrap_on, tally_after, tallied}
use Rattle.printing.specs.Printings.{listed_end, event_printed, end_printed, end_numbered, ends_with}
use Rattle.printing.specs.Print.{print_then, print_from, printed_of}
use Rattle.turns.specs.Turn.{new_printer, turn_by, turn_of}
use Rattle.turns.specs.Turns.{turns_from, turns_of}
use Rattle.tally.specs.declared.Tally.{Tally}
use Rattle.printing.specs.declared.printed.Mode.{Mode}
use Rattle.printing.specs.declared.printed.Mode.TheVariants.{Listing, Summing}
use Rattle.printing.specs.declared.printed.Printed.{Printed}
use Rattle.turns.specs.declared.Printer.{Printer}

-- ---- counting
-- no count is above the number of words
pub record Few (t : Tally) (n : ℕ) : Type 0 where
  pub puts : t.puts ≤ n
  pub takes : t.takes ≤ n
  pub empties : t.empties ≤ n
  pub fulls : t.fulls ≤ n
  pub refused : t.refused ≤ n

on_same : (x n : ℕ) (b : Bool) → x ≤ n → n + 1 < 2 ^ 64 → wrap_on x b ≡ count_on x b
unfolding cond
on_same x n true h few = mod-eq_of_lt (omega arith)
on_same x n false h few = omega arith

on_few : (x n : ℕ) (b : Bool) → x ≤ n → count_on x b ≤ n + 1
unfolding cond
on_few x n true h = omega arith
on_few x n false h = omega arith

tally_same : (t : Tally) (e : Event) (n : ℕ) → Few t n → n + 1 < 2 ^ 64 → tallied t e ≡ tally_after t e
unfolding tallied tally_after
tally_same t e n f few =
    let k = number_of e.answer in
    rw (on_same t.puts n (eqb k 1) f.puts few, on_same t.takes n (eqb k 2) f.takes few, on_same t.empties n (eqb k 3) f.empties few, on_same t.fulls n (eqb k 4) f.fulls few, on_same t.refused n (is_refused e.answer) f.refused few)

tally_few : (t : Tally) (e : Event) (n : ℕ) → Few t n → Few (tally_after t e) (n + 1)
unfolding tally_after
tally_few t e n f =
    record {
      puts = on_few t.puts n _ f.puts;
      takes = on_few t.takes n _ f.takes;
      empties = on_few t.empties n _ f.empties;
      fulls = on_few t.fulls n _ f.fulls;
      refused = on_few t.refused n _ f.refused;
    }

-- ---- a turn
-- a program stops at the end of a file
pub end_ends : (m : Mode) (t : Tally) (position : ℕ) (fault : Option Refusal) (ws : List ℕ) → ends_with (end_printed m t position fault ws) ≡ true
unfolding end_numbered listed_end
end_ends Listing t position None ws = refl
end_ends Listing t position (Some refusal) ws = refl
end_ends Summing t position fault ws = refl

-- so nothing comes after it
end_last : (x : Printed) (rest : List Printed) → ends_with x ≡ true → print_then x rest ≡ print_then x []
unfolding cond
end_last x rest e = rw e

-- what a program prints from its place on
abbrev meant : Mode → List ℕ → Printer → List Read → List Printed
meant m ws p reads = let r = replay_from p.place p.position ws reads in print_from m p.tally r.events r.end

-- the turns after a word, over the bytes after it
module _ (m : Mode) (n : ℕ) (rest : List ℕ)
    (ih : (ws : List ℕ) (p : Printer) → p.position + length rest < 2 ^ 64 → Few p.tally p.position → turns_from m n rest 0 ws p ≡ meant m ws p (reads_of rest))
    (p : Printer) (few : p.position + 4 + length rest < 2 ^ 64) (counts : Few p.tally p.position) where
  next_prints : (next : Next) (ws : List ℕ)
      → print_then (turn_by m ws p next).printed (turns_from m n rest 0 ws (turn_by m ws p next).printer)
      ≡ (let r = goes_on p.position next ws (replay_from (next_place next) (p.position + 1) ws (reads_of rest)) in print_from m p.tally r.events r.end)
  unfolding turn_by print_from
  next_prints (goes e) ws =
      let t = tally_after p.tally e in
      let same : tallied p.tally e ≡ t = tally_same p.tally e p.position counts (omega arith) in
      let next : (p.position + 1) % 2 ^ 64 ≡ p.position + 1 = mod-eq_of_lt (omega arith) in
      let p' : Printer = record { place = place_after e.item e.answer; position = p.position + 1; tally = t } in
      rw (same, next) (ap (print_then (event_printed m t e)) (ih ws p' (omega arith) (tally_few p.tally e p.position counts)))
  next_prints (ends fault) ws = end_last (end_printed m p.tally p.position fault ws) _ (end_ends m p.tally p.position fault ws)

-- ---- a file
-- four bytes in front are one word
shift : (m : Mode) (n : ℕ) (a b c d : ℕ) (rest : List ℕ) (at : ℕ) (ws : List ℕ) (p : Printer)
    → turns_from m n (a ∷ b ∷ c ∷ d ∷ rest) (suc at) ws p ≡ turns_from m n rest at ws p
unfolding turns_from read_at reads_of
shift m zero a b c d rest at ws p = refl
shift m (suc n) a b c d rest at ws p =
    let next : suc at + 1 ≡ suc (at + 1) = omega arith in
    let t = turn_of m ws p (read_at rest at) in
    rw next (ap (print_then t.turn.printed) (shift m n a b c d rest (at + 1) t.words t.turn.printer))

follows : (m : Mode) (bytes ws : List ℕ) (p : Printer) → p.position + length bytes < 2 ^ 64 → Few p.tally p.position
    → turns_from m (length bytes / 4 + 1) bytes 0 ws p ≡ meant m ws p (reads_of bytes)
unfolding turns_from turn_of turn_by next_of read_at reads_of replay_from print_from
follows m [] ws p few counts = end_last _ _ (end_ends m p.tally p.position _ ws)
follows m (a ∷ []) ws p few counts = end_last _ _ (end_ends m p.tally p.position _ ws)
follows m (a ∷ b ∷ []) ws p few counts = end_last _ _ (end_ends m p.tally p.position _ ws)
follows m (a ∷ b ∷ c ∷ []) ws p few counts = end_last _ _ (end_ends m p.tally p.position _ ws)
follows m (a ∷ b ∷ c ∷ d ∷ rest) ws p few counts =
    let n = length rest / 4 + 1 in
    let more : suc (suc (suc (suc (length rest)))) / 4 + 1 ≡ suc n = omega arith in
    let r = next_of ws p.place p.position (Word (word_of a b c d)) in
    let t = turn_by m r.words p r.next in
    rw more
    (ap (print_then t.printed) (shift m n a b c d rest 0 r.words t.printer)
    ∙ next_prints m n rest (λ ws' p' h k. follows m rest ws' p' h k) p (omega arith) counts r.next r.words)

pub turns_print : (m : Mode) (bytes : List ℕ) → length bytes < 2 ^ 64 → turns_of m bytes ≡ printed_of m bytes
unfolding turns_of printed_of replay_of
turns_print m bytes few =
    follows m bytes lent new_printer (omega arith) (record { puts = omega arith; takes = omega arith; empties = omega arith; fulls = omega arith; refused = omega arith })
