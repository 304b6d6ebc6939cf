-- THE LAST PIECE COMPLETES IT: a stretch that has made all turns of a file's last piece has made that of the file's end, after which nothing is printed.
use Prim.Native.Nat.{ℕ, zero, suc, ◌+◌, ◌/◌}
use mathlib.Core.Bool.{true}
use mathlib.Core.List.{List, [], ◌∷◌}
use mathlib.Core.Path.{◌≡◌}
use native.Mathlib.Omega.{arith}
use lib.ListN.{length}
use Rattle.laws.specs.Choice.{cases}
use Rattle.runfile.specs.Words.{reads_of, read_at}
use Rattle.runfile.specs.declared.word.Read.{Read}
use Rattle.runfile.specs.declared.word.Read.TheVariants.{Word, Cut, End as NoMore}
use Rattle.replay.specs.Replay.{next_of}
use Rattle.printing.specs.Printings.{ends_with}
use Rattle.turns.specs.Turn.{turn_by, turn_of}
use Rattle.printing.specs.declared.printed.Mode.{Mode}
use Rattle.turns.specs.declared.Printer.{Printer}
use Rattle.turns.proofs.Whole.{end_ends}
use Rattle.pieces.specs.Stretch.{Stretched, stretch_turn, goes_on, stretch_from}

-- what stands behind the whole words is no word
abbrev NoWord : Read → Type 0
NoWord (Word word) = ⊥
NoWord Cut = Unit {0}
NoWord NoMore = Unit {0}

no_word : (src : List ℕ) → NoWord (read_at src (length src / 4))
unfolding read_at reads_of
no_word [] = tt
no_word (a ∷ []) = tt
no_word (a ∷ b ∷ []) = tt
no_word (a ∷ b ∷ c ∷ []) = tt
no_word (a ∷ b ∷ c ∷ d ∷ src) =
    let more : suc (suc (suc (suc (length src)))) / 4 ≡ suc (length src / 4) = omega arith in
    rw more (no_word src)

-- so its turn is the last
turn_last : (m : Mode) (ws : List ℕ) (p : Printer) (read : Read) → NoWord read → ends_with (turn_of m ws p read).turn.printed ≡ true
unfolding turn_of turn_by next_of
turn_last m ws p (Word word) h = absurd h
turn_last m ws p Cut h = end_ends m p.tally p.position _ ws
turn_last m ws p NoMore h = end_ends m p.tally p.position _ ws

-- complete, where all turns are made
abbrev pub CompleteAt : ℕ → Stretched → Type 0
CompleteAt turns s = s.stretch.at ≡ turns → s.stretch.complete ≡ true

pub last_completes : (m : Mode) (n : ℕ) (src : List ℕ) (s : Stretched) → s.stretch.at + n ≡ length src / 4 + 1 → CompleteAt (length src / 4 + 1) s → CompleteAt (length src / 4 + 1) (stretch_from m n src s)
unfolding stretch_from stretch_turn
last_completes m zero src s all h = h
last_completes m (suc n) src s all h =
    cases (CompleteAt (length src / 4 + 1)) (goes_on s.stretch (length s.out)) _ _
    (λ _. last_completes m n src (stretch_turn m src s) (omega arith)
    (λ e. let at : s.stretch.at ≡ length src / 4 = omega arith in rw at (turn_last m s.words s.stretch.printer (read_at src (length src / 4)) (no_word src))))
    (λ _. h)
