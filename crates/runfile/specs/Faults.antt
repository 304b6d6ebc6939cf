-- Where a run file yields no word: the fault, or none; and a fault's number.
use Rattle.std.specs.Prelude.{ℕ, Option, Some, None}
use Rattle.rules.specs.Answers.{refusal_number}
use Rattle.rules.specs.declared.Refusal.{Refusal}
use Rattle.rules.specs.declared.Refusal.TheVariants.{FileCut, BadWord}
use Rattle.runfile.specs.declared.word.Read.{Read}
use Rattle.runfile.specs.declared.word.Read.TheVariants.{Word, Cut, End as NoMore}
use Rattle.runfile.specs.declared.item.Place.{Place}
use Rattle.runfile.specs.declared.item.Place.TheVariants.{First, Second, Later, Past}

-- no fault has the number 0
abbrev pub fault_number : Option Refusal → ℕ
fault_number None = 0
fault_number (Some refusal) = refusal_number refusal

-- cut for a file that ends, or ends in a word, before its end word; after it none for a file that ends, and a bad word for bytes
-- after the end
abbrev pub fault_of : Place → Read → Option Refusal
fault_of place (Word word) = None
fault_of First Cut = Some FileCut
fault_of (Second opening) Cut = Some FileCut
fault_of Later Cut = Some FileCut
fault_of Past Cut = Some BadWord
fault_of First NoMore = Some FileCut
fault_of (Second opening) NoMore = Some FileCut
fault_of Later NoMore = Some FileCut
fault_of Past NoMore = None
