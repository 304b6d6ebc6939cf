-- "Returned by the calls": an answer's number and five fields, and an answer with the words that it leaves.
use Rattle.std.specs.Prelude.{ℕ, Result, List, [], ◌∷◌, get_or, eqb, Ok, Err}
use Rattle.laws.specs.Choice.{cond}
use Rattle.rules.specs.declared.Answer.{Answer}
use Rattle.rules.specs.declared.Refusal.{Refusal}
use Rattle.rules.specs.declared.Refusal.TheVariants.{TooFewWords, OffLimits, NotFit, NoSuchWorker, WorkerBusy, WorkerIdle, StepsSpent, FileCut, BadWord, OverBound, WrongEdition, OffSize, Excepted}
use Rattle.rules.specs.declared.Answer.TheVariants.{Moving, Put, Taken, Empty, Full}

-- ---- the refusals
-- fewer words than needed, or fewer than 12
abbrev pub too_few_words : ℕ
too_few_words = 21

-- make: a setting off limits
abbrev pub off_limits : ℕ
off_limits = 22

-- not fit; or a commit that matches with no free cell or no item
abbrev pub not_fit : ℕ
not_fit = 23

-- worker number n or more
abbrev pub no_such_worker : ℕ
no_such_worker = 24

-- begin on a busy worker
abbrev pub worker_busy : ℕ
worker_busy = 25

-- step on an idle worker
abbrev pub worker_idle : ℕ
worker_idle = 26

-- begin or step: step count is 4,000,000,000 or more
abbrev pub steps_spent : ℕ
steps_spent = 27

-- run file: cut in a word or before its end word
abbrev pub file_cut : ℕ
file_cut = 28

-- run file: a kind out of place, a nonzero spare bit, bytes after the end
abbrev pub bad_word : ℕ
bad_word = 29

-- run lister: distance above demand 3's bound
abbrev pub over_bound : ℕ
over_bound = 30

-- a move: "an image of the wrong edition for the direction"
abbrev pub wrong_edition : ℕ
wrong_edition = 31

-- a size call: "a next size off limits, or one for a pile"
abbrev pub off_size : ℕ
off_size = 32

-- a move: "any other move back, or an excepted move on"
abbrev pub excepted : ℕ
excepted = 33

-- the number of each
abbrev pub refusal_number : Refusal → ℕ
refusal_number TooFewWords = too_few_words
refusal_number OffLimits = off_limits
refusal_number NotFit = not_fit
refusal_number NoSuchWorker = no_such_worker
refusal_number WorkerBusy = worker_busy
refusal_number WorkerIdle = worker_idle
refusal_number StepsSpent = steps_spent
refusal_number FileCut = file_cut
refusal_number BadWord = bad_word
refusal_number OverBound = over_bound
refusal_number WrongEdition = wrong_edition
refusal_number OffSize = off_size
refusal_number Excepted = excepted

-- the refusal that has a number, 21 to 33
abbrev pub refusal_numbered : ℕ → Refusal
refusal_numbered n =
    cond (eqb n too_few_words) TooFewWords
    (cond (eqb n off_limits) OffLimits
    (cond (eqb n not_fit) NotFit
    (cond (eqb n no_such_worker) NoSuchWorker
    (cond (eqb n worker_busy) WorkerBusy
    (cond (eqb n worker_idle) WorkerIdle
    (cond (eqb n steps_spent) StepsSpent
    (cond (eqb n file_cut) FileCut
    (cond (eqb n bad_word) BadWord
    (cond (eqb n over_bound) OverBound
    (cond (eqb n wrong_edition) WrongEdition
    (cond (eqb n off_size) OffSize Excepted)))))))))))

-- ---- the answers
-- what a call comes to: its answer, or why it is refused
abbrev pub Answered : Type 0
Answered = Result Answer Refusal

-- its number, by the number of what stands for a refusal
abbrev pub number_by : {R : Type 0} → (R → ℕ) → Result Answer R → ℕ
number_by number (Ok Moving) = 0
number_by number (Ok (Put value sub row stamp)) = 1
number_by number (Ok (Taken value sub row stamp distance)) = 2
number_by number (Ok Empty) = 3
number_by number (Ok Full) = 4
number_by number (Err refusal) = number refusal

abbrev pub number_of : Answered → ℕ
number_of a = number_by refusal_number a

abbrev pub no_fields : List ℕ
no_fields = 0 ∷ 0 ∷ 0 ∷ 0 ∷ 0 ∷ []

-- value, sub, row, stamp, distance
abbrev pub fields_by : {R : Type 0} → Result Answer R → List ℕ
fields_by (Ok Moving) = no_fields
fields_by (Ok (Put value sub row stamp)) = value ∷ sub ∷ row.0 ∷ stamp.0 ∷ 0 ∷ []
fields_by (Ok (Taken value sub row stamp distance)) = value ∷ sub ∷ row.0 ∷ stamp.0 ∷ distance ∷ []
fields_by (Ok Empty) = no_fields
fields_by (Ok Full) = no_fields
fields_by (Err refusal) = no_fields

abbrev pub fields_of : Answered → List ℕ
fields_of a = fields_by a

-- the final answer that has a number, 1 to 4, and five fields
unfoldable pub final_of : ℕ → List ℕ → Answer
final_of n fields =
    cond (eqb n 1) (Put (get_or fields 0 0) (get_or fields 1 0) (record { 0 = get_or fields 2 0 }) (record { 0 = get_or fields 3 0 }))
    (cond (eqb n 2) (Taken (get_or fields 0 0) (get_or fields 1 0) (record { 0 = get_or fields 2 0 }) (record { 0 = get_or fields 3 0 }) (get_or fields 4 0))
    (cond (eqb n 3) Empty Full))

-- ---- what a call comes to, and the words after it
pub record Out : Type 0 where
  pub answer : Answered
  pub words : List ℕ

abbrev pub out : Answered → List ℕ → Out
out a ws = record { answer = a; words = ws }

-- a refusal leaves all lent words unchanged
abbrev pub refuse : Refusal → List ℕ → Out
refuse refusal ws = out (Err refusal) ws

-- ---- what C is handed: the number returned, the words, and the fields written
pub record Returned : Type 0 where
  pub number : ℕ
  pub words : List ℕ
  pub fields : List ℕ

abbrev pub returned : ℕ → List ℕ → List ℕ → Returned
returned n ws fields = record { number = n; words = ws; fields = fields }

abbrev pub returned_of : Out → Returned
returned_of o = returned (number_of o.answer) o.words (fields_of o.answer)

-- by a call that writes no fields
abbrev pub returned_alone : Out → Returned
returned_alone o = returned (number_of o.answer) o.words []
