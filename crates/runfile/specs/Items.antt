-- What a word of a run file says at its place: its kind, in the top four bits, its fields, and spare bits that are zero.
use Rattle.std.specs.Prelude.{ℕ, ◌/◌, ◌%◌, ◌^◌, eqb, Option, Some, None, option_map}
use Rattle.laws.specs.Choice.{cond}
use Rattle.rules.specs.Make.{shipped}
use Rattle.rules.specs.declared.Settings.{Settings}
use Rattle.runfile.specs.declared.item.Opening.{Opening}
use Rattle.runfile.specs.declared.item.Place.{Place}
use Rattle.runfile.specs.declared.item.Place.TheVariants.{First, Second, Later, Past}
use Rattle.runfile.specs.declared.item.Item.{Item}
use Rattle.runfile.specs.declared.item.Item.TheVariants.{Open, Make, Says}
use Rattle.runfile.specs.declared.item.Said.{Said}
use Rattle.runfile.specs.declared.item.Said.TheVariants.{BeginPut, BeginTake, Step, End, SetSize}

-- ---- the kinds of words
-- "Kind 1, first", "Kind 2, second"
abbrev pub open_kind : ℕ
open_kind = 1

abbrev pub make_kind : ℕ
make_kind = 2

-- "Then kind 3 begin put, 4 begin take and 5 step, and 6 the end"
abbrev pub begin_put_kind : ℕ
begin_put_kind = 3

abbrev pub begin_take_kind : ℕ
begin_take_kind = 4

abbrev pub step_kind : ℕ
step_kind = 5

abbrev pub end_kind : ℕ
end_kind = 6

-- "a kind 8 word makes that call", which sets the size of the put windows to come
abbrev pub set_size_kind : ℕ
set_size_kind = 8

-- ---- the bits where the fields of a word begin; a field ends where the next begins
-- "the top four bits are the kind"
abbrev pub kind_bit : ℕ
kind_bit = 28

-- the first word: "bits 0-4 w, 5-11 d, 12-18 s, 19 pile", and "bits 20-23 ... carry the stride"
abbrev pub depth_bit : ℕ
depth_bit = 5

abbrev pub shift_bit : ℕ
shift_bit = 12

abbrev pub stack_bit : ℕ
stack_bit = 19

abbrev pub stride_bit : ℕ
stride_bit = 20

abbrev pub first_spare_bit : ℕ
first_spare_bit = 24

-- the second: "bits 0-10 R, 11-16 n"
abbrev pub workers_bit : ℕ
workers_bit = 11

abbrev pub second_spare_bit : ℕ
second_spare_bit = 17

-- the later ones: "bits 22-27 worker, 0-21 value"
abbrev pub worker_bit : ℕ
worker_bit = 22

-- a size word: "bits 0-4 width, 5-11 depth, the rest spare"
abbrev pub size_spare_bit : ℕ
size_spare_bit = 12

-- ---- what a word says
abbrev pub kind_of : ℕ → ℕ
kind_of word = word / 2 ^ kind_bit

-- the number in the bits of a word from `low` to before `high`
abbrev pub bits : ℕ → ℕ → ℕ → ℕ
bits low high word = word % 2 ^ high / 2 ^ low

-- what a word says where the spare bits, from `low` to before `high`, are zero
abbrev pub spare : {A : Type 0} → ℕ → ℕ → ℕ → A → Option A
spare low high word said = cond (eqb (bits low high word) 0) (Some said) None

-- what it says where it is of this kind
abbrev pub of_kind : {A : Type 0} → ℕ → ℕ → Option A → Option A → Option A
of_kind kind word said other = cond (eqb (kind_of word) kind) said other

unfoldable pub first_of : ℕ → Option Opening
first_of word =
    of_kind open_kind word (spare first_spare_bit kind_bit word
    record {
      kind = bits stack_bit stride_bit word;
      width = bits 0 depth_bit word;
      depth = bits depth_bit shift_bit word;
      shift = bits shift_bit stack_bit word;
      stride = bits stride_bit first_spare_bit word;
    })
    None

unfoldable pub second_of : Opening → ℕ → Option Settings
second_of o word =
    of_kind make_kind word (spare second_spare_bit kind_bit word
    record {
      kind = o.kind;
      width = o.width;
      depth = o.depth;
      shift = o.shift;
      rows = bits 0 workers_bit word;
      workers = bits workers_bit second_spare_bit word;
      stride = o.stride;
      edition = shipped;
    })
    None

abbrev pub worker_of : ℕ → ℕ
worker_of word = bits worker_bit kind_bit word

unfoldable pub size_of : ℕ → Option Said
size_of word = spare size_spare_bit kind_bit word (SetSize (bits 0 depth_bit word) (bits depth_bit size_spare_bit word))

unfoldable pub later_of : ℕ → Option Said
later_of word =
    of_kind begin_put_kind word (Some (BeginPut (worker_of word) (bits 0 worker_bit word)))
    (of_kind begin_take_kind word (spare 0 worker_bit word (BeginTake (worker_of word)))
    (of_kind step_kind word (spare 0 worker_bit word (Step (worker_of word)))
    (of_kind end_kind word (spare 0 kind_bit word End)
    (of_kind set_size_kind word (size_of word)
    None))))

-- nothing may stand after the end word; where there is none the word is bad
unfoldable pub item_of : Place → ℕ → Option Item
item_of First word = option_map Open (first_of word)
item_of (Second opening) word = option_map Make (second_of opening word)
item_of Later word = option_map Says (later_of word)
item_of Past word = None
