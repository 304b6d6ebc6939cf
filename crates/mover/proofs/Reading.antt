-- Reads, one behind the other: the bytes that stand in the area are those that the stream gave (`read_more`). And what stands at the front of an area.
use Rattle.std.proofs.Common.{◌≡◌, ℕ, ◌+◌, List, ◌++◌, sym, ap, ◌∙◌, subst, length, take, drop}
use lib.Seq.{take-add, take-append_seam}
use Rattle.std.specs.Prelude.{Ok, Option}
use Rattle.std.specs.Io.KnownBytes.{Consumes}
use Rattle.std.proofs.KnownBytes.{Consumes-trans}
use Rattle.saved.specs.File.{Saved, Filed, filed, filed_in}

pub read_more : (a b c : Option (List ℕ)) (at n : ℕ) (xs ys : List ℕ) → take at ys ≡ take at xs
    → Consumes a b (take at xs) → Consumes b c (take n (drop at ys)) → Consumes a c (take (at + n) ys)
read_more a b c at n xs ys same before took =
    let joined : take at xs ++ take n (drop at ys) ≡ take (at + n) ys = ap (λ (l : List ℕ). l ++ take n (drop at ys)) (sym same) ∙ sym (take-add at n ys) in
    subst (Consumes a c) joined (Consumes-trans a b c (take at xs) (take n (drop at ys)) before took)

-- the bytes of a file that was put into an area are its front
pub file_at_front : (used : ℕ) (s : Saved) (out out' : List ℕ) → filed (Ok used) out' ≡ filed_in out s → take used out' ≡ s.bytes
file_at_front used s out out' e =
    ap (λ (f : Filed). take f.used f.out) e ∙ take-append_seam s.bytes (drop (length s.bytes) out)
