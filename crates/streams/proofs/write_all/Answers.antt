-- A write of the first `n` of the bytes that are left leaves those behind them, and what was written goes on as far.
use Rattle.std.proofs.Common.{◌≡◌, ℕ, ◌-◌, ◌+◌, ◌≤◌, List, ◌++◌, length, take, drop, sym, ap, ◌∙◌, subst, arith, length-drop}
use Rattle.std.proofs.lemmas.List.{take_rest, drop-drop}
use lib.Seq.{take-add}
use Rattle.std.specs.Prelude.{Option}
use Rattle.std.specs.Io.KnownBytes.{Appends}
use Rattle.std.proofs.KnownBytes.{Appends-trans}
use Rattle.streams.proofs.write_all.Goals as goal

wrote_more : (a b c : Option (List ℕ)) (bytes rest : List ℕ) (n : ℕ) → n ≤ length rest → length rest ≤ length bytes → rest ≡ drop (length bytes - length rest) bytes
    → Appends a b (take (length bytes - length rest) bytes) → Appends b c (take n rest)
    → (length (drop n rest) ≤ length bytes) × (drop n rest ≡ drop (length bytes - length (drop n rest)) bytes) × Appends a c (take (length bytes - length (drop n rest)) bytes)
wrote_more a b c bytes rest n fits low last before took =
    let done = length bytes - length rest in
    let on : length bytes - length (drop n rest) ≡ done + n = omega (arith, length-drop n rest) in
    let joined : take done bytes ++ take n rest ≡ take (done + n) bytes = ap (λ l. take done bytes ++ take n l) last ∙ sym (take-add done n bytes) in
    (omega (arith, length-drop n rest), rw on (ap (drop n) last ∙ drop-drop n done bytes), rw on (subst (Appends a c) joined (Appends-trans a b c _ _ before took)))

pub loop-rest-preserved : goal.loop-rest-preserved
loop-rest-preserved g c =
    let rest = c.loop-rest.rest.now in
    let n = c.in_ok-n.n in
    let before = c.loop-rest.invariant in
    rw (take_rest rest n) (wrote_more _ _ _ c.args.bytes.now rest n c.in_ok-n.ensures.bound before.0 before.1 before.2 c.in_ok-n.ensures.bytes)
