-- The words that move down by a pair, one after the other, are those that a copy within the words leaves: what is read next has not been written yet.
use Rattle.std.proofs.Common.{◌≡◌, ℕ, zero, suc, ◌+◌, ◌-◌, ◌≤◌, List, get_or, drop, length, sym, get_or-drop, length-drop, arith}
use Rattle.std.proofs.Math.Seq.{paste, paste-zero, paste-suc}
use Rattle.std.specs.List.{copy_within}
use Rattle.rules.specs.Apply.{words_down}
use Rattle.rules.specs.Layout.{pair_words}

down_pastes : (ws : List ℕ) (at n : ℕ) → at + n + pair_words ≤ length ws → words_down ws at n ≡ paste ws at (drop (at + pair_words) ws) n
unfolding words_down
down_pastes ws at zero h = paste-zero ws at (drop (at + pair_words) ws)
down_pastes ws at (suc n) h =
    let behind = drop (at + pair_words) ws in
    let k : at + n + pair_words ≡ at + pair_words + n = omega arith in
    let read : get_or ws (at + n + pair_words) 0 ≡ get_or behind n 0 = rw k (sym (get_or-drop (at + pair_words) ws n 0)) in
    rw (down_pastes ws at n (omega arith), read) (paste-suc ws at behind n 0 (omega arith) (omega (arith, length-drop (at + pair_words) ws)))

pub down_copies : (ws : List ℕ) (at n : ℕ) → at + n + pair_words ≤ length ws → copy_within ws (at + pair_words) (at + pair_words + n) at ≡ words_down ws at n
down_copies ws at n h =
    let k : at + pair_words + n - (at + pair_words) ≡ n = omega arith in
    rw k (sym (down_pastes ws at n h))
