-- `saved::bytes::put_words` meets its contract: the bytes of the first k words stand before the others.
use Rattle.std.proofs.Common.{refl, ◌∙◌, add-one, arith}
use Rattle.saved.specs.Bytes.{bytes_for}
use Rattle.saved.proofs.Words.{put_next}
use Rattle.saved.proofs.bytes.put_words.Goals as goal

pub loop-k-init : goal.loop-k-init
unfolding bytes_for
loop-k-init c = refl

pub loop-k-preserved : goal.loop-k-preserved
loop-k-preserved c =
    let l = c.loop-k in
    let a = c.args in
    rw (l.invariant, add-one) (put_next a.words.now a.out.now c.copy_from_slice.new.self l.k _ (omega arith) (omega arith) (omega arith) (c.copy_from_slice.ensures.after ∙ c.word_bytes.ensures))
