-- `replay::word::lent_words` meets its contract: as many zeros as the largest pool of the shipped edition needs. Assumes nothing.
use mathlib.Core.Path.{refl}
use Rattle.rules.specs.Layout.{worker_words, windows_words}
use Rattle.replay.proofs.word.lent_words.Goals as goal

pub returns : goal.returns
unfolding worker_words windows_words
returns c = refl
