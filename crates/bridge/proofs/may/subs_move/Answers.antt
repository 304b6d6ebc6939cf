-- `bridge::may::subs_move` meets its contract: `all` asks of every sub below the width whether it fits.
use Rattle.std.proofs.Common.{ℕ, ◌∙◌, rules, tests}
use Rattle.std.proofs.lemmas.Iterator.Search.{all_from_yields_List}
use Rattle.rules.specs.Fit.{sub_fit}
use Rattle.rules.specs.Layout.{first_of, second_of}
use Rattle.bridge.proofs.Every.{every, numbers}
use Rattle.bridge.proofs.may.subs_move.Goals as goal

pub returns : goal.returns
returns c =
    let a = c.args in
    all_from_yields_List (λ (j : ℕ). sub_fit a.h a.bottom (first_of a.from.now j) (second_of a.from.now j)) _ _ c.all.result c.all.ensures.ran (numbers a.h.width) (λ x b q k. search (rules, tests))
    ∙ every a.h.width _
