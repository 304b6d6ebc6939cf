-- `quick_fitness::looks::plain_sizes` meets its contract: what its tests have found of the words is what `windows_fit` asks for.
use Rattle.limits.proofs.Shipped.{shipped_windowed}
use Rattle.quick_fitness.proofs.Plain.{windows_plain_at}
use Rattle.rules.specs.Layout.{mark_at, top_at}
use Rattle.rules.specs.Limits.{most_live}
use Rattle.rules.specs.Windows.{has_windows}
use Rattle.std.proofs.Common.{◌≡◌, ◌+◌, ◌-◌, ◌*◌, get_or, arith, ◌≤◌, rules, true, sym, refl, ◌∙◌, eq-eqb}
use Rattle.quick_fitness.proofs.looks.plain_sizes.Goals as goal

pub returns-then-from : goal.returns-then-from
returns-then-from c =
    let ws = c.args.words.now in
    let g = c.args.g in
    let at = c.args.at in
    let queue = c.requires.shipped_queue in
    let has : has_windows g ≡ true = rw (shipped_windowed g queue.1, eq-eqb g.kind 0 queue.0) refl in
    let next : c.bits.result ≡ c.together-x.result = search rules in
    let some : 1 ≤ get_or ws (at + 3) 0 = search rules in
    let most : get_or ws (at + 3) 0 ≤ most_live = search rules in
    let low : g.depth ≤ get_or ws mark_at 0 = search rules in
    let lead : get_or ws mark_at 0 - g.depth + get_or ws (at + 3) 0 * g.depth ≡ get_or ws top_at 0 = grind arith in
    λ e.
    windows_plain_at ws g c.requires.bounds (search rules) queue.0 has at c.together-x.result c.requires.at_windows.0 c.together-x.ensures
    some most (c.alike.ensures e) c.requires.no_size_set low lead (sym c.bits.ensures ∙ next)
