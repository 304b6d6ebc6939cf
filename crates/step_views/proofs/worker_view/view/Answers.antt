-- `step_views::worker_view::view` meets its contract: the worker is what its own words hold, and the sizes are those that its phase asks for.
use Rattle.std.proofs.Common.{ap, ◌∙◌, arith}
use Rattle.rules.specs.Effects.{view_of}
use Rattle.rules.specs.Windows.{sizes_of}
use Rattle.rules.specs.Worker.{slot_at, decode}
use Rattle.rules.specs.declared.Slot.{Slot}
use Rattle.rules.specs.declared.Worker.{Worker}
use Rattle.step_views.specs.Asked.{asked_by}
use Rattle.step_views.proofs.worker_view.view.Goals as goal

pub view_in-requires : goal.view_in-requires
unfolding slot_at
view_in-requires c =
    let r = c.requires.ready in
    rw (ap (λ (k : Slot). k.index) c.load-kept.ensures) (omega (arith, r.index, r.lent.low, r.lent.slot, r.lent.enough))

pub returns : goal.returns
unfolding view_of slot_at
returns c =
    let slot = c.load-kept.ensures in
    let worker = c.worker_of-worker.ensures ∙ ap (decode c.args.g) slot in
    let sizes = c.sizes_for-sizes.ensures ∙ ap (λ (k : Worker). asked_by k.phase (sizes_of c.args.words.now c.args.g)) worker in
    c.view_in.ensures ∙ simp (sizes, worker, slot)
