use Rattle.std.proofs.Common.{◌≡◌, get_or, ap, rules}
use Rattle.std.proofs.lemmas.List.Edits.{map_over_more}
use Rattle.nr_core.specs.Steps as steps
use Rattle.nr_core.proofs.runs.batch.note.Goals as goal

pub loop-update-preserved : goal.loop-update-preserved
loop-update-preserved c =
    let i = c.loop-update.update-index in
    let items = c.loop-update.update-items in
    let u = c.update-item.result in
    let is : u ≡ get_or items i u = search rules in
    let noted : c.noted.result ≡ steps.note c.args.answered (get_or items i u) = c.noted.ensures in
    rw noted (map_over_more (steps.note c.args.answered) c.args.batch.now.items items i (get_or items i u) (search rules) c.loop-update.invariant
    (ap (get_or items i) is))
