use Rattle.std.proofs.Common.{◌≡◌, ◌==◌, true, false, get_or, refl, rules}
use Rattle.nr_core.specs.declared.states.stage.Collected.{Collected}
use Rattle.nr_core.proofs.Lists.{found_at, none_more}
use Rattle.nr_core.proofs.runs.batch.find_noted.Goals as goal

pub returns-then-update-thread : goal.returns-then-update-thread
returns-then-update-thread c =
    let i = c.loop-update.update-index in
    let u = c.update-item.result in
    let at : get_or c.args.batch.now i u ≡ u = search rules in
    let passes : (u.thread == c.args.thread) ≡ true = search rules in
    let here : ((get_or c.args.batch.now i u).thread == c.args.thread) ≡ true = rw at passes in
    let found = found_at (λ (update : Collected). update.thread == c.args.thread) c.args.batch.now i u c.loop-update.invariant (search rules) here in
    rw (found, at) refl

pub loop-update-preserved : goal.loop-update-preserved
loop-update-preserved c =
    let i = c.loop-update.update-index in
    let u = c.update-item.result in
    let at : get_or c.args.batch.now i u ≡ u = search rules in
    let fails : (u.thread == c.args.thread) ≡ false = search rules in
    let here : ((get_or c.args.batch.now i u).thread == c.args.thread) ≡ false = rw at fails in
    none_more (λ (update : Collected). update.thread == c.args.thread) c.args.batch.now i u c.loop-update.invariant (search rules) here
