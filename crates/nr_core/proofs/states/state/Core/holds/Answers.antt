use Rattle.std.proofs.Common.{◌≡◌, ◌<◌, length, slice_index_or, refl, rules}
use Rattle.nr_core.specs.inside.Parts.{thread_in}
use Rattle.nr_core.proofs.Keeping.{seen_at, seen_past}
use Rattle.nr_core.proofs.states.state.Core.holds.Goals as goal

pub returns-then-t-len : goal.returns-then-t-len
returns-then-t-len c =
    let threads = c.self.inside.threads.items in
    let x = c.index.result.now in
    let within : c.args.thread < length threads = search rules in
    let is : x ≡ slice_index_or threads c.args.thread x = search rules in
    rw (← c.self.view_is) (thread_in x, seen_at thread_in threads c.args.thread x within is, refl)

pub returns-else-t-len : goal.returns-else-t-len
returns-else-t-len c = rw (← c.self.view_is) (seen_past thread_in c.self.inside.threads.items c.args.thread (search rules))
