use Rattle.std.proofs.Common.{◌≡◌, ◌<◌, length, slice_index_or, refl, rules}
use Rattle.nr_core.specs.inside.Parts.{thread_in, IsThread}
use Rattle.nr_core.proofs.Keeping.{seen_at, seen_past, one_of}
use Rattle.nr_core.proofs.states.state.Core.stage.Goals as goal

pub returns-then-t-len : goal.returns-then-t-len
returns-then-t-len c =
    let threads = c.self.inside.threads.items in
    let within : c.args.thread < length threads = search rules in
    let is : c.index.result.now ≡ slice_index_or threads c.args.thread c.index.result.now = search rules in
    rw (← c.self.view_is) record {
      thread = thread_in c.index.result.now;
      there = seen_at thread_in threads c.args.thread c.index.result.now within is;
      is = refl;
      fits = (one_of (IsThread c.self.inside.config.depth) threads c.args.thread c.index.result.now within is c.self.invariant.each_thread).stage;
    }

pub returns-else-t-len : goal.returns-else-t-len
returns-else-t-len c = rw (← c.self.view_is) (seen_past thread_in c.self.inside.threads.items c.args.thread (search rules))
