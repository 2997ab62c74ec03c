use Rattle.std.proofs.Common.{◌<◌, length, arith}
use Rattle.nr_script.proofs.Gathered.{pushed}
use Rattle.nr_script.proofs.reading.Reading.ask.Goals as goal

pub returns-clause-lists : goal.returns-clause-lists
returns-clause-lists c =
    let lists = c.args.self.now.lists.items in
    let within : c.args.thread < length lists = omega (arith, c.requires.thread, c.requires.lists) in
    pushed lists c.index_mut.result.now c.push.new.self c.args.thread c.args.request within c.index_mut.ensures.value c.in_ok-push.ensures.items
