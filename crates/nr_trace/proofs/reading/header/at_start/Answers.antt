use Rattle.nr_trace.proofs.Frames.{no_start}
use Rattle.nr_trace.proofs.reading.header.at_start.Goals as goal

pub returns-then-numbers-eq0 : goal.returns-then-numbers-eq0
returns-then-numbers-eq0 c =
    no_start c.args.parts c.args.numbers c.at_log.result c.requires.empty c.requires.layout c.if-numbers-eq0.true c.at_log.ensures
