use Rattle.nr_trace.proofs.Spelled.{events_end}
use Rattle.nr_trace.proofs.reading.lists.at_events.Goals as goal

pub returns-then-events-eq0 : goal.returns-then-events-eq0
returns-then-events-eq0 c = events_end c.args.parts c.args.events c.if-events-eq0.true c.requires.in_range c.requires.no_dumps
