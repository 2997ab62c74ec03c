use Rattle.std.proofs.Common.{is_some, ap, sym, ◌∙◌}
use Rattle.nr_trace.proofs.FeedingSegments.{whole_so}
use Rattle.nr_trace.proofs.reading.feed.SegmentFeed.is_whole.Goals as goal

pub returns-in-Open : goal.returns-in-Open
returns-in-Open c =
    whole_so c.args.self.now c.self.inside.before c.self.inside.state c.in-Open.reader c.in-Open.field-1 c.is_none.result c.self.view_is c.self.invariant
    c.in-Open.is (ap is_some (sym c.unit_len.ensures) ∙ c.is_none.ensures)
