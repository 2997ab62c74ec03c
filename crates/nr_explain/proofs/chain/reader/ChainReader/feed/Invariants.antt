use Rattle.std.proofs.Common.{length, Option}
use Rattle.nr_explain.specs.Progress.{ChainState, IsSeenOf}
use Rattle.nr_explain.proofs.Feeding.{IsAt}
use Rattle.nr_explain.proofs.chain.reader.ChainReader.feed.Given as goal

-- however the reader has come here: the bytes before the rest are those of right segments, and of one more that is not whole
abbrev pub invariant-segments : goal.invariant-segments
invariant-segments l = (came : Option ChainState) → IsSeenOf came l.fn.self.state → IsAt came l.fn.self l.fn.piece l.reader l.rest

abbrev pub decreases-segments : goal.decreases-segments
decreases-segments l = length l.rest
