use Rattle.std.proofs.Common.{◌<◌, length}
use Rattle.nr_script.specs.Portion.{request_count}
use Rattle.nrvs.specs.inside.ChainGoing.{IsUnderWay}
use Rattle.nrvs.proofs.runs.served_chain.feed_piece.Given as goal

abbrev pub invariant-segments : goal.invariant-segments
invariant-segments g l =
    IsUnderWay l.fn.setup l.chain l.fn.piece l.rest (g.W.Write.contents l.initial.writer) (g.W.Write.contents l.writer) l.fn.run l.going
    l.initial.portion l.portion
    × (request_count l.portion.lists < l.chain.most)

abbrev pub decreases-segments : goal.decreases-segments
decreases-segments g l = length l.rest
