use Rattle.std.proofs.Common.{arith}
use Rattle.vs_types.specs.Page.{bytes_of}
use Rattle.vs_range.proofs.Rooms.{here_most}
use Rattle.vs_range.proofs.planner.RangePlanner.most_here.Goals as goal

pub returns-clause-most : goal.returns-clause-most
returns-clause-most c =
    here_most c.args.index _ c.pages_in-left.result c.args.self.now.bytes (bytes_of c.args.size) (λ low. omega (arith, low)) (omega arith)
    c.pages_in-left.ensures.most
