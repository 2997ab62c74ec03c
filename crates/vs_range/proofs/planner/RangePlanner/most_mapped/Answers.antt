use Rattle.std.proofs.Common.{◌≡◌, ◌+◌, ◌*◌, ◌^◌, ◌<◌, ◌⊎◌, min, subst, arith}
use Rattle.vs_types.specs.Depth.{index_at}
use Rattle.vs_types.specs.Page.{bytes_of}
use Rattle.vs_range.proofs.Rooms.{mapped_most, no_room}
use Rattle.vs_range.proofs.planner.RangePlanner.most_mapped.Goals as goal

pub returns-clause-most : goal.returns-clause-most
returns-clause-most c = λ some.
    mapped_most (index_at c.args.self.now.planner.level c.args.self.now.base) c.most_here.result c.phys_room.result _ c.args.self.now.bytes
    (bytes_of c.args.page.size) c.args.page.phys (2 ^ min c.args.self.now.planner.target.phys_bits 51) (λ le. omega (arith, le))
    (λ less. omega (arith, less)) (omega (arith, c.most_here.ensures.room, c.index_at.ensures.is))
    (subst (λ i. (i + c.most_here.result ≡ 512) ⊎ (c.args.self.now.bytes < (c.most_here.result + 1) * bytes_of c.args.page.size)) c.index_at.ensures.is
    c.most_here.ensures.most)
    c.phys_room.ensures.most

pub returns-clause-none : goal.returns-clause-none
returns-clause-none c = λ none room. no_room (bytes_of c.args.page.size) c.args.page.phys c.args.self.now.planner.target.phys_bits
    (room.low 1 (omega arith)) (room.phys 1 (omega arith)) c.most_here.ensures.some (λ le. omega (arith, le, none)) (λ less. omega (arith, less, none))
    c.phys_room.ensures.most
