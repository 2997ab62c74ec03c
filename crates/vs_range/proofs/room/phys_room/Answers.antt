use Rattle.std.proofs.Common.{inr, arith}
use Rattle.vs_range.proofs.Rooms.{room_low, room_own, room_most}
use Rattle.vs_range.proofs.room.phys_room.Goals as goal

pub returns-clause-low : goal.returns-clause-low
returns-clause-low c = λ some count le.
    room_low c.args.page.size c.args.page.phys c.phys_end-end.result c.args.phys_bits count c.phys_end-end.ensures (omega arith)
    (c.pages_in.ensures.within count (omega arith))

pub returns-clause-own : goal.returns-clause-own
returns-clause-own c = λ some count le.
    room_own c.args.page.size c.args.page.phys c.phys_end-end.result c.args.phys_bits count c.phys_end-end.ensures (omega arith)
    (c.pages_in.ensures.within count (omega arith))

pub returns-clause-most : goal.returns-clause-most
returns-clause-most c =
    room_most c.args.page.size c.args.page.phys c.phys_end-end.result c.args.phys_bits c.pages_in.result _ c.phys_end-end.ensures (omega arith)
    c.pages_in.ensures.most (λ low. omega (arith, low)) (omega arith)

pub returns-then-page-end-clause-most : goal.returns-then-page-end-clause-most
returns-then-page-end-clause-most c = inr (omega (arith, c.phys_end-end.ensures, c.if-page-end.true))
