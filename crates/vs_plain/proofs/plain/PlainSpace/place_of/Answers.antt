use Rattle.std.proofs.Common.{◌∙◌, sym}
use Rattle.vs_plain.proofs.Neighbours.{covered_by_last, free_by_last, free_by_none}
use Rattle.vs_plain.proofs.plain.PlainSpace.place_of.Goals as goal

pub returns-in_default-clause-is : goal.returns-in_default-clause-is
returns-in_default-clause-is c = rw (← c.self.view_is) (free_by_none c.self.invariant.is_space c.args.address c.in_default.ensures)

pub returns-then-reaches-clause-is : goal.returns-then-reaches-clause-is
returns-then-reaches-clause-is c =
    rw (← c.self.view_is) (covered_by_last c.self.invariant.is_space c.args.address c.in-Some.page c.in-Some.ensures (sym c.reaches.ensures
    ∙ c.if-reaches.true))

pub returns-else-reaches-clause-is : goal.returns-else-reaches-clause-is
returns-else-reaches-clause-is c =
    rw (← c.self.view_is) (free_by_last c.self.invariant.is_space c.args.address c.in-Some.page c.in-Some.ensures (sym c.reaches.ensures ∙ c.if-reaches.false))
