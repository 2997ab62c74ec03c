use Rattle.nr_chain.proofs.Betweens.{space_none, space_some}
use Rattle.nr_chain.proofs.chain.Chain.space.Goals as goal

pub returns-in-Some : goal.returns-in-Some
returns-in-Some c = λ run kept.
    space_some run c.self.inside.last c.self.inside.begun c.self.inside.feed c.args.self.now c.in-Some.last c.self.invariant c.self.view_is kept
    c.in-Some.is

pub returns-in-None : goal.returns-in-None
returns-in-None c = λ run kept.
    space_none run c.self.inside.last c.self.inside.begun c.self.inside.feed c.args.self.now c.self.invariant c.self.view_is kept c.in-None.is
