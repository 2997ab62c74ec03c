use Rattle.nr_chain.proofs.Betweens.{end_any}
use Rattle.nr_chain.proofs.chain.Chain.end.Goals as goal

pub returns : goal.returns
returns c = λ run kept.
    end_any run c.self.inside.last c.self.inside.begun c.self.inside.feed c.args.self c.is_some.result c.end_of.result c.self.invariant c.self.view_is
    c.is_some.ensures c.end_of.ensures.well c.end_of.ensures.short kept
