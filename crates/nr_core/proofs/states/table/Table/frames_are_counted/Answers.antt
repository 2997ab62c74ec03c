use Rattle.std.proofs.Common.{sym, ◌∙◌, arith}
use Rattle.nr_core.proofs.states.table.Table.frames_are_counted.Goals as goal

pub returns-clause-counts : goal.returns-clause-counts
returns-clause-counts c = sym c.tables.ensures.reads ∙ c.tables.ensures.counts _ c.args.self.now.of.1

pub returns-clause-few : goal.returns-clause-few
returns-clause-few c = omega (arith, c.tables.ensures.reads, c.tables.ensures.at_most, c.args.self.now.few)
