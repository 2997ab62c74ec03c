use Rattle.std.proofs.Common.{◌≡◌, arith, rules}
use Rattle.nr_core.specs.inside.OneSpace.{is_the_space}
use Rattle.nr_core.proofs.states.table.Table.new.Goals as goal

pub invariant_of-result-clause-few : goal.invariant_of-result-clause-few
invariant_of-result-clause-few c =
    let limit : c.in-Ok.pages.limit ≡ c.args.config.tables = search rules in
    omega (arith, limit, c.tables.ensures.in_range.few_tables)

pub returns-clause-empty : goal.returns-clause-empty
returns-clause-empty c = is_the_space _ c.result-1.given.0 _ c.in-Ok.ensures.empty
