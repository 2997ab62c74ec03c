use Rattle.std.proofs.Common.{rules}
use Rattle.nrvs_c.proofs.exports.nrvs_table_unmap.Goals as goal

pub returns-in-Ok-clause-done : goal.returns-in-Ok-clause-done
returns-in-Ok-clause-done c = λ _. record {
  usable = search rules;
  still_usable = search rules;
  well_formed = search rules;
  answer = c.apply.result;
  replied = c.of.ensures;
  step = search rules;
}
