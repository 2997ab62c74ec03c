use Rattle.vs_range.proofs.Counted.{tables_first, pages_alone, own_order}
use Rattle.vs_range.proofs.laws.flushes_come_in_order.Goals as goal

pub returns : goal.returns
returns c = record {
  tables = λ calls flushes first have. tables_first flushes calls first have;
  pages = λ calls flushes none have. pages_alone flushes calls none have;
  own = own_order;
}
