use Rattle.std.proofs.Common.{sym, subst}
use Rattle.vs_types.proofs.Spaces.{no_pages_space}
use Rattle.vs_plain.specs.inside.Invariant.{IsCounted}
use Rattle.vs_types.proofs.TableCounts.{tables_of_nothing}
use Rattle.vs_plain.proofs.plain.PlainSpace.new.Goals as goal

pub invariant_of-result : goal.invariant_of-result
invariant_of-result c = subst (IsCounted c.args.depth 1) (sym c.new.ensures) record {
  is_space = no_pages_space c.args.depth;
  counted = sym (tables_of_nothing c.args.depth);
}
