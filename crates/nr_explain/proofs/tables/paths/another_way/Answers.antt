use Rattle.std.proofs.Common.{Option, Vec, Global, subst}
use Rattle.vs_types.specs.Depth.{levels}
use Rattle.nr_explain.specs.declared.trace.evidence.TableEntry.{TableEntry}
use Rattle.nr_explain.proofs.Dumped.{IsSought, another_found, some_other, without}
use Rattle.nr_explain.proofs.tables.paths.another_way.Goals as goal

pub unreachable-requires : goal.unreachable-requires
unreachable-requires c =
    let dump = c.args.dump.now in
    some_other dump.frames (levels c.args.depth) dump.root c.args.frame c.args.first c.requires
    (subst (λ (o : Option (Vec TableEntry Global)). IsSought dump (without c.args.frame c.args.first) (levels c.args.depth) o)
    c.in_default.is c.in_ok-second.ensures)

pub returns-clause-second : goal.returns-clause-second
returns-clause-second c =
    let dump = c.args.dump.now in
    another_found dump.frames (levels c.args.depth) dump.root c.args.frame c.args.first c.in-Some.second.items
    (subst (λ (o : Option (Vec TableEntry Global)). IsSought dump (without c.args.frame c.args.first) (levels c.args.depth) o) c.in-Some.is
    c.in_ok-second.ensures)
