use Rattle.std.proofs.Common.{None, Option, Vec, Global, refl, subst}
use Rattle.vs_types.specs.Depth.{levels}
use Rattle.nr_explain.specs.declared.trace.evidence.TableEntry.{TableEntry}
use Rattle.nr_explain.specs.declared.tables.paths.Target.{Target}
use Rattle.nr_explain.proofs.Dumped.{IsSought, found_from}
use Rattle.nr_explain.proofs.tables.paths.way_to_frame.Goals as goal

pub unreachable-requires : goal.unreachable-requires
unreachable-requires c =
    let target : Target = record { frame = c.args.frame; reserved = None; other = None } in
    let nowhere = subst (λ (o : Option (Vec TableEntry Global)). IsSought c.args.dump.now target (levels c.args.depth) o) c.in-None.is c.in_ok-path.ensures in
    let (steps, (level, leads)) = c.requires in
    nowhere steps (record { rest = steps; end = level; goes_on = refl; leads = leads; met = record { reserved = tt; other = tt } })

pub returns : goal.returns
returns c =
    let target : Target = record { frame = c.args.frame; reserved = None; other = None } in
    let found = found_from c.args.depth c.args.dump.now target c.in_ok-path.field-0 c.in-Some.path c.in-Some.is c.in_ok-path.ensures in
    (found.end, found.leads)
