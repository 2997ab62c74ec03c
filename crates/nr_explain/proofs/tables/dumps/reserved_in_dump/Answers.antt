use Rattle.std.proofs.Common.{ap₂, ap, subst, sym, ◌∙◌}
use Rattle.vs_types.specs.Config.{Layout}
use Rattle.vs_types.specs.declared.addresses.depth.Depth.{Depth}
use Rattle.vs_walk.specs.Differences.{HasReservedBit}
use Rattle.nr_trace.specs.declared.refusals.fault.Fault.TheVariants.{ReservedBit}
use Rattle.nr_explain.specs.Evidence.{IsReservedEntry}
use Rattle.nr_explain.proofs.Dumped.{read_as}
use Rattle.nr_explain.proofs.tables.dumps.reserved_in_dump.Goals as goal

pub reserved_entry-requires : goal.reserved_entry-requires
reserved_entry-requires c =
    let trace = c.args.trace.now in
    let dump = c.index-dumps-replica.result in
    let (there, is_there, fault) = read_as trace c.dumps.result.now c.args.replica _ dump c.requires.holds c.dumps.ensures.reads c.index-dumps-replica.is in
    let given = c.depth-depth.ensures ∙ ap (λ (l : Layout). l.depth) c.layout.ensures.reads in
    subst (λ (d : Depth). HasReservedBit d dump c.args.frame c.args.index) (sym given) fault

pub returns : goal.returns
returns c =
    let trace = c.args.trace.now in
    let dump = c.index-dumps-replica.result in
    let (there, is_there, fault) = read_as trace c.dumps.result.now c.args.replica _ dump c.requires.holds c.dumps.ensures.reads c.index-dumps-replica.is in
    let given = c.depth-depth.ensures ∙ ap (λ (l : Layout). l.depth) c.layout.ensures.reads in
    let wrong = c.in_ok-wrong in (
      c.args.replica,
      wrong.ensures.owner,
      ap₂ (λ frame index. ReservedBit c.args.replica frame index) (sym wrong.ensures.frame) (sym wrong.ensures.index),
      (dump, there, is_there, subst (λ (d : Depth). IsReservedEntry d dump wrong.wrong) given wrong.ensures.is),
    )
