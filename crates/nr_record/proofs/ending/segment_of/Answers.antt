use Rattle.std.proofs.Common.{subst}
use Rattle.vs_types.specs.Config.{Layout}
use Rattle.nr_trace.specs.Parts.{IsPartsFault}
use Rattle.nr_record.proofs.Segments.{no_parts_fault, segment_with}
use Rattle.nr_record.proofs.ending.segment_of.Goals as goal

pub unreachable-requires : goal.unreachable-requires
unreachable-requires c =
    no_parts_fault c.args.config c.args.log.items c.args.events.items c.args.dumps.items c.in-Err.field-0
    (record {
      layout_is = c.of-layout.ensures.in_range;
      few_places = c.requires.log;
      few_events = c.requires.events.0;
      known = c.requires.events.1;
      one_each = c.requires.dumps.0;
      frames = c.requires.dumps.1;
    })
    (subst
    (λ (layout : Layout). IsPartsFault (segment_with layout c.args.log.items c.args.events.items c.args.dumps.items) c.in-Err.field-0)
    c.of-layout.ensures.is c.in-Err.ensures)
