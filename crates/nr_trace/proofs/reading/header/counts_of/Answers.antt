use Rattle.std.proofs.Common.{◌≡◌, ◌≤◌, arith}
use Rattle.nr_trace.specs.Versions.{most_start}
use Rattle.nr_trace.proofs.Counts.{counts_bytes, events_are, start_few}
use Rattle.nr_trace.proofs.reading.header.counts_of.Goals as goal

pub returns-then-events-gt-CALLS : goal.returns-then-events-gt-CALLS
returns-then-events-gt-CALLS c = λ numbers spells.
    let parts : c.args.unit.now ≡ counts_bytes c.take_u8-levels.result.0 c.take_u8-replicas.result.0 c.take_u16-threads.result.0 c.take_u16-tables.result.0
    c.take_u32-places.result.0 c.take_u32-events.result.0 c.take_u32-events.result.1.now = cc in
    let is = events_are c.args.unit.now _ _ _ _ _ c.take_u32-events.result.0 _ parts (omega arith) c.args.version numbers spells in
    absurd (omega (arith, is, spells.in_range.few_events))

pub returns-then-start-from : goal.returns-then-start-from
returns-then-start-from c = λ numbers spells.
    let parts : c.args.unit.now ≡ counts_bytes c.take_u8-levels.result.0 c.take_u8-replicas.result.0 c.take_u16-threads.result.0 c.take_u16-tables.result.0
    c.take_u32-places.result.0 c.take_u32-events.result.0 c.take_u32-events.result.1.now = cc in
    let few : c.start_of-start.result ≤ most_start c.args.version =
    start_few c.args.version c.args.unit.now _ _ _ _ _ _ c.start_of-start.result _ parts c.start_of-start.ensures.spelled (omega arith)
    c.start_of-start.ensures.few numbers spells in
    absurd (omega arith)
