use Rattle.std.proofs.Common.{◌≡◌, ℕ, length, ap, ◌∙◌, arith}
use Rattle.nr_trace.specs.FirstFault.{refusal_at}
use Rattle.nr_trace.specs.inside.Progress.{Ahead}
use Rattle.nr_trace.specs.declared.refusals.fault.Format.TheVariants.{BadCount}
use Rattle.nr_trace.specs.declared.reading.reader.Reader.TheVariants.{Dumps}
use Rattle.nr_trace.specs.declared.refusals.refusal.TraceUnit.TheVariants as units
use Rattle.nr_trace.proofs.Units.{refused_by}
use Rattle.nr_trace.proofs.DumpHeads.{head_belongs, head_refused, head_taken, head_whole}
use Rattle.nr_trace.proofs.reading.dumps.take_dump_head.Goals as goal

pub put_dump-requires : goal.put_dump-requires
put_dump-requires c = record {
  in_range = c.requires.ready;
  belongs = (
    c.requires.one_left,
    head_belongs c.args.parts.version c.in-Some.head c.new-dump.result c.new-dump.ensures.made c.in-Some.ensures.in_range c.if-head-eq0.true,
  );
}

pub returns-then-head-eq0 : goal.returns-then-head-eq0
returns-then-head-eq0 c =
    head_whole c.args.parts c.in-Some.head c.new-dump.result c.args.unit.now c.in_ok-reader-in-Some.reader c.new-dump.ensures.made c.requires.one_left
    c.in-Some.ensures c.if-head-eq0.true c.in_ok-reader-in-Some.ensures

pub returns-else-head-eq0 : goal.returns-else-head-eq0
returns-else-head-eq0 c =
    head_taken c.args.parts c.in-Some.head c.new-dump.result c.args.unit.now c.new-dump.ensures.made c.requires.ready c.requires.one_left c.in-Some.ensures
    (omega (arith, c.if-head-eq0.false))

pub returns-in-None : goal.returns-in-None
returns-in-None c =
    let unit = c.args.unit.now in
    let parts = c.args.parts in
    let is : c.of.result ≡ refusal_at (units.DumpHead (length parts.dumps.items)) unit BadCount =
    c.of.ensures ∙ ap (λ (n : ℕ). refusal_at (units.DumpHead n) unit BadCount) (omega (arith, c.len-replica.ensures, parts.dumps.ok.0)) in
    refused_by (Ahead (Dumps parts)) (units.DumpHead (length parts.dumps.items)) unit BadCount c.of.result (omega (arith, c.requires.whole)) is
    (λ rest. head_refused parts unit rest c.of.result c.requires.one_left c.requires.whole c.in-None.ensures is)
